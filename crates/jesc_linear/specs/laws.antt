pub mod OneEnding
