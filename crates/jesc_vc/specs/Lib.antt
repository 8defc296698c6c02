pub mod Facts
pub mod Environments
pub mod Encodings
pub mod Moves
pub mod Conditions
