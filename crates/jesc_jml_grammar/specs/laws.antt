pub mod Refining
pub mod ListRefining
pub mod ListTurns
