pub mod Turns
pub mod ListTurns
pub mod StoreTurns
pub mod Room
