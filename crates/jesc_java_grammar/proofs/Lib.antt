pub mod Heads
pub mod ListTurns
pub mod CatchEnds
pub mod Room
pub mod Turns
pub mod LineStarts
pub mod StatementRules
