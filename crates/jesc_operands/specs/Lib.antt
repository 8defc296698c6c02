pub mod Operands
pub mod Deciding
pub mod laws
