pub mod Unique
pub mod Subtypes
pub mod Decided
