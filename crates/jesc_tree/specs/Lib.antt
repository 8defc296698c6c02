pub mod Trees
pub mod Ids
pub mod Subtypes
pub mod Programs
pub mod laws
