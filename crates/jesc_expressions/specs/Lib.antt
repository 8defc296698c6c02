pub mod Resolving
pub mod Typing
pub mod laws
