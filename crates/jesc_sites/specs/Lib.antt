pub mod Sites
pub mod Parts
pub mod Plain
pub mod Operations
pub mod Arrays
pub mod Specified
pub mod laws
