pub mod Written
pub mod Known
pub mod Fields
pub mod Calls
pub mod Creations
