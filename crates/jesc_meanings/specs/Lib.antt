pub mod Meanings
pub mod Order
pub mod Ids
pub mod Labels
pub mod Rows
pub mod Layered
pub mod Known
pub mod laws
