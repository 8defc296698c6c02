pub mod Lines
pub mod Marks
pub mod Steps
pub mod Layers
