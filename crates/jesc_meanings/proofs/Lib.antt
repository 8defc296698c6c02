pub mod Labelling
pub mod Layering
pub mod Naming
pub mod Meant
pub mod Tables
pub mod Answered
pub mod Constructing
