pub mod Types
pub mod Modifiers
pub mod Throwables
pub mod Members
pub mod Judging
