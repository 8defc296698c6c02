pub mod Keeping
pub mod Substituting
