pub mod Spelled
pub mod Arranged
