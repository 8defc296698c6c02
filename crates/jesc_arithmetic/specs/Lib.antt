pub mod Arithmetic
pub mod Operations
pub mod Occurrences
pub mod Firsts
pub mod Walks
pub mod Rules
