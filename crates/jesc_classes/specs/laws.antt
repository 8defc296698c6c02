pub mod Orders
pub mod Graphs
pub mod Givens
pub mod Firsts
pub mod Walks
pub mod Ids
pub mod Lawful
