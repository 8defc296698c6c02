pub mod Sets
mod Climb
mod Fitted
