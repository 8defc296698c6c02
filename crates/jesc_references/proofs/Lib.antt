pub mod Ranges
pub mod Variables
pub mod Fitting
