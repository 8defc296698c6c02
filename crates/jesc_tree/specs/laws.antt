pub mod Forms
pub mod Fitting
