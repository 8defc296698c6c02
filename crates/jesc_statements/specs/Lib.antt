pub mod Bodies
pub mod Targets
pub mod Ending
pub mod Walking
