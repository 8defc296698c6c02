pub mod Lists
pub mod Nodes
pub mod Growing
pub mod Found
pub mod Arguments
pub mod Putting
pub mod Shapes
pub mod Instances
