pub mod Numbers
pub mod Operating
