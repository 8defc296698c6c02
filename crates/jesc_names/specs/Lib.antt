pub mod Program
pub mod TablesKnown
pub mod TablesRows
pub mod Judged
pub mod laws
