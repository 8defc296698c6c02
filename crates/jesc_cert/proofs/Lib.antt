pub mod Printing
pub mod Numerals
pub mod Pieces
pub mod NumberLines
pub mod Conds
pub mod Blocks
pub mod Files
