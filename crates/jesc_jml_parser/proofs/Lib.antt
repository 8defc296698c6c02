pub mod Spanned
pub mod Seen
pub mod Answered
pub mod Parsers
