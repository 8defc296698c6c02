pub mod Annotations
pub mod LongestAnswers
pub mod Refusals
pub mod ParsedTrees
pub mod laws
