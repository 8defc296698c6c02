pub mod Places
pub mod SpelledExpressions
pub mod SpelledStatements
pub mod SpelledSpecifications
pub mod SpelledMembers
