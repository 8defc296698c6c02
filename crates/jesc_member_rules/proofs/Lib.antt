mod GivenThrowables
pub mod JudgingWalk
pub mod JudgingFound
pub mod JudgingKnown
pub mod JudgingThrown
pub mod JudgingNames
pub mod JudgingMethods
pub mod JudgingHeads
pub mod JudgingMet
pub mod JudgingMembers
pub mod JudgingClasses
