pub mod TrieSteps
pub mod TrieVersions
pub mod LineGrowth
pub mod LinePaths
pub mod LineClimbs
pub mod LineDescends
pub mod LineJoins
pub mod LineWalks
