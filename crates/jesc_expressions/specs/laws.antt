pub mod Entries
pub mod Ranges
pub mod Tests
pub mod Sound
pub mod Complete
pub mod Typing
