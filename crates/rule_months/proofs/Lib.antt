pub mod Tests
pub mod Added
pub mod Whole
