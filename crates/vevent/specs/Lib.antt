pub mod Lists
pub mod Questions
pub mod Kept
