pub mod Between
pub mod Days
pub mod Endings
pub mod Kept
