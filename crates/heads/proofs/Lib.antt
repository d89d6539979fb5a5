pub mod Counts
pub mod Queued
pub mod Moved
