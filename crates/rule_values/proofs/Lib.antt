pub mod Bounded
pub mod Counted
pub mod Stored
