pub mod Kept
pub mod Standing
pub mod Runs
