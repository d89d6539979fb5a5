pub mod Counted
pub mod Cases
