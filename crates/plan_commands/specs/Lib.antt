pub mod Arguments
pub mod Commands
pub mod Complaints
pub mod Scripts
