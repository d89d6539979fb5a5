pub mod Lines
pub mod Owed
