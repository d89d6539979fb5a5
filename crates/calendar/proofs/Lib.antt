pub mod Years
pub mod Dating
pub mod Tested
pub mod Codes
pub mod YearCodes
pub mod Naming
pub mod Following
pub mod Padding
