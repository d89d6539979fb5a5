pub mod Nest
pub mod Events
