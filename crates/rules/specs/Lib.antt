pub mod Parts
pub mod Meaning
pub mod Making
