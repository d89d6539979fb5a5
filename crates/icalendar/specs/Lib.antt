pub mod Files
pub mod Verdicts
pub mod Read
