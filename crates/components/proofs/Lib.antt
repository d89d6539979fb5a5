pub mod Nesting
pub mod Counting
