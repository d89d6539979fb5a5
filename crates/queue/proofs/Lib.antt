pub mod Members
pub mod Heaps
pub mod Fronts
