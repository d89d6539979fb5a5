pub mod Wandering
pub mod Laws
