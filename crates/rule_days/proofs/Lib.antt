pub mod Leasts
pub mod Sized
pub mod Finding
pub mod Stepping
