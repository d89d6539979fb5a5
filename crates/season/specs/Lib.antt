pub mod Typed
pub mod Names
pub mod Scripts
pub mod Misfits
