pub mod Owning
pub mod Past
pub mod Asking
pub mod Leading
pub mod Telling
