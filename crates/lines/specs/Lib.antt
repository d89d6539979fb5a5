pub mod Lines
pub mod View
pub mod Property
pub mod Machine
pub mod Ended
