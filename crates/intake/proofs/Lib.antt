pub mod Growing
pub mod Progress
pub mod Known
pub mod Added
