pub mod Folds
pub mod Joining
pub mod Few
pub mod Valued
