pub mod Letters
pub mod Pieces
pub mod Dates
