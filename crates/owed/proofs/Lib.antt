pub mod Lists
pub mod Order
pub mod Window
pub mod Owing
