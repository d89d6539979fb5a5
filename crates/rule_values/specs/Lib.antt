pub mod Numbers
pub mod Words
pub mod Items
pub mod Lists
pub mod Values
