pub mod Numbers
pub mod Months
pub mod Gregorian
pub mod Digits
pub mod Faults
