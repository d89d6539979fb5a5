pub mod Words
pub mod Numbers
pub mod Codes
pub mod Commands
pub mod Complaints
