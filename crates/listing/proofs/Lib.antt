pub mod Digits
pub mod EachSaid
pub mod Judged
pub mod Ranged
pub mod Written
