pub mod Numbers
pub mod Plans
pub mod Runs
pub mod Law
