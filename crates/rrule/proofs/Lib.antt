pub mod Valued
pub mod Said
pub mod Checked
