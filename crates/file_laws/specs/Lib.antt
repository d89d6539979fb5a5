pub mod Texts
pub mod Form
pub mod Physical
pub mod Unfolded
pub mod Tree
