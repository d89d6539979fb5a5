pub mod Names
pub mod Ruled
pub mod Accepting
pub mod Reading
pub mod Mapped
