pub mod Sets
pub mod Events
