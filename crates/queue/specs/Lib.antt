pub mod Order
pub mod Heap
pub mod Steps
pub mod Numbers
pub mod Lent
