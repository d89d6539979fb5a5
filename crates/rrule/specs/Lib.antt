pub mod Named
pub mod Rule
pub mod Questions
pub mod Result
