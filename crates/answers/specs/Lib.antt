pub mod Advice
pub mod Titles
pub mod Marks
pub mod Answers
