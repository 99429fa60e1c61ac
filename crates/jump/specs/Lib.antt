pub mod Answers
pub mod Summing
