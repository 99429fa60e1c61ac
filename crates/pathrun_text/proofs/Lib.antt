pub mod Names
pub mod Rows
pub mod Called
pub mod Answers
pub mod Sample
