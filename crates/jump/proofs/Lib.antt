pub mod Choosing
pub mod Summing
