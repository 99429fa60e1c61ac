pub mod Soak
pub mod Words
pub mod Published
