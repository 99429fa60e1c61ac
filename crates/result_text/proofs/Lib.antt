pub mod Lengths
pub mod Steps
pub mod Bound
pub mod Sample
