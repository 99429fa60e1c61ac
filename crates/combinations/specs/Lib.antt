pub mod Binomial
pub mod Combinations
pub mod Real
pub mod Parts
pub mod Theorems
