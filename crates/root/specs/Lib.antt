pub mod Nearest
pub mod Root
pub mod Theorems
pub mod Whole
