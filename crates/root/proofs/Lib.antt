pub mod Turns
pub mod Squares
pub mod Units
pub mod Patterns
pub mod Scaled
pub mod Nearest
pub mod Unique
