pub mod Bitwise
pub mod Filling
pub mod Valuing
pub mod Settling
pub mod Refreshing
pub mod Keeping
