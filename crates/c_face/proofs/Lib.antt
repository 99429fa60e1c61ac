pub mod Sweep
pub mod Mask
pub mod Filling
pub mod Parts
pub mod Running
pub mod Putting
pub mod Written
pub mod Flags
