pub mod Floats
pub mod Xor
pub mod Turned
pub mod Linear
pub mod Reversed
