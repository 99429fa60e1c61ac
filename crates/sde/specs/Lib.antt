pub mod Diffusion
pub mod Call
pub mod Slots
pub mod Ready
pub mod Arrays
pub mod Summed
pub mod Labels
