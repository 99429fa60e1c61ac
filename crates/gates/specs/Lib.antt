pub mod Gated
pub mod Slots
