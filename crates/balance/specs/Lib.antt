pub mod Slots
pub mod Call
pub mod Kept
pub mod Labels
