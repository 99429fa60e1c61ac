pub mod Weights
pub mod Asked
pub mod Kept
pub mod Labels
pub mod Cases
