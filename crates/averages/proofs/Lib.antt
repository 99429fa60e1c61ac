pub mod Fronts
pub mod Sums
pub mod Grid
pub mod Members
pub mod Passes
