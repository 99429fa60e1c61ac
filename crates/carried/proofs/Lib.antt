pub mod Rest
pub mod Waiting
pub mod Tested
pub mod Cells
pub mod Recorded
pub mod Listed
pub mod Named
