pub mod Starts
pub mod Keeping
pub mod Cells
pub mod Stepping
pub mod Ends
pub mod Playing
