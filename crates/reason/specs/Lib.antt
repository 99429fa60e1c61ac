pub mod Reasons
pub mod Call
pub mod Same
pub mod Parts
