pub mod Arcs
pub mod Counted
pub mod Mask
