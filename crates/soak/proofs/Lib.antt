pub mod Steps
pub mod Texts
pub mod Bound
pub mod Accepted
pub mod Placed
