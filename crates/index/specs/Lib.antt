pub mod Slots
pub mod Table
pub mod Guarding
