pub mod Pathrun
pub mod Printing
