pub mod Writing
pub mod Writable
