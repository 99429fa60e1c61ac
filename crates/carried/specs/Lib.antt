pub mod Timers
pub mod Records
pub mod Pairs
