pub mod Request
pub mod Front
pub mod Moments
pub mod Members
pub mod Tables
