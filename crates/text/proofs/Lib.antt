pub mod Nan
pub mod Places
pub mod Digits
