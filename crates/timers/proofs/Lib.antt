pub mod Ordered
pub mod Stores
pub mod Places
pub mod Rings
pub mod Queues
pub mod Promises
