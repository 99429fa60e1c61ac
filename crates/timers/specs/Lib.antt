pub mod InOrder
pub mod Turning
pub mod Slots
pub mod Queues
pub mod Calls
