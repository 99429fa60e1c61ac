pub mod Lines
pub mod Forms
pub mod Reading
pub mod Scanned
pub mod Seen
pub mod Filled
pub mod Position
pub mod Answered
