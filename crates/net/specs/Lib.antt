pub mod Net
pub mod Tests
pub mod Labels
pub mod Record
pub mod Readable
pub mod Sound
