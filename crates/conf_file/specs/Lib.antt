pub mod Entries
pub mod File
pub mod Header
pub mod Reading
pub mod Stops
