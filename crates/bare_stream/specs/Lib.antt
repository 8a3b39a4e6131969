pub mod Filling
pub mod Front
pub mod Packed
pub mod Reading
pub mod SoFar
pub mod Streams
pub mod Tries
