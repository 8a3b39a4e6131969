pub mod Buffers
pub mod Cutting
pub mod Fronts
pub mod Going
pub mod Nexts
pub mod PackedLemmas
pub mod ReadBack
pub mod Readings
mod WorkedStreams
