pub mod Frames
pub mod Rtp
pub mod Stops
