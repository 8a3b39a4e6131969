pub mod Composing
pub mod DecodedFrames
