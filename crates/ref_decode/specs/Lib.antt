pub mod Blocks
pub mod Drawing
pub mod Passes
pub mod Planes
pub mod Shown
