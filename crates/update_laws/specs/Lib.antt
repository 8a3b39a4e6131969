pub mod Kept
pub mod Updating
