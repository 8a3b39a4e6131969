pub mod Inside
pub mod Parts
pub mod State
pub mod Looks
