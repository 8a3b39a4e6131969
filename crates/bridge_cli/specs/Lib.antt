pub mod Notes
pub mod Runs
pub mod Opening
pub mod Lives
pub mod Answers
