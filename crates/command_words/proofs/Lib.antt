pub mod Finds
pub mod Digits
pub mod OneValue
pub mod Parts
pub mod OneJob
pub mod Jobs
pub mod WorkedWords
