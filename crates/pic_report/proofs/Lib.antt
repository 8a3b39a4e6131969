pub mod Counts
pub mod Telling
mod WorkedReport
