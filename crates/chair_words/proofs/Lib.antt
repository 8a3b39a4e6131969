pub mod WordLemmas
pub mod LineLemmas
pub mod Written
mod WorkedLines
