pub mod Options
pub mod Names
pub mod Asks
pub mod Numbers
pub mod Answers
