pub mod Openings
pub mod Living
pub mod Exact
pub mod Running
