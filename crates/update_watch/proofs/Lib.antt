pub mod Found
pub mod Slots
pub mod Counted
pub mod Standing
pub mod Lines
pub mod WorkedLines
