pub mod Lookup
pub mod Inner
pub mod Rows
pub mod WholeWords
