pub mod Adding
pub mod Boxes
pub mod Composing
pub mod RowLaws
pub mod Taking
