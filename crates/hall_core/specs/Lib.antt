pub mod Hall
pub mod Stands
pub mod Boxes
pub mod Fields
pub mod Taking
pub mod Machine
