pub mod Fields
pub mod OctetBits
pub mod RunBits
