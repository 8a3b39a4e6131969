pub mod Drawn
pub mod Filing
pub mod Going
pub mod Lengths
pub mod Making
pub mod Octets
pub mod Pieces
pub mod Valid
mod Worked
