pub mod Draws
pub mod Ends
pub mod Laws
pub mod Made
pub mod Maker
pub mod Packets
pub mod Pictures
pub mod Writing
