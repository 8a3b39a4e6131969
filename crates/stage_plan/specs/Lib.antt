pub mod PerPlace
pub mod Places
pub mod Steps
pub mod Ranks
pub mod Laws
