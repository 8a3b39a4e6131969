pub mod Octets
pub mod Parts
pub mod MarkEnds
pub mod CutLemmas
pub mod Frames
pub mod Sends
pub mod AtomsRise
pub mod TextEnds
pub mod CutLaws
pub mod PacketLaws
pub mod ListLaws
pub mod Totals
mod Worked
