pub mod CutLemmas
pub mod EventLemmas
pub mod GivenLemmas
mod HeaderLemmas
pub mod PacketsRead
mod PayloadLemmas
mod Putting
pub mod QueueLemmas
pub mod StepLemmas
pub mod StreamEnds
mod SwappedLemmas
mod TurnLemmas
mod WidthZero
mod WorkedOctets
