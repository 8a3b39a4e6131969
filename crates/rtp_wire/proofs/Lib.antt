mod FrameLemmas
mod PacketLemmas
mod ReadingLemmas
mod SpellingLemmas
mod StreamLemmas
mod WorkedPackets
