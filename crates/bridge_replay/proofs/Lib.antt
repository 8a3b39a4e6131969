pub mod Accounts
pub mod Calls
pub mod Complete
pub mod Counting
pub mod OneAccount
pub mod OneHistory
pub mod PacketCuts
pub mod PacketPieces
pub mod PacketRuns
pub mod PictureLine
pub mod PicturesRead
pub mod ReadingBack
pub mod Recounting
pub mod Reserving
pub mod Starting
pub mod Stopping
pub mod Ticks
pub mod Told
pub mod Units
pub mod WorkedReplay
mod WorkedTelling
mod WrittenReadsBack
