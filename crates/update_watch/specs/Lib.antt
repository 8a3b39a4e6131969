pub mod Counting
pub mod Late
pub mod Overdue
pub mod Stands
pub mod WatchEnds
