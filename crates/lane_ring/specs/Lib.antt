pub mod Ring
pub mod LaneFields
pub mod Taking
pub mod Arrivals
