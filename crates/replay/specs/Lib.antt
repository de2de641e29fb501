pub mod Descents
pub mod FaultPlaces
pub mod Replays
