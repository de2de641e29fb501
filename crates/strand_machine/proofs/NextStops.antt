pub mod ByCut
pub mod Advancing
pub mod Pausing
