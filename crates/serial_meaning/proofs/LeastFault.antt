pub mod Left
pub mod Cut
pub mod Sim
pub mod Children
pub mod Endless
pub mod Least
pub mod LoopEnds
