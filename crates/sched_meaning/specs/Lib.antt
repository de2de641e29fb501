pub mod Core
pub mod Examples
pub mod Laws
pub mod Same
pub mod Segments
pub mod Simulation
pub mod Sound
pub mod Steps
