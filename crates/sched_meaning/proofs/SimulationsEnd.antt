pub mod Falling
pub mod Ending
pub mod Simulated
