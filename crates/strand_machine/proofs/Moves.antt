pub mod Arms
pub mod Dispatch
pub mod Starts
pub mod Making
pub mod Moving
pub mod Halves
pub mod Halving
pub mod Starting
