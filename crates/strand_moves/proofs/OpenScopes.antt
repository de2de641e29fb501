pub mod Blocks
pub mod Exits
pub mod Keeping
pub mod Levels
