pub mod Good
pub mod Kept
pub mod Cores
