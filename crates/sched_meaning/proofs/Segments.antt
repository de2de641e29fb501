pub mod Weights
pub mod Counted
