pub mod BySlots
pub mod Changes
pub mod Environments
pub mod Gives
pub mod Nodes
