pub mod Zips
pub mod FaultWalks
pub mod Nodes
pub mod Observed
pub mod Stacks
