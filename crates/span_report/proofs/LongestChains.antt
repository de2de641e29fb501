pub mod Chains
pub mod Most
pub mod Ranges
pub mod Ready
pub mod Stacks
pub mod Standing
pub mod Claims
