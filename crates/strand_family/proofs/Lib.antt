pub mod Shares
pub mod Tags
