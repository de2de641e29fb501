pub mod Ending
pub mod Rooted
pub mod Shares
