pub mod Homes
pub mod Places
pub mod Positions
pub mod Above
