pub mod Lively
pub mod Choosing
pub mod Distinct
