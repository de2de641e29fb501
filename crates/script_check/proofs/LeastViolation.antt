pub mod Earliest
pub mod Least
pub mod First
