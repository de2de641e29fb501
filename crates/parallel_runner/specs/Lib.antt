pub mod Cells
pub mod Crews
pub mod Faults
pub mod Hands
pub mod Ties
