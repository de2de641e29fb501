pub mod Weights
pub mod Entries
pub mod Lawful
pub mod Left
pub mod Moves
