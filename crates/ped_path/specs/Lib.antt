pub mod Blocks
pub mod Path
pub mod Text
pub mod Parsing
pub mod Laws
