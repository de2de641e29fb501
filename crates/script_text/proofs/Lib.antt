pub mod Nesting
pub mod OneTree
pub mod OneFault
pub mod Parsing
