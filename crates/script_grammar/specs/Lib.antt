pub mod Grammar
pub mod Nesting
pub mod Fault
pub mod FaultNumbers
pub mod Text
pub mod Names
