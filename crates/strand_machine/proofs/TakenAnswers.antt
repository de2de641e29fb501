pub mod Answering
pub mod Cutting
pub mod Faulting
pub mod Targets
pub mod Taking
pub mod Turns
