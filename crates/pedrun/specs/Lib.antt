pub mod Calls
pub mod EarlyExit
pub mod Help
pub mod Hints
