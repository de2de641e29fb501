pub mod Nesting
pub mod Coming
pub mod Apart
pub mod Clear
