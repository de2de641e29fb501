pub mod KnownOfNodes
pub mod Events
pub mod Choices
pub mod Worked
