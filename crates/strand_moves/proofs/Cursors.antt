pub mod CursorLemmas
pub mod Entering
pub mod FoundStatements
pub mod Passing
pub mod Loops
