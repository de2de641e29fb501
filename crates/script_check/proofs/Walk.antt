pub mod After
pub mod Called
pub mod Collected
pub mod Functioned
pub mod Reading
pub mod Undone
