pub mod Nested
pub mod Opens
pub mod Series
pub mod Walks
