pub mod Gaps
pub mod Follows
pub mod Sound
pub mod Nested
