pub mod LongestChains
pub mod Belonging
pub mod Nested
