pub mod Longest
pub mod LexingLemmas
pub mod Building
pub mod Cuts
pub mod Versions
