pub mod PutLemmas
pub mod EventLemmas
pub mod Loops
pub mod LineLemmas
