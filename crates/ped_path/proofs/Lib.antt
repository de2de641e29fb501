pub mod BlockLemmas
pub mod FrontLemmas
pub mod OrderLemmas
pub mod ParseLemmas
pub mod Refusals
pub mod TextLemmas
