pub mod LaneLemmas
pub mod StreamLemmas
