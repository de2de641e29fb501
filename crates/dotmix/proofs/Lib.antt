pub mod GammaLemmas
pub mod LawLemmas
pub mod MixLemmas
pub mod ProductLemmas
