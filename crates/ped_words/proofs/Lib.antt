pub mod FirstWord
pub mod GammaLemmas
pub mod NumberLemmas
pub mod Orders
pub mod OrdersMade
pub mod PedigreeLemmas
pub mod RuleLemmas
pub mod ValueLemmas
