pub mod NextStops
pub mod TakenAnswers
pub mod Moves
pub mod NodesObserved
pub mod Meeting
pub mod MeetsShown
pub mod CodeLemmas
