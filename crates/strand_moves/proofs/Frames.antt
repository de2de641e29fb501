pub mod BelowLemmas
pub mod CallLemmas
pub mod Callees
pub mod EndMoves
pub mod Ending
pub mod FoundBelow
pub mod Names
pub mod ReplacedLemmas
