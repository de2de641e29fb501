pub mod Standing
pub mod PendingMoves
pub mod AlikeButEvents
pub mod PendingAnswers
