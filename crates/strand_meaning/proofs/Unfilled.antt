pub mod Variables
pub mod UntouchedStays
pub mod RestAfterEffects
pub mod ChangesCommute
pub mod Clears
pub mod MovesMirrorTree
pub mod MovesBeforeAnswers
pub mod SoundMoves
