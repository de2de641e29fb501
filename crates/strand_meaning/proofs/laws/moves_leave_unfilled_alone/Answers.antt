use Rattle.strand_meaning.proofs.Unfilled.SoundMoves.{moves_leave_unfilled_alone}
use Rattle.strand_meaning.proofs.laws.moves_leave_unfilled_alone.Goals as goal

pub returns : goal.returns
returns c = moves_leave_unfilled_alone
