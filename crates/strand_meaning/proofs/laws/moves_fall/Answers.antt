use Rattle.strand_meaning.proofs.NextStops.TasksReachStops.{moves_fall}
use Rattle.strand_meaning.proofs.laws.moves_fall.Goals as goal

pub returns : goal.returns
returns c = moves_fall
