use Rattle.strand_meaning.proofs.NodesObserved.StopsObserved.{stops_are_shown}
use Rattle.strand_meaning.proofs.laws.stops_are_shown.Goals as goal

pub returns : goal.returns
returns c = stops_are_shown
