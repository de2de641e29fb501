use Rattle.strand_meaning.proofs.NodesObserved.StopsObserved.{observation_begins}
use Rattle.strand_meaning.proofs.laws.observation_begins.Goals as goal

pub returns : goal.returns
returns c = observation_begins
