use Rattle.strand_meaning.proofs.NodesObserved.StopsObserved.{observation_goes_on}
use Rattle.strand_meaning.proofs.laws.observation_goes_on.Goals as goal

pub returns : goal.returns
returns c = observation_goes_on
