use Rattle.sched_meaning.proofs.Computed.Small.{nobody_steals_from_itself}
use Rattle.sched_meaning.proofs.examples.nobody_steals_from_itself.Goals as goal

pub returns : goal.returns
returns c = nobody_steals_from_itself
