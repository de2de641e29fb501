use Rattle.sched_meaning.proofs.KeptByEvents.Cores.{goes-further}
use Rattle.sched_meaning.proofs.laws.cores_are_lively.Goals as goal

pub returns : goal.returns
returns c = goes-further
