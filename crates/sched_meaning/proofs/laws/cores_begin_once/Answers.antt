use Rattle.sched_meaning.proofs.KeptByEvents.Cores.{begun-once}
use Rattle.sched_meaning.proofs.laws.cores_begin_once.Goals as goal

pub returns : goal.returns
returns c = begun-once
