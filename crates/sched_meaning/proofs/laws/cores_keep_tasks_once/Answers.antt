use Rattle.sched_meaning.proofs.KeptByEvents.Cores.{stands}
use Rattle.sched_meaning.proofs.laws.cores_keep_tasks_once.Goals as goal

pub returns : goal.returns
returns c = stands
