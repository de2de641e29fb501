use Rattle.sched_meaning.proofs.KeptByEvents.Cores.{runs-within}
use Rattle.sched_meaning.proofs.laws.cores_run_within_segments.Goals as goal

pub returns : goal.returns
returns c = runs-within
