use Rattle.sched_meaning.proofs.KeptByEvents.Cores.{answers-are}
use Rattle.sched_meaning.proofs.laws.cores_answer_by_evaluations.Goals as goal

pub returns : goal.returns
returns c = answers-are
