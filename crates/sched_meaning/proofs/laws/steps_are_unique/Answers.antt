use Rattle.sched_meaning.proofs.OneCore.OneStep.{steps_are_unique}
use Rattle.sched_meaning.proofs.laws.steps_are_unique.Goals as goal

pub returns : goal.returns
returns c = steps_are_unique
