use Rattle.sched_meaning.proofs.WorkGoesOn.Distinct.{choices_are_distinct}
use Rattle.sched_meaning.proofs.laws.choices_are_distinct.Goals as goal

pub returns : goal.returns
returns c = choices_are_distinct
