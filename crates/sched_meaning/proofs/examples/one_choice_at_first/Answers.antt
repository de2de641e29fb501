use Rattle.sched_meaning.proofs.Computed.Small.{one_choice_at_first}
use Rattle.sched_meaning.proofs.examples.one_choice_at_first.Goals as goal

pub returns : goal.returns
returns c = one_choice_at_first
