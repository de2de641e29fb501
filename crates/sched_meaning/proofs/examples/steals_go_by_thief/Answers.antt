use Rattle.sched_meaning.proofs.Computed.Small.{steals_go_by_thief}
use Rattle.sched_meaning.proofs.examples.steals_go_by_thief.Goals as goal

pub returns : goal.returns
returns c = steals_go_by_thief
