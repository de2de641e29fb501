use Rattle.sched_meaning.proofs.Computed.Small.{no_look_where_none_is_stalled}
use Rattle.sched_meaning.proofs.examples.no_look_where_none_is_stalled.Goals as goal

pub returns : goal.returns
returns c = no_look_where_none_is_stalled
