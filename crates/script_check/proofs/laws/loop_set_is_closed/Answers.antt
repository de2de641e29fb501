use Rattle.script_check.proofs.FewerPending.Linear.{loop_closed}
use Rattle.script_check.proofs.laws.loop_set_is_closed.Goals as goal

pub returns : goal.returns
returns c = loop_closed
