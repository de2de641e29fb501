use Rattle.script_check.proofs.FewerPending.FewerStatements.{fewer_pending_stays_valid}
use Rattle.script_check.proofs.laws.fewer_pending_stays_valid.Goals as goal

pub returns : goal.returns
returns c = fewer_pending_stays_valid
