use Rattle.serial_meaning.proofs.Equations.ScriptRuns.{implied_sync_raises_the_rank}
use Rattle.serial_meaning.proofs.examples.implied_sync_raises_the_rank.Goals as goal

pub returns : goal.returns
returns c = implied_sync_raises_the_rank
