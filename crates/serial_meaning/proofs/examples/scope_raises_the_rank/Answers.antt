use Rattle.serial_meaning.proofs.Equations.ScriptRuns.{scope_raises_the_rank}
use Rattle.serial_meaning.proofs.examples.scope_raises_the_rank.Goals as goal

pub returns : goal.returns
returns c = scope_raises_the_rank
