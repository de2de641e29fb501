use Rattle.serial_meaning.proofs.Equations.ScriptRuns.{empty_loop_raises_the_rank}
use Rattle.serial_meaning.proofs.examples.empty_loop_raises_the_rank.Goals as goal

pub returns : goal.returns
returns c = empty_loop_raises_the_rank
