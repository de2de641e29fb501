use Rattle.serial_meaning.proofs.Equations.ScriptRuns.{calls_share_the_rank}
use Rattle.serial_meaning.proofs.examples.calls_share_the_rank.Goals as goal

pub returns : goal.returns
returns c = calls_share_the_rank
