use Rattle.serial_meaning.proofs.Equations.ScriptRuns.{scope_is_a_level}
use Rattle.serial_meaning.proofs.examples.scope_is_a_level.Goals as goal

pub returns : goal.returns
returns c = scope_is_a_level
