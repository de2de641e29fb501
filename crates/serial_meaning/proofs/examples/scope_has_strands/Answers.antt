use Rattle.serial_meaning.proofs.Equations.ScriptRuns.{scope_has_strands}
use Rattle.serial_meaning.proofs.examples.scope_has_strands.Goals as goal

pub returns : goal.returns
returns c = scope_has_strands
