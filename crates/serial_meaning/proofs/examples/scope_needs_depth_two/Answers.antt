use Rattle.serial_meaning.proofs.Equations.ScriptRuns.{scope_needs_depth_two}
use Rattle.serial_meaning.proofs.examples.scope_needs_depth_two.Goals as goal

pub returns : goal.returns
returns c = scope_needs_depth_two
