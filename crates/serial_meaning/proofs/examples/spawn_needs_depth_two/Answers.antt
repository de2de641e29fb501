use Rattle.serial_meaning.proofs.Equations.ScriptRuns.{spawn_needs_depth_two}
use Rattle.serial_meaning.proofs.examples.spawn_needs_depth_two.Goals as goal

pub returns : goal.returns
returns c = spawn_needs_depth_two
