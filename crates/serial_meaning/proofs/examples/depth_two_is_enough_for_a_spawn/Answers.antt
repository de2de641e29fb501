use Rattle.serial_meaning.proofs.Equations.ScriptRuns.{depth_two_is_enough_for_a_spawn}
use Rattle.serial_meaning.proofs.examples.depth_two_is_enough_for_a_spawn.Goals as goal

pub returns : goal.returns
returns c = depth_two_is_enough_for_a_spawn
