use Rattle.serial_meaning.proofs.Equations.ScriptRuns.{child_stands_in_its_scope}
use Rattle.serial_meaning.proofs.examples.child_stands_in_its_scope.Goals as goal

pub returns : goal.returns
returns c = child_stands_in_its_scope
