use Rattle.script_check.proofs.FoundSlots.Few.{variables_are_few}
use Rattle.script_check.proofs.laws.variables_are_few.Goals as goal

pub returns : goal.returns
returns c = variables_are_few
