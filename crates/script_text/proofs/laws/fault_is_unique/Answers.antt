use Rattle.script_text.proofs.OneTree.Whole.{fault_unique}
use Rattle.script_text.proofs.laws.fault_is_unique.Goals as goal

pub returns : goal.returns
returns c = fault_unique
