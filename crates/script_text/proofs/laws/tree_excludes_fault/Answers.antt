use Rattle.script_text.proofs.OneTree.Whole.{no_fault_in_text}
use Rattle.script_text.proofs.laws.tree_excludes_fault.Goals as goal

pub returns : goal.returns
returns c = no_fault_in_text
