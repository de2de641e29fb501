use Rattle.script_text.proofs.OneTree.Whole.{one_script}
use Rattle.script_text.proofs.laws.tree_is_unique.Goals as goal

pub returns : goal.returns
returns c = one_script
