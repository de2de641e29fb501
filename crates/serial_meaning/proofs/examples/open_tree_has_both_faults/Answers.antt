use Rattle.serial_meaning.proofs.LeastFault.Endless.{open_tree_has_both_faults}
use Rattle.serial_meaning.proofs.examples.open_tree_has_both_faults.Goals as goal

pub returns : goal.returns
returns c = open_tree_has_both_faults
