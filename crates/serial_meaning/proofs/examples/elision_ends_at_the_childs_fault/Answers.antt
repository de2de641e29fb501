use Rattle.serial_meaning.proofs.LeastFault.Endless.{elision_ends_at_the_childs_fault}
use Rattle.serial_meaning.proofs.examples.elision_ends_at_the_childs_fault.Goals as goal

pub returns : goal.returns
returns c = elision_ends_at_the_childs_fault
