use Rattle.serial_meaning.proofs.LeastFault.Least.{fault_is_least}
use Rattle.serial_meaning.proofs.laws.fault_is_least.Goals as goal

pub returns : goal.returns
returns c = fault_is_least
