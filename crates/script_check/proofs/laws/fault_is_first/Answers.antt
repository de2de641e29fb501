use Rattle.script_check.proofs.LeastViolation.First.{fault_first}
use Rattle.script_check.proofs.laws.fault_is_first.Goals as goal

pub returns : goal.returns
returns c = fault_first
