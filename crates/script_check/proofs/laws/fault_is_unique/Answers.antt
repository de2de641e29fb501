use Rattle.script_check.proofs.LeastViolation.First.{fault_unique}
use Rattle.script_check.proofs.laws.fault_is_unique.Goals as goal

pub returns : goal.returns
returns c = fault_unique
