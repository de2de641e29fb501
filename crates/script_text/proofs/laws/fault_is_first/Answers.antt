use Rattle.script_text.proofs.OneFault.First.{fault_first}
use Rattle.script_text.proofs.laws.fault_is_first.Goals as goal

pub returns : goal.returns
returns c = fault_first
