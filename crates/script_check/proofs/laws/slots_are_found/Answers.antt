use Rattle.script_check.proofs.FoundSlots.Found.{slots_are_found}
use Rattle.script_check.proofs.laws.slots_are_found.Goals as goal

pub returns : goal.returns
returns c = slots_are_found
