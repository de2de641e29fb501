use Rattle.script_check.specs.Tables.{table_of}
use Rattle.script_check.proofs.Tables.SlotIndex.{no-names}
use Rattle.script_check.proofs.variables.Variables.new.Goals as goal

pub invariant_of-result : goal.invariant_of-result
invariant_of-result c = no-names c.new.result.items (table_of c.new-2.result.map) c.new.ensures.items c.new-2.ensures
