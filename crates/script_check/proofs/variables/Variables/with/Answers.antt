use Rattle.std.proofs.Common.{rules}
use Rattle.script_check.specs.Tables.{table_of}
use Rattle.script_check.proofs.Tables.SlotIndex.{one_more}
use Rattle.script_check.proofs.variables.Variables.with.Goals as goal

pub invariant_of-result : goal.invariant_of-result
invariant_of-result c =
    one_more c.self.inside.names.items c.push.new.self.items c.args.name.now c.len-slot.result (table_of c.self.inside.first.map) (table_of c.insert.new.self.map) c.self.invariant
    (search rules) (search rules) (search rules)
