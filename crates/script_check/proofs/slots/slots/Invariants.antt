use Rattle.std.proofs.Common.{◌≡◌, ◌++◌, drop}
use Rattle.script_check.specs.Slots.{each_names, table_of_slots, with_functions}
use Rattle.script_check.proofs.slots.slots.Given as goal

abbrev pub invariant-loop-f : goal.invariant-loop-f
invariant-loop-f l = record {
  names : each_names l.functions ≡ l.each.items ++ each_names (drop l.f-index l.functions);
  slots : table_of_slots l.functions ≡ with_functions l.table.items (drop l.f-index l.functions);
}
