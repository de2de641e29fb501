use Rattle.std.proofs.Common.{◌≡◌, drop}
use Rattle.script_check.specs.Slots.{with_entries}
use Rattle.script_check.proofs.slots.put_each.Given as goal

abbrev pub invariant-loop-name : goal.invariant-loop-name
invariant-loop-name l = with_entries l.variables l.initial.table.items l.named ≡ with_entries l.variables l.table.items (drop l.name-index l.named)
