use Rattle.std.proofs.Common.{◌≡◌, drop}
use Rattle.script_check.specs.Slots.{function_names, with_entries}
use Rattle.script_check.proofs.callees.put_each.Given as goal

abbrev pub invariant-loop-name : goal.invariant-loop-name
invariant-loop-name l = with_entries (function_names l.functions) l.initial.table.items l.called ≡ with_entries (function_names l.functions) l.table.items (drop l.name-index l.called)
