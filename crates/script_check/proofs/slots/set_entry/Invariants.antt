use Rattle.std.proofs.Common.{◌≡◌, ◌≤◌, ◌++◌, ◌-◌, length, max, replicate}
use Rattle.script_check.proofs.slots.set_entry.Given as goal

abbrev pub invariant-loop-table : goal.invariant-loop-table
invariant-loop-table l = record {
  zeros : l.table.items ≡ l.initial.table.items ++ replicate (length l.table.items - length l.initial.table.items) 0;
  longer : length l.initial.table.items ≤ length l.table.items;
  within : length l.table.items ≤ max (length l.initial.table.items) l.at;
}

abbrev pub decreases-loop-table : goal.decreases-loop-table
decreases-loop-table l = l.at - length l.table.items
