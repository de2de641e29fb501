use Rattle.std.proofs.Common.{◌≡◌, ◌++◌, drop, take}
use Rattle.serial_meaning.specs.Exec.{with_front}
use Rattle.strand_values.proofs.entry.fill_items.Given as goal

abbrev pub invariant-loop-i : goal.invariant-loop-i
invariant-loop-i l =
    with_front l.initial.items l.values ≡ take l.i l.items ++ with_front (drop l.i l.items) (drop l.i l.values)
