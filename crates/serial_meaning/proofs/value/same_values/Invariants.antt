use Rattle.std.proofs.Common.{◌≡◌, ◌↔◌, drop}
use Rattle.serial_meaning.proofs.value.same_values.Given as goal

abbrev pub invariant-loop-i : goal.invariant-loop-i
invariant-loop-i l = (l.values ≡ l.others) ↔ (drop l.i l.values ≡ drop l.i l.others)
