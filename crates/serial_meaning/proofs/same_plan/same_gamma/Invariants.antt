use Rattle.std.proofs.Common.{◌≡◌, ◌↔◌, drop}
use Rattle.serial_meaning.proofs.same_plan.same_gamma.Given as goal

abbrev pub invariant-loop-i : goal.invariant-loop-i
invariant-loop-i l = (l.gamma ≡ l.other) ↔ (drop l.i l.gamma ≡ drop l.i l.other)
