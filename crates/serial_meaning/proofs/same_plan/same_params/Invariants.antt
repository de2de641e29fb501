use Rattle.std.proofs.Common.{◌≡◌, ◌↔◌, drop}
use Rattle.serial_meaning.proofs.same_plan.same_params.Given as goal

abbrev pub invariant-loop-i : goal.invariant-loop-i
invariant-loop-i l = (l.params ≡ l.others) ↔ (drop l.i l.params ≡ drop l.i l.others)
