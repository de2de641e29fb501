use Rattle.std.proofs.Common.{◌≡◌, ◌↔◌, drop}
use Rattle.serial_meaning.proofs.same_plan.same_functions.Given as goal

abbrev pub invariant-loop-i : goal.invariant-loop-i
invariant-loop-i l = (l.functions ≡ l.others) ↔ (drop l.i l.functions ≡ drop l.i l.others)
