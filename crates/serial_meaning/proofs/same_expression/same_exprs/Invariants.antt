use Rattle.std.proofs.Common.{◌≡◌, ◌↔◌, drop}
use Rattle.serial_meaning.proofs.same_expression.same_exprs.Given as goal

abbrev pub invariant-loop-i : goal.invariant-loop-i
invariant-loop-i l = (l.exprs ≡ l.others) ↔ (drop l.i l.exprs ≡ drop l.i l.others)
