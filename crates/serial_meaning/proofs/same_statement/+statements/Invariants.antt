use Rattle.std.proofs.Common.{◌≡◌, ◌↔◌, drop}
use Rattle.serial_meaning.proofs.same_statement.+statements.Given as goal

abbrev pub invariant-same_stmts-loop-i : goal.invariant-same_stmts-loop-i
invariant-same_stmts-loop-i l = (l.stmts ≡ l.others) ↔ (drop l.i l.stmts ≡ drop l.i l.others)
