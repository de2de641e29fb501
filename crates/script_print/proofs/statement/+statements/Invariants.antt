use Rattle.std.proofs.Common.{◌≡◌, ◌++◌, drop}
use Rattle.script_print.specs.Canonical.{stmts_text}
use Rattle.script_print.proofs.statement.+statements.Given as goal

abbrev pub invariant-write_stmts-loop-stmt : goal.invariant-write_stmts-loop-stmt
invariant-write_stmts-loop-stmt l = l.fn.text.items ++ stmts_text l.stmts l.margin ≡ l.text.items ++ stmts_text (drop l.stmt-index l.stmts) l.margin
