use Rattle.std.proofs.Common.{◌≡◌, ◌++◌, drop}
use Rattle.script_print.specs.Canonical.{after_commas, expr_text}
use Rattle.script_print.proofs.statement.write_after_commas.Given as goal

abbrev pub invariant-loop-arg : goal.invariant-loop-arg
invariant-loop-arg l = l.fn.text.items ++ after_commas expr_text l.args ≡ l.text.items ++ after_commas expr_text (drop l.arg-index l.args)
