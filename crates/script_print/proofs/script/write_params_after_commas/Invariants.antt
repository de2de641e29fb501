use Rattle.std.proofs.Common.{◌≡◌, ◌++◌, drop}
use Rattle.script_print.specs.Canonical.{after_commas, param_text}
use Rattle.script_print.proofs.script.write_params_after_commas.Given as goal

abbrev pub invariant-loop-param : goal.invariant-loop-param
invariant-loop-param l = l.fn.text.items ++ after_commas param_text l.params ≡ l.text.items ++ after_commas param_text (drop l.param-index l.params)
