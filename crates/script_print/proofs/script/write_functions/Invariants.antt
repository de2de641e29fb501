use Rattle.std.proofs.Common.{◌≡◌, ◌++◌, drop, flat_map}
use Rattle.script_print.specs.Canonical.{function_text}
use Rattle.script_print.proofs.script.write_functions.Given as goal

abbrev pub invariant-loop-function : goal.invariant-loop-function
invariant-loop-function l = l.fn.text.items ++ flat_map function_text l.functions ≡ l.text.items ++ flat_map function_text (drop l.function-index l.functions)
