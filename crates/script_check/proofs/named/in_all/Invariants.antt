use Rattle.std.proofs.Common.{◌≡◌, ◌++◌, drop}
use Rattle.script_check.specs.Slots.{named_in_all}
use Rattle.script_check.proofs.named.in_all.Given as goal

abbrev pub invariant-loop-e : goal.invariant-loop-e
invariant-loop-e l = l.fn.named.items ++ named_in_all l.es ≡ l.named.items ++ named_in_all (drop l.e-index l.es)
