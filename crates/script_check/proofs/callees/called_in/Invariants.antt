use Rattle.std.proofs.Common.{◌≡◌, ◌++◌, drop}
use Rattle.script_check.specs.Slots.{called_in}
use Rattle.script_check.proofs.callees.called_in.Given as goal

abbrev pub invariant-loop-f : goal.invariant-loop-f
invariant-loop-f l = called_in l.functions ≡ l.called.items ++ called_in (drop l.f-index l.functions)
