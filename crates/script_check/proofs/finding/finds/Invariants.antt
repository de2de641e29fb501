use Rattle.std.proofs.Common.{◌≡◌, take}
use Rattle.script_check.proofs.finding.finds.Given as goal

abbrev pub invariant-loop-name : goal.invariant-loop-name
invariant-loop-name l = l.variables ≡ take l.name-index l.names
