use Rattle.std.proofs.Common.{length, ◌≤◌}
use Rattle.script_excerpt.proofs.slips.ends_in_parameters.Given as goal

abbrev pub invariant-loop-from : goal.invariant-loop-from
invariant-loop-from l = l.from ≤ length l.front

abbrev pub decreases-loop-from : goal.decreases-loop-from
decreases-loop-from l = l.from
