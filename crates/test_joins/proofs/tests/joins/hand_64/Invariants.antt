use Rattle.std.proofs.Common.{◌≡◌, replicate, false}
use Rattle.test_joins.proofs.tests.joins.hand_64.Given as goal

abbrev pub invariant-loop-of : goal.invariant-loop-of
invariant-loop-of l = l.join.children.taken ≡ replicate l.of-counter false
