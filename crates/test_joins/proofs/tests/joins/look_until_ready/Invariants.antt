use Rattle.std.proofs.Common.{◌≡◌}
use Rattle.test_joins.proofs.tests.joins.look_until_ready.Given as goal

abbrev pub invariant-loop : goal.invariant-loop
invariant-loop l = l.join.children.taken ≡ l.fn.join.children.taken
