use Rattle.std.proofs.Common.{◌≡◌, ◌≤◌, ◌<◌, ℕ, true, false, Some, slice_get}
use Rattle.test_joins.proofs.tests.joins.take_64.Given as goal

abbrev pub invariant-loop-i : goal.invariant-loop-i
invariant-loop-i g l = record {
  ready : l.join.children.ready ≡ true;
  left : (k : ℕ) → l.i-counter ≤ k → k < 64 → slice_get l.join.children.taken k ≡ Some false;
}
