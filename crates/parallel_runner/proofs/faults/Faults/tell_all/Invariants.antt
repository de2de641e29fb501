use Rattle.std.proofs.Common.{◌≡◌}
use Rattle.parallel_runner.proofs.faults.Faults.tell_all.Given as goal

abbrev pub invariant-loop-known : goal.invariant-loop-known
invariant-loop-known g l = l.entry ≡ l.fn.entry
