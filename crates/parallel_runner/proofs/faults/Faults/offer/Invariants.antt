use Rattle.std.proofs.Common.{◌≡◌}
use Rattle.std.specs.Arc.{arc_value}
use Rattle.parallel_runner.proofs.faults.Faults.offer.Given as goal

abbrev pub invariant-loop : goal.invariant-loop
invariant-loop l = arc_value l.known.value ≡ arc_value l.fn.known.value
