use Rattle.parallel_runner.specs.Crews.{AreNew}
use Rattle.parallel_runner.proofs.setup.hands_with.Given as goal

abbrev pub invariant-loop : goal.invariant-loop
invariant-loop g l = AreNew l.counter l.hands.items
