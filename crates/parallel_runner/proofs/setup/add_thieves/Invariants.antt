use Rattle.std.proofs.Common.{◌≡◌, map, take, drop, ◌++◌}
use Rattle.parallel_runner.specs.Crews.{thief_of, with_thief}
use Rattle.parallel_runner.proofs.setup.add_thieves.Given as goal

abbrev pub invariant-loop-hand : goal.invariant-loop-hand
invariant-loop-hand g l = record {
  thieves : l.thieves.items ≡ l.fn.thieves.items ++ map thief_of (take l.hand-index l.fn.hands);
  hands : l.hands ≡ map with_thief (take l.hand-index l.fn.hands) ++ drop l.hand-index l.fn.hands;
}
