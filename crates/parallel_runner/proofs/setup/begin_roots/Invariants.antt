use Rattle.std.proofs.Common.{map, take}
use Rattle.std.specs.Arc.{arc_value}
use Rattle.parallel_runner.specs.Crews.{AreNewRoots}
use Rattle.parallel_runner.proofs.setup.begin_roots.Given as goal

abbrev pub invariant-loop-plan : goal.invariant-loop-plan
invariant-loop-plan g l = AreNewRoots (map arc_value (take l.plan-index l.plans)) l.roots.items l.tasks.items
