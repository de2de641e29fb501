use Rattle.std.specs.Arc.{arc_value}
use Rattle.std.proofs.Common.{◌≡◌, ◌∷◌}
use Rattle.serial_runner.specs.Stacks.{IsStack, lowest, tasks}
use Rattle.serial_runner.proofs.Measure.{stops_in_all}
use Rattle.serial_runner.proofs.serial.run_serial_keeping.Given as goal

abbrev pub invariant-loop-pool : goal.invariant-loop-pool
invariant-loop-pool g l = record { sound : IsStack l.stack; plan : (lowest l.stack).plan ≡ arc_value l.plan; origin : (lowest l.stack).origin ≡ l.fn.origin }

abbrev pub decreases-loop-pool : goal.decreases-loop-pool
decreases-loop-pool g l = stops_in_all (tasks (l.stack.top ∷ l.stack.below))
