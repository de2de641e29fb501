use Rattle.std.specs.Arc.{arc_value}
use Rattle.strand_meaning.specs.Left.{stops_left}
use Rattle.serial_runner.specs.FaultWalks.{IsFaultWalk}
use Rattle.serial_runner.proofs.fault_walk.meet_fault.Given as goal

abbrev pub invariant-loop-next : goal.invariant-loop-next
invariant-loop-next l = IsFaultWalk (arc_value l.plan) l.fn.origin l.walk

abbrev pub decreases-loop-next : goal.decreases-loop-next
decreases-loop-next l = stops_left l.walk.task.task
