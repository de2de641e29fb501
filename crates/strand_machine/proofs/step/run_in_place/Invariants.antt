use Rattle.strand_meaning.specs.Left.{moves_left}
use Rattle.strand_machine.specs.Tasks.{task_of, view_of}
use Rattle.strand_machine.proofs.Moves.Making.{IsOnWay}
use Rattle.strand_machine.proofs.step.run_in_place.Given as goal

abbrev pub invariant-loop-passed : goal.invariant-loop-passed
invariant-loop-passed g l = IsOnWay (view_of l.initial.parts.state l.initial.parts.remaining) l.parts

abbrev pub decreases-loop-passed : goal.decreases-loop-passed
decreases-loop-passed g l = moves_left (task_of l.parts.state l.parts.remaining)
