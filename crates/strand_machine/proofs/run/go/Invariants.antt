use Rattle.strand_meaning.specs.Left.{moves_left}
use Rattle.strand_machine.specs.Tasks.{task_of, view_of}
use Rattle.strand_machine.specs.declared.remaining.Stage.TheVariants as stage
use Rattle.strand_machine.specs.declared.remaining.Remaining.TheVariants as remaining
use Rattle.strand_machine.proofs.Moves.Moving.{IsOnRun}
use Rattle.strand_machine.proofs.run.go.Given as goal

abbrev pub invariant-loop-next : goal.invariant-loop-next
invariant-loop-next g l = IsOnRun (view_of l.initial.parts.state (remaining.Runs (stage.Running l.fn.instance))) l.parts.state l.instance

abbrev pub decreases-loop-next : goal.decreases-loop-next
decreases-loop-next g l = moves_left (task_of l.parts.state (remaining.Runs (stage.Running l.instance)))
