use Rattle.strand_meaning.specs.Left.{moves_left}
use Rattle.strand_machine.specs.Tasks.{task_of}
use Rattle.strand_machine.proofs.Meeting.{IsMeetingWay}
use Rattle.strand_machine.proofs.placed.Task+All.advance_placed.Given as goal

abbrev pub invariant-loop-met : goal.invariant-loop-met
invariant-loop-met l = IsMeetingWay l.fn.self l.parts.value l.met

abbrev pub decreases-loop-met : goal.decreases-loop-met
decreases-loop-met l = moves_left (task_of l.parts.value.state l.parts.value.remaining)
