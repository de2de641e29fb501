use Rattle.strand_meaning.specs.Left.{moves_left}
use Rattle.strand_machine.specs.Tasks.{task_of}
use Rattle.strand_machine.proofs.NodesObserved.Observing.{IsObservedWay}
use Rattle.strand_machine.proofs.observe.Task+All.advance_observed.Given as goal

abbrev pub invariant-loop-observation : goal.invariant-loop-observation
invariant-loop-observation l = IsObservedWay l.fn.self l.fn.at l.fn.probe l.parts.value l.observation

abbrev pub decreases-loop-observation : goal.decreases-loop-observation
decreases-loop-observation l = moves_left (task_of l.parts.value.state l.parts.value.remaining)
