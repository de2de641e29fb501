use Rattle.std.specs.Arc.{arc_value}
use Rattle.std.proofs.Common.{false}
use Rattle.sched_meaning.proofs.SimulationsEnd.Falling.{work_left}
use Rattle.sched_core.specs.Cores.{core_of}
use Rattle.sched_core.proofs.Choices.PickedSteps.{AfterWords}
use Rattle.sched_core.proofs.simulation.simulate.Given as goal

abbrev pub invariant-loop-next : goal.invariant-loop-next
invariant-loop-next l = AfterWords (arc_value l.plan) l.workers l.number l.words l.state

abbrev pub decreases-loop-next : goal.decreases-loop-next
decreases-loop-next l = work_left (core_of false l.state)
