use Rattle.strand_moves.specs.StraightRuns.{GoesOnInBlock}
use Rattle.strand_moves.proofs.instance_parts.InstanceParts.plain_run.Given as goal

abbrev pub invariant-loop-self : goal.invariant-loop-self
invariant-loop-self g l = GoesOnInBlock g.S.EventSink.after l.plan l.initial.self l.initial.sink l.self l.sink

abbrev pub decreases-loop-self : goal.decreases-loop-self
decreases-loop-self g l = l.self.steps
