use Rattle.std.proofs.Common.{◌≡◌, ◌-◌, length}
use Rattle.std.specs.Arc.{arc_value}
use Rattle.serial_meaning.specs.Eval.{path_of}
use Rattle.strand_meaning.specs.Strands.{strand_at}
use Rattle.replay.specs.Descents.{seen_from, IsOnWayTo}
use Rattle.replay.proofs.place.fault_place.Given as goal

abbrev pub invariant-loop-origin : goal.invariant-loop-origin
invariant-loop-origin l = record { on : IsOnWayTo (arc_value l.plan) l.at l.origin; same : seen_from (arc_value l.plan) l.origin l.at ≡ strand_at (arc_value l.plan) l.at }

abbrev pub decreases-loop-origin : goal.decreases-loop-origin
decreases-loop-origin l = length l.at - length (path_of l.origin)
