-- A loop's iterations are halved in place.
use Rattle.std.proofs.Common.{◌≡◌, refl, sym, ap, subst}
use Rattle.dotmix.specs.declared.trail.Trail.{Trail}
use Rattle.loop_range.specs.Range.{Range, upper_half}
use Rattle.serial_meaning.specs.Laws.{IsOriginOf}
use Rattle.serial_meaning.specs.declared.origin.Origin.{Origin}
use Rattle.strand_family.specs.Origins.{loop_part}
use Rattle.strand_meaning.specs.Laws.{StepsAreSound}
use Rattle.strand_meaning.specs.Task as meaning
use Rattle.strand_moves.specs.Moves.{IsTrailOf}
use Rattle.strand_machine.specs.Made.{IsHalved, IsRun, IsSpawn}
use Rattle.strand_machine.specs.MoveOrStop.{MoveOrStop}
use Rattle.strand_machine.specs.Tasks.{IsSound, task_of, view_of, with_child}
use Rattle.strand_machine.specs.declared.destination.Destination.TheVariants as destination
use Rattle.strand_machine.specs.declared.remaining.Left.{Left}
use Rattle.strand_machine.specs.declared.remaining.Remaining.{Remaining}
use Rattle.strand_machine.specs.declared.remaining.Remaining.TheVariants as remaining
use Rattle.strand_machine.specs.declared.task_state.TaskState.{TaskState}
use Rattle.strand_machine.proofs.NextStops.Advancing.{one-step}
use Rattle.strand_machine.proofs.Moves.Dispatch.{part-trail, spawn-is, spawn-sound, split-many}

module _ {K : Type 0} (b : TaskState K) (w after : Remaining) (lower : Range) (trail : Trail) (halved : IsHalved w after lower trail) (sound : IsSound b w) where
  abbrev half_of : Origin
  half_of = loop_part b.links.origin lower

  abbrev upper : Left
  upper = record { range = upper_half halved.left.range; trail = halved.left.trail }

  here : IsSound b (remaining.Splits halved.left)
  here = subst (IsSound b) halved.splits sound

  step-is : meaning.step (task_of b (remaining.Splits halved.left)) ≡ meaning.Stops (meaning.Spawn half_of (task_of (with_child b half_of destination.Half) (remaining.Splits upper)))
  step-is = split-many b halved.left upper lower half_of halved.many halved.lower_is refl refl

  pub half-known : StepsAreSound → IsOriginOf b.links.plan half_of
  half-known law = (spawn-sound law b (remaining.Splits halved.left) (remaining.Splits upper) half_of destination.Half here step-is here.of_plan).0

  pub half-trail : IsTrailOf b.links.plan half_of trail
  half-trail = part-trail b.links.plan b.links.origin half_of lower halved.left.trail trail refl halved.trail_is here.of_plan

  pub half-sound : StepsAreSound → IsSound (with_child b half_of destination.Half) after
  half-sound law = subst (IsSound (with_child b half_of destination.Half)) (sym halved.upper_is) (spawn-sound law b (remaining.Splits halved.left) (remaining.Splits upper) half_of destination.Half here step-is here.of_plan).1

  pub half-runs : (s : MoveOrStop K) → IsSpawn b half_of destination.Half after s → IsRun (view_of b w) s
  half-runs s spawns =
      subst (λ (x : Remaining). IsRun (view_of b x) s) (sym halved.splits)
      (one-step (view_of b (remaining.Splits halved.left)) s refl
      (spawn-is b (remaining.Splits halved.left) (remaining.Splits upper) half_of destination.Half s here.of_plan step-is (subst (λ (x : Remaining). IsSpawn b half_of destination.Half x s) halved.upper_is spawns)))
