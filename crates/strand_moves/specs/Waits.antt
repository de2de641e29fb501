-- Syncs and parallel loops, without their event.
use Rattle.std.specs.Prelude.{◌≡◌, Bool, true, false, Option, Some, None, Result, Ok, Err}
use Rattle.script_grammar.specs.declared.tree.Stmt.{Stmt}
use Rattle.serial_meaning.specs.Plan.{PlanView}
use Rattle.serial_meaning.specs.declared.event.Event.{Event}
use Rattle.strand_meaning.specs.Machine.{move}
use Rattle.strand_values.specs.declared.evaluation_error.EvaluationError as values
use Rattle.strand_moves.specs.declared.instance_parts.InstanceParts.{InstanceParts}
use Rattle.strand_moves.specs.declared.effects.MoveResult.{MoveResult}
use Rattle.strand_moves.specs.declared.effects.MoveResult.TheVariants as move_result
use Rattle.strand_moves.specs.declared.effects.Effects.{Effects}
use Rattle.strand_moves.specs.declared.effects.Effects.TheVariants as effect
use Rattle.strand_moves.specs.declared.effects.Waits.{Waits}
use Rattle.strand_moves.specs.declared.effects.Waits.TheVariants as waits
use Rattle.strand_moves.specs.Moves.{ShowsTrail, run_of}
use Rattle.strand_moves.specs.StraightRuns.{unpassed}
use Rattle.strand_moves.specs.InstanceParts.{machine_of, path_of}

-- what is shown: this event, and this wait after it
abbrev pub waits_after : Event → Waits → Effects
waits_after e waits.Nothing = effect.Emitted e
waits_after e waits.ForChildren = effect.Synced e
waits_after e (waits.ForLoop l) = effect.Looped e l

-- what a sync waits for, by whether there was a spawn since the last one
abbrev pub sync_waits : Bool → Waits
sync_waits true = waits.ForChildren
sync_waits false = waits.Nothing

-- a sync or loop that showed this event, as a move
abbrev pub wait_as_move : Event → Result Waits values.EvaluationError → Result MoveResult values.EvaluationError
wait_as_move e (Ok w) = Ok (move_result.Moved (waits_after e w))
wait_as_move e (Err h) = Err h

-- a loop has the trail of its strand
abbrev pub ShowsTrailAfter : PlanView → Waits → Type 0
ShowsTrailAfter plan w = (e : Event) → ShowsTrail plan (waits_after e w)

-- The sync or loop was done that the instance made after its cursor passed, and the sink took its event. Or nothing changed.
abbrev pub HasWaited : {S : Type 0} → (Event → S → S) → PlanView → InstanceParts → S → Option Stmt → InstanceParts → S → Option Waits → Type 0
HasWaited after plan old from next new to None = (new ≡ old) × (to ≡ from)
HasWaited after plan old from next new to (Some w) =
    (e : Event) × (to ≡ after e from) × (move plan (path_of old) (unpassed plan old next) ≡ run_of (move_result.Moved (waits_after e w)) (machine_of plan new))

abbrev pub WaitsTrail : PlanView → Option Waits → Type 0
WaitsTrail plan None = Unit {0}
WaitsTrail plan (Some w) = ShowsTrailAfter plan w
