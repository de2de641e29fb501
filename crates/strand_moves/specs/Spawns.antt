-- Spawns that are passed on without a box.
use Rattle.std.specs.Prelude.{◌≡◌, ◌⊎◌, ℕ, List, Option, Some, None, Result, Ok, Err}
use Rattle.script_grammar.specs.declared.tree.Name.{Name}
use Rattle.script_grammar.specs.declared.tree.CallText.{CallText}
use Rattle.script_grammar.specs.declared.tree.Stmt.{Stmt, out-Stmt}
use Rattle.script_grammar.specs.declared.tree.Act.{out-Act}
use Rattle.serial_meaning.specs.Plan.{PlanView}
use Rattle.serial_meaning.specs.declared.event.Event.{Event}
use Rattle.strand_meaning.specs.Machine.{Machine, move}
use Rattle.strand_values.specs.declared.evaluation_error.EvaluationError as values
use Rattle.strand_values.specs.declared.evaluation_error.EvaluationError.TheVariants as error
use Rattle.strand_moves.specs.declared.instance_parts.InstanceParts.{InstanceParts}
use Rattle.strand_moves.specs.declared.effects.MoveResult.{MoveResult}
use Rattle.strand_moves.specs.declared.effects.MoveResult.TheVariants as move_result
use Rattle.strand_moves.specs.declared.effects.Effects.TheVariants as effect
use Rattle.strand_moves.specs.declared.effects.SpawnedChild.{SpawnedChild}
use Rattle.strand_moves.specs.Moves.{IsTrailOf, acted, run_of, spawn_to}
use Rattle.strand_moves.specs.StraightRuns.{unpassed}
use Rattle.strand_moves.specs.InstanceParts.{machine_of, path_of}

-- a spawn that showed this event, as a move
abbrev pub spawn_as_move : Event → Result SpawnedChild values.EvaluationError → Result MoveResult values.EvaluationError
spawn_as_move e (Ok s) = Ok (move_result.Moved (effect.Spawned e s))
spawn_as_move e (Err h) = Err h

-- It is that move, where there was memory for its box.
abbrev pub IsBoxedSpawn : Event → Result SpawnedChild values.EvaluationError → Result MoveResult values.EvaluationError → Type 0
IsBoxedSpawn e done result = (result ≡ spawn_as_move e done) ⊎ (result ≡ Err error.Memory)

-- A statement does what this spawn does, whose value goes to a variable, if any.
abbrev pub DoesAs : Stmt → Option Name → CallText → Type 0
DoesAs st to c = (plan : PlanView) (here : List ℕ) (m : Machine) → acted plan here m st (out-Act (out-Stmt st).act) ≡ acted plan here m st (spawn_to to c)

-- Either the spawn that the cursor has just passed was done and the sink took its event, or nothing changed.
abbrev pub HasSpawned : {S : Type 0} → (Event → S → S) → PlanView → InstanceParts → S → Option Stmt → InstanceParts → S → Option SpawnedChild → Type 0
HasSpawned after plan old from next new to None = (new ≡ old) × (to ≡ from)
HasSpawned after plan old from next new to (Some s) =
    (e : Event) × (to ≡ after e from) × (move plan (path_of old) (unpassed plan old next) ≡ run_of (move_result.Moved (effect.Spawned e s)) (machine_of plan new))

-- the child has the trail of its origin
abbrev pub SpawnsTrail : PlanView → Option SpawnedChild → Type 0
SpawnsTrail plan None = Unit {0}
SpawnsTrail plan (Some s) = IsTrailOf plan s.child.origin s.child.trail
