-- What a call that makes a move answers.
use Rattle.std.specs.Prelude.{◌≡◌, ℕ, ◌++◌, List, [], ◌∷◌, Option, Some, None, Result, Ok, Err, length}
use Rattle.dotmix.specs.Trails.{FitsGamma}
use Rattle.dotmix.specs.declared.trail.Trail.{Trail}
use Rattle.script_grammar.specs.declared.tree.Name.{Name}
use Rattle.script_grammar.specs.declared.tree.CallText.{CallText}
use Rattle.script_grammar.specs.declared.tree.Right.TheVariants as right
use Rattle.script_grammar.specs.declared.tree.Stmt.{Stmt}
use Rattle.script_grammar.specs.declared.tree.Act.{Act}
use Rattle.script_grammar.specs.declared.tree.Act.TheOpen as act
use Rattle.script_grammar.specs.declared.tree.Act.TheOpen.{Act-F}
use Rattle.serial_meaning.specs.Runs.{Run}
use Rattle.serial_meaning.specs.Eval.{path_of}
use Rattle.serial_meaning.specs.Exec.{does}
use Rattle.serial_meaning.specs.Plan.{PlanView}
use Rattle.serial_meaning.specs.declared.event.Fault.{Fault}
use Rattle.serial_meaning.specs.declared.origin.Origin.{Origin}
use Rattle.strand_meaning.specs.Machine.{Spawned, Looped, Effect, Opens, Closes, Emitted, Starts, Syncs, Loops, Machine, Reached, Stands, Gives, parallel, inside, child_destination, state_of, with_left, machine_inside, reached}
use Rattle.strand_values.specs.declared.evaluation_error.EvaluationError as values
use Rattle.strand_values.specs.declared.evaluation_error.EvaluationError.TheVariants as error
use Rattle.strand_moves.specs.declared.effects.Effects.{Effects}
use Rattle.strand_moves.specs.declared.effects.Effects.TheVariants as effect
use Rattle.strand_moves.specs.declared.effects.MoveResult.{MoveResult}
use Rattle.strand_moves.specs.declared.effects.MoveResult.TheVariants as move_result

-- the effects, one by one
abbrev pub effects_of : Effects → List Effect
effects_of effect.Nothing = []
effects_of (effect.Emitted e) = Emitted e ∷ []
effects_of (effect.Opened path) = Opens path ∷ []
effects_of (effect.Closed j) = Closes j ∷ []
effects_of (effect.Spawned e s) = Emitted e ∷ Starts s.child.origin (Spawned s.height s.target) ∷ []
effects_of (effect.Synced e) = Emitted e ∷ Syncs ∷ []
effects_of (effect.Looped e l) = Emitted e ∷ Starts l.child.origin (Looped l.target) ∷ Loops ∷ []

-- The trail is one of the plan's coefficients, and of the origin's path.
pub record IsTrailOf (plan : PlanView) (o : Origin) (trail : Trail) : Type 0 where
  pub fits : FitsGamma plan.gamma trail
  pub path : trail.path ≡ path_of o

-- a child that is begun has the trail of its origin
abbrev pub ShowsTrail : PlanView → Effects → Type 0
ShowsTrail plan effect.Nothing = Unit {0}
ShowsTrail plan (effect.Emitted e) = Unit {0}
ShowsTrail plan (effect.Opened path) = Unit {0}
ShowsTrail plan (effect.Closed j) = Unit {0}
ShowsTrail plan (effect.Spawned e s) = IsTrailOf plan s.child.origin s.child.trail
ShowsTrail plan (effect.Synced e) = Unit {0}
ShowsTrail plan (effect.Looped e l) = IsTrailOf plan l.child.origin l.child.trail

abbrev pub MovesTrail : PlanView → MoveResult → Type 0
MovesTrail plan (move_result.Moved s) = ShowsTrail plan s
MovesTrail plan (move_result.Returned v) = Unit {0}
MovesTrail plan (move_result.Faulted f) = Unit {0}

-- a move that ends in this machine, if it ends in one
abbrev pub run_of : MoveResult → Machine → Run Effect Fault Reached
run_of (move_result.Moved s) m = record { items = effects_of s; ending = Ok (Stands m) }
run_of (move_result.Returned v) m = record { items = []; ending = Ok (Gives v) }
run_of (move_result.Faulted f) m = record { items = []; ending = Err f }

-- a move that shows these effects, and after which the instance goes on
abbrev pub HasEffects : List Effect → MoveResult → Type 0
HasEffects effects move_result = (m : Machine) → run_of move_result m ≡ record { items = effects; ending = Ok (Stands m) }

-- A move is the defined one, where a fault is one of this strand. Want of memory may come at any time.
abbrev pub Makes : Run Effect Fault Reached → List ℕ → Machine → Result MoveResult values.EvaluationError → Type 0
Makes run strand m (Ok move_result) = run ≡ run_of move_result m
Makes run strand m (Err (error.Fault kind)) = run ≡ record { items = []; ending = Err (record { kind = kind; at = strand }) }
Makes run strand m (Err error.Memory) = Unit {0}

abbrev pub present_pedigree : List ℕ → Machine → List ℕ
present_pedigree here m = here ++ m.rank ∷ []

-- what a statement does at a present path, once it is paid and no longer among those left
unfoldable pub acted : PlanView → List ℕ → Machine → Stmt → Act-F Act Stmt → Run Effect Fault Reached
acted plan here m st a =
    let r = does (parallel plan (child_destination (length m.below) a)) plan here inside (length m.below) st a (state_of m) in record { items = r.items; ending = reached plan (with_left m m.top.left) (machine_inside plan st a m.top.left m) r.ending }

-- a call, or a spawn, whose value goes to a variable, if any
abbrev pub call_to : Option Name → CallText → Act-F Act Stmt
call_to None c = act.Call c
call_to (Some x) c = act.Set x (right.Call 0 c)

abbrev pub spawn_to : Option Name → CallText → Act-F Act Stmt
spawn_to None c = act.Spawn c
spawn_to (Some x) c = act.Set x (right.Spawn 0 c)
