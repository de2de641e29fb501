-- What the call for a statement answers and leaves, where the statement is paid and the cursor stands after it.
use Rattle.std.specs.Prelude.{◌≡◌, ℕ, ◌+◌, ◌<◌, ◌≤◌, Bool, false, nat_lt, if◌then◌else◌, List, [], ◌∷◌, ◌++◌, Option, Some, None, Result, Ok, Err, length}
use Rattle.std.specs.Prelude.{pos}
use Rattle.dotmix.specs.Trails.{FitsGamma}
use Rattle.script_grammar.specs.declared.tree.Name.{Name}
use Rattle.script_grammar.specs.declared.tree.Function.{Function}
use Rattle.script_grammar.specs.declared.tree.Stmt.{Stmt}
use Rattle.script_grammar.specs.declared.tree.Act.{Act}
use Rattle.script_grammar.specs.declared.tree.Act.TheOpen.{Act-F}
use Rattle.serial_meaning.specs.Exec.{has_room, loop_fits}
use Rattle.serial_meaning.specs.Plan.{PlanView}
use Rattle.serial_meaning.specs.Values.{Env, value_of}
use Rattle.serial_meaning.specs.declared.value.Value.{Value}
use Rattle.serial_meaning.specs.declared.value.Value.TheVariants.{Int}
use Rattle.serial_meaning.specs.declared.event.FaultKind.{FaultKind}
use Rattle.serial_meaning.specs.declared.event.FaultKind.TheVariants.{Index, Depth, Budget}
use Rattle.strand_meaning.specs.Machine as meaning
use Rattle.strand_values.specs.Environments.{EnvironmentView}
use Rattle.strand_values.specs.declared.evaluation_error.EvaluationError as values
use Rattle.strand_values.specs.declared.evaluation_error.EvaluationError.TheVariants as error
use Rattle.strand_moves.specs.declared.frame.Frame.{Frame}
use Rattle.strand_moves.specs.declared.instance_parts.InstanceParts.{InstanceParts}
use Rattle.strand_moves.specs.declared.effects.MoveResult.{MoveResult}
use Rattle.strand_moves.specs.InstanceParts.{IsInstance, body_of, frame_of, machine_of, open_scopes, path_of, present_of}
use Rattle.strand_moves.specs.Moves.{acted, Makes, present_pedigree}

-- the call shows and leaves what this act does, and a fault is one of this strand
abbrev pub Acts : PlanView → Stmt → Act-F Act Stmt → InstanceParts → InstanceParts → Result MoveResult values.EvaluationError → Type 0
Acts plan st a old new result =
    Makes (acted plan (present_of old) (machine_of plan old) st a) (present_pedigree (present_of old) (machine_of plan old)) (machine_of plan new) result

-- the rank and the steps that are left rise by one together at most
abbrev pub Costs : InstanceParts → InstanceParts → Type 0
Costs old new = new.rank + new.steps < old.rank + old.steps + 2

-- the present path and the open scopes stay
pub record Stays (old new : InstanceParts) : Type 0 where
  pub trail : new.trail ≡ old.trail
  pub scopes : open_scopes new ≡ open_scopes old
  pub leaving : new.leaving ≡ old.leaving

-- at most one frame more is open, and no step is paid
pub record BeginsOne (old new : InstanceParts) : Type 0 where
  pub steps : new.steps ≡ old.steps
  pub frames : length new.below.items ≤ length old.below.items + 1

-- Where there was memory for it, they stay.
abbrev pub StaysUnlessMemory : InstanceParts → InstanceParts → Result MoveResult values.EvaluationError → Type 0
StaysUnlessMemory old new (Ok move_result) = Stays old new
StaysUnlessMemory old new (Err (error.Fault kind)) = Stays old new
StaysUnlessMemory old new (Err error.Memory) = Unit {0}

-- one scope more is open, and the instance goes on in it
pub record GoesIn (plan : PlanView) (old new : InstanceParts) : Type 0 where
  pub fits : FitsGamma plan.gamma new.trail
  pub path : new.trail.path ≡ old.trail.path ++ old.rank ∷ []
  pub within : length new.trail.path < length plan.gamma
  pub scopes : open_scopes new ≡ record { trail = old.trail; rank = old.rank; cursor = old.top.cursor } ∷ open_scopes old
  pub rank : new.rank ≡ 0
  pub steps : new.steps ≡ old.steps
  pub leaving : new.leaving ≡ old.leaving

-- it is still an instance, with the same path
pub record IsKept (plan : PlanView) (old new : InstanceParts) : Type 0 where
  pub instance : IsInstance plan new
  pub path : path_of new ≡ path_of old

-- A move keeps an instance and its path, and one that is a fault keeps the present path too. Want of memory keeps nothing.
abbrev pub KeepsInstance : PlanView → InstanceParts → InstanceParts → Result MoveResult values.EvaluationError → Type 0
KeepsInstance plan old new (Ok move_result) = IsKept plan old new
KeepsInstance plan old new (Err (error.Fault kind)) = IsKept plan old new × (new.trail ≡ old.trail)
KeepsInstance plan old new (Err error.Memory) = Unit {0}

-- the fault of the first of these conditions that doesn't hold
abbrev pub first_fault : List (Bool × FaultKind) → Result (Unit {0}) FaultKind
first_fault [] = Ok tt
first_fault (condition ∷ others) = if condition.0 then first_fault others else Err condition.1

-- A loop of n iterations begins where there are steps for them, its target has room, and its pedigrees are within the depth. The first of
-- these that doesn't hold is its fault.
abbrev pub loop_begins : PlanView → List ℕ → ℕ → Option Name → Env → ℕ → Result (Unit {0}) FaultKind
loop_begins plan path n target env steps =
    first_fault ((nat_lt n (steps + 1), Budget) ∷ (has_room target n env, Index) ∷ (loop_fits plan path n, Depth) ∷ [])

-- a function before its first statement
abbrev pub begun_frame : PlanView → ℕ → Env → Option Name → meaning.Frame
begun_frame plan number env to = record {
  function = number;
  left = body_of plan number;
  levels = [];
  leaving = false;
  returning = false;
  env = env;
  spawned = false;
  faulted = None;
  target = to;
}

-- A frame that a call of this function begins with these variables: its whole body is left, and nothing has happened in it yet.
pub record IsCallee (number : ℕ) (variables : EnvironmentView) (to : Option Name) (a : Frame) : Type 0 where
  pub env : a.env ≡ variables
  pub begins : (plan : PlanView) → frame_of plan false a ≡ begun_frame plan number variables.variables to

-- the value of a function, where there is one
abbrev pub result_of : Option Function → Env → Result Value FaultKind
result_of (Some f) env = value_of f.result env
result_of None env = Ok (Int (pos 0))
