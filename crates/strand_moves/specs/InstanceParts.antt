-- An instance as the machine that `strand_meaning` defines.
use Rattle.std.specs.Prelude.{◌≡◌, ℕ, ◌+◌, ◌<◌, ◌^◌, Bool, true, false, List, [], ◌∷◌, ◌++◌, Option, Some, None, map, reverse, length, All, if◌then◌else◌}
use Rattle.dotmix.specs.Trails.{FitsGamma}
use Rattle.script_grammar.specs.declared.tree.Function.{Function}
use Rattle.script_grammar.specs.declared.tree.Name.{Name}
use Rattle.script_grammar.specs.declared.tree.Stmt.{Stmt}
use Rattle.script_check.specs.Slots.{table_of_slots, variable_names}
use Rattle.serial_meaning.specs.Functions.{function_at}
use Rattle.serial_meaning.specs.Plan.{PlanView, functions_of}
use Rattle.strand_meaning.specs.Machine as meaning
use Rattle.strand_moves.specs.declared.frame.Frame.{Frame}
use Rattle.strand_moves.specs.declared.frame.Level.{Level}
use Rattle.strand_moves.specs.declared.instance_parts.InstanceParts.{InstanceParts}
use Rattle.strand_moves.specs.Cursors.{statements_left, scope_after}
use Rattle.strand_moves.specs.Found.{FindsTarget}

abbrev pub body_in : Option Function → List Stmt
body_in None = []
body_in (Some f) = f.body

-- a function's body, by its index in the script
abbrev pub body_of : PlanView → ℕ → List Stmt
body_of plan function = body_in (function_at (functions_of plan) function)

-- Open scopes stand here the innermost first.

-- the block of the innermost one of a function's open scopes, and the function's body where none is open
abbrev pub block_inside : List Stmt → List Level → List Stmt
block_inside body [] = body
block_inside body (l ∷ ls) = scope_after (block_inside body ls) l.cursor

abbrev pub levels_of : List Stmt → List Level → List meaning.Level
levels_of body [] = []
levels_of body (l ∷ ls) = record { rank = l.rank; left = statements_left (block_inside body ls) l.cursor } ∷ levels_of body ls

-- the statements among which a frame's cursor stands
abbrev pub statements_of : PlanView → Frame → List Stmt
statements_of plan a = block_inside (body_of plan a.function) (reverse a.levels.items)

-- a frame, by whether it is past the sync at the end of its innermost scope
abbrev pub frame_of : PlanView → Bool → Frame → meaning.Frame
frame_of plan leaving a = record {
  function = a.function;
  left = statements_left (statements_of plan a) a.cursor;
  levels = levels_of (body_of plan a.function) (reverse a.levels.items);
  leaving = leaving;
  returning = a.returning;
  env = a.env.variables;
  spawned = a.spawned;
  faulted = a.faulted;
  target = a.target;
}

abbrev pub machine_of : PlanView → InstanceParts → meaning.Machine
machine_of plan i = record {
  rank = i.rank;
  steps = i.steps;
  top = frame_of plan i.leaving i.top;
  below = map (frame_of plan false) (reverse i.below.items);
}

-- the open scopes of all these frames
abbrev pub scopes_of : List Frame → List Level
scopes_of [] = []
scopes_of (a ∷ below) = reverse a.levels.items ++ scopes_of below

abbrev pub open_scopes : InstanceParts → List Level
open_scopes i = scopes_of (i.top ∷ reverse i.below.items)

-- the present path
abbrev pub present_of : InstanceParts → List ℕ
present_of i = i.trail.path

-- the path around these scopes, by the path inside them
abbrev pub path_around : List Level → List ℕ → List ℕ
path_around [] here = here
path_around (l ∷ ls) here = path_around ls l.trail.path

-- the instance's path
abbrev pub path_of : InstanceParts → List ℕ
path_of i = path_around (open_scopes i) i.trail.path

-- this path is inside these scopes, whose trails are of the plan's coefficients
abbrev pub AreAround : PlanView → List Level → List ℕ → Type 0
AreAround plan [] here = Unit {0}
AreAround plan (l ∷ ls) here = (here ≡ l.trail.path ++ l.rank ∷ []) × FitsGamma plan.gamma l.trail × AreAround plan ls l.trail.path

-- the sum of the ranks from which an instance goes on after these scopes
abbrev pub ranks_after : List Level → ℕ
ranks_after [] = 0
ranks_after (l ∷ ls) = l.rank + 1 + ranks_after ls

-- A bound on what an instance's rank may come to, with those from which it goes on after its scopes: a rank costs a step, and the step of a
-- scope pays for the sync at its end. After that sync the rank in the scope doesn't count any more.
abbrev pub rank_bound : InstanceParts → ℕ
rank_bound i = (if i.leaving then 0 else i.rank) + i.steps + ranks_after (open_scopes i)

-- The strand of an instance: its trail is one of the plan's coefficients, it is in the depth, and its rank in 32 bits.
pub record IsStrand (plan : PlanView) (i : InstanceParts) : Type 0 where
  pub fits : FitsGamma plan.gamma i.trail
  pub within : length i.trail.path < length plan.gamma
  pub few : i.rank < 2 ^ 32

-- A frame's variables are those of its function.
pub record IsNamed (plan : PlanView) (a : Frame) : Type 0 where
  pub function : Function
  pub of_plan : function_at (functions_of plan) a.function ≡ Some function
  pub names : a.env.names ≡ variable_names function

-- The table has the slot of the caller's variable that a call's value goes to, if there is one.
abbrev pub IsNamedIn : PlanView → Frame → Option Name → Type 0
IsNamedIn plan caller target = FindsTarget (table_of_slots (functions_of plan)) caller.env target

-- the same for a frame with this target and for each frame below it, the innermost first
abbrev pub TargetsAreNamed : PlanView → Option Name → List Frame → Type 0
TargetsAreNamed plan target [] = Unit {0}
TargetsAreNamed plan target (caller ∷ below) = IsNamedIn plan caller target × TargetsAreNamed plan caller.target below

pub record AreNamed (plan : PlanView) (i : InstanceParts) : Type 0 where
  pub each : All (IsNamed plan) (i.top ∷ i.below.items)
  pub targets : TargetsAreNamed plan i.top.target (reverse i.below.items)

-- The variables of each frame stay those of its function.
abbrev pub KeepsNames : PlanView → InstanceParts → InstanceParts → Type 0
KeepsNames plan old new = AreNamed plan old → AreNamed plan new

-- An instance of this plan: its strand, and its open scopes. Where it is past the sync at the end of a scope, no statement is left in that scope.
pub record IsInstance (plan : PlanView) (i : InstanceParts) : Type 0 where
  pub strand : IsStrand plan i
  pub few : rank_bound i < 2 ^ 32
  pub around : AreAround plan (open_scopes i) i.trail.path
  pub leaving : i.leaving ≡ true → (statements_left (statements_of plan i.top) i.top.cursor ≡ []) × (i.top.levels.items ≡ [] → ⊥)
  pub named : AreNamed plan i
