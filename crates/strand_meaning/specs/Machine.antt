-- An instance as a machine: a stack of frames that makes one move at a time. A statement means what it does in the serial elision and
-- in the open tree, by the same definitions in a third interpretation: children are begun, and what is inside a block, an iteration or a
-- callee is left for the machine's next moves.
use Rattle.std.specs.Prelude.{ℕ, Bool, true, false, List, [], ◌∷◌, ◌++◌, Option, Some, None, Result, Ok, Err, length}
use Rattle.std.specs.Prelude.{pos}
use Rattle.script_grammar.specs.declared.tree.Name.{Name}
use Rattle.script_grammar.specs.declared.tree.CallText.{CallText}
use Rattle.script_grammar.specs.declared.tree.Function.{Function}
use Rattle.script_grammar.specs.declared.tree.Right.TheVariants as right
use Rattle.script_grammar.specs.declared.tree.Stmt.{Stmt, out-Stmt}
use Rattle.script_grammar.specs.declared.tree.Act.{Act, out-Act}
use Rattle.script_grammar.specs.declared.tree.Act.TheOpen as act
use Rattle.script_grammar.specs.declared.tree.Act.TheOpen.{Act-F}
use Rattle.script_check.specs.Spawns.{spawns_in}
use Rattle.serial_meaning.specs.Runs.{Run, done, run_ends_by, happens}
use Rattle.serial_meaning.specs.Values.{Env, value_of}
use Rattle.serial_meaning.specs.Functions.{function_number, function_at}
use Rattle.serial_meaning.specs.Plan.{PlanView, functions_of}
use Rattle.serial_meaning.specs.Exec.{State, Interpretation, BlockMeaning, with_content, bound, unless_fault, paid, implied, sync_at, goes_out, statement}
use Rattle.serial_meaning.specs.Open.{placeholder, is_empty_loop}
use Rattle.serial_meaning.specs.declared.value.Value.{Value}
use Rattle.serial_meaning.specs.declared.value.Value.TheVariants.{Int}
use Rattle.serial_meaning.specs.declared.environment.Content.TheVariants.{Scalar}
use Rattle.serial_meaning.specs.declared.event.Fault.{Fault}
use Rattle.serial_meaning.specs.declared.event.Event.{Event}
use Rattle.serial_meaning.specs.declared.origin.Origin.{Origin}

-- The interpretation

-- where a child's value goes: into a variable, if any, of the frame with this many below it, which spawned it; into an array, if
-- any, of the innermost frame, whose loop it is; or among the values of the loop that it is a part of
pub data Destination : Type 0 where
  Spawned : ℕ → Option Name → Destination
  Looped : Option Name → Destination
  Half : Destination

-- what a move shows: an event, a child, a wait at a sync, a wait at a loop's end, and where a scope begins and has ended
pub data Effect : Type 0 where
  Opens : List ℕ → Effect
  Closes : List ℕ → Effect
  Emitted : Event → Effect
  Starts : Origin → Destination → Effect
  Syncs : Effect
  Loops : Effect

-- How a statement is left early: by a fault, or to go inside, to these statements, at a present path and with this many open calls,
-- from this state.
pub data Exit : Type 0 where
  Faulted : Fault → Exit
  Inside : List ℕ → ℕ → List Stmt → State Bool → Exit

abbrev pub loop_effects : Bool → Origin → Destination → List Effect
loop_effects true o destination = []
loop_effects false o destination = Starts o destination ∷ Loops ∷ []

abbrev pub sync_effects : Bool → List Effect
sync_effects true = Syncs ∷ []
sync_effects false = []

-- Children are begun, with a placeholder for a spawned child's value. A loop's values aren't put in yet. The state tells whether
-- there was a spawn since the last sync, and only then a sync waits.
abbrev pub parallel : PlanView → Destination → Interpretation Effect Exit Bool
parallel plan destination = record {
  event = Emitted;
  opens = λ j. Opens j ∷ [];
  closes = λ j. Closes j ∷ [];
  own = Faulted;
  none = false;
  spawn = λ o k. happens (Starts o destination) (placeholder plan o, true);
  loop = λ o. record { items = loop_effects (is_empty_loop o) o destination; ending = Ok [] };
  sync = λ k. record { items = sync_effects k; ending = Ok false };
}

-- what is inside a statement isn't run, but left for the next moves
abbrev pub inside : BlockMeaning Effect Exit Bool
inside here calls sts s = run_ends_by (Inside here calls sts s)

abbrev pub child_destination : ℕ → Act-F Act Stmt → Destination
child_destination height (act.Let x r) = Spawned height (Some x)
child_destination height (act.Array x n) = Spawned height None
child_destination height (act.Set x r) = Spawned height (Some x)
child_destination height (act.Store x i e) = Spawned height None
child_destination height (act.Spawn c) = Spawned height None
child_destination height (act.Call c) = Spawned height None
child_destination height act.Sync = Spawned height None
child_destination height (act.Print e) = Spawned height None
child_destination height (act.If e a b) = Spawned height None
child_destination height (act.While e a) = Spawned height None
child_destination height (act.Pfor x lo hi target c) = Looped target
child_destination height (act.Scope a) = Spawned height None

-- The stack of frames

-- An open scope of a frame: the rank of the strand that came to it, and the statements left after it.
pub record Level : Type 0 where
  pub rank : ℕ
  pub left : List Stmt

-- A function under way: its index in the script; the statements left in its innermost open scope; its open scopes, the innermost
-- first; whether it is past the sync at the end of that one; whether it is past all these and the sync that its return implies; its
-- variables; whether it spawned since its own last sync, and the least fault among the answers of these children that were taken;
-- and the variable of the frame below it that its value goes to.
pub record Frame : Type 0 where
  pub function : ℕ
  pub left : List Stmt
  pub levels : List Level
  pub leaving : Bool
  pub returning : Bool
  pub env : Env
  pub spawned : Bool
  pub faulted : Option Fault
  pub target : Option Name

-- an instance's rank, its steps left, its innermost frame and the others outwards from it, whose calls are open
pub record Machine : Type 0 where
  pub rank : ℕ
  pub steps : ℕ
  pub top : Frame
  pub below : List Frame

-- after a move: a machine, or the instance's value
pub data Reached : Type 0 where
  Stands : Machine → Reached
  Gives : Value → Reached

abbrev pub state_of : Machine → State Bool
state_of m = record { env = m.top.env; rank = m.rank; steps = m.steps; spawned = m.top.spawned }

-- Paths

-- the path inside open scopes
abbrev pub inside_of : List ℕ → List Level → List ℕ
inside_of path [] = path
inside_of path (l ∷ ls) = inside_of path ls ++ l.rank ∷ []

-- the present path of the innermost of these frames, in an instance with that path
abbrev pub present : List ℕ → List Frame → List ℕ
present path [] = path
present path (a ∷ below) = inside_of (present path below) a.levels

-- the present path
abbrev pub here_of : List ℕ → Machine → List ℕ
here_of path m = inside_of (present path m.below) m.top.levels

-- the innermost frame continues with these statements, from this state
abbrev pub with_left : Machine → List Stmt → State Bool → Machine
with_left m left s = record m { rank = s.rank; steps = s.steps; top = record m.top { left = left; env = s.env; spawned = s.spawned } }

-- the innermost frame continues in a scope, after which these statements are left
abbrev pub into_level : Machine → List Stmt → List Stmt → State Bool → Machine
into_level m after inner s = record m {
  rank = s.rank;
  steps = s.steps;
  top = record m.top { left = inner; levels = record { rank = m.rank; left = after } ∷ m.top.levels; env = s.env; spawned = s.spawned };
}

-- the innermost frame is past the sync at the end of its innermost scope
abbrev pub with_leaving : Machine → State Bool → Machine
with_leaving m s = record m { rank = s.rank; steps = s.steps; top = record m.top { leaving = true; env = s.env; spawned = s.spawned } }

-- the innermost frame continues after its innermost scope
abbrev pub out_of_level : Machine → Level → List Level → State Bool → Machine
out_of_level m l ls s = record m { rank = s.rank; steps = s.steps; top = record m.top { left = l.left; levels = ls; leaving = false; env = s.env; spawned = s.spawned } }

-- the innermost frame has paid its return's step, and is past its last sync
abbrev pub with_returning : Machine → State Bool → Machine
with_returning m s = record m { rank = s.rank; steps = s.steps; top = record m.top { returning = true; env = s.env; spawned = s.spawned } }

abbrev pub with_scalar : Option Name → Value → Env → Env
with_scalar None v env = env
with_scalar (Some x) v env = with_content env x.bytes (Scalar v)

-- the value of a frame that ended goes to the one below it, which continues
abbrev pub back_in_caller : List Frame → Option Name → Value → ℕ → ℕ → Reached
back_in_caller [] target v rank steps = Gives v
back_in_caller (caller ∷ below) target v rank steps = Stands (record { rank = rank; steps = steps; top = record caller { env = with_scalar target v caller.env }; below = below })

module _ (plan : PlanView) where
  -- a new frame on top of the one that calls
  abbrev pub calling : Option Name → CallText → List Stmt → Machine → List Stmt → State Bool → Machine
  calling target c left m body s = record {
    rank = s.rank;
    steps = s.steps;
    top = record { function = function_number (functions_of plan) c.name.bytes; left = body; levels = []; leaving = false; returning = false; env = s.env; spawned = s.spawned; faulted = None; target = target };
    below = record m.top { left = left } ∷ m.below;
  }

  -- what a statement leads into: a callee's body; the body of a loop, which then comes again; a scope; or a block
  abbrev pub machine_inside : Stmt → Act-F Act Stmt → List Stmt → Machine → List Stmt → State Bool → Machine
  machine_inside st (act.Let x (right.Call at c)) left m inner s = calling (Some x) c left m inner s
  machine_inside st (act.Set x (right.Call at c)) left m inner s = calling (Some x) c left m inner s
  machine_inside st (act.Call c) left m inner s = calling None c left m inner s
  machine_inside st (act.While e a) left m inner s = with_left m (inner ++ st ∷ left) s
  machine_inside st (act.Scope a) left m inner s = into_level m left inner s
  machine_inside st a left m inner s = with_left m (inner ++ left) s

  abbrev pub reached : (State Bool → Machine) → (List Stmt → State Bool → Machine) → Result (State Bool) Exit → Result Reached Fault
  reached on into (Ok s) = Ok (Stands (on s))
  reached on into (Err (Faulted f)) = Err f
  reached on into (Err (Inside here calls inner s)) = Ok (Stands (into inner s))

  abbrev pub gives : Machine → Result (Value × State Bool) Exit → Result Reached Fault
  gives m (Ok r) = Ok (back_in_caller m.below m.top.target r.0 r.1.rank r.1.steps)
  gives m (Err (Faulted f)) = Err f
  gives m (Err (Inside here calls inner s)) = Ok (Stands m)

  module _ (path : List ℕ) where
    abbrev pub act_run : Machine → Stmt → Act-F Act Stmt → Run Effect Exit (State Bool)
    act_run m st a = statement (parallel plan (child_destination (length m.below) a)) plan (here_of path m) inside (length m.below) st (state_of m)

    -- the step of a return and the sync that it implies
    abbrev pub return_run : Machine → Run Effect Exit (State Bool)
    return_run m =
        let how = parallel plan (Spawned (length m.below) None) in
        paid how plan (here_of path m) (state_of m) λ s. implied how plan (here_of path m) (spawns_in (function_at (functions_of plan) m.top.function)) s

    -- the value of a return
    abbrev pub value_run : Option Function → Machine → Run Effect Exit (Value × State Bool)
    value_run (Some f) m = unless_fault (parallel plan (Spawned (length m.below) None)) plan (here_of path m) (value_of f.result m.top.env) (state_of m) λ v. done (v, state_of m)
    value_run None m = done (Int (pos 0), state_of m)

    abbrev pub statement_move : Machine → Stmt → List Stmt → Run Effect Fault Reached
    statement_move m st left =
        let a = out-Act (out-Stmt st).act in
        let r = act_run m st a in record { items = r.items; ending = reached (with_left m left) (machine_inside st a left m) r.ending }

    abbrev pub return_move : Machine → Bool → Run Effect Fault Reached
    return_move m false = let r = return_run m in record { items = r.items; ending = reached (with_returning m) (λ inner s. m) r.ending }
    return_move m true = let r = value_run (function_at (functions_of plan) m.top.function) m in record { items = r.items; ending = gives m r.ending }

    -- at the end of the innermost scope: its sync; and then the way out
    abbrev pub level_move : Machine → Level → List Level → Bool → Run Effect Fault Reached
    level_move m l ls false =
        let how = parallel plan (Spawned (length m.below) None) in
        let r = sync_at how plan (present path m.below) (here_of path m) (state_of m) in
        record { items = r.items; ending = reached (with_leaving m) (λ inner s. m) r.ending }
    level_move m l ls true =
        let how = parallel plan (Spawned (length m.below) None) in
        let r = goes_out how plan (inside_of (present path m.below) ls) l.rank (state_of m) in
        record { items = r.items; ending = reached (out_of_level m l ls) (λ inner s. m) r.ending }

    -- with no statement left
    abbrev pub end_move : Machine → List Level → Run Effect Fault Reached
    end_move m [] = return_move m m.top.returning
    end_move m (l ∷ ls) = level_move m l ls m.top.leaving

    abbrev pub move_at : Machine → List Stmt → Run Effect Fault Reached
    move_at m [] = end_move m m.top.levels
    move_at m (st ∷ left) = statement_move m st left

    -- One move: a statement; the sync at the end of a scope; the way out of it; the step and sync of a return; or its value.
    abbrev pub move : Machine → Run Effect Fault Reached
    move m = move_at m m.top.left

-- an instance before its first move, or its value where its function doesn't exist
abbrev pub function_begun : PlanView → ℕ → List Value → Reached
function_begun plan function args = from (function_at (functions_of plan) function)
  where
    from : Option Function → Reached
    from (Some f) = Stands (record {
      rank = 0;
      steps = plan.limits.budget;
      top = record { function = function; left = f.body; levels = []; leaving = false; returning = false; env = bound f.params args; spawned = false; faulted = None; target = None };
      below = [];
    })
    from None = Gives (Int (pos 0))
