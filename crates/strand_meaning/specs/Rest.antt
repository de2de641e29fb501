-- What remains of a task, as a run of the open tree, and what the task gives at its end.
use Rattle.std.specs.Prelude.{ℕ, ◌-◌, Bool, true, false, List, [], ◌∷◌, ◌++◌, Option, Some, None, Result, Ok, Err, length}
use Rattle.std.specs.Prelude.{pos}
use Rattle.script_grammar.specs.declared.tree.Name.{Name}
use Rattle.script_grammar.specs.declared.tree.Function.{Function}
use Rattle.serial_meaning.specs.Runs.{Run, done, after_items, ◌then◌}
use Rattle.serial_meaning.specs.Values.{value_of}
use Rattle.serial_meaning.specs.Functions.{function_at}
use Rattle.serial_meaning.specs.Plan.{PlanView, functions_of}
use Rattle.serial_meaning.specs.Exec.{State, unless_fault, paid, implied, goes_out, leaves, exec}
use Rattle.serial_meaning.specs.Eval.{Evaluation, path_of, loop_evaluation, eval_below, eval, depth_left}
use Rattle.serial_meaning.specs.Open.{Item, Happened, Child, Opened, Closed, NodeFault, Own, ChildFaulted, deferring}
use Rattle.serial_meaning.specs.declared.value.Value.{Value}
use Rattle.serial_meaning.specs.declared.value.Value.TheVariants.{Int}
use Rattle.serial_meaning.specs.declared.event.Fault.{Fault}
use Rattle.serial_meaning.specs.declared.event.Event.{Event}
use Rattle.serial_meaning.specs.declared.origin.Origin.{Origin}
use Rattle.serial_meaning.specs.declared.origin.Origin.TheVariants.{Instance, Loop}
use Rattle.loop_range.specs.Range.{Range}
use Rattle.script_check.specs.Spawns.{spawns_in}
use Rattle.strand_meaning.specs.Machine.{Level, Frame, Machine, inside_of, present, with_scalar}
use Rattle.strand_meaning.specs.Trace.{AwaitedChild, Trace}
use Rattle.strand_meaning.specs.Task.{Stage, Running, AtSync, AtLoop, Ended, Remaining, Splits, Runs, Finished, Task, own_instance, takes_all, resumed, more_values}

-- what an origin's children give: their evaluations
abbrev pub children_of : PlanView → Origin → Origin → Evaluation
children_of plan o = eval_below plan (depth_left plan o)

abbrev pub evaluations : (Origin → Evaluation) → List AwaitedChild → List Evaluation
evaluations child [] = []
evaluations child (p ∷ ps) = child p.child ∷ evaluations child ps

abbrev pub GaveValue : Result (List Value) Fault → Type 0
GaveValue (Ok vs) = Unit {0}
GaveValue (Err f) = ⊥

-- the evaluations of these children are values
abbrev pub GaveValues : (Origin → Evaluation) → List AwaitedChild → Type 0
GaveValues child [] = Unit {0}
GaveValues child (p ∷ ps) = GaveValue (child p.child).ending × GaveValues child ps

-- What remains of an instance, with its children's evaluations in place of their answers

module _ (plan : PlanView) (child : Origin → Evaluation) (path : List ℕ) where
  -- at the present path of a frame, outside its scopes
  abbrev pub valued : List ℕ → Option Function → State (Option Fault) → Run Item NodeFault (Value × State (Option Fault))
  valued here (Some f) s = unless_fault (deferring plan child) plan here (value_of f.result s.env) s λ v. done (v, s)
  valued here None s = done (Int (pos 0), s)

  -- a return, or what is left of it after its sync
  abbrev pub closes : List ℕ → Bool → Option Function → State (Option Fault) → Run Item NodeFault (Value × State (Option Fault))
  closes here false f s =
      paid (deferring plan child) plan here s λ s. implied (deferring plan child) plan here (spawns_in f) s then valued here f
  closes here true f s = valued here f s

  -- the end of a scope at this rank: its sync, unless that is done, and the way out
  abbrev pub level_end : Bool → List ℕ → ℕ → State (Option Fault) → Run Item NodeFault (State (Option Fault))
  level_end false here rank s = leaves (deferring plan child) plan here rank s
  level_end true here rank s = goes_out (deferring plan child) plan here rank s

  -- what follows the statements of the innermost of these open scopes: its end and the statements after it, and so on outwards
  abbrev pub outwards : List ℕ → ℕ → Bool → List Level → State (Option Fault) → Run Item NodeFault (State (Option Fault))
  outwards here calls leaving [] s = done s
  outwards here calls leaving (l ∷ ls) s =
      level_end leaving (inside_of here ls) l.rank s then λ s.
      exec (deferring plan child) plan (inside_of here ls) calls l.left s then
      outwards here calls false ls

  -- what follows the statements of a frame on top of these: the ends of its scopes, and its return
  abbrev pub afterwards : Frame → List Frame → State (Option Fault) → Run Item NodeFault (Value × State (Option Fault))
  afterwards a below s =
      outwards (present path below) (length below) a.leaving a.levels s then closes (present path below) a.returning (function_at (functions_of plan) a.function)

  -- a frame to its end: its statements left, and what follows them
  abbrev pub remains : Frame → List Frame → State (Option Fault) → Run Item NodeFault (Value × State (Option Fault))
  remains a below s = exec (deferring plan child) plan (inside_of (present path below) a.levels) (length below) a.left s then afterwards a below

  abbrev pub caller_state : Frame → Option Name → Value × State (Option Fault) → State (Option Fault)
  caller_state caller target r = record { env = with_scalar target r.0 caller.env; rank = r.1.rank; steps = r.1.steps; spawned = caller.faulted }

  -- the frames below it, from the value that the first of them gets
  abbrev pub remains_below : List Frame → Option Name → Value × State (Option Fault) → Run Item NodeFault Value
  remains_below [] target r = done r.0
  remains_below (caller ∷ below) target r = remains caller below (caller_state caller target r) then remains_below below caller.target

  -- what is known of a frame's children is the least fault among their answers
  abbrev pub open_state : Machine → State (Option Fault)
  open_state m = record { env = m.top.env; rank = m.rank; steps = m.steps; spawned = m.top.faulted }

  -- a machine whose children have all answered
  abbrev pub rest_of_machine : Machine → Run Item NodeFault Value
  rest_of_machine m = remains m.top m.below (open_state m) then remains_below m.below m.top.target

  abbrev pub rest_of_stage : Stage → Run Item NodeFault Value
  rest_of_stage (Running m) = rest_of_machine m
  rest_of_stage (AtSync m) = rest_of_machine m
  rest_of_stage (AtLoop m) = rest_of_machine m
  rest_of_stage (Ended ended) = record { items = []; ending = ended }

  abbrev pub rest_open : List AwaitedChild → Stage → Run Item NodeFault Value
  rest_open awaiting stage = rest_of_stage (resumed (takes_all awaiting (evaluations child awaiting) stage))

-- A run of the open tree with each child's evaluation in its place, up to the first fault

module _ (child : Origin → Evaluation) where
  abbrev pub closed_end : {A : Type 0} → Result A NodeFault → Result A Fault
  closed_end (Ok a) = Ok a
  closed_end (Err (Own f)) = Err f
  closed_end (Err (ChildFaulted f)) = Err f

  abbrev pub closed_at : {A : Type 0} → List Item → Result A NodeFault → Run Event Fault A
  closed_at [] ending = record { items = []; ending = closed_end ending }
  closed_at (Happened e ∷ items) ending = after_items (e ∷ []) (closed_at items ending)
  closed_at (Child o ∷ items) ending = child o then λ vs. closed_at items ending
  closed_at (Opened j ∷ items) ending = closed_at items ending
  closed_at (Closed j ∷ items) ending = closed_at items ending

  abbrev pub closed_run : {A : Type 0} → Run Item NodeFault A → Run Event Fault A
  closed_run r = closed_at r.items r.ending

-- What a task gives in the end

abbrev pub prefix_end : Option Fault → Result (Unit {0}) Fault
prefix_end None = Ok tt
prefix_end (Some f) = Err f

abbrev pub prefix_run : Trace → Run Event Fault (Unit {0})
prefix_run trace = record { items = trace.prefix; ending = prefix_end trace.fault }

module _ (child : Origin → Evaluation) where
  -- the children's evaluations and the events after them, with the values of a loop's parts after those that were taken
  abbrev pub awaited_run : List AwaitedChild → List Value → Run Event Fault (List Value)
  awaited_run [] values = done values
  awaited_run (p ∷ ps) values = child p.child then λ vs. after_items p.after (awaited_run ps (more_values p.destination (Ok vs) values))

  -- the iterations of a loop that nobody has begun
  abbrev pub iterations_left : Origin → Range → Evaluation
  iterations_left (Instance function args path) left = done []
  iterations_left (Loop function rest first path range) left = loop_evaluation child function rest first path left.lo (left.hi - left.lo)

-- an instance's value alone, or after those of a loop's other iterations
abbrev pub all_with : Origin → List Value → Value → List Value
all_with (Instance function args path) values v = v ∷ []
all_with (Loop function rest first path range) values v = values ++ v ∷ []

-- what remains
abbrev pub remaining_run : PlanView → Origin → List AwaitedChild → Remaining → List Value → Evaluation
remaining_run plan o awaiting (Splits left) values = iterations_left (eval plan) o left then λ vs. done (values ++ vs)
remaining_run plan o awaiting (Runs stage) values =
    let child = children_of plan (own_instance o) in
    closed_run child (rest_open plan child (path_of (own_instance o)) awaiting stage) then λ v. done (all_with o values v)
remaining_run plan o awaiting (Finished v has_waited) values = done (values ++ v ∷ [])

-- A trace with each child's evaluation in its place, followed by what remains, up to the first fault.
abbrev pub finish : Task → Evaluation
finish t = prefix_run t.trace then λ u. awaited_run (eval t.plan) t.trace.unmerged t.values then remaining_run t.plan t.origin t.trace.unmerged t.remaining
