-- Tasks: what an origin has done, and what remains.
use Rattle.std.specs.Prelude.{◌≡◌, ℕ, zero, suc, ◌-◌, Bool, true, false, nat_eq, List, [], ◌∷◌, ◌++◌, Option, Some, None, Result, Ok, Err, length, if◌then◌else◌}
use Rattle.std.specs.Str.{bytes_eq}
use Rattle.loop_range.specs.Range.{Range, lower_half, upper_half}
use Rattle.script_grammar.specs.declared.tree.Name.{Name}
use Rattle.serial_meaning.specs.Values.{Env}
use Rattle.serial_meaning.specs.Plan.{PlanView}
use Rattle.serial_meaning.specs.Exec.{with_loop_values}
use Rattle.serial_meaning.specs.Eval.{Evaluation, first_value, iteration, path_of}
use Rattle.serial_meaning.specs.Open.{NodeFault, Own, ChildFaulted, least}
use Rattle.serial_meaning.specs.declared.value.Value.{Value}
use Rattle.serial_meaning.specs.declared.environment.Content.{Content}
use Rattle.serial_meaning.specs.declared.environment.Content.TheVariants.{Scalar}
use Rattle.serial_meaning.specs.declared.event.Fault.{Fault}
use Rattle.serial_meaning.specs.declared.event.Event.{Event}
use Rattle.serial_meaning.specs.declared.origin.Origin.{Origin}
use Rattle.serial_meaning.specs.declared.origin.Origin.TheVariants.{Instance, Loop}
use Rattle.serial_meaning.specs.declared.answer.Outcome.{Outcome}
use Rattle.serial_meaning.specs.declared.answer.Outcome.TheVariants as outcome
use Rattle.strand_meaning.specs.Machine.{Destination, Spawned, Looped, Half, Effect, Opens, Closes, Emitted, Starts, Syncs, Loops, Frame, Machine, Reached, Stands, Gives, function_begun, move}
use Rattle.strand_meaning.specs.Trace.{AwaitedChild, Trace, no_trace, with_effects, add_child, merged_answers}

-- what an instance is at: it runs; it waits at a sync, or for a loop; or it has ended, with a value or as a node of the open tree
-- ends
pub data Stage : Type 0 where
  Running : Machine → Stage
  AtSync : Machine → Stage
  AtLoop : Machine → Stage
  Ended : Result Value NodeFault → Stage

-- What remains: iterations of a loop that nobody has begun; an instance, which is the task's own or the loop's last iteration; or
-- nothing, of a loop whose last iteration gave this value, and whether the wait at its end is over.
pub data Remaining : Type 0 where
  Splits : Range → Remaining
  Runs : Stage → Remaining
  Finished : Value → Bool → Remaining

-- A task: its plan, its origin, its trace and what remains; the values of those iterations of a loop whose answers were taken, in order;
-- whether it waits; and whether it has run.
pub record Task : Type 0 where
  pub plan : PlanView
  pub origin : Origin
  pub trace : Trace
  pub values : List Value
  pub remaining : Remaining
  pub waiting : Bool
  pub advanced : Bool

-- The beginning

abbrev pub begun_stage : Reached → Stage
begun_stage (Stands m) = Running m
begun_stage (Gives v) = Ended (Ok v)

abbrev pub begun_remaining : PlanView → Origin → Remaining
begun_remaining plan (Instance function args path) = Runs (begun_stage (function_begun plan function args))
begun_remaining plan (Loop function rest first path range) = Splits range

abbrev pub start : PlanView → Origin → Task
start plan o = record { plan = plan; origin = o; trace = no_trace; values = []; remaining = begun_remaining plan o; waiting = false; advanced = false }

-- the instance that the task of this origin runs itself: a loop's task runs the last iteration
abbrev pub own_instance : Origin → Origin
own_instance (Instance function args path) = Instance function args path
own_instance (Loop function rest first path range) = iteration function rest first path (range.hi - 1)

-- The next stop

-- a child to be begun, and the task after that; a wait; or the end, with all events and the outcome
pub data Stop : Type 0 where
  Spawn : Origin → Task → Stop
  Wait : Task → Stop
  End : List Event → Outcome → Stop

pub data MoveOrStop : Type 0 where
  Passes : Task → MoveOrStop
  Stops : Stop → MoveOrStop

-- a stage after a move with these effects
abbrev pub stage_after : List Effect → Machine → Stage
stage_after [] m = Running m
stage_after (Opens j ∷ ts) m = stage_after ts m
stage_after (Closes j ∷ ts) m = stage_after ts m
stage_after (Emitted e ∷ ts) m = stage_after ts m
stage_after (Starts o destination ∷ ts) m = stage_after ts m
stage_after (Syncs ∷ ts) m = AtSync m
stage_after (Loops ∷ ts) m = AtLoop m

abbrev pub child_in : List Effect → Option Origin
child_in [] = None
child_in (Opens j ∷ ts) = child_in ts
child_in (Closes j ∷ ts) = child_in ts
child_in (Emitted e ∷ ts) = child_in ts
child_in (Starts o destination ∷ ts) = Some o
child_in (Syncs ∷ ts) = child_in ts
child_in (Loops ∷ ts) = child_in ts

abbrev pub stops_at : Option Origin → Task → MoveOrStop
stops_at (Some o) t = Stops (Spawn o t)
stops_at None t = Passes t

abbrev pub passing : Task → List Effect → Remaining → Task
passing t effects remaining = record t { trace = with_effects effects t.trace; remaining = remaining; advanced = true }

abbrev pub step_result : Task → List Effect → Result Reached Fault → MoveOrStop
step_result t effects (Ok (Stands m)) = stops_at (child_in effects) (passing t effects (Runs (stage_after effects m)))
step_result t effects (Ok (Gives v)) = Passes (passing t effects (Runs (Ended (Ok v))))
step_result t effects (Err f) = Passes (passing t effects (Runs (Ended (Err (Own f)))))

abbrev pub waits : Task → MoveOrStop
waits t = Stops (Wait (record t { waiting = true; advanced = true }))

-- the end, with no child's answer outstanding: by the fault in the trace, or else with this outcome
abbrev pub ends_unless : Option Fault → Task → Outcome → MoveOrStop
ends_unless (Some f) t ended = Stops (End t.trace.prefix (outcome.Fault f))
ends_unless None t ended = Stops (End t.trace.prefix ended)

abbrev pub ends : Task → Outcome → MoveOrStop
ends t ended = ends_unless t.trace.fault t ended

-- a fault of the instance's own ends the task, once the children begun since the last wait have answered
abbrev pub faults_after : List AwaitedChild → Task → Fault → MoveOrStop
faults_after [] t f = ends t (outcome.Fault f)
faults_after (p ∷ ps) t f = waits t

-- the instance that the task ran returned a value
abbrev pub returned : Task → Origin → Value → MoveOrStop
returned t (Instance function args path) v = ends t (outcome.Value v)
returned t (Loop function rest first path range) v = Passes (record t { remaining = Finished v false; advanced = true })

abbrev pub stage_step : Task → Stage → MoveOrStop
stage_step t (Running m) = let r = move t.plan (path_of (own_instance t.origin)) m in step_result t r.items r.ending
stage_step t (AtSync m) = waits t
stage_step t (AtLoop m) = waits t
stage_step t (Ended (Ok v)) = returned t t.origin v
stage_step t (Ended (Err (Own f))) = faults_after t.trace.unmerged t f
stage_step t (Ended (Err (ChildFaulted f))) = ends t (outcome.Fault f)

-- While two iterations of a loop are left, half of them is begun as a child. The task runs the last one itself.
abbrev pub first_half : Origin → Range → Origin
first_half (Instance function args path) left = Instance function args path
first_half (Loop function rest first path range) left = Loop function rest first path (lower_half left)

abbrev pub begins_last : PlanView → Origin → Remaining
begins_last plan o = begun_remaining plan (own_instance o)

abbrev pub split_step : Task → Range → ℕ → MoveOrStop
split_step t left zero = ends t (outcome.Values t.values)
split_step t left (suc zero) = Passes (record t { remaining = begins_last t.plan t.origin; advanced = true })
split_step t left (suc (suc n)) =
    let o = first_half t.origin left in Stops (Spawn o (record t { trace = add_child o Half t.trace; remaining = Splits (upper_half left); advanced = true }))

-- the last iteration is over: a loop of two iterations or more first waits for the part that it began as a child
abbrev pub over_step : Task → Value → Origin → MoveOrStop
over_step t v (Instance function args path) = ends t (outcome.Values (t.values ++ v ∷ []))
over_step t v (Loop function rest first path range) = by_size (range.hi - range.lo)
  where
    by_size : ℕ → MoveOrStop
    by_size zero = ends t (outcome.Values (t.values ++ v ∷ []))
    by_size (suc zero) = ends t (outcome.Values (t.values ++ v ∷ []))
    by_size (suc (suc n)) = waits t

abbrev pub remaining_step : Task → Remaining → MoveOrStop
remaining_step t (Splits left) = split_step t left (left.hi - left.lo)
remaining_step t (Runs stage) = stage_step t stage
remaining_step t (Finished v true) = ends t (outcome.Values (t.values ++ v ∷ []))
remaining_step t (Finished v false) = over_step t v t.origin

-- One move, or a stop.
abbrev pub step : Task → MoveOrStop
step t = remaining_step t t.remaining

-- the stop that a task comes to: at once, or after moves
pub data IsNext : Task → Stop → Type 0 where
  Now : {t : Task} {stop : Stop} → step t ≡ Stops stop → IsNext t stop
  Later : {t : Task} {stop : Stop} (next : Task) → step t ≡ Passes next → IsNext next stop → IsNext t stop

-- After a wait

-- the frame with this many below it, changed
abbrev pub changed_at : ℕ → (Frame → Frame) → List Frame → List Frame
changed_at height change [] = []
changed_at height change (a ∷ below) = if nat_eq height (length below) then change a ∷ below else a ∷ changed_at height change below

abbrev pub changed : ℕ → (Frame → Frame) → Machine → Machine
changed height change m =
    if nat_eq height (length m.below) then record m { top = change m.top } else record m { below = changed_at height change m.below }

-- a variable's new value, if the variable exists
abbrev pub replaced : Env → List ℕ → Content → Env
replaced [] name content = []
replaced (v ∷ vs) name content = if bytes_eq v.name name then record v { content = content } ∷ vs else v ∷ replaced vs name content

abbrev pub with_answer : Option Name → Value → Env → Env
with_answer None v env = env
with_answer (Some x) v env = replaced env x.bytes (Scalar v)

-- a frame that takes the answer of a child that it spawned
abbrev pub frame_with_answer : Option Name → Result (List Value) Fault → Frame → Frame
frame_with_answer target (Ok vs) a = record a { env = with_answer target (first_value vs) a.env }
frame_with_answer target (Err f) a = record a { faulted = Some (least a.faulted f) }

abbrev pub in_machine : (Machine → Machine) → Stage → Stage
in_machine change (Running m) = Running (change m)
in_machine change (AtSync m) = AtSync (change m)
in_machine change (AtLoop m) = AtLoop (change m)
in_machine change (Ended e) = Ended e

abbrev pub with_values : Option Name → List Value → Machine → Machine
with_values target vs m = record m { top = record m.top { env = with_loop_values target vs m.top.env } }

abbrev pub takes : Destination → Result (List Value) Fault → Stage → Stage
takes (Spawned height target) ended stage = in_machine (changed height (frame_with_answer target ended)) stage
takes (Looped target) (Ok vs) stage = in_machine (with_values target vs) stage
takes (Looped target) (Err f) stage = Ended (Err (ChildFaulted f))
takes Half ended stage = stage

abbrev pub pass_sync : Option Fault → Machine → Stage
pass_sync None m = Running m
pass_sync (Some f) m = Ended (Err (ChildFaulted f))

-- A wait is over: the instance ends at a sync where a child of this frame faulted, and else continues.
abbrev pub resumed : Stage → Stage
resumed (Running m) = Running m
resumed (AtSync m) = pass_sync m.top.faulted m
resumed (AtLoop m) = Running m
resumed (Ended e) = Ended e

abbrev pub takes_all : List AwaitedChild → List Evaluation → Stage → Stage
takes_all [] answers stage = stage
takes_all (p ∷ ps) [] stage = stage
takes_all (p ∷ ps) (answer ∷ answers) stage = takes_all ps answers (takes p.destination answer.ending stage)

abbrev pub resumed_remaining : List AwaitedChild → List Evaluation → Remaining → Remaining
resumed_remaining awaiting answers (Splits left) = Splits left
resumed_remaining awaiting answers (Runs stage) = Runs (resumed (takes_all awaiting answers stage))
resumed_remaining awaiting answers (Finished v has_waited) = Finished v true

abbrev pub more_values : Destination → Result (List Value) Fault → List Value → List Value
more_values (Spawned height target) ended values = values
more_values (Looped target) ended values = values
more_values Half (Ok vs) values = values ++ vs
more_values Half (Err f) values = values

abbrev pub all_values : List AwaitedChild → List Evaluation → List Value → List Value
all_values [] answers values = values
all_values (p ∷ ps) [] values = values
all_values (p ∷ ps) (answer ∷ answers) values = all_values ps answers (more_values p.destination answer.ending values)

-- The task once its wait is over, with the answers of its children, in order.
abbrev pub on : List Evaluation → Task → Task
on answers t =
    let awaiting = t.trace.unmerged in record t {
      trace = merged_answers awaiting answers (record t.trace { unmerged = [] });
      values = all_values awaiting answers t.values;
      remaining = resumed_remaining awaiting answers t.remaining;
      waiting = false;
    }
