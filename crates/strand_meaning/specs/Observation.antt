-- What an instance's task shows on its way to its next stop, as a part of its node of the open tree.
use Rattle.std.specs.Prelude.{◌≡◌, ℕ, List, [], ◌∷◌, ◌++◌, Option, Some, None, Result, Ok, Err}
use Rattle.serial_meaning.specs.Runs.{done, after_items, ◌then◌}
use Rattle.serial_meaning.specs.Plan.{PlanView}
use Rattle.serial_meaning.specs.Eval.{path_of}
use Rattle.serial_meaning.specs.Open.{Item, Happened, Child, Opened, Closed, NodeFault, Own, ChildFaulted, Node, node_of, led_to, without_last}
use Rattle.serial_meaning.specs.declared.event.Fault.{Fault}
use Rattle.serial_meaning.specs.declared.origin.Origin.{Origin}
use Rattle.serial_meaning.specs.declared.origin.Origin.TheVariants.{Instance, Loop}
use Rattle.strand_meaning.specs.Machine.{Effect, Opens, Closes, Emitted, Starts, Syncs, Loops, Reached, move}
use Rattle.strand_meaning.specs.Trace.{AwaitedChild}
use Rattle.strand_meaning.specs.Task.{Stage, Running, AtSync, AtLoop, Ended, Remaining, Splits, Runs, Finished, Task, own_instance, Passes, Stops, Stop, Spawn, Wait, End, step}
use Rattle.strand_meaning.specs.Rest.{children_of, rest_open}
use Rattle.strand_meaning.specs.Strands.{fault_of_child}

-- The node

-- an instance, and not a loop
abbrev pub IsInstanceOrigin : Origin → Type 0
IsInstanceOrigin (Instance function args path) = Unit {0}
IsInstanceOrigin (Loop function rest first path range) = ⊥

-- The rest of the node of an instance's task: the open tree of what remains, with the children's evaluations as their answers.
abbrev pub remaining_node : PlanView → Origin → List AwaitedChild → Remaining → Node
remaining_node plan o awaiting (Splits left) = done []
remaining_node plan o awaiting (Runs stage) = rest_open plan (children_of plan o) (path_of o) awaiting stage then λ v. done (v ∷ [])
remaining_node plan o awaiting (Finished v has_waited) = done []

abbrev pub node_left : Task → Node
node_left t = remaining_node t.plan t.origin t.trace.unmerged t.remaining

-- Observations

-- What is observed of a task: the items of the open tree that it showed, its own fault once it came to that, and the child's fault
-- by which it ended.
pub record Observation : Type 0 where
  pub items : List Item
  pub fault : Option Fault
  pub child_fault : Option Fault

abbrev pub no_observation : Observation
no_observation = record { items = []; fault = None; child_fault = None }

abbrev pub newest : Option Fault → Option Fault → Option Fault
newest old None = old
newest old (Some f) = Some f

-- observations, followed by later ones
abbrev pub also : Observation → Observation → Observation
also observation later = record { items = observation.items ++ later.items; fault = newest observation.fault later.fault; child_fault = newest observation.child_fault later.child_fault }

abbrev pub effect_items : List Effect → List Item
effect_items [] = []
effect_items (Opens j ∷ ts) = Opened j ∷ effect_items ts
effect_items (Closes j ∷ ts) = Closed j ∷ effect_items ts
effect_items (Emitted e ∷ ts) = Happened e ∷ effect_items ts
effect_items (Starts o destination ∷ ts) = Child o ∷ effect_items ts
effect_items (Syncs ∷ ts) = effect_items ts
effect_items (Loops ∷ ts) = effect_items ts

abbrev pub move_fault : Result Reached Fault → Option Fault
move_fault (Ok reached) = None
move_fault (Err f) = Some f

-- what one move or stop shows: a move its effects and the instance's own fault, and an end the fault of a child
abbrev pub stage_observation : PlanView → List ℕ → Stage → Observation
stage_observation plan path (Running m) = let r = move plan path m in record { items = effect_items r.items; fault = move_fault r.ending; child_fault = None }
stage_observation plan path (AtSync m) = no_observation
stage_observation plan path (AtLoop m) = no_observation
stage_observation plan path (Ended (Ok v)) = no_observation
stage_observation plan path (Ended (Err (Own f))) = no_observation
stage_observation plan path (Ended (Err (ChildFaulted f))) = record { items = []; fault = None; child_fault = Some f }

abbrev pub remaining_observation : PlanView → List ℕ → Remaining → Observation
remaining_observation plan path (Splits left) = no_observation
remaining_observation plan path (Runs stage) = stage_observation plan path stage
remaining_observation plan path (Finished v has_waited) = no_observation

abbrev pub step_observation : Task → Observation
step_observation t = remaining_observation t.plan (path_of (own_instance t.origin)) t.remaining

-- the stop that a task comes to, at once or after moves, with what is observed on the way
pub data Shows : Task → Observation → Stop → Type 0 where
  Now : {t : Task} {observation : Observation} {stop : Stop} → step t ≡ Stops stop → observation ≡ step_observation t → Shows t observation stop
  Later : {t : Task} {observation : Observation} {stop : Stop} (next : Task) (later : Observation) → step t ≡ Passes next → Shows next later stop → observation ≡ also (step_observation t) later → Shows t observation stop

-- What observations say of the instance's strands

abbrev pub places_unless : Option Fault → List (List ℕ) → List (List ℕ)
places_unless None js = js
places_unless (Some f) js = without_last js

-- The pedigrees that an instance with this path is observed to have come to. While it waits for children it is already at the one
-- after the wait; where it ends by a child's fault it never comes there.
abbrev pub places_observed : List ℕ → Observation → List (List ℕ)
places_observed path observation = places_unless observation.child_fault ((path ++ 0 ∷ []) ∷ led_to (path ++ 0 ∷ []) observation.items)

-- A task on its way

-- the fault of its own by which an instance ended
abbrev pub own_fault_of : {A : Type 0} → Result A NodeFault → Option Fault
own_fault_of (Ok a) = None
own_fault_of (Err (Own f)) = Some f
own_fault_of (Err (ChildFaulted f)) = None

abbrev pub stage_fault : Stage → Option Fault
stage_fault (Running m) = None
stage_fault (AtSync m) = None
stage_fault (AtLoop m) = None
stage_fault (Ended e) = own_fault_of e

abbrev pub remaining_fault : Remaining → Option Fault
remaining_fault (Splits left) = None
remaining_fault (Runs stage) = stage_fault stage
remaining_fault (Finished v has_waited) = None

-- All that an instance's task showed since it began is observed: its node is that, followed by the node of what is left.
pub record IsOnWay (observation : Observation) (t : Task) : Type 0 where
  pub node : node_of t.plan t.origin ≡ after_items observation.items (node_left t)
  pub fault : observation.fault ≡ remaining_fault t.remaining
  pub child_fault : observation.child_fault ≡ None

-- All that an instance showed is observed: its node has these items and ends by these faults.
pub record IsAllObserved (plan : PlanView) (o : Origin) (observation : Observation) : Type 0 where
  pub items : (node_of plan o).items ≡ observation.items
  pub fault : own_fault_of (node_of plan o).ending ≡ observation.fault
  pub child_fault : fault_of_child (node_of plan o).ending ≡ observation.child_fault

abbrev pub OnWay : Observation → Task → Stop → Type 0
OnWay observation t (Spawn child rest) = IsOnWay observation rest
OnWay observation t (Wait rest) = IsOnWay observation rest
OnWay observation t (End out ended) = IsAllObserved t.plan t.origin observation
