-- The strands of the open tree, and the walk down to one of them (docs/LANGUAGE.md, "Strands").
use Rattle.std.specs.Prelude.{ℕ, zero, suc, ◌+◌, ◌-◌, nat_lt, Bool, false, not, ◌&&◌, ◌||◌, List, [], ◌∷◌, length, take, slice_get, Option, Some, None, Result, Ok, Err, if◌then◌else◌}
use Rattle.std.specs.Prelude.{ℤ}
use Rattle.std.specs.Ordering.{nat_cmp, is_lt}
use Rattle.std.specs.Cmp.Lexicographic.{slice_cmp}
use Rattle.std.specs.Str.{bytes_eq}
use Rattle.serial_meaning.specs.Eval.{path_of, iteration, main_origin}
use Rattle.serial_meaning.specs.Open.{Item, Happened, Child, Opened, Closed, NodeFault, Own, ChildFaulted, Node, node_of, strand_pedigrees}
use Rattle.serial_meaning.specs.Plan.{PlanView}
use Rattle.serial_meaning.specs.declared.value.Value.{Value}
use Rattle.serial_meaning.specs.declared.event.Fault.{Fault}
use Rattle.serial_meaning.specs.declared.event.Event.{Event}
use Rattle.serial_meaning.specs.declared.event.Event.TheVariants as event
use Rattle.serial_meaning.specs.declared.answer.Strand as answer
use Rattle.serial_meaning.specs.declared.origin.Origin.{Origin}
use Rattle.serial_meaning.specs.declared.origin.Origin.TheVariants.{Instance, Loop}

-- Events

-- the pedigree of the strand that did it
abbrev pub pedigree_of : Event → List ℕ
pedigree_of (event.Print j v) = j
pedigree_of (event.Draw j n) = j
pedigree_of (event.New j) = j
pedigree_of (event.Spawn j) = j
pedigree_of (event.Sync j) = j
pedigree_of (event.Loop j) = j

-- the events with one pedigree
abbrev pub events_at : List ℕ → List Event → List Event
events_at j [] = []
events_at j (e ∷ es) = if bytes_eq (pedigree_of e) j then e ∷ events_at j es else events_at j es

-- A node

-- the events of the instance itself, without its children's
abbrev pub own_events : List Item → List Event
own_events [] = []
own_events (Happened e ∷ items) = e ∷ own_events items
own_events (Child o ∷ items) = own_events items
own_events (Opened j ∷ items) = own_events items
own_events (Closed j ∷ items) = own_events items

-- the pedigree of the last event, of an instance that ended by a child's fault
abbrev pub last_pedigree : List ℕ → List Event → List ℕ
last_pedigree j [] = j
last_pedigree j (e ∷ es) = last_pedigree (pedigree_of e) es

-- the child's fault by which an instance ended
abbrev pub fault_of_child : Result (List Value) NodeFault → Option Fault
fault_of_child (Ok vs) = None
fault_of_child (Err (Own f)) = None
fault_of_child (Err (ChildFaulted f)) = Some f

-- its own fault, if that is at this pedigree
abbrev pub own_fault_at : List ℕ → Result (List Value) NodeFault → Option Fault
own_fault_at j (Ok vs) = None
own_fault_at j (Err (Own f)) = if bytes_eq f.at j then Some f else None
own_fault_at j (Err (ChildFaulted f)) = None

-- whether this path is a proper prefix of a pedigree
abbrev pub is_below : List ℕ → List ℕ → Bool
is_below path j = nat_lt (length path) (length j) && bytes_eq (take (length path) j) path

-- the first child on the way to a pedigree: an instance, or a whole loop
abbrev pub child_on_way : List ℕ → List Item → Option Origin
child_on_way j [] = None
child_on_way j (Happened e ∷ items) = child_on_way j items
child_on_way j (Child o ∷ items) = if is_below (path_of o) j then Some o else child_on_way j items
child_on_way j (Opened k ∷ items) = child_on_way j items
child_on_way j (Closed k ∷ items) = child_on_way j items

-- A strand

-- the events of a strand, and the fault by which its instance ended there, if it did
abbrev pub Strand : Type 0
Strand = answer.Strand

-- what is at a pedigree: a strand; none; or it can't be told, since an instance on the way ended earlier by a child's fault
pub data Found : Type 0 where
  FoundStrand : Strand → Found
  Missing : Found
  Blocked : Fault → Found

abbrev pub is_one_of : List ℕ → List (List ℕ) → Bool
is_one_of j [] = false
is_one_of j (k ∷ ks) = bytes_eq k j || is_one_of j ks

-- the strand of a pedigree, if the instance reached it
abbrev pub strand_of : Origin → Node → List ℕ → Option Strand
strand_of o n j =
    if is_one_of j (strand_pedigrees o n) then Some (record { events = events_at j (own_events n.items); fault = own_fault_at j n.ending }) else None

-- whether the instance, whose last event is at this pedigree, ended before it could come to another, which that one isn't a prefix
-- of
abbrev pub ended_before : List ℕ → List ℕ → Bool
ended_before last j = is_lt (slice_cmp nat_cmp last j) && not (bytes_eq (take (length last) j) last)

-- the child's fault by which an instance ended before a pedigree
abbrev pub blocking_at : List ℕ → List ℕ → Result (List Value) NodeFault → Option Fault
blocking_at last j (Ok vs) = None
blocking_at last j (Err (Own f)) = None
blocking_at last j (Err (ChildFaulted f)) = if ended_before last j then Some f else None

abbrev pub blocking_fault : Node → List ℕ → Option Fault
blocking_fault n j = blocking_at (last_pedigree [] (own_events n.items)) j n.ending

-- what is at a pedigree in the last instance on the way to it
abbrev pub last_step : Option Fault → Option Strand → Found
last_step (Some f) strand = Blocked f
last_step None (Some strand) = FoundStrand strand
last_step None None = Missing

-- the iteration of a loop that a pedigree names after the loop's path, if more ranks follow
abbrev pub iteration_on_way : List ℕ → ℕ → List Value → ℤ → List ℕ → ℕ → Option ℕ → Option Origin
iteration_on_way j function rest first path count None = None
iteration_on_way j function rest first path count (Some k) =
    if nat_lt k count && nat_lt (length path + 1) (length j) then Some (iteration function rest first path k) else None

-- the instance to be entered of a child on the way, if there is one
abbrev pub entered_child : List ℕ → Origin → Option Origin
entered_child j (Instance function args path) = Some (Instance function args path)
entered_child j (Loop function rest first path range) = iteration_on_way j function rest first path (range.hi - range.lo) (slice_get j (length path))

abbrev pub next_step : Option Origin → (Origin → Found) → Found
next_step None go = Missing
next_step (Some o) go = go o

abbrev pub by_child : Option Origin → List ℕ → Found → (Origin → Found) → Found
by_child None j here go = here
by_child (Some o) j here go = next_step (entered_child j o) go

-- The walk down from an instance to a pedigree. Each child's path is longer than its parent's, so the pedigree's length bounds the
-- steps.
abbrev pub walk_in : PlanView → ℕ → List ℕ → Origin → Found
walk_in plan zero j o = Missing
walk_in plan (suc steps) j o =
    let n = node_of plan o in by_child (child_on_way j n.items) j (last_step (blocking_fault n j) (strand_of o n j)) (walk_in plan steps j)

abbrev pub walk : PlanView → List ℕ → Origin → Found
walk plan j o = walk_in plan (length j) j o

-- what is at a pedigree of the plan
abbrev pub strand_at : PlanView → List ℕ → Found
strand_at plan j = walk plan j (main_origin plan)
