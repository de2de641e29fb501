-- The open tree (docs/LANGUAGE.md, "The open tree"): a parent goes on where a child faults, up to the next sync.
use Rattle.std.specs.Prelude.{ℕ, zero, suc, ◌+◌, ◌-◌, Bool, true, false, List, [], ◌∷◌, ◌++◌, Option, Some, None, Result, Ok, Err, map, if◌then◌else◌}
use Rattle.std.specs.Prelude.{ℤ, pos}
use Rattle.std.specs.Ordering.{nat_cmp, is_lt}
use Rattle.std.specs.Cmp.Lexicographic.{slice_cmp}
use Rattle.script_grammar.specs.declared.tree.Function.{Function}
use Rattle.script_grammar.specs.declared.tree.Kind.{Kind}
use Rattle.script_grammar.specs.declared.tree.Kind.TheVariants as kind
use Rattle.serial_meaning.specs.Runs.{Run, done, run_ends_by, happens, ◌then◌}
use Rattle.serial_meaning.specs.Functions.{function_at}
use Rattle.serial_meaning.specs.Plan.{PlanView, functions_of}
use Rattle.serial_meaning.specs.Exec.{Interpretation, instance}
use Rattle.serial_meaning.specs.Eval.{Evaluation, first_value, iteration, by_depth, eval_below, depth_left, main_origin}
use Rattle.serial_meaning.specs.declared.value.Value.{Value}
use Rattle.serial_meaning.specs.declared.value.Value.TheVariants.{Int, Id}
use Rattle.serial_meaning.specs.declared.event.Fault.{Fault}
use Rattle.serial_meaning.specs.declared.event.Event.{Event}
use Rattle.serial_meaning.specs.declared.event.Event.TheVariants as event
use Rattle.serial_meaning.specs.declared.origin.Origin.{Origin}
use Rattle.serial_meaning.specs.declared.origin.Origin.TheVariants.{Instance, Loop}

-- what the node of an instance shows: an event, a child, and where a scope begins and where it has ended, by the strand that came to it
pub data Item : Type 0 where
  Happened : Event → Item
  Child : Origin → Item
  Opened : List ℕ → Item
  Closed : List ℕ → Item

-- A node ends by a fault of its own, or at a sync or a loop's end by the least fault of the children that it waited for.
pub data NodeFault : Type 0 where
  Own : Fault → NodeFault
  ChildFaulted : Fault → NodeFault

abbrev pub Node : Type 0
Node = Run Item NodeFault (List Value)

-- the one whose pedigree stands first
abbrev pub lesser : Fault → Fault → Fault
lesser f g = if is_lt (slice_cmp nat_cmp g.at f.at) then g else f

abbrev pub least : Option Fault → Fault → Fault
least None f = f
least (Some g) f = lesser g f

-- what stands for the value of a child that faults; a valid script doesn't read it
abbrev pub placeholder_of : Kind → Value
placeholder_of kind.Int = Int (pos 0)
placeholder_of kind.Id = Id (0 ∷ [])

abbrev pub answer_placeholder : Option Function → Value
answer_placeholder (Some f) = placeholder_of f.answer
answer_placeholder None = Int (pos 0)

abbrev pub placeholder : PlanView → Origin → Value
placeholder plan (Instance function args path) = answer_placeholder (function_at (functions_of plan) function)
placeholder plan (Loop function rest first path range) = Int (pos 0)

-- the value of a spawned child, and the least fault of the children so far
abbrev pub deferred : Value → Option Fault → Result (List Value) Fault → Value × Option Fault
deferred instead faulted (Ok vs) = (first_value vs, faulted)
deferred instead faulted (Err f) = (instead, Some (least faulted f))

abbrev pub unless_child_faulted : Option Fault → Run Item NodeFault (Option Fault)
unless_child_faulted None = done None
unless_child_faulted (Some f) = run_ends_by (ChildFaulted f)

abbrev pub loop_end : Result (List Value) Fault → Result (List Value) NodeFault
loop_end (Ok vs) = Ok vs
loop_end (Err f) = Err (ChildFaulted f)

abbrev pub is_zero : ℕ → Bool
is_zero zero = true
is_zero (suc n) = false

abbrev pub is_empty_loop : Origin → Bool
is_empty_loop (Instance function args path) = false
is_empty_loop (Loop function rest first path range) = is_zero (range.hi - range.lo)

-- A child is an item, and its fault is deferred to the next sync: what is known of spawned children is the least fault among them. A loop without
-- an iteration is no item.
abbrev pub deferring : PlanView → (Origin → Evaluation) → Interpretation Item NodeFault (Option Fault)
deferring plan child = record {
  event = Happened;
  opens = λ j. Opened j ∷ [];
  closes = λ j. Closed j ∷ [];
  own = Own;
  none = None;
  spawn = λ o faulted. happens (Child o) (deferred (placeholder plan o) faulted (child o).ending);
  loop = λ o. if is_empty_loop o then done [] else record { items = Child o ∷ []; ending = loop_end (child o).ending };
  sync = unless_child_faulted;
}

-- n iterations of a loop from the k-th on, as origins
abbrev pub iterations : ℕ → List Value → ℤ → List ℕ → ℕ → ℕ → List Origin
iterations function rest first path k zero = []
iterations function rest first path k (suc n) = iteration function rest first path k ∷ iterations function rest first path (k + 1) n

-- the values of all in order, or the least of their faults
abbrev pub both : Result (List Value) Fault → Result (List Value) Fault → Result (List Value) Fault
both (Ok vs) (Ok ws) = Ok (vs ++ ws)
both (Ok vs) (Err g) = Err g
both (Err f) (Ok ws) = Err f
both (Err f) (Err g) = Err (lesser f g)

abbrev pub gathered : (Origin → Evaluation) → List Origin → Result (List Value) Fault
gathered child [] = Ok []
gathered child (o ∷ os) = both (child o).ending (gathered child os)

-- an origin's node, where `child` gives the evaluations of its children
abbrev pub node_with : PlanView → (Origin → Evaluation) → Origin → Node
node_with plan child (Instance function args path) =
    instance (deferring plan child) plan path (function_at (functions_of plan) function) args then λ v. done (v ∷ [])
node_with plan child (Loop function rest first path range) =
    let os = iterations function rest first path range.lo (range.hi - range.lo) in record { items = map Child os; ending = loop_end (gathered child os) }

-- an origin's node
abbrev pub node_of : PlanView → Origin → Node
node_of plan o = node_with plan (eval_below plan (depth_left plan o)) o

abbrev pub own_fault : Result (List Value) NodeFault → List Fault
own_fault (Ok vs) = []
own_fault (Err (Own f)) = f ∷ []
own_fault (Err (ChildFaulted f)) = []

abbrev pub faults_of : (Origin → List Fault) → List Item → List Fault
faults_of below [] = []
faults_of below (Happened e ∷ items) = faults_of below items
faults_of below (Child o ∷ items) = below o ++ faults_of below items
faults_of below (Opened j ∷ items) = faults_of below items
faults_of below (Closed j ∷ items) = faults_of below items

-- the faults of an origin: those of its children, which `below` gives, and its instance's own
abbrev pub faults_with : PlanView → (Origin → List Fault) → Origin → List Fault
faults_with plan below o = faults_of below (node_of plan o).items ++ own_fault (node_of plan o).ending

abbrev pub faults_below : PlanView → ℕ → Origin → List Fault
faults_below plan = by_depth plan [] (faults_with plan)

-- the instances' own faults in an origin's node, its children's nodes and so on, all the way down
abbrev pub faults_in : PlanView → Origin → List Fault
faults_in plan o = faults_with plan (faults_below plan (depth_left plan o)) o

abbrev pub faults : PlanView → List Fault
faults plan = faults_in plan (main_origin plan)

-- Strands

-- the pedigree once the rank was raised
abbrev pub raised : List ℕ → List ℕ
raised [] = []
raised (rank ∷ []) = (rank + 1) ∷ []
raised (rank ∷ k ∷ ranks) = rank ∷ raised (k ∷ ranks)

-- the strand after an event of the strand `here`: a print raises no rank
abbrev pub strand_after : List ℕ → Event → List (List ℕ)
strand_after here (event.Print j v) = []
strand_after here (event.Draw j n) = raised here ∷ []
strand_after here (event.New j) = raised here ∷ []
strand_after here (event.Spawn j) = raised here ∷ []
strand_after here (event.Sync j) = raised here ∷ []
strand_after here (event.Loop j) = raised here ∷ []

abbrev pub last_of : List ℕ → List (List ℕ) → List ℕ
last_of here [] = here
last_of here (j ∷ js) = last_of j js

-- The strands that these items lead to from the strand `here`, in order: the one after an event that raises the rank; the first of a scope;
-- and after a scope's last strand, which is the one after the sync at its end, the one after the scope.
abbrev pub led_to : List ℕ → List Item → List (List ℕ)
led_to here [] = []
led_to here (Happened e ∷ items) = strand_after here e ++ led_to (last_of here (strand_after here e)) items
led_to here (Child o ∷ items) = led_to here items
led_to here (Opened j ∷ items) = (j ++ 0 ∷ []) ∷ led_to (j ++ 0 ∷ []) items
led_to here (Closed j ∷ items) = raised j ∷ led_to (raised j) items

abbrev pub without_last : List (List ℕ) → List (List ℕ)
without_last [] = []
without_last (j ∷ []) = []
without_last (j ∷ k ∷ js) = j ∷ without_last (k ∷ js)

-- Where an instance ended by the fault of a child, it ended at the sync or the loop that is its last event, and the strand after that
-- wasn't reached.
abbrev pub reached_by : List (List ℕ) → Result (List Value) NodeFault → List (List ℕ)
reached_by js (Ok vs) = js
reached_by js (Err (Own f)) = js
reached_by js (Err (ChildFaulted f)) = without_last js

-- the pedigrees of an instance's own strands, in order; a loop has none
abbrev pub strand_pedigrees : Origin → Node → List (List ℕ)
strand_pedigrees (Instance function args path) n = reached_by ((path ++ 0 ∷ []) ∷ led_to (path ++ 0 ∷ []) n.items) n.ending
strand_pedigrees (Loop function rest first path range) n = []
