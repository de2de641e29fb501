-- The invariant of a task.
use Rattle.std.specs.Prelude.{◌≡◌, ◌≤◌, ◌<◌, ℕ, ◌+◌, Bool, true, false, ◌||◌, ◌⊎◌, nat_eq, List, [], ◌∷◌, ◌++◌, Option, None, Ok, Err, Contains, length, if◌then◌else◌}
use Rattle.loop_range.specs.Range.{Range}
use Rattle.script_grammar.specs.declared.tree.Name.{Name}
use Rattle.serial_meaning.specs.Runs.{done, after_items, ◌then◌}
use Rattle.serial_meaning.specs.Names.{Names}
use Rattle.serial_meaning.specs.Functions.{function_at, any_spawns}
use Rattle.serial_meaning.specs.Plan.{PlanView, functions_of}
use Rattle.serial_meaning.specs.Eval.{path_of, eval}
use Rattle.serial_meaning.specs.Open.{Item, Own, ChildFaulted, node_of}
use Rattle.serial_meaning.specs.Laws.{IsOriginOf, raising_pedigrees}
use Rattle.serial_meaning.specs.declared.event.Event.{Event}
use Rattle.serial_meaning.specs.declared.event.Fault.{Fault}
use Rattle.serial_meaning.specs.declared.origin.Origin.{Origin}
use Rattle.serial_meaning.specs.declared.origin.Origin.TheVariants.{Instance, Loop}
use Rattle.strand_meaning.specs.Clear.{IsApart, IsClear, IsClearPlan, target_names}
use Rattle.script_check.specs.Spawns.{spawns_in}
use Rattle.strand_meaning.specs.Machine.{Destination, Spawned, Looped, Half, Level, Frame}
use Rattle.strand_meaning.specs.Trace.{AwaitedChild}
use Rattle.strand_meaning.specs.Found.{FindsTargets, IsFoundPlan, functions_left}
use Rattle.strand_meaning.specs.Pending.{ArePending, ArePendingStill, IsCall, IsSync, IsPfor}
use Rattle.strand_meaning.specs.Task.{Stage, Running, AtSync, AtLoop, Ended, Remaining, Splits, Runs, Finished, Task, own_instance}
use Rattle.strand_meaning.specs.Rest.{GaveValues, children_of, rest_open, finish}

-- Unfilled variables

-- the variables of the frame with this many below it that are still to get children's values
abbrev pub unfilled_by : ℕ → Destination → Names
unfilled_by height (Spawned owner target) = if nat_eq owner height then target_names target else []
unfilled_by height (Looped target) = []
unfilled_by height Half = []

abbrev pub unfilled : ℕ → List AwaitedChild → Names
unfilled height [] = []
unfilled height (p ∷ ps) = unfilled_by height p.destination ++ unfilled height ps

-- whether the frame with this many below it spawned one of these children
abbrev pub is_by : ℕ → Destination → Bool
is_by height (Spawned owner target) = nat_eq owner height
is_by height (Looped target) = false
is_by height Half = false

abbrev pub any_by : ℕ → List AwaitedChild → Bool
any_by height [] = false
any_by height (p ∷ ps) = is_by height p.destination || any_by height ps

-- Frames

-- After the end of a scope nothing is unfilled, and the statements left there touch no variable that is pending before them. Where
-- they spawn, so does the function's text.
abbrev pub AreSoundLevels : Type 0 → List Level → Type 0
AreSoundLevels in_text [] = Unit {0}
AreSoundLevels in_text (l ∷ ls) = ((ends : Names) × IsClear [] l.left ends) × (any_spawns l.left ≡ true → in_text) × AreSoundLevels in_text ls

-- The statements left touch no unfilled variable. The frame knows of a spawn since its own last sync, and of a fault among these
-- children's answers. Where it spawned, a sync precedes its value.
pub record IsSound (plan : PlanView) (awaiting : List AwaitedChild) (height : ℕ) (a : Frame) : Type 0 where
  pub clear : (ends : Names) × IsClear (unfilled height awaiting) a.left ends
  pub levels : AreSoundLevels (spawns_in (function_at (functions_of plan) a.function) ≡ true) a.levels
  pub spawned : any_by height awaiting ≡ true → a.spawned ≡ true
  pub faulted : a.spawned ≡ false → a.faulted ≡ None
  pub in_text : a.spawned ≡ true → spawns_in (function_at (functions_of plan) a.function) ≡ true
  pub left_in_text : any_spawns a.left ≡ true → spawns_in (function_at (functions_of plan) a.function) ≡ true
  pub leaving : a.leaving ≡ true → (a.spawned ≡ false) × (a.left ≡ [])
  pub returning : a.returning ≡ true → (a.spawned ≡ false) × (a.left ≡ []) × (a.levels ≡ [])

-- the frames below the one whose value goes to this variable
abbrev pub AreSound : PlanView → List AwaitedChild → Option Name → List Frame → Type 0
AreSound plan awaiting target [] = Unit {0}
AreSound plan awaiting target (caller ∷ below) =
    IsApart (target_names target) (unfilled (length below) awaiting) × IsSound plan awaiting (length below) caller × AreSound plan awaiting caller.target below

-- Stages

-- a child that was spawned by an existing frame, or a part of a loop
abbrev pub IsDestination : ℕ → Destination → Type 0
IsDestination height (Spawned owner target) = owner ≤ height
IsDestination height (Looped target) = ⊥
IsDestination height Half = Unit {0}

abbrev pub AreDestinations : ℕ → List AwaitedChild → Type 0
AreDestinations height [] = Unit {0}
AreDestinations height (p ∷ ps) = IsDestination height p.destination × AreDestinations height ps

abbrev pub IsHalf : Destination → Type 0
IsHalf (Spawned owner target) = ⊥
IsHalf (Looped target) = ⊥
IsHalf Half = Unit {0}

abbrev pub AreHalves : List AwaitedChild → Type 0
AreHalves [] = Unit {0}
AreHalves (p ∷ ps) = IsHalf p.destination × AreHalves ps

-- A frame at a sync has nothing unfilled once it continues, and knows of no fault.
abbrev pub after_sync : Frame → Frame
after_sync a = record a { faulted = None }

abbrev pub IsSoundStage : PlanView → List AwaitedChild → Stage → Type 0
IsSoundStage plan awaiting (Running m) = AreDestinations (length m.below) awaiting × IsSound plan awaiting (length m.below) m.top × AreSound plan awaiting m.top.target m.below
IsSoundStage plan awaiting (AtSync m) = AreDestinations (length m.below) awaiting × IsSound plan [] (length m.below) (after_sync m.top) × AreSound plan awaiting m.top.target m.below
IsSoundStage plan awaiting (AtLoop m) = IsSound plan awaiting (length m.below) m.top × AreSound plan awaiting m.top.target m.below
IsSoundStage plan awaiting (Ended (Ok v)) = AreHalves awaiting
IsSoundStage plan awaiting (Ended (Err (Own f))) = (height : ℕ) × AreDestinations height awaiting
IsSoundStage plan awaiting (Ended (Err (ChildFaulted f))) = awaiting ≡ []

-- What an instance has passed in the open tree, and what remains of it.
pub record IsSoFar (plan : PlanView) (o : Origin) (awaiting : List AwaitedChild) (stage : Stage) : Type 0 where
  pub front : List Item
  pub whole : node_of plan o ≡ after_items front (rest_open plan (children_of plan o) (path_of o) awaiting stage then λ v. done (v ∷ []))

-- Pending variables

-- A frame that called is still at the call.
abbrev pub ArePendingBelow : PlanView → List AwaitedChild → List Frame → Type 0
ArePendingBelow plan awaiting [] = Unit {0}
ArePendingBelow plan awaiting (caller ∷ below) = ArePendingStill plan (unfilled (length below) awaiting) caller IsCall × ArePendingBelow plan awaiting below

-- One that waits at a sync is still at that statement; at the sync that the end of a scope or a return implies, at the end of the
-- statements before it.
abbrev pub ArePendingAtSync : PlanView → Names → Frame → Bool → Type 0
ArePendingAtSync plan names a true = (a.left ≡ []) × ArePending plan names a []
ArePendingAtSync plan names a false = ArePendingStill plan names a IsSync

-- The unfilled variables of each frame are in the set that validity has where the frame is.
abbrev pub UnfilledArePending : PlanView → List AwaitedChild → Stage → Type 0
UnfilledArePending plan awaiting (Running m) = ArePending plan (unfilled (length m.below) awaiting) m.top m.top.left × ArePendingBelow plan awaiting m.below
UnfilledArePending plan awaiting (AtSync m) =
    ArePendingAtSync plan (unfilled (length m.below) awaiting) m.top (m.top.leaving || m.top.returning) × ArePendingBelow plan awaiting m.below
UnfilledArePending plan awaiting (AtLoop m) = ArePendingStill plan (unfilled (length m.below) awaiting) m.top IsPfor × ArePendingBelow plan awaiting m.below
UnfilledArePending plan awaiting (Ended ended) = Unit {0}

abbrev pub UnfilledArePendingIn : PlanView → List AwaitedChild → Remaining → Type 0
UnfilledArePendingIn plan awaiting (Splits left) = Unit {0}
UnfilledArePendingIn plan awaiting (Runs stage) = UnfilledArePending plan awaiting stage
UnfilledArePendingIn plan awaiting (Finished v has_waited) = Unit {0}

-- Work

-- iterations of this loop, up to its last one, and some unless it has none
abbrev pub IsEndOf : Origin → Range → Type 0
IsEndOf (Instance function args path) left = ⊥
IsEndOf (Loop function rest first path range) left = (range.lo ≤ left.lo) × (left.hi ≡ range.hi) × (range.lo < range.hi → left.lo < left.hi)

-- a loop, and one of two iterations or more
abbrev pub IsLoop : Origin → Type 0
IsLoop (Instance function args path) = ⊥
IsLoop (Loop function rest first path range) = range.lo < range.hi

abbrev pub IsLongLoop : Origin → Type 0
IsLongLoop (Instance function args path) = ⊥
IsLongLoop (Loop function rest first path range) = range.lo + 1 < range.hi

-- parts of a loop come only from one that is split
abbrev pub FitsOrigin : Origin → Destination → Type 0
FitsOrigin o (Spawned owner target) = Unit {0}
FitsOrigin o (Looped target) = Unit {0}
FitsOrigin o Half = IsLongLoop o

-- A child is an origin of the plan. If the task's own instance begins it, the open tree takes its evaluation.
pub record IsSoundChild (plan : PlanView) (o : Origin) (p : AwaitedChild) : Type 0 where
  pub known : IsOriginOf plan p.child
  pub fits : FitsOrigin o p.destination
  pub same : IsHalf p.destination ⊎ (children_of plan (own_instance o) p.child ≡ eval plan p.child)

abbrev pub AreSoundChildren : PlanView → Origin → List AwaitedChild → Type 0
AreSoundChildren plan o [] = Unit {0}
AreSoundChildren plan o (p ∷ ps) = IsSoundChild plan o p × AreSoundChildren plan o ps

abbrev pub IsInstanceOrLoop : Origin → Type 0
IsInstanceOrLoop (Instance function args path) = Unit {0}
IsInstanceOrLoop (Loop function rest first path range) = range.lo < range.hi

abbrev pub IsSoundRemaining : PlanView → Origin → List AwaitedChild → Remaining → Type 0
IsSoundRemaining plan o awaiting (Splits left) = IsEndOf o left × AreHalves awaiting
IsSoundRemaining plan o awaiting (Runs stage) = IsInstanceOrLoop o × IsSoFar plan (own_instance o) awaiting stage × IsSoundStage plan awaiting stage
IsSoundRemaining plan o awaiting (Finished v true) = IsLoop o × (awaiting ≡ [])
IsSoundRemaining plan o awaiting (Finished v false) = IsLoop o × AreHalves awaiting

-- Children as they were begun

-- A part of the task's loop, from one of its iterations on. Where the children before it give values, so does each iteration before
-- it: a fault by which the loop then ends is in the part or after it.
abbrev pub IsPartAfter : PlanView → Origin → List AwaitedChild → Origin → Type 0
IsPartAfter plan (Instance function args path) front child = ⊥
IsPartAfter plan (Loop function rest first path range) front child =
    (from to : ℕ) × (from < range.hi) × (child ≡ Loop function rest first path (record { lo = from; hi = to }))
    × (GaveValues (eval plan) front → (f : Fault) → (eval plan (Loop function rest first path range)).ending ≡ Err f → (k : ℕ) × (more : List ℕ) × (f.at ≡ path ++ k ∷ more) × (from ≤ k))

-- a child that is a loop has all of its iterations
abbrev pub IsUndivided : Origin → Type 0
IsUndivided (Instance function args path) = Unit {0}
IsUndivided (Loop function rest first path range) = range.lo ≡ 0

-- The path of a child of the task's own instance is that of a strand of the instance, in a scope or outside of all, and among these
-- events is the one that spawned or began it.
pub record IsBegunBy (o : Origin) (events : List Event) (child : Origin) : Type 0 where
  pub rank : ℕ
  pub more : List ℕ
  pub at : path_of child ≡ path_of (own_instance o) ++ rank ∷ more
  pub whole : IsUndivided child
  pub event : Contains (raising_pedigrees events) (path_of child)

abbrev pub IsShownAs : Destination → PlanView → Origin → List AwaitedChild → List Event → Origin → Type 0
IsShownAs (Spawned owner target) plan o front events child = IsBegunBy o events child
IsShownAs (Looped target) plan o front events child = IsBegunBy o events child
IsShownAs Half plan o front events child = IsPartAfter plan o front child

-- These events, which come after the children `front`, show the first of the others; the events between it and the child before it show
-- each other one.
abbrev pub AreShownBy : PlanView → Origin → List AwaitedChild → List Event → List AwaitedChild → Type 0
AreShownBy plan o front events [] = Unit {0}
AreShownBy plan o front events (p ∷ ps) = IsShownAs p.destination plan o front events p.child × AreShownBy plan o (front ++ p ∷ []) p.after ps

-- The invariant: finishing a task gives the evaluation of its origin; what is unfilled of it is pending where it is; and the
-- variables that its children's values go to have slots, where the plan's functions have theirs.
pub record IsTask (t : Task) : Type 0 where
  pub finishes : finish t ≡ eval t.plan t.origin
  pub known : IsOriginOf t.plan t.origin
  pub clear : IsClearPlan t.plan
  pub awaiting : AreSoundChildren t.plan t.origin t.trace.unmerged
  pub shown : t.trace.fault ≡ None → AreShownBy t.plan t.origin [] t.trace.prefix t.trace.unmerged
  pub remaining : IsSoundRemaining t.plan t.origin t.trace.unmerged t.remaining
  pub pending : UnfilledArePendingIn t.plan t.trace.unmerged t.remaining
  pub found : IsFoundPlan t.plan → FindsTargets t.plan (functions_left t.remaining) t.trace.unmerged
