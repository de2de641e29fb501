-- The variables into which the values of children go are found while a task takes its children's answers.
use Rattle.std.proofs.Common.{◌≡◌, ℕ, Bool, true, false, nat_eq, List, [], ◌∷◌, map, Option, Result, Ok, Err, length, refl, sym, ap, subst, arith, if◌then◌else◌}
use Rattle.script_grammar.specs.declared.tree.Name.{Name}
use Rattle.serial_meaning.specs.Plan.{PlanView}
use Rattle.serial_meaning.specs.declared.event.Fault.{Fault}
use Rattle.serial_meaning.specs.declared.origin.Origin.{Origin}
use Rattle.serial_meaning.specs.declared.value.Value.{Value}
use Rattle.strand_meaning.specs.Found.{FindsTargets, FindsDestination, functions_in, functions_left}
use Rattle.strand_meaning.specs.Machine as machine
use Rattle.strand_meaning.specs.Machine.{Spawned, Looped, Half, Frame, Machine}
use Rattle.strand_meaning.specs.Task as meaning
use Rattle.strand_meaning.specs.Task.{Splits, Runs, Finished, frame_with_answer, changed, changed_at, takes}
use Rattle.strand_moves.specs.Machines.{machine_of}
use Rattle.strand_moves.specs.declared.instance.Instance.{Instance}
use Rattle.strand_machine.specs.Merge.{BecomesRemaining, StageFinds, RemainingFinds, RemainingFindsAll, with_stage}
use Rattle.strand_machine.specs.AwaitedChildren.{awaited_children, destination_of}
use Rattle.strand_machine.specs.Tasks.{stage_of, remaining_of}
use Rattle.strand_machine.specs.declared.trace.AfterChild.{AfterChild}
use Rattle.strand_machine.specs.declared.remaining.Stage.{Stage}
use Rattle.strand_machine.specs.declared.remaining.Stage.TheVariants as stage
use Rattle.strand_machine.specs.declared.remaining.Remaining.{Remaining}
use Rattle.strand_machine.specs.declared.remaining.Remaining.TheVariants as remaining

-- An instance

module _ (plan : PlanView) (s : Stage) (i : Instance) (destination : machine.Destination) (h : StageFinds plan destination (stage_of plan s)) where
  abbrev IsFound : Type 0
  IsFound = FindsDestination plan (functions_in (machine_of plan i)) destination

  pub goes-found : s ≡ stage.Running i → IsFound
  goes-found is = subst (λ (y : Stage). StageFinds plan destination (stage_of plan y)) is h

  pub sync-found : s ≡ stage.AtSync i → IsFound
  sync-found is = subst (λ (y : Stage). StageFinds plan destination (stage_of plan y)) is h

  pub loop-found : s ≡ stage.AtLoop i → IsFound
  loop-found is = subst (λ (y : Stage). StageFinds plan destination (stage_of plan y)) is h

-- the same by the child's place
pub found-at : (plan : PlanView) (p q : machine.Destination) (s : meaning.Stage) → p ≡ q → StageFinds plan p s → StageFinds plan q s
found-at plan p q s e h = subst (λ (r : machine.Destination). StageFinds plan r s) e h

pub target-of : (plan : PlanView) (q : machine.Destination) (w : Remaining) (s : Stage) → w ≡ remaining.Runs s → RemainingFinds plan q (remaining_of plan w) → StageFinds plan q (stage_of plan s)
target-of plan q w s is h = subst (λ (x : Remaining). RemainingFinds plan q (remaining_of plan x)) is h

-- An answer changes no function of a frame

abbrev functions : List Frame → List ℕ
functions frames = map (λ (a : Frame). a.function) frames

answered-same : (to : Option Name) (q : Result (List Value) Fault) (a : Frame) → (frame_with_answer to q a).function ≡ a.function
answered-same to (Ok vs) a = refl
answered-same to (Err f) a = refl

module _ (owner : ℕ) (change : Frame → Frame) (same : (a : Frame) → (change a).function ≡ a.function) where
  below-same : (below : List Frame) → functions (changed_at owner change below) ≡ functions below
  below-same [] = refl
  below-same (a ∷ below) = by_place (nat_eq owner (length below)) (below-same below)
    where
      by_place : (b : Bool) → functions (changed_at owner change below) ≡ functions below → functions (if b then change a ∷ below else a ∷ changed_at owner change below) ≡ functions (a ∷ below)
      by_place true h = ap (λ (f : ℕ). f ∷ functions below) (same a)
      by_place false h = ap (λ (fs : List ℕ). a.function ∷ fs) h

  changed-same : (m : Machine) → functions_in (changed owner change m) ≡ functions_in m
  changed-same m = by_place (nat_eq owner (length m.below))
    where
      by_place : (b : Bool) → functions_in (if b then record m { top = change m.top } else record m { below = changed_at owner change m.below }) ≡ functions_in m
      by_place true = ap (λ (f : ℕ). f ∷ functions m.below) (same m.top)
      by_place false = ap (λ (fs : List ℕ). m.top.function ∷ fs) (below-same m.below)

module _ (plan : PlanView) (destination : machine.Destination) where
  -- where no frame remains nothing is asked
  none-found : (p : machine.Destination) → FindsDestination plan [] p
  none-found (Spawned owner to) = tt
  none-found (Looped to) = tt
  none-found Half = tt

  changed-found : (owner : ℕ) (to : Option Name) (q : Result (List Value) Fault) (m : Machine) → FindsDestination plan (functions_in m) destination → FindsDestination plan (functions_in (changed owner (frame_with_answer to q) m)) destination
  changed-found owner to q m h = subst (λ (fs : List ℕ). FindsDestination plan fs destination) (sym (changed-same owner (frame_with_answer to q) (answered-same to q) m)) h

  stage-keeps : (p : machine.Destination) (q : Result (List Value) Fault) (s : meaning.Stage) → StageFinds plan destination s → StageFinds plan destination (takes p q s)
  stage-keeps (Spawned owner to) q (meaning.Running m) h = changed-found owner to q m h
  stage-keeps (Spawned owner to) q (meaning.AtSync m) h = changed-found owner to q m h
  stage-keeps (Spawned owner to) q (meaning.AtLoop m) h = changed-found owner to q m h
  stage-keeps (Spawned owner to) q (meaning.Ended e) h = h
  stage-keeps (Looped to) (Ok vs) (meaning.Running m) h = h
  stage-keeps (Looped to) (Ok vs) (meaning.AtSync m) h = h
  stage-keeps (Looped to) (Ok vs) (meaning.AtLoop m) h = h
  stage-keeps (Looped to) (Ok vs) (meaning.Ended e) h = h
  stage-keeps (Looped to) (Err f) s h = none-found destination
  stage-keeps Half q s h = h

  remaining-keeps : (p : machine.Destination) (q : Result (List Value) Fault) (w : meaning.Remaining) → RemainingFinds plan destination w → RemainingFinds plan destination (with_stage (takes p q) w)
  remaining-keeps p q (Splits left) h = h
  remaining-keeps p q (Runs s) h = stage-keeps p q s h
  remaining-keeps p q (Finished v has_waited) h = h

all-keep : {K : Type 0} (plan : PlanView) (p : machine.Destination) (q : Result (List Value) Fault) (w : meaning.Remaining) (bs : List (AfterChild K)) → RemainingFindsAll plan bs w → RemainingFindsAll plan bs (with_stage (takes p q) w)
all-keep plan p q w [] h = tt
all-keep plan p q w (b ∷ bs) h = (remaining-keeps plan (destination_of b.destination) p q w h.0, all-keep plan p q w bs h.1)

pub found-kept : {K : Type 0} (plan : PlanView) (p : machine.Destination) (q : Result (List Value) Fault) (before after : Remaining) (bs : List (AfterChild K)) → BecomesRemaining (with_stage (takes p q)) before after →
    RemainingFindsAll plan bs (remaining_of plan before) → RemainingFindsAll plan bs (remaining_of plan after)
found-kept plan p q before after bs h found = subst (RemainingFindsAll plan bs) (sym (h.is plan)) (all-keep plan p q (remaining_of plan before) bs found)

-- At first those of all children are found.
pub all-found : {K : Type 0} (plan : PlanView) (w : meaning.Remaining) (os : List Origin) (bs : List (AfterChild K)) → length os ≡ length bs → FindsTargets plan (functions_left w) (awaited_children os bs) → RemainingFindsAll plan bs w
all-found plan w [] [] same h = tt
all-found plan w [] (b ∷ bs) same h = absurd (omega arith)
all-found plan w (o ∷ os) [] same h = tt
all-found plan w (o ∷ os) (b ∷ bs) same h = (h.0, all-found plan w os bs (omega arith) h.1)
