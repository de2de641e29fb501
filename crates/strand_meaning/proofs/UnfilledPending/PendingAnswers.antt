-- What is unfilled is pending where a task takes its children's answers.
use Rattle.std.proofs.Common.{ℕ, Bool, true, false, ◌||◌, nat_eq, List, [], ◌∷◌, Option, Some, None, Result, Ok, Err, length, sym, subst, arith, if◌then◌else◌}
use Rattle.std.specs.Prelude.{Contains}
use Rattle.script_grammar.specs.declared.tree.Name.{Name}
use Rattle.script_grammar.specs.declared.tree.Stmt.{Stmt}
use Rattle.script_grammar.specs.declared.tree.Act.{Act}
use Rattle.script_grammar.specs.declared.tree.Act.TheOpen.{Act-F}
use Rattle.serial_meaning.specs.Names.{Names}
use Rattle.serial_meaning.specs.Plan.{PlanView}
use Rattle.serial_meaning.specs.Exec.{with_loop_values}
use Rattle.serial_meaning.specs.Eval.{Evaluation}
use Rattle.serial_meaning.specs.declared.value.Value.{Value}
use Rattle.serial_meaning.specs.declared.event.Fault.{Fault}
use Rattle.serial_meaning.specs.declared.origin.Origin.{Origin}
use Rattle.strand_meaning.specs.Machine.{Destination, Spawned, Looped, Half, Frame, Machine}
use Rattle.strand_meaning.specs.Trace.{AwaitedChild}
use Rattle.strand_meaning.specs.Task.{Stage, Running, AtSync, AtLoop, Ended, changed, changed_at, frame_with_answer, takes, takes_all, pass_sync, resumed}
use Rattle.strand_meaning.specs.Rest.{evaluations}
use Rattle.strand_meaning.specs.Pending.{ArePending, ArePendingStill, IsCall, IsSync, IsPfor}
use Rattle.strand_meaning.specs.Sound.{unfilled, ArePendingBelow, ArePendingAtSync, UnfilledArePending}
use Rattle.strand_meaning.proofs.UnfilledPending.AlikeButEvents.{Alike, alike-unfilled}
use Rattle.strand_meaning.proofs.Unfilled.Clears.{none-contained}
use Rattle.strand_meaning.proofs.UnfilledPending.PendingMoves.{pending-fewer, still-fewer, below-fewer, still-left}

-- Fewer unfilled variables

sync-fewer : (plan : PlanView) (names others : Names) (a : Frame) → ((name : List ℕ) → Contains others name → Contains names name) → (b : Bool) → ArePendingAtSync plan names a b → ArePendingAtSync plan others a b
sync-fewer plan names others a w true p = (p.0, pending-fewer plan names others a [] w p.1)
sync-fewer plan names others a w false p = still-fewer plan names others a IsSync w p

stage-fewer : (plan : PlanView) (ps qs : List AwaitedChild) → ((j : ℕ) (name : List ℕ) → Contains (unfilled j qs) name → Contains (unfilled j ps) name) → (stage : Stage) → UnfilledArePending plan ps stage → UnfilledArePending plan qs stage
stage-fewer plan ps qs w (Running m) p =
    let n = length m.below in (pending-fewer plan (unfilled n ps) (unfilled n qs) m.top m.top.left (w n) p.0, below-fewer plan ps qs n (λ j h. w j) m.below (omega arith) p.1)
stage-fewer plan ps qs w (AtSync m) p =
    let n = length m.below in (sync-fewer plan (unfilled n ps) (unfilled n qs) m.top (w n) (m.top.leaving || m.top.returning) p.0, below-fewer plan ps qs n (λ j h. w j) m.below (omega arith) p.1)
stage-fewer plan ps qs w (AtLoop m) p =
    let n = length m.below in (still-fewer plan (unfilled n ps) (unfilled n qs) m.top IsPfor (w n) p.0, below-fewer plan ps qs n (λ j h. w j) m.below (omega arith) p.1)
stage-fewer plan ps qs w (Ended ended) p = tt

pub alike-pending : (plan : PlanView) {ps qs : List AwaitedChild} → Alike ps qs → (stage : Stage) → UnfilledArePending plan ps stage → UnfilledArePending plan qs stage
alike-pending plan {ps} {qs} a stage p = stage-fewer plan ps qs (λ j name h. subst (λ (l : Names). Contains l name) (sym (alike-unfilled j a)) h) stage p

-- Answers

module _ (plan : PlanView) where
  -- the innermost frame, where nothing of a stage is unfilled
  abbrev AtGoing : Frame → Type 0
  AtGoing a = ArePending plan [] a a.left

  abbrev AtSyncing : Frame → Type 0
  AtSyncing a = ArePendingAtSync plan [] a (a.leaving || a.returning)

  abbrev AtLooping : Frame → Type 0
  AtLooping a = ArePendingStill plan [] a IsPfor

  abbrev AtCalling : Frame → Type 0
  AtCalling a = ArePendingStill plan [] a IsCall

  -- one that takes an answer
  module _ (a : Frame) (to : Option Name) where
    pending-kept : (q : Result (List Value) Fault) (left : List Stmt) → ArePending plan [] a left → ArePending plan [] (frame_with_answer to q a) left
    pending-kept (Ok vs) left p = record { function = p.function; of_plan = p.of_plan; now = p.now; stands = p.stands; pending = p.pending }
    pending-kept (Err f) left p = record { function = p.function; of_plan = p.of_plan; now = p.now; stands = p.stands; pending = p.pending }

    still-kept : (IsSuch : Act-F Act Stmt → Type 0) (q : Result (List Value) Fault) → ArePendingStill plan [] a IsSuch → ArePendingStill plan [] (frame_with_answer to q a) IsSuch
    still-kept IsSuch (Ok vs) p = record { st = p.st; such = p.such; there = pending-kept (Ok vs) (p.st ∷ a.left) p.there }
    still-kept IsSuch (Err f) p = record { st = p.st; such = p.such; there = pending-kept (Err f) (p.st ∷ a.left) p.there }

    going-kept : (q : Result (List Value) Fault) → AtGoing a → AtGoing (frame_with_answer to q a)
    going-kept (Ok vs) p = pending-kept (Ok vs) a.left p
    going-kept (Err f) p = pending-kept (Err f) a.left p

    by-sync : (b : Bool) (q : Result (List Value) Fault) → ArePendingAtSync plan [] a b → ArePendingAtSync plan [] (frame_with_answer to q a) b
    by-sync true (Ok vs) p = (p.0, pending-kept (Ok vs) [] p.1)
    by-sync true (Err f) p = (p.0, pending-kept (Err f) [] p.1)
    by-sync false q p = still-kept IsSync q p

    syncing-kept : (q : Result (List Value) Fault) → AtSyncing a → AtSyncing (frame_with_answer to q a)
    syncing-kept (Ok vs) p = by-sync (a.leaving || a.returning) (Ok vs) p
    syncing-kept (Err f) p = by-sync (a.leaving || a.returning) (Err f) p

  below-kept : (owner : ℕ) (to : Option Name) (q : Result (List Value) Fault) (below : List Frame) → ArePendingBelow plan [] below → ArePendingBelow plan [] (changed_at owner (frame_with_answer to q) below)
  below-kept owner to q [] p = tt
  below-kept owner to q (caller ∷ below) p = by_place (nat_eq owner (length below)) (below-kept owner to q below p.1)
    where
      by_place : (b : Bool) → ArePendingBelow plan [] (changed_at owner (frame_with_answer to q) below) →
          ArePendingBelow plan [] (if b then frame_with_answer to q caller ∷ below else caller ∷ changed_at owner (frame_with_answer to q) below)
      by_place true later = (still-kept caller to IsCall q p.0, p.1)
      by_place false later = (p.0, later)

  machine-kept : (P : Frame → Type 0) (owner : ℕ) (to : Option Name) (q : Result (List Value) Fault) → ((a : Frame) → P a → P (frame_with_answer to q a)) → (m : Machine) → P m.top → ArePendingBelow plan [] m.below →
      let k = changed owner (frame_with_answer to q) m in P k.top × ArePendingBelow plan [] k.below
  machine-kept P owner to q keeps m p below = by_place (nat_eq owner (length m.below))
    where
      by_place : (b : Bool) →
          let k = if b then record m { top = frame_with_answer to q m.top } else record m { below = changed_at owner (frame_with_answer to q) m.below } in P k.top × ArePendingBelow plan [] k.below
      by_place true = (keeps m.top p, below)
      by_place false = (p, below-kept owner to q m.below below)

  spawned-kept : (owner : ℕ) (to : Option Name) (q : Result (List Value) Fault) (stage : Stage) → UnfilledArePending plan [] stage → UnfilledArePending plan [] (takes (Spawned owner to) q stage)
  spawned-kept owner to q (Running m) p = machine-kept AtGoing owner to q (λ a. going-kept a to q) m p.0 p.1
  spawned-kept owner to q (AtSync m) p = machine-kept AtSyncing owner to q (λ a. syncing-kept a to q) m p.0 p.1
  spawned-kept owner to q (AtLoop m) p = machine-kept AtLooping owner to q (λ a. still-kept a to IsPfor q) m p.0 p.1
  spawned-kept owner to q (Ended ended) p = tt

  -- a loop's values
  looped-kept : (to : Option Name) (vs : List Value) (stage : Stage) → UnfilledArePending plan [] stage → UnfilledArePending plan [] (takes (Looped to) (Ok vs) stage)
  looped-kept to vs (Running m) p = (record { function = p.0.function; of_plan = p.0.of_plan; now = p.0.now; stands = p.0.stands; pending = p.0.pending }, p.1)
  looped-kept to vs (AtSync m) p = (by_kind (m.top.leaving || m.top.returning) p.0, p.1)
    where
      by_kind : (b : Bool) → ArePendingAtSync plan [] m.top b → ArePendingAtSync plan [] (record m.top { env = with_loop_values to vs m.top.env }) b
      by_kind true s = (s.0, record { function = s.1.function; of_plan = s.1.of_plan; now = s.1.now; stands = s.1.stands; pending = s.1.pending })
      by_kind false s =
          let t = s.there in record { st = s.st; such = s.such; there = record { function = t.function; of_plan = t.of_plan; now = t.now; stands = t.stands; pending = t.pending } }
  looped-kept to vs (AtLoop m) p =
      let s = p.0 in let t = s.there in (record { st = s.st; such = s.such; there = record { function = t.function; of_plan = t.of_plan; now = t.now; stands = t.stands; pending = t.pending } }, p.1)
  looped-kept to vs (Ended ended) p = tt

  takes-kept : (destination : Destination) (q : Result (List Value) Fault) (stage : Stage) → UnfilledArePending plan [] stage → UnfilledArePending plan [] (takes destination q stage)
  takes-kept (Spawned owner to) q stage p = spawned-kept owner to q stage p
  takes-kept (Looped to) (Ok vs) stage p = looped-kept to vs stage p
  takes-kept (Looped to) (Err f) stage p = tt
  takes-kept Half q stage p = p

  all-kept : (child : Origin → Evaluation) (ps : List AwaitedChild) (stage : Stage) → UnfilledArePending plan [] stage → UnfilledArePending plan [] (takes_all ps (evaluations child ps) stage)
  all-kept child [] stage p = p
  all-kept child (q ∷ ps) stage p = all-kept child ps (takes q.destination (child q.child).ending stage) (takes-kept q.destination (child q.child).ending stage p)

  -- it goes on after a wait
  resumed-pending : (stage : Stage) → UnfilledArePending plan [] stage → UnfilledArePending plan [] (resumed stage)
  resumed-pending (Running m) p = p
  resumed-pending (AtSync m) p = by_fault m.top.faulted
    where
      by_kind : (b : Bool) → ArePendingAtSync plan [] m.top b → ArePending plan [] m.top m.top.left
      by_kind true s = subst (ArePending plan [] m.top) (sym s.0) s.1
      by_kind false s = still-left plan m.top IsSync s

      by_fault : (f : Option Fault) → UnfilledArePending plan [] (pass_sync f m)
      by_fault None = (by_kind (m.top.leaving || m.top.returning) p.0, p.1)
      by_fault (Some f) = tt
  resumed-pending (AtLoop m) p = (still-left plan m.top IsPfor p.0, p.1)
  resumed-pending (Ended ended) p = tt

  pub answers-pending : (child : Origin → Evaluation) (ps : List AwaitedChild) (stage : Stage) → UnfilledArePending plan ps stage → UnfilledArePending plan [] (resumed (takes_all ps (evaluations child ps) stage))
  answers-pending child ps stage p =
      resumed-pending (takes_all ps (evaluations child ps) stage) (all-kept child ps stage (stage-fewer plan ps [] (λ j name h. absurd (none-contained name h)) stage p))
