-- A task that takes its children's evaluations as their answers.
use Rattle.std.proofs.Common.{◌≡◌, ℕ, Bool, true, false, ◌||◌, nat_eq, List, [], ◌∷◌, ◌++◌, Option, Some, None, Result, Ok, Err, inl, inr, ◌⊎◌, length, refl, sym, ap, ◌∙◌, append_assoc, subst, if◌then◌else◌}
use Rattle.std.proofs.lemmas.List.Elements.{Contains-append_right}
use Rattle.script_grammar.specs.declared.tree.Name.{Name}
use Rattle.serial_meaning.specs.Runs.{Run, done, after_items, continued, ◌then◌}
use Rattle.serial_meaning.specs.Plan.{PlanView}
use Rattle.serial_meaning.specs.Eval.{Evaluation, path_of, eval}
use Rattle.serial_meaning.specs.Open.{Item, NodeFault, Own, ChildFaulted}
use Rattle.serial_meaning.specs.declared.value.Value.{Value}
use Rattle.serial_meaning.specs.declared.event.Fault.{Fault}
use Rattle.serial_meaning.specs.declared.event.Event.{Event}
use Rattle.serial_meaning.specs.declared.origin.Origin.{Origin}
use Rattle.strand_meaning.specs.Clear.{IsWithin, IsApart, target_names}
use Rattle.strand_meaning.specs.Machine.{Destination, Spawned, Looped, Half, Frame, Machine}
use Rattle.strand_meaning.specs.Trace.{AwaitedChild, Trace, merged_answer_unless, merged_answer, merged_answers}
use Rattle.strand_meaning.specs.Task.{Stage, Running, AtSync, AtLoop, Ended, Remaining, Splits, Runs, Finished, Task, own_instance, changed, changed_at, frame_with_answer, takes, takes_all, pass_sync, resumed, resumed_remaining, more_values, all_values, on}
use Rattle.strand_meaning.specs.Found.{FindsTargets, functions_left}
use Rattle.strand_meaning.specs.Rest.{children_of, evaluations, rest_of_stage, rest_open, closed_run, prefix_end, prefix_run, awaited_run, all_with, remaining_run, finish}
use Rattle.strand_meaning.specs.Sound.{unfilled_by, unfilled, is_by, any_by, IsSound, AreSound, IsDestination, AreDestinations, IsHalf, after_sync, IsSoundStage, AreSoundChildren, IsSoundRemaining, AreShownBy, UnfilledArePendingIn, IsTask}
use Rattle.strand_meaning.proofs.SoundSteps.ChildrenCloseNodes.{after-then}
use Rattle.strand_meaning.proofs.Unfilled.ChangesCommute.{length-changed}
use Rattle.strand_meaning.proofs.Unfilled.Clears.{clear-within}
use Rattle.strand_meaning.proofs.UnfilledPending.PendingAnswers.{answers-pending}
use Rattle.strand_meaning.proofs.SoundSteps.MovesKeepTasks.{so_far-same}

clash : true ≡ false → ⊥
clash h = absurd (cc)

-- The trace

module _ (child : Origin → Evaluation) where
  abbrev from_parts : List AwaitedChild → Trace → List Value → (List Value → Evaluation) → Evaluation
  from_parts ps trace values tail = prefix_run trace then λ u. awaited_run child ps values then tail

  heard-one : (p : AwaitedChild) (ps : List AwaitedChild) (trace : Trace) (values : List Value) (tail : List Value → Evaluation) →
      from_parts (p ∷ ps) trace values tail ≡ from_parts ps (merged_answer p (child p.child) trace) (more_values p.destination (child p.child).ending values) tail
  heard-one p ps trace values tail = by_cases trace.fault (child p.child).items (child p.child).ending
    where
      by_cases : (f : Option Fault) (events : List Event) (q : Result (List Value) Fault) →
          (record { items = trace.prefix; ending = prefix_end f } then λ (u : Unit {0}). (continued events q (λ vs. after_items p.after (awaited_run child ps (more_values p.destination (Ok vs) values)))) then tail)
          ≡ from_parts ps (merged_answer_unless f trace.prefix p events q) (more_values p.destination q values) tail
      by_cases (Some f) events q = refl
      by_cases None events (Err f) = refl
      by_cases None events (Ok vs) =
          let r : Evaluation = awaited_run child ps (more_values p.destination (Ok vs) values) in
          ap (after_items trace.prefix) (after-then events (after_items p.after r) tail ∙ ap (after_items events) (after-then p.after r tail))
          ∙ ap (λ (l : List Event). record { items = trace.prefix ++ l; ending = (r then tail).ending }) (sym (append_assoc events p.after (r then tail).items))
          ∙ ap (λ (l : List Event). record { items = l; ending = (r then tail).ending }) (sym (append_assoc trace.prefix (events ++ p.after) (r then tail).items))

  heard-so_far : (ps : List AwaitedChild) (trace : Trace) (values : List Value) (tail : List Value → Evaluation) →
      from_parts ps trace values tail ≡ from_parts [] (merged_answers ps (evaluations child ps) trace) (all_values ps (evaluations child ps) values) tail
  heard-so_far [] trace values tail = refl
  heard-so_far (p ∷ ps) trace values tail =
      heard-one p ps trace values tail ∙ heard-so_far ps (merged_answer p (child p.child) trace) (more_values p.destination (child p.child).ending values) tail

  heard-none : (ps : List AwaitedChild) (trace : Trace) → trace.unmerged ≡ [] → (merged_answers ps (evaluations child ps) trace).unmerged ≡ []
  heard-none [] trace h = h
  heard-none (p ∷ ps) trace h = heard-none ps (merged_answer p (child p.child) trace) (by_cases trace.fault (child p.child).ending)
    where
      by_cases : (f : Option Fault) (q : Result (List Value) Fault) → (merged_answer_unless f trace.prefix p (child p.child).items q).unmerged ≡ []
      by_cases (Some f) q = refl
      by_cases None (Ok vs) = refl
      by_cases None (Err f) = refl

-- What remains

pub takes-same : (plan : PlanView) (o : Origin) (ps : List AwaitedChild) → AreSoundChildren plan o ps → (stage : Stage) →
    takes_all ps (evaluations (children_of plan (own_instance o)) ps) stage ≡ takes_all ps (evaluations (eval plan) ps) stage
takes-same plan o [] h stage = refl
takes-same plan o (p ∷ ps) h stage =
    takes-same plan o ps h.1 (takes p.destination (children_of plan (own_instance o) p.child).ending stage) ∙ ap (takes_all ps (evaluations (eval plan) ps)) (one h.0.same)
  where
    half : (destination : Destination) (q r : Result (List Value) Fault) → IsHalf destination → takes destination q stage ≡ takes destination r stage
    half (Spawned owner target) q r g = absurd g
    half (Looped target) q r g = absurd g
    half Half q r g = refl

    one : IsHalf p.destination ⊎ (children_of plan (own_instance o) p.child ≡ eval plan p.child) → takes p.destination (children_of plan (own_instance o) p.child).ending stage ≡ takes p.destination (eval plan p.child).ending stage
    one (inl g) = half p.destination _ _ g
    one (inr e) = ap (λ (r : Evaluation). takes p.destination r.ending stage) e

resumed-twice : (stage : Stage) → resumed (resumed stage) ≡ resumed stage
resumed-twice (Running m) = refl
resumed-twice (AtSync m) = from m.top.faulted
  where
    from : (f : Option Fault) → resumed (pass_sync f m) ≡ pass_sync f m
    from None = refl
    from (Some f) = refl
resumed-twice (AtLoop m) = refl
resumed-twice (Ended e) = refl

-- Frames that take an answer

or-right : (a : Bool) → (a || true) ≡ true
or-right true = refl
or-right false = refl

fewer : (height : ℕ) (p : AwaitedChild) (ps : List AwaitedChild) → IsWithin (unfilled height ps) (unfilled height (p ∷ ps))
fewer height p ps name h = Contains-append_right (unfilled_by height p.destination) (unfilled height ps) name h

module _ (plan : PlanView) (p : AwaitedChild) (ps : List AwaitedChild) where
  less-sound : (height : ℕ) (a : Frame) → IsSound plan (p ∷ ps) height a → IsSound plan ps height a
  less-sound height a s = record {
    clear = (s.clear.0, clear-within (unfilled height ps) (unfilled height (p ∷ ps)) (fewer height p ps) s.clear.1);
    spawned = λ e. s.spawned (ap (λ b. is_by height p.destination || b) e ∙ or-right (is_by height p.destination));
    faulted = s.faulted;
    in_text = s.in_text;
    left_in_text = s.left_in_text;
    levels = s.levels;
    leaving = s.leaving;
    returning = s.returning;
  }

  answered-sound : (height : ℕ) (a : Frame) (target : Option Name) (q : Result (List Value) Fault) → is_by height p.destination ≡ true → IsSound plan (p ∷ ps) height a → IsSound plan ps height (frame_with_answer target q a)
  answered-sound height a target (Ok vs) h s =
      let l = less-sound height a s in record { clear = l.clear; spawned = l.spawned; faulted = l.faulted; in_text = l.in_text; left_in_text = l.left_in_text; levels = l.levels; leaving = l.leaving; returning = l.returning }
  answered-sound height a target (Err f) h s =
      let l = less-sound height a s in record {
        clear = l.clear;
        spawned = l.spawned;
        faulted = λ e. absurd (clash (sym (s.spawned (ap (λ b. b || any_by height ps) h)) ∙ e));
        in_text = l.in_text;
        left_in_text = l.left_in_text;
        levels = l.levels;
        leaving = l.leaving;
        returning = l.returning;
      }

  less-below : (target : Option Name) (below : List Frame) → AreSound plan (p ∷ ps) target below → AreSound plan ps target below
  less-below target [] s = tt
  less-below target (caller ∷ below) s = (λ name c d. s.0 name c (fewer (length below) p ps name d), less-sound (length below) caller s.1, less-below caller.target below s.2)

  module _ (owner : ℕ) (to : Option Name) (q : Result (List Value) Fault) (is-spawned : p.destination ≡ Spawned owner to) where
    by-owner : (height : ℕ) → nat_eq owner height ≡ true → is_by height p.destination ≡ true
    by-owner height h = ap (is_by height) is-spawned ∙ h

    same-target : (a : Frame) → (frame_with_answer to q a).target ≡ a.target
    same-target a = from q
      where
        from : (q : Result (List Value) Fault) → (frame_with_answer to q a).target ≡ a.target
        from (Ok vs) = refl
        from (Err f) = refl

    changed-below : (target : Option Name) (below : List Frame) → AreSound plan (p ∷ ps) target below → AreSound plan ps target (changed_at owner (frame_with_answer to q) below)
    changed-below target [] s = tt
    changed-below target (caller ∷ below) s = by_place (nat_eq owner (length below)) refl (changed-below caller.target below s.2)
      where
        height : ℕ
        height = length (changed_at owner (frame_with_answer to q) below)

        same : length below ≡ height
        same = sym (length-changed owner (frame_with_answer to q) below)

        apart : IsApart (target_names target) (unfilled (length below) ps)
        apart name c d = s.0 name c (fewer (length below) p ps name d)

        by_place : (b : Bool) → nat_eq owner (length below) ≡ b → AreSound plan ps caller.target (changed_at owner (frame_with_answer to q) below) →
            AreSound plan ps target (if b then frame_with_answer to q caller ∷ below else caller ∷ changed_at owner (frame_with_answer to q) below)
        by_place true e later =
            (apart, answered-sound (length below) caller to q (by-owner (length below) e) s.1, subst (λ (x : Option Name). AreSound plan ps x below) (sym (same-target caller)) (less-below caller.target below s.2))
        by_place false e later =
            (subst (λ n. IsApart (target_names target) (unfilled n ps)) same apart, subst (λ n. IsSound plan ps n caller) same (less-sound (length below) caller s.1), later)

    -- the innermost frame and the others
    changed-machine : (T : ℕ → Frame → Type 0) → ((height : ℕ) (a : Frame) → nat_eq owner height ≡ true → T height a → T height (frame_with_answer to q a)) →
        (m : Machine) → T (length m.below) m.top → AreSound plan (p ∷ ps) m.top.target m.below →
        let k = changed owner (frame_with_answer to q) m in T (length k.below) k.top × AreSound plan ps k.top.target k.below
    changed-machine T keeps m t s = by_place (nat_eq owner (length m.below)) refl
      where
        by_place : (b : Bool) → nat_eq owner (length m.below) ≡ b →
            let k = if b then record m { top = frame_with_answer to q m.top } else record m { below = changed_at owner (frame_with_answer to q) m.below } in T (length k.below) k.top × AreSound plan ps k.top.target k.below
        by_place true e = (keeps (length m.below) m.top e t, subst (λ (x : Option Name). AreSound plan ps x m.below) (sym (same-target m.top)) (less-below m.top.target m.below s))
        by_place false e = (subst (λ n. T n m.top) (sym (length-changed owner (frame_with_answer to q) m.below)) t, changed-below m.top.target m.below s)

-- Stages that take answers: what holds of them, or they have ended by a fault.

abbrev HasFaulted : Stage → Type 0
HasFaulted stage = (e : NodeFault) × (stage ≡ Ended (Err e))

abbrev Taking : PlanView → List AwaitedChild → Stage → Type 0
Taking plan ps stage = IsSoundStage plan ps stage ⊎ HasFaulted stage

faulted-takes : (destination : Destination) (q : Result (List Value) Fault) (e : NodeFault) → HasFaulted (takes destination q (Ended (Err e)))
faulted-takes (Spawned owner target) q e = (e, refl)
faulted-takes (Looped target) (Ok vs) e = (e, refl)
faulted-takes (Looped target) (Err f) e = (ChildFaulted f, refl)
faulted-takes Half q e = (e, refl)

places-owner : (height : ℕ) (ps : List AwaitedChild) (n : ℕ) → height ≡ n → AreDestinations height ps → AreDestinations n ps
places-owner height ps n e h = subst (λ k. AreDestinations k ps) e h

module _ (plan : PlanView) (p : AwaitedChild) (ps : List AwaitedChild) (q : Result (List Value) Fault) where
  same-height : (owner : ℕ) (to : Option Name) (m : Machine) → length m.below ≡ length (changed owner (frame_with_answer to q) m).below
  same-height owner to m = from (nat_eq owner (length m.below))
    where
      from : (b : Bool) → length m.below ≡ length (if b then record m { top = frame_with_answer to q m.top } else record m { below = changed_at owner (frame_with_answer to q) m.below }).below
      from true = refl
      from false = sym (length-changed owner (frame_with_answer to q) m.below)

  sync-kept : (height : ℕ) (a : Frame) (to : Option Name) → IsSound plan [] height (after_sync a) → IsSound plan [] height (after_sync (frame_with_answer to q a))
  sync-kept height a to s = from q
    where
      from : (q : Result (List Value) Fault) → IsSound plan [] height (after_sync (frame_with_answer to q a))
      from (Ok vs) = record { clear = s.clear; spawned = s.spawned; faulted = s.faulted; in_text = s.in_text; left_in_text = s.left_in_text; levels = s.levels; leaving = s.leaving; returning = s.returning }
      from (Err f) = record { clear = s.clear; spawned = s.spawned; faulted = s.faulted; in_text = s.in_text; left_in_text = s.left_in_text; levels = s.levels; leaving = s.leaving; returning = s.returning }

  top-changed : (owner : ℕ) (to : Option Name) → p.destination ≡ Spawned owner to → (m : Machine) → IsSound plan (p ∷ ps) (length m.below) m.top → AreSound plan (p ∷ ps) m.top.target m.below →
      let k = changed owner (frame_with_answer to q) m in IsSound plan ps (length k.below) k.top × AreSound plan ps k.top.target k.below
  top-changed owner to e m s b = by_place (nat_eq owner (length m.below)) refl
    where
      by_place : (t : Bool) → nat_eq owner (length m.below) ≡ t →
          let k = if t then record m { top = frame_with_answer to q m.top } else record m { below = changed_at owner (frame_with_answer to q) m.below } in IsSound plan ps (length k.below) k.top × AreSound plan ps k.top.target k.below
      by_place true h =
          (answered-sound plan p ps (length m.below) m.top to q (ap (is_by (length m.below)) e ∙ h) s, subst (λ (x : Option Name). AreSound plan ps x m.below) (sym (same-target plan p ps owner to q e m.top)) (less-below plan p ps m.top.target m.below b))
      by_place false h =
          (subst (λ n. IsSound plan ps n m.top) (sym (length-changed owner (frame_with_answer to q) m.below)) (less-sound plan p ps (length m.below) m.top s), changed-below plan p ps owner to q e m.top.target m.below b)

  takes-spawned : (owner : ℕ) (to : Option Name) → p.destination ≡ Spawned owner to → (stage : Stage) → IsSoundStage plan (p ∷ ps) stage → Taking plan ps (takes (Spawned owner to) q stage)
  takes-spawned owner to e (Running m) s =
      let k = top-changed owner to e m s.1 s.2 in inl (places-owner (length m.below) ps (length (changed owner (frame_with_answer to q) m).below) (same-height owner to m) s.0.1, k.0, k.1)
  takes-spawned owner to e (AtSync m) s =
      let k = changed-machine plan p ps owner to q e (λ height a. IsSound plan [] height (after_sync a)) (λ height a h t. sync-kept height a to t) m s.1 s.2 in
      inl (places-owner (length m.below) ps (length (changed owner (frame_with_answer to q) m).below) (same-height owner to m) s.0.1, k.0, k.1)
  takes-spawned owner to e (AtLoop m) s =
      let k = top-changed owner to e m s.0 s.1 in inl (k.0, k.1)
  takes-spawned owner to e (Ended (Ok v)) s = inl s.1
  takes-spawned owner to e (Ended (Err x)) s = inr (x, refl)

  takes-half : (stage : Stage) → IsSoundStage plan (p ∷ ps) stage → Taking plan ps stage
  takes-half (Running m) s = inl (s.0.1, less-sound plan p ps (length m.below) m.top s.1, less-below plan p ps m.top.target m.below s.2)
  takes-half (AtSync m) s = inl (s.0.1, s.1, less-below plan p ps m.top.target m.below s.2)
  takes-half (AtLoop m) s = inl (less-sound plan p ps (length m.below) m.top s.0, less-below plan p ps m.top.target m.below s.1)
  takes-half (Ended (Ok v)) s = inl s.1
  takes-half (Ended (Err x)) s = inr (x, refl)

  takes-looped : (to : Option Name) → p.destination ≡ Looped to → (q : Result (List Value) Fault) (stage : Stage) → IsSoundStage plan (p ∷ ps) stage → Taking plan ps (takes (Looped to) q stage)
  takes-looped to e (Err f) stage s = inr (ChildFaulted f, refl)
  takes-looped to e (Ok vs) (Running m) s = let no : IsDestination (length m.below) (Looped to) = subst (IsDestination (length m.below)) e s.0.0 in absurd no
  takes-looped to e (Ok vs) (AtSync m) s = let no : IsDestination (length m.below) (Looped to) = subst (IsDestination (length m.below)) e s.0.0 in absurd no
  takes-looped to e (Ok vs) (AtLoop m) s =
      let l = less-sound plan p ps (length m.below) m.top s.0 in
      inl (
        record { clear = l.clear; spawned = l.spawned; faulted = l.faulted; in_text = l.in_text; left_in_text = l.left_in_text; levels = l.levels; leaving = l.leaving; returning = l.returning },
        less-below plan p ps m.top.target m.below s.1,
      )
  takes-looped to e (Ok vs) (Ended (Ok v)) s = let no : IsHalf (Looped to) = subst IsHalf e s.0 in absurd no
  takes-looped to e (Ok vs) (Ended (Err x)) s = inr (x, refl)

  takes-sound : (destination : Destination) → p.destination ≡ destination → (stage : Stage) → IsSoundStage plan (p ∷ ps) stage → Taking plan ps (takes destination q stage)
  takes-sound (Spawned owner to) e stage s = takes-spawned owner to e stage s
  takes-sound (Looped to) e stage s = takes-looped to e q stage s
  takes-sound Half e stage s = takes-half stage s

  takes-either : (stage : Stage) → Taking plan (p ∷ ps) stage → Taking plan ps (takes p.destination q stage)
  takes-either stage (inl s) = takes-sound p.destination refl stage s
  takes-either stage (inr h) = inr (subst (λ (x : Stage). HasFaulted (takes p.destination q x)) (sym h.1) (faulted-takes p.destination q h.0))

all-taken : (plan : PlanView) (child : Origin → Evaluation) (ps : List AwaitedChild) (stage : Stage) → Taking plan ps stage → Taking plan [] (takes_all ps (evaluations child ps) stage)
all-taken plan child [] stage t = t
all-taken plan child (p ∷ ps) stage t = all-taken plan child ps (takes p.destination (child p.child).ending stage) (takes-either plan p ps (child p.child).ending stage t)

resumed-sound : (plan : PlanView) (stage : Stage) → Taking plan [] stage → IsSoundStage plan [] (resumed stage)
resumed-sound plan (Running m) (inl s) = s
resumed-sound plan (AtSync m) (inl s) = by_fault m.top.faulted refl
  where
    by_fault : (f : Option Fault) → m.top.faulted ≡ f → IsSoundStage plan [] (pass_sync f m)
    by_fault None h =
        (tt, record { clear = s.1.clear; spawned = s.1.spawned; faulted = λ e. h; in_text = s.1.in_text; left_in_text = s.1.left_in_text; levels = s.1.levels; leaving = s.1.leaving; returning = s.1.returning }, s.2)
    by_fault (Some f) h = refl
resumed-sound plan (AtLoop m) (inl s) = (tt, s.0, s.1)
resumed-sound plan (Ended (Ok v)) (inl s) = tt
resumed-sound plan (Ended (Err (Own f))) (inl s) = (0, tt)
resumed-sound plan (Ended (Err (ChildFaulted f))) (inl s) = refl
resumed-sound plan stage (inr h) = subst (λ (x : Stage). IsSoundStage plan [] (resumed x)) (sym h.1) (from h.0)
  where
    from : (e : NodeFault) → IsSoundStage plan [] (Ended (Err e))
    from (Own f) = (0, tt)
    from (ChildFaulted f) = refl

-- The task

module _ (t : Task) (is : IsTask t) where
  abbrev ps : List AwaitedChild
  ps = t.trace.unmerged

  abbrev answers : List Evaluation
  answers = evaluations (eval t.plan) ps

  abbrev own : Origin
  own = own_instance t.origin

  abbrev kids : Origin → Evaluation
  kids = children_of t.plan own

  abbrev trace-on : Trace
  trace-on = merged_answers ps answers (record t.trace { unmerged = [] })

  abbrev taken_stage : Stage → Stage
  taken_stage stage = resumed (takes_all ps answers stage)

  -- nothing more is taken
  pub rest-same : (stage : Stage) → rest_open t.plan kids (path_of own) ps stage ≡ rest_open t.plan kids (path_of own) [] (taken_stage stage)
  rest-same stage =
      ap (λ (s : Stage). rest_of_stage t.plan kids (path_of own) s) (ap resumed (takes-same t.plan t.origin ps is.awaiting stage) ∙ sym (resumed-twice (takes_all ps answers stage)))

  remaining-same : (remaining : Remaining) (vs : List Value) → remaining_run t.plan t.origin ps remaining vs ≡ remaining_run t.plan t.origin [] (resumed_remaining ps answers remaining) vs
  remaining-same (Splits left) vs = refl
  remaining-same (Runs stage) vs = ap (λ (r : Run Item NodeFault Value). closed_run kids r then λ v. done (all_with t.origin vs v)) (rest-same stage)
  remaining-same (Finished v has_waited) vs = refl

  remaining-sound : (remaining : Remaining) → IsSoundRemaining t.plan t.origin ps remaining → IsSoundRemaining t.plan t.origin [] (resumed_remaining ps answers remaining)
  remaining-sound (Splits left) s = (s.0, tt)
  remaining-sound (Runs stage) s =
      (s.0, record { front = s.1.front; whole = s.1.whole ∙ ap (λ (r : Run Item NodeFault Value). after_items s.1.front (r then λ v. done (v ∷ []))) (rest-same stage) }, resumed-sound t.plan (takes_all ps answers stage) (all-taken t.plan (eval t.plan) ps stage (inl s.2)))
  remaining-sound (Finished v true) s = (s.0, refl)
  remaining-sound (Finished v false) s = (s.0, refl)

  remaining-pending : (remaining : Remaining) → UnfilledArePendingIn t.plan ps remaining → UnfilledArePendingIn t.plan [] (resumed_remaining ps answers remaining)
  remaining-pending (Splits left) p = tt
  remaining-pending (Runs stage) p = answers-pending t.plan (eval t.plan) ps stage p
  remaining-pending (Finished v has_waited) p = tt

  pub none-unmerged : trace-on.unmerged ≡ []
  none-unmerged = heard-none (eval t.plan) ps (record t.trace { unmerged = [] }) refl

  finishes : finish (on answers t) ≡ eval t.plan t.origin
  finishes =
      let tail : List Value → Evaluation = remaining_run t.plan t.origin [] (resumed_remaining ps answers t.remaining) in
      ap (λ (qs : List AwaitedChild). prefix_run trace-on then λ u. awaited_run (eval t.plan) qs (all_values ps answers t.values) then remaining_run t.plan t.origin qs (resumed_remaining ps answers t.remaining)) none-unmerged
      ∙ sym (heard-so_far (eval t.plan) ps (record t.trace { unmerged = [] }) t.values tail)
      ∙ sym (so_far-same (eval t.plan) t.trace t.values (remaining_run t.plan t.origin ps t.remaining) tail (remaining-same t.remaining))
      ∙ is.finishes

  pub keeps_task : IsTask (on answers t)
  keeps_task = record {
    finishes = finishes;
    known = is.known;
    clear = is.clear;
    awaiting = subst (AreSoundChildren t.plan t.origin) (sym none-unmerged) tt;
    shown = λ none. subst (AreShownBy t.plan t.origin [] trace-on.prefix) (sym none-unmerged) tt;
    remaining = subst (λ (qs : List AwaitedChild). IsSoundRemaining t.plan t.origin qs (resumed_remaining ps answers t.remaining)) (sym none-unmerged) (remaining-sound t.remaining is.remaining);
    pending = subst (λ (qs : List AwaitedChild). UnfilledArePendingIn t.plan qs (resumed_remaining ps answers t.remaining)) (sym none-unmerged) (remaining-pending t.remaining is.pending);
    found = λ plan-found. subst (FindsTargets t.plan (functions_left (resumed_remaining ps answers t.remaining))) (sym none-unmerged) tt;
  }

-- A task that takes its children's evaluations stays sound.
pub answers_keep_tasks : (t : Task) → IsTask t → IsTask (on (evaluations (eval t.plan) t.trace.unmerged) t)
answers_keep_tasks t is = keeps_task t is
