-- A move of a task keeps its invariant.
use Rattle.std.proofs.Common.{◌≡◌, ℕ, List, [], ◌∷◌, ◌++◌, Option, Some, None, Result, Ok, Err, inr, length, refl, sym, ap, ◌∙◌, append_assoc, append-nil, subst}
use Rattle.std.specs.Prelude.{Contains}
use Rattle.std.proofs.lemmas.List.Elements.{Contains-append_left, Contains-append_right}
use Rattle.serial_meaning.specs.Runs.{Run, done, run_ends_by, after_items, ◌then◌}
use Rattle.serial_meaning.specs.Plan.{PlanView}
use Rattle.serial_meaning.specs.Eval.{Evaluation, path_of, eval}
use Rattle.serial_meaning.specs.Open.{Item, Happened, Child, Opened, Closed, NodeFault, Own, node_of}
use Rattle.serial_meaning.specs.Laws.{IsOriginOf, ChildOf}
use Rattle.serial_meaning.proofs.Equations.RunLaws.{then-same}
use Rattle.serial_meaning.proofs.Equations.Each.{Each}
use Rattle.serial_meaning.specs.declared.value.Value.{Value}
use Rattle.serial_meaning.specs.declared.event.Fault.{Fault}
use Rattle.serial_meaning.specs.declared.origin.Origin.{Origin}
use Rattle.strand_meaning.specs.Machine.{Destination, Spawned, Looped, Half, Effect, Opens, Closes, Emitted, Starts, Syncs, Loops, Machine, Reached, Stands, Gives, move}
use Rattle.strand_meaning.specs.Trace.{AwaitedChild, Trace, with_effects}
use Rattle.strand_meaning.specs.Task.{Stage, Running, Ended, Remaining, Runs, Task, own_instance, stage_after, child_in, stops_at, passing, step_result, resumed}
use Rattle.strand_meaning.specs.Rest.{children_of, rest_of_stage, rest_open, closed_run, awaited_run, prefix_run, remaining_run, all_with, finish}
use Rattle.strand_meaning.specs.Sound.{IsDestination, AreDestinations, IsHalf, AreHalves, IsSoundStage, IsSoFar, AreSoundChildren, IsInstanceOrLoop, UnfilledArePending, IsTask}
use Rattle.strand_meaning.specs.Found.{FindsTargets, IsFoundPlan, functions_at, functions_left}
use Rattle.strand_meaning.specs.Laws.{IsSoundStep}
use Rattle.strand_meaning.specs.Observation.{effect_items}
use Rattle.strand_meaning.proofs.Unfilled.RestAfterEffects.{effect_parts}
use Rattle.strand_meaning.proofs.Unfilled.MovesBeforeAnswers.{takes-taken, shown_with, open-move, none-known}
use Rattle.strand_meaning.proofs.Unfilled.SoundMoves.{sound-free, SoundEnd, sound-move}
use Rattle.strand_meaning.proofs.UnfilledPending.PendingMoves.{PendingEnd, pending-move}
use Rattle.strand_meaning.proofs.UnfilledPending.PendingAnswers.{alike-pending}
use Rattle.strand_meaning.proofs.FoundTargets.FoundParts.{found-nowhere, found-alike}
use Rattle.strand_meaning.proofs.FoundTargets.FoundMoves.{FoundEnd, found-move, functions-after}
use Rattle.strand_meaning.proofs.UnfilledPending.AlikeButEvents.{Alike, alike-effects, alike-takes, alike-parts, alike-stage}
use Rattle.strand_meaning.proofs.SoundSteps.OriginsFitDepth.{loop-of-plan, same-answer}
use Rattle.strand_meaning.proofs.SoundSteps.ChildrenFollowEvents.{own-move}
use Rattle.strand_meaning.proofs.SoundSteps.EventsShowChildren.{KeepsShown, effects-fault, move-shows}
use Rattle.strand_meaning.proofs.SoundSteps.ChildrenCloseNodes.{after-then}
use Rattle.strand_meaning.proofs.SoundSteps.Finishing.{NotHalf, so_far, effects_then, effects-so_far, SameChild, effects_then-closed}
use Rattle.strand_meaning.proofs.Unfilled.UntouchedStays.{first-contained, later-contained}

pub so_far-same : (child : Origin → Evaluation) (trace : Trace) (values : List Value) (f g : List Value → Evaluation) → ((vs : List Value) → f vs ≡ g vs) → so_far child trace values f ≡ so_far child trace values g
so_far-same child trace values f g same =
    ap (λ (r : Evaluation). prefix_run trace then λ u. r) (then-same (awaited_run child trace.unmerged values) f g (λ vs h. same vs))

pub parts-append : (plan : PlanView) (o : Origin) (ps qs : List AwaitedChild) → AreSoundChildren plan o ps → AreSoundChildren plan o qs → AreSoundChildren plan o (ps ++ qs)
parts-append plan o [] qs h k = k
parts-append plan o (p ∷ ps) qs h k = (h.0, parts-append plan o ps qs h.1 k)

-- The children of a move

module _ (plan : PlanView) (o : Origin) where
  abbrev child : Origin → Evaluation
  child = children_of plan (own_instance o)

  abbrev Known : Origin → Type 0
  Known c = IsOriginOf plan c × (child c ≡ eval plan c) × Contains (node_of plan (own_instance o)).items (Child c)

  new-parts : (ts : List Effect) → Each NotHalf ts → ((c : Origin) → Contains (effect_items ts) (Child c) → Known c) → AreSoundChildren plan o (effect_parts ts)
  new-parts [] own h = tt
  new-parts (Opens j ∷ ts) own h = new-parts ts own.1 (λ c k. h c (later-contained (Opened j) (Child c) (effect_items ts) k))
  new-parts (Closes j ∷ ts) own h = new-parts ts own.1 (λ c k. h c (later-contained (Closed j) (Child c) (effect_items ts) k))
  new-parts (Emitted e ∷ ts) own h = new-parts ts own.1 (λ c k. h c (later-contained (Happened e) (Child c) (effect_items ts) k))
  new-parts (Starts c (Spawned height target) ∷ ts) own h =
      let k = h c (first-contained (Child c) (effect_items ts)) in (record { known = k.0; fits = tt; same = inr k.1 }, new-parts ts own.1 (λ d g. h d (later-contained (Child c) (Child d) (effect_items ts) g)))
  new-parts (Starts c (Looped target) ∷ ts) own h =
      let k = h c (first-contained (Child c) (effect_items ts)) in (record { known = k.0; fits = tt; same = inr k.1 }, new-parts ts own.1 (λ d g. h d (later-contained (Child c) (Child d) (effect_items ts) g)))
  new-parts (Starts c Half ∷ ts) own h = absurd own.0
  new-parts (Syncs ∷ ts) own h = new-parts ts own.1 h
  new-parts (Loops ∷ ts) own h = new-parts ts own.1 h

  same-children : (ts : List Effect) → ((c : Origin) → Contains (effect_items ts) (Child c) → Known c) → Each (SameChild child (eval plan)) ts
  same-children [] h = tt
  same-children (Opens j ∷ ts) h = (tt, same-children ts (λ c k. h c (later-contained (Opened j) (Child c) (effect_items ts) k)))
  same-children (Closes j ∷ ts) h = (tt, same-children ts (λ c k. h c (later-contained (Closed j) (Child c) (effect_items ts) k)))
  same-children (Emitted e ∷ ts) h = (tt, same-children ts (λ c k. h c (later-contained (Happened e) (Child c) (effect_items ts) k)))
  same-children (Starts c destination ∷ ts) h =
      ((h c (first-contained (Child c) (effect_items ts))).1, same-children ts (λ d g. h d (later-contained (Child c) (Child d) (effect_items ts) g)))
  same-children (Syncs ∷ ts) h = (tt, same-children ts h)
  same-children (Loops ∷ ts) h = (tt, same-children ts h)

  child-known : (ts : List Effect) (c : Origin) → ((d : Origin) → Contains (effect_items ts) (Child d) → Known d) → child_in ts ≡ Some c → Known c
  child-known [] c h e = absurd (cc)
  child-known (Opens j ∷ ts) c h e = child-known ts c (λ d k. h d (later-contained (Opened j) (Child d) (effect_items ts) k)) e
  child-known (Closes j ∷ ts) c h e = child-known ts c (λ d k. h d (later-contained (Closed j) (Child d) (effect_items ts) k)) e
  child-known (Emitted x ∷ ts) c h e = child-known ts c (λ d k. h d (later-contained (Happened x) (Child d) (effect_items ts) k)) e
  child-known (Starts d destination ∷ ts) c h e = subst Known (by_some e) (h d (first-contained (Child d) (effect_items ts)))
    where
      or_first : Option Origin → Origin
      or_first None = d
      or_first (Some f) = f

      by_some : Some d ≡ Some c → d ≡ c
      by_some g = ap or_first g
  child-known (Syncs ∷ ts) c h e = child-known ts c h e
  child-known (Loops ∷ ts) c h e = child-known ts c h e

-- Where a stage has ended answers change nothing
pub ended-rest : (plan : PlanView) (child : Origin → Evaluation) (path : List ℕ) (height : ℕ) (ps : List AwaitedChild) → AreDestinations height ps → (e : Result Value NodeFault) →
    rest_open plan child path ps (Ended e) ≡ record { items = []; ending = e }
ended-rest plan child path height ps h e = ap (λ stage. rest_of_stage plan child path (resumed stage)) (takes-taken child height ps h (Ended e))

pub halves-places : (ps : List AwaitedChild) → AreHalves ps → AreDestinations 0 ps
halves-places [] h = tt
halves-places (p ∷ ps) h = (from p.destination h.0, halves-places ps h.1)
  where
    from : (destination : Destination) → IsHalf destination → IsDestination 0 destination
    from (Spawned owner target) g = absurd g
    from (Looped target) g = absurd g
    from Half g = tt

-- A task whose instance moves
module _ (t : Task) (is : IsTask t) (m : Machine) (own-known : IsOriginOf t.plan (own_instance t.origin)) (is-loop : IsInstanceOrLoop t.origin)
    (far : IsSoFar t.plan (own_instance t.origin) t.trace.unmerged (Running m)) (sound : IsSoundStage t.plan t.trace.unmerged (Running m)) (pends : UnfilledArePending t.plan t.trace.unmerged (Running m)) (at : t.remaining ≡ Runs (Running m)) where
  abbrev own : Origin
  own = own_instance t.origin

  abbrev path : List ℕ
  path = path_of own

  abbrev kids : Origin → Evaluation
  kids = children_of t.plan own

  abbrev ps : List AwaitedChild
  ps = t.trace.unmerged

  -- what a move shows and leaves, as an equation of what remains
  abbrev Leaves : List Effect → Run Item NodeFault Value → Type 0
  Leaves ts rest = rest_open t.plan kids path ps (Running m) ≡ after_items (effect_items ts) rest

  abbrev all_of : Value → Run Item NodeFault (List Value)
  all_of v = done (v ∷ [])

  further : (ts : List Effect) (rest : Run Item NodeFault Value) → Leaves ts rest → node_of t.plan own ≡ after_items (far.front ++ effect_items ts) (rest then all_of)
  further ts rest h =
      far.whole
      ∙ ap (λ (r : Run Item NodeFault Value). after_items far.front (r then all_of)) h
      ∙ ap (after_items far.front) (after-then (effect_items ts) rest all_of)
      ∙ ap (λ (l : List Item). record { items = l; ending = (rest then all_of).ending }) (sym (append_assoc far.front (effect_items ts) (rest then all_of).items))

  known : (ts : List Effect) (rest : Run Item NodeFault Value) → Leaves ts rest → (c : Origin) → Contains (effect_items ts) (Child c) → Known t.plan t.origin c
  known ts rest h c k = (ChildOf own c own-known there, same-answer t.plan own c (loop-of-plan t.plan own own-known) there, there)
    where
      there : Contains (node_of t.plan own).items (Child c)
      there =
          subst (λ (r : Run Item NodeFault (List Value)). Contains r.items (Child c)) (sym (further ts rest h))
          (Contains-append_left (far.front ++ effect_items ts) (rest then all_of).items (Child c) (Contains-append_right far.front (effect_items ts) (Child c) k))

  -- the task after the move
  next-task : (ts : List Effect) → Each NotHalf ts → KeepsShown t.plan t.origin ts → (rest : Run Item NodeFault Value) → Leaves ts rest → (stage : Stage) →
      rest ≡ rest_open t.plan kids path (ps ++ effect_parts ts) stage → IsSoundStage t.plan (ps ++ effect_parts ts) stage → UnfilledArePending t.plan (ps ++ effect_parts ts) stage →
      (IsFoundPlan t.plan → FindsTargets t.plan (functions_at stage) (ps ++ effect_parts ts)) → IsTask (passing t ts (Runs stage))
  next-task ts own-effects shows rest leaves stage lands fits stands finds = record {
    finishes = finishes;
    known = is.known;
    clear = is.clear;
    awaiting = alike-parts t.plan t.origin alike (parts-append t.plan t.origin ps (effect_parts ts) is.awaiting (new-parts t.plan t.origin ts own-effects (known ts rest leaves)));
    shown = λ none. let before : t.trace.fault ≡ None = sym (effects-fault ts t.trace) ∙ none in shows t.trace before (is.shown before);
    remaining = (is-loop, record { front = far.front ++ effect_items ts; whole = further ts rest leaves ∙ ap (λ (r : Run Item NodeFault Value). after_items (far.front ++ effect_items ts) (r then all_of)) lands-here }, alike-stage t.plan alike stage fits);
    pending = alike-pending t.plan alike stage stands;
    found = λ plan-found. found-alike t.plan (functions_at stage) alike (finds plan-found);
  }
    where
      after : List AwaitedChild
      after = (with_effects ts t.trace).unmerged

      alike : Alike (ps ++ effect_parts ts) after
      alike = alike-effects ts t.trace

      lands-here : rest ≡ rest_open t.plan kids path after stage
      lands-here = lands ∙ ap (λ s. rest_of_stage t.plan kids path (resumed s)) (alike-takes kids alike stage)

      the-rest : (vs : List Value) → remaining_run t.plan t.origin ps (Runs (Running m)) vs ≡ effects_then (eval t.plan) ts (remaining_run t.plan t.origin after (Runs stage) vs)
      the-rest vs =
          ap (λ (r : Run Item NodeFault Value). closed_run kids r then λ v. done (all_with t.origin vs v)) leaves
          ∙ effects_then-closed kids (eval t.plan) ts (same-children t.plan t.origin ts (known ts rest leaves)) rest (λ v. done (all_with t.origin vs v))
          ∙ ap (λ (r : Run Item NodeFault Value). effects_then (eval t.plan) ts (closed_run kids r then λ v. done (all_with t.origin vs v))) lands-here

      finishes : finish (passing t ts (Runs stage)) ≡ eval t.plan t.origin
      finishes =
          effects-so_far (eval t.plan) ts own-effects t.trace t.values (remaining_run t.plan t.origin after (Runs stage))
          ∙ sym (so_far-same (eval t.plan) t.trace t.values (remaining_run t.plan t.origin ps (Runs (Running m))) (λ vs. effects_then (eval t.plan) ts (remaining_run t.plan t.origin after (Runs stage) vs)) the-rest)
          ∙ ap (λ (w : Remaining). so_far (eval t.plan) t.trace t.values (remaining_run t.plan t.origin ps w)) (sym at)
          ∙ is.finishes

  sound-result : (ts : List Effect) (e : Result Reached Fault) → Each NotHalf ts → KeepsShown t.plan t.origin ts → Leaves ts (shown_with t.plan kids path ps ts e) → SoundEnd t.plan ps ts e → PendingEnd t.plan ps ts e → (IsFoundPlan t.plan → FoundEnd t.plan ps ts e) → IsSoundStep t (step_result t ts e)
  sound-result ts (Ok (Stands k)) own-effects shows leaves fits stands finds = by_child (child_in ts) refl
    where
      next : Task
      next = passing t ts (Runs (stage_after ts k))

      is-next : IsTask next
      is-next = next-task ts own-effects shows (rest_open t.plan kids path (ps ++ effect_parts ts) (stage_after ts k)) leaves (stage_after ts k) refl fits stands
          (λ plan-found. subst (λ (fs : List ℕ). FindsTargets t.plan fs (ps ++ effect_parts ts)) (sym (functions-after ts k)) (finds plan-found))

      by_child : (o : Option Origin) → child_in ts ≡ o → IsSoundStep t (stops_at o next)
      by_child None h = is-next
      by_child (Some c) h =
          let k = child-known t.plan t.origin ts c (known ts (rest_open t.plan kids path (ps ++ effect_parts ts) (stage_after ts k)) leaves) h in
          (k.0, is-next)
  sound-result ts (Ok (Gives v)) own-effects shows leaves fits stands finds =
      next-task ts own-effects shows (done v) leaves (Ended (Ok v)) (sym (ended-rest t.plan kids path 0 (ps ++ effect_parts ts) (halves-places (ps ++ effect_parts ts) halves) (Ok v))) halves tt (λ plan-found. found-nowhere t.plan (ps ++ effect_parts ts))
    where
      halves : AreHalves (ps ++ effect_parts ts)
      halves = subst AreHalves (sym (ap (λ (l : List AwaitedChild). ps ++ l) fits.0 ∙ append-nil ps)) fits.1
  sound-result ts (Err f) own-effects shows leaves fits stands finds =
      next-task ts own-effects shows (run_ends_by (Own f)) leaves (Ended (Err (Own f))) (sym (ended-rest t.plan kids path fits.1 (ps ++ effect_parts ts) places (Err (Own f)))) (fits.1, places) tt (λ plan-found. found-nowhere t.plan (ps ++ effect_parts ts))
    where
      places : AreDestinations fits.1 (ps ++ effect_parts ts)
      places = subst (AreDestinations fits.1) (sym (ap (λ (l : List AwaitedChild). ps ++ l) fits.0 ∙ append-nil ps)) fits.2

  pub sound-going : IsSoundStep t (step_result t (move t.plan path m).items (move t.plan path m).ending)
  sound-going =
      let r = move t.plan path m in
      sound-result r.items r.ending (own-move t.plan path m) (move-shows t.plan t.origin m)
      (open-move t.plan kids path (length m.below) ps sound.0 m (sound-free t.plan ps m sound) (none-known kids ps m sound.1.spawned sound.1.faulted) (λ h. (sound.1.leaving h).1))
      (sound-move t.plan path is.clear ps m sound) (pending-move t.plan path ps m sound pends)
      (λ plan-found. found-move t.plan path ps m sound.0 (subst (λ (w : Remaining). FindsTargets t.plan (functions_left w) ps) at (is.found plan-found)) plan-found pends)
