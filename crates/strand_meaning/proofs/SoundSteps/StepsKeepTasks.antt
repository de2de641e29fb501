-- What a task comes to by one step is sound.
use Rattle.std.proofs.Common.{◌≡◌, ℕ, zero, suc, ◌+◌, ◌-◌, ◌<◌, ◌≤◌, Bool, true, false, List, [], ◌∷◌, ◌++◌, Option, Some, None, Result, Ok, Err, inl, inr, ◌⊎◌, length, refl, sym, ap, ◌∙◌, append_assoc, append-nil, subst, arith}
use Rattle.std.proofs.Common.{ℤ}
use Rattle.loop_range.specs.Range.{Range, middle, lower_half, upper_half}
use Rattle.serial_meaning.specs.Runs.{Run, done, ◌then◌}
use Rattle.serial_meaning.specs.Plan.{PlanView}
use Rattle.serial_meaning.specs.Eval.{Evaluation, iteration, path_of, loop_evaluation, eval}
use Rattle.serial_meaning.specs.Open.{Item, NodeFault, Own, ChildFaulted, node_of, faults}
use Rattle.serial_meaning.specs.Laws.{IsOriginOf, EndsWithin}
use Rattle.serial_meaning.specs.Answer.{outcome_of}
use Rattle.serial_meaning.proofs.Equations.RunLaws.{then-then, then-same}
use Rattle.serial_meaning.proofs.OriginFaults.Origins.{origins_end_within_faults}
use Rattle.serial_meaning.specs.declared.value.Value.{Value}
use Rattle.serial_meaning.specs.declared.event.Fault.{Fault}
use Rattle.serial_meaning.specs.declared.event.Event.{Event}
use Rattle.serial_meaning.specs.declared.origin.Origin.{Origin}
use Rattle.serial_meaning.specs.declared.origin.Origin.TheVariants.{Instance, Loop}
use Rattle.serial_meaning.specs.declared.answer.Outcome.{Outcome}
use Rattle.serial_meaning.specs.declared.answer.Outcome.TheVariants as outcome
use Rattle.strand_meaning.specs.Clear.{IsClearPlan}
use Rattle.strand_meaning.specs.Machine.{Destination, Spawned, Looped, Half, function_begun}
use Rattle.strand_meaning.specs.Trace.{AwaitedChild, Trace, add_child}
use Rattle.strand_meaning.specs.Task.{Stage, Running, AtSync, AtLoop, Ended, Remaining, Splits, Runs, Finished, Task, begun_stage, start, own_instance, Stops, Spawn, waits, ends, ends_unless, faults_after, returned, stage_step, first_half, begins_last, split_step, over_step, remaining_step, step}
use Rattle.strand_meaning.specs.Rest.{children_of, rest_of_stage, rest_open, closed_run, prefix_run, awaited_run, iterations_left, all_with, remaining_run, finish}
use Rattle.strand_meaning.specs.Sound.{IsHalf, AreHalves, IsPartAfter, IsSoundStage, IsSoFar, IsEndOf, IsLoop, IsLongLoop, FitsOrigin, AreSoundChildren, IsInstanceOrLoop, IsSoundRemaining, UnfilledArePendingIn, IsTask}
use Rattle.strand_meaning.specs.Found.{FindsTargets, functions_left}
use Rattle.strand_meaning.specs.Laws.{IsFaultOf, IsSoundStep}
use Rattle.strand_meaning.proofs.FoundTargets.FoundParts.{found-nowhere, found-halves}
use Rattle.strand_meaning.proofs.SoundSteps.MovesKeepTasks.{so_far-same, parts-append, ended-rest, halves-places, sound-going}
use Rattle.strand_meaning.proofs.SoundSteps.RestStartsAsNode.{begun-whole, begun-sound, begun-pending, halves-rest}
use Rattle.strand_meaning.proofs.SoundSteps.ChildrenCloseNodes.{closed-then, eval-closed}
use Rattle.strand_meaning.proofs.SoundSteps.Finishing.{add_child-so_far}
use Rattle.strand_meaning.proofs.SoundSteps.EventsShowChildren.{shown-more}
use Rattle.strand_meaning.proofs.SoundSteps.LoopsEndByRest.{ends-later}
use Rattle.strand_meaning.proofs.SoundSteps.OriginsFitDepth.{loop-of-plan}
use Rattle.strand_meaning.proofs.SoundSteps.HalvesMakeLoops.{then-done, eval-loop, halves-turns, own-of-plan, part-of-loop}

-- The end of a task

pub err-outcome : (o : Origin) (f : Fault) → outcome_of o (Err f) ≡ outcome.Fault f
err-outcome (Instance function args path) f = refl
err-outcome (Loop function rest first path range) f = refl

fault-of : (plan : PlanView) (o : Origin) (r : Result (List Value) Fault) → EndsWithin (faults plan) r → IsFaultOf plan (outcome_of o r)
fault-of plan (Instance function args path) (Ok vs) h = tt
fault-of plan (Loop function rest first path range) (Ok vs) h = tt
fault-of plan o (Err f) h = subst (IsFaultOf plan) (sym (err-outcome o f)) h

-- a task's trace and then how it ends
abbrev ended_run : Trace → Result (List Value) Fault → Evaluation
ended_run trace r = prefix_run trace then λ u. record { items = []; ending = r }

end-is : (t : Task) → IsTask t → (r : Result (List Value) Fault) → ended_run t.trace r ≡ eval t.plan t.origin → (ended : Outcome) → ended ≡ outcome_of t.origin r → IsSoundStep t (ends t ended)
end-is t is r h ended e = by_fault t.trace.fault refl
  where
    o : Origin
    o = t.origin

    within : (q : Evaluation) → q ≡ eval t.plan o → EndsWithin (faults t.plan) q.ending
    within q g = subst (λ (p : Evaluation). EndsWithin (faults t.plan) p.ending) (sym g) (origins_end_within_faults t.plan o is.known)

    run : Option Fault → Evaluation
    run f = ended_run (record t.trace { fault = f }) r

    by_fault : (f : Option Fault) → t.trace.fault ≡ f → IsSoundStep t (ends_unless f t ended)
    by_fault (Some f) g =
        let q : Evaluation = record { items = t.trace.prefix; ending = Err f } in
        let same : q ≡ eval t.plan o = ap run (sym g) ∙ h in
        (record { events = ap (λ (p : Evaluation). p.items) same; ends = sym (err-outcome o f) ∙ ap (λ (p : Evaluation). outcome_of o p.ending) same }, within q same)
    by_fault None g =
        let q : Evaluation = record { items = t.trace.prefix; ending = r } in
        let same : q ≡ eval t.plan o = ap (λ (l : List Event). record { items = l; ending = r }) (sym (append-nil t.trace.prefix)) ∙ ap run (sym g) ∙ h in
        (record { events = ap (λ (p : Evaluation). p.items) same; ends = e ∙ ap (λ (p : Evaluation). outcome_of o p.ending) same }, subst (IsFaultOf t.plan) (sym e) (fault-of t.plan o r (within q same)))

-- a task without children
alone : (t : Task) → t.trace.unmerged ≡ [] → finish t ≡ (prefix_run t.trace then λ u. remaining_run t.plan t.origin [] t.remaining t.values)
alone t h = ap (λ (ps : List AwaitedChild). prefix_run t.trace then λ u. awaited_run (eval t.plan) ps t.values then remaining_run t.plan t.origin ps t.remaining) h

end-alone : (t : Task) → IsTask t → t.trace.unmerged ≡ [] → (r : Result (List Value) Fault) → remaining_run t.plan t.origin [] t.remaining t.values ≡ record { items = []; ending = r } →
    (ended : Outcome) → ended ≡ outcome_of t.origin r → IsSoundStep t (ends t ended)
end-alone t is none r h ended e = end-is t is r (ap (λ (q : Evaluation). prefix_run t.trace then λ u. q) (sym h) ∙ sym (alone t none) ∙ is.finishes) ended e

-- Parts of a loop are there only where it is long.
halves-long : (plan : PlanView) (o : Origin) (ps : List AwaitedChild) → AreHalves ps → AreSoundChildren plan o ps → (ps ≡ []) ⊎ IsLongLoop o
halves-long plan o [] h k = inl refl
halves-long plan o (p ∷ ps) h k = inr (from p.destination h.0 k.0.fits)
  where
    from : (destination : Destination) → IsHalf destination → FitsOrigin o destination → IsLongLoop o
    from (Spawned owner target) g f = absurd g
    from (Looped target) g f = absurd g
    from Half g f = f

-- A task that stands in a wait, or that was advanced, gives the same.
waits-sound : (t : Task) → IsTask t → IsSoundStep t (waits t)
waits-sound t is = record { finishes = is.finishes; known = is.known; clear = is.clear; awaiting = is.awaiting; shown = is.shown; remaining = is.remaining; pending = is.pending; found = is.found }

-- other work that gives the same
with-remaining : (t : Task) → IsTask t → (remaining : Remaining) → ((vs : List Value) → remaining_run t.plan t.origin t.trace.unmerged t.remaining vs ≡ remaining_run t.plan t.origin t.trace.unmerged remaining vs) →
    IsSoundRemaining t.plan t.origin t.trace.unmerged remaining → UnfilledArePendingIn t.plan t.trace.unmerged remaining → FindsTargets t.plan (functions_left remaining) t.trace.unmerged → IsTask (record t { remaining = remaining; advanced = true })
with-remaining t is remaining same sound pends finds = record {
  finishes = sym (so_far-same (eval t.plan) t.trace t.values (remaining_run t.plan t.origin t.trace.unmerged t.remaining) (remaining_run t.plan t.origin t.trace.unmerged remaining) same) ∙ is.finishes;
  known = is.known;
  clear = is.clear;
  awaiting = is.awaiting;
  shown = is.shown;
  remaining = sound;
  pending = pends;
  found = λ plan-found. finds;
}

module _ (t : Task) (is : IsTask t) where
  abbrev ps : List AwaitedChild
  ps = t.trace.unmerged

  abbrev run_at : List AwaitedChild → Remaining → List Value → Evaluation
  run_at parts remaining values = remaining_run t.plan t.origin parts remaining values

  -- an instance that has ended
  returned-sound : (v : Value) → t.remaining ≡ Runs (Ended (Ok v)) → AreHalves ps → IsInstanceOrLoop t.origin → IsSoundStep t (returned t t.origin v)
  returned-sound v at halves is-loop = by_origin t.origin refl
    where
      by_origin : (o : Origin) → t.origin ≡ o → IsSoundStep t (returned t o v)
      by_origin (Instance function args path) h =
          end-alone t is (none (halves-long t.plan t.origin ps halves is.awaiting)) (Ok (v ∷ [])) (ap (λ (w : Remaining). run_at [] w t.values) at ∙ ap (λ (o : Origin). done (all_with o t.values v)) h)
          (outcome.Value v) (ap (λ (o : Origin). outcome_of o (Ok (v ∷ []))) (sym h))
        where
          none : (ps ≡ []) ⊎ IsLongLoop t.origin → ps ≡ []
          none (inl e) = e
          none (inr l) = let no : IsLongLoop (Instance function args path) = subst IsLongLoop h l in absurd no
      by_origin (Loop function rest first path range) h =
          with-remaining t is (Finished v false) same (subst IsLoop (sym h) (subst IsInstanceOrLoop h is-loop), halves) tt (found-nowhere t.plan ps)
        where
          own : Origin
          own = own_instance t.origin

          same : (vs : List Value) → run_at ps t.remaining vs ≡ run_at ps (Finished v false) vs
          same vs =
              ap (λ (w : Remaining). run_at ps w vs) at
              ∙ ap (λ (r : Run Item NodeFault Value). closed_run (children_of t.plan own) r then λ v. done (all_with t.origin vs v)) (ended-rest t.plan (children_of t.plan own) (path_of own) 0 ps (halves-places ps halves) (Ok v))
              ∙ ap (λ (o : Origin). done (all_with o vs v)) h

  fault-sound : (f : Fault) → t.remaining ≡ Runs (Ended (Err (Own f))) → (qs : List AwaitedChild) → ps ≡ qs → IsSoundStep t (faults_after qs t f)
  fault-sound f at [] h = end-alone t is h (Err f) (ap (λ (w : Remaining). run_at [] w t.values) at) (outcome.Fault f) (sym (err-outcome t.origin f))
  fault-sound f at (q ∷ qs) h = waits-sound t is

  stage-sound : (stage : Stage) → t.remaining ≡ Runs stage → IsInstanceOrLoop t.origin → IsSoFar t.plan (own_instance t.origin) ps stage → IsSoundStage t.plan ps stage → IsSoundStep t (stage_step t stage)
  stage-sound (Running m) at is-loop far sound = sound-going t is m (own-of-plan t.plan t.origin is.known is-loop) is-loop far sound (subst (UnfilledArePendingIn t.plan ps) at is.pending) at
  stage-sound (AtSync m) at is-loop far sound = waits-sound t is
  stage-sound (AtLoop m) at is-loop far sound = waits-sound t is
  stage-sound (Ended (Ok v)) at is-loop far sound = returned-sound v at sound is-loop
  stage-sound (Ended (Err (Own f))) at is-loop far sound = fault-sound f at ps refl
  stage-sound (Ended (Err (ChildFaulted f))) at is-loop far sound =
      end-alone t is sound (Err f) (ap (λ (w : Remaining). run_at [] w t.values) at) (outcome.Fault f) (sym (err-outcome t.origin f))

  -- a loop whose last iteration gave a value
  over-alone : (v : Value) (b : Bool) → t.remaining ≡ Finished v b → ps ≡ [] → IsLoop t.origin → IsSoundStep t (ends t (outcome.Values (t.values ++ v ∷ [])))
  over-alone v b at none is-loop = end-alone t is none (Ok (t.values ++ v ∷ [])) (ap (λ (w : Remaining). run_at [] w t.values) at) (outcome.Values (t.values ++ v ∷ [])) (by_origin t.origin is-loop)
    where
      by_origin : (o : Origin) → IsLoop o → outcome.Values (t.values ++ v ∷ []) ≡ outcome_of o (Ok (t.values ++ v ∷ []))
      by_origin (Instance function args path) l = absurd l
      by_origin (Loop function rest first path range) l = refl

  over-sound : (v : Value) → t.remaining ≡ Finished v false → IsLoop t.origin → AreHalves ps → IsSoundStep t (over_step t v t.origin)
  over-sound v at is-loop halves = by_origin t.origin refl
    where
      by_origin : (o : Origin) → t.origin ≡ o → IsSoundStep t (over_step t v o)
      by_origin (Instance function args path) h = let no : IsLoop (Instance function args path) = subst IsLoop h is-loop in absurd no
      by_origin (Loop function rest first path range) h = by_size (range.hi - range.lo) refl
        where
          none : range.hi - range.lo ≤ 1 → (ps ≡ []) ⊎ IsLongLoop t.origin → ps ≡ []
          none g (inl e) = e
          none g (inr l) = let long : range.lo + 1 < range.hi = subst IsLongLoop h l in absurd (omega arith)

          by_size : (n : ℕ) → range.hi - range.lo ≡ n → IsSoundStep t (over_step t v (Loop function rest first path range))
          by_size zero g = rw g (over-alone v false at (none (omega arith) (halves-long t.plan t.origin ps halves is.awaiting)) is-loop)
          by_size (suc zero) g = rw g (over-alone v false at (none (omega arith) (halves-long t.plan t.origin ps halves is.awaiting)) is-loop)
          by_size (suc (suc n)) g = rw g (waits-sound t is)

  -- a loop's iterations that nobody has begun
  module _ (function : ℕ) (rest : List Value) (first : ℤ) (path : List ℕ) (range left : Range) (loop : t.origin ≡ Loop function rest first path range) (at : t.remaining ≡ Splits left)
      (end-of : IsEndOf (Loop function rest first path range) left) (halves : AreHalves ps) where
    abbrev whole : Origin
    whole = Loop function rest first path range

    known-loop : IsOriginOf t.plan whole
    known-loop = subst (IsOriginOf t.plan) loop is.known

    deep : length path + 2 ≤ t.plan.limits.depth
    deep = loop-of-plan t.plan whole known-loop

    long-parts : (ps ≡ []) ⊎ (range.lo + 1 < range.hi)
    long-parts = from (halves-long t.plan t.origin ps halves is.awaiting)
      where
        from : (ps ≡ []) ⊎ IsLongLoop t.origin → (ps ≡ []) ⊎ (range.lo + 1 < range.hi)
        from (inl e) = inl e
        from (inr l) = inr (subst IsLongLoop loop l)

    -- nothing of it is left
    none-left : left.hi - left.lo ≡ 0 → IsSoundStep t (ends t (outcome.Values t.values))
    none-left h = end-alone t is (none long-parts) (Ok t.values) runs (outcome.Values t.values) (ap (λ (o : Origin). outcome_of o (Ok t.values)) (sym loop))
      where
        none : (ps ≡ []) ⊎ (range.lo + 1 < range.hi) → ps ≡ []
        none (inl e) = e
        none (inr l) = let some : left.lo < left.hi = end-of.2 (omega arith) in absurd (omega arith)

        runs : run_at [] t.remaining t.values ≡ record { items = []; ending = Ok t.values }
        runs =
            ap (λ (w : Remaining). run_at [] w t.values) at
            ∙ ap (λ (o : Origin). iterations_left (eval t.plan) o left then λ us. done (t.values ++ us)) loop
            ∙ ap (λ (n : ℕ). loop_evaluation (eval t.plan) function rest first path left.lo n then λ us. done (t.values ++ us)) h
            ∙ ap (λ (l : List Value). done l) (append-nil t.values)

    -- the last one is begun
    last-left : left.hi - left.lo ≡ 1 → IsTask (record t { remaining = begins_last t.plan t.origin; advanced = true })
    last-left h = with-remaining t is (begins_last t.plan t.origin) same sound (subst (UnfilledArePendingIn t.plan ps) (sym begins) (begun-pending t.plan function _ ps halves)) (found-halves t.plan (functions_left (begins_last t.plan t.origin)) ps halves)
      where
        own : Origin
        own = own_instance whole

        kids : Origin → Evaluation
        kids = children_of t.plan own

        stage : Stage
        stage = begun_stage (function_begun t.plan function (iteration-args (range.hi - 1)))
          where
            iteration-args : ℕ → List Value
            iteration-args k = args_of (iteration function rest first path k)
              where
                args_of : Origin → List Value
                args_of (Instance f args p) = args
                args_of (Loop f r g p q) = []

        begins : begins_last t.plan t.origin ≡ Runs stage
        begins = ap (begins_last t.plan) loop

        opens : node_of t.plan own ≡ (rest_open t.plan kids (path_of own) ps stage then λ v. done (v ∷ []))
        opens =
            begun-whole t.plan function _ (path ++ (range.hi - 1) ∷ [])
            ∙ ap (λ (r : Run Item NodeFault Value). r then λ v. done (v ∷ [])) (sym (halves-rest t.plan kids (path_of own) ps halves (function_begun t.plan function _)))

        last : left.lo ≡ range.hi - 1
        last = let top : left.hi ≡ range.hi = end-of.1 in omega arith

        evaluates : eval t.plan (iteration function rest first path left.lo) ≡ (closed_run kids (rest_open t.plan kids (path_of own) ps stage) then λ v. done (v ∷ []))
        evaluates =
            ap (λ k. eval t.plan (iteration function rest first path k)) last ∙ eval-closed t.plan own ∙ ap (closed_run kids) opens ∙ closed-then kids (rest_open t.plan kids (path_of own) ps stage) (λ v. v ∷ [])

        same : (vs : List Value) → run_at ps t.remaining vs ≡ run_at ps (begins_last t.plan t.origin) vs
        same vs =
            let inner : Run Event Fault Value = closed_run kids (rest_open t.plan kids (path_of own) ps stage) in
            ap (λ (w : Remaining). run_at ps w vs) at
            ∙ ap (λ (o : Origin). iterations_left (eval t.plan) o left then λ us. done (vs ++ us)) loop
            ∙ ap (λ (n : ℕ). loop_evaluation (eval t.plan) function rest first path left.lo n then λ us. done (vs ++ us)) h
            ∙ ap (λ (r : Evaluation). (r then λ xs. done (xs ++ [])) then λ us. done (vs ++ us)) evaluates
            ∙ ap (λ (r : Evaluation). r then λ us. done (vs ++ us)) (then-then inner (λ v. done (v ∷ [])) (λ xs. done (xs ++ [])))
            ∙ then-then inner (λ v. done (v ∷ [])) (λ us. done (vs ++ us))
            ∙ ap (λ (o : Origin). run_with o) (sym loop) ∙ ap (λ (w : Remaining). run_at ps w vs) (sym begins)
          where
            run_with : Origin → Evaluation
            run_with o = remaining_run t.plan o ps (Runs stage) vs

        sound : IsSoundRemaining t.plan t.origin ps (begins_last t.plan t.origin)
        sound =
            subst (IsSoundRemaining t.plan t.origin ps) (sym begins) (subst (λ (o : Origin). IsSoundRemaining t.plan o ps (Runs stage)) (sym loop)
            (some, record { front = []; whole = opens }, begun-sound t.plan function _ ps is.clear halves))
          where
            some : range.lo < range.hi
            some = let top : left.hi ≡ range.hi = end-of.1 in let low : range.lo ≤ left.lo = end-of.0 in omega arith

    -- the lower half of it is begun
    half-left : left.lo + 2 ≤ left.hi → IsSoundStep t (Stops (Spawn (first_half t.origin left) (record t { trace = add_child (first_half t.origin left) Half t.trace; remaining = Splits (upper_half left); advanced = true })))
    half-left h = (
      subst (IsOriginOf t.plan) (sym half-is) known-half,
      record {
        finishes = finishes;
        known = is.known;
        clear = is.clear;
        awaiting = parts-append t.plan t.origin ps _ is.awaiting (record { known = subst (IsOriginOf t.plan) (sym half-is) known-half; fits = subst IsLongLoop (sym loop) long; same = inl tt }, tt);
        shown = λ none. shown-more t.plan t.origin [] t.trace.prefix ps (record { child = first_half t.origin left; destination = Half; after = [] }) (is.shown none) (part none);
        remaining = (subst (λ (o : Origin). IsEndOf o (upper_half left)) (sym loop) upper, more ps halves);
        pending = tt;
        found = λ plan-found. found-nowhere t.plan (add_child (first_half t.origin left) Half t.trace).unmerged;
      },
    )
      where
        half : Origin
        half = Loop function rest first path (lower_half left)

        half-is : first_half t.origin left ≡ half
        half-is = ap (λ (o : Origin). first_half o left) loop

        top : left.hi ≡ range.hi
        top = end-of.1

        low : range.lo ≤ left.lo
        low = end-of.0

        long : range.lo + 1 < range.hi
        long = omega arith

        upper : IsEndOf whole (upper_half left)
        upper = (omega arith, top, λ g. omega arith)

        known-half : IsOriginOf t.plan half
        known-half = part-of-loop t.plan function rest first path range (lower_half left) whole known-loop refl low (omega arith) (omega arith)

        part : t.trace.fault ≡ None → IsPartAfter t.plan t.origin ps (first_half t.origin left)
        part none =
            subst (λ (o : Origin). IsPartAfter t.plan o ps (first_half o left)) (sym loop)
            (left.lo, middle left, omega arith, refl, λ returned f e. ends-later t is none returned function rest first path range left loop at f e)

        more : (qs : List AwaitedChild) → AreHalves qs → AreHalves (qs ++ record { child = first_half t.origin left; destination = Half; after = [] } ∷ [])
        more [] g = (tt, tt)
        more (q ∷ qs) g = (g.0, more qs g.1)

        abbrev-tail : Origin → Origin → List Value → Evaluation
        abbrev-tail o child vs = eval t.plan child then λ ws. iterations_left (eval t.plan) o (upper_half left) then λ us. done ((vs ++ ws) ++ us)

        two : (vs : List Value) → run_at ps t.remaining vs ≡ abbrev-tail t.origin (first_half t.origin left) vs
        two vs =
            let upper_turns : Evaluation = loop_evaluation (eval t.plan) function rest first path (upper_half left).lo ((upper_half left).hi - (upper_half left).lo) in
            ap (λ (w : Remaining). run_at ps w vs) at
            ∙ ap (λ (o : Origin). iterations_left (eval t.plan) o left then λ us. done (vs ++ us)) loop
            ∙ ap (λ (r : Evaluation). r then λ us. done (vs ++ us)) (halves-turns function rest first path t.plan left h deep)
            ∙ then-then (eval t.plan half) (λ ws. upper_turns then λ us. done (ws ++ us)) (λ us. done (vs ++ us))
            ∙ then-same (eval t.plan half) _ _ (λ ws g. then-then upper_turns (λ us. done (ws ++ us)) (λ us. done (vs ++ us)) ∙ then-same upper_turns _ _ (λ us k. ap (λ (l : List Value). done l) (sym (append_assoc vs ws us))))
            ∙ ap (λ (o : Origin). abbrev-tail o (first_half o left) vs) (sym loop)

        finishes : finish (record t { trace = add_child (first_half t.origin left) Half t.trace; remaining = Splits (upper_half left); advanced = true }) ≡ eval t.plan t.origin
        finishes =
            add_child-so_far (eval t.plan) (first_half t.origin left) Half t.trace t.values (λ vs. iterations_left (eval t.plan) t.origin (upper_half left) then λ us. done (vs ++ us))
            ∙ sym (so_far-same (eval t.plan) t.trace t.values (run_at ps t.remaining) (abbrev-tail t.origin (first_half t.origin left)) two)
            ∙ is.finishes

  split-sound : (left : Range) → t.remaining ≡ Splits left → IsEndOf t.origin left → AreHalves ps → IsSoundStep t (split_step t left (left.hi - left.lo))
  split-sound left at end-of halves = by_origin t.origin refl
    where
      by_origin : (o : Origin) → t.origin ≡ o → IsSoundStep t (split_step t left (left.hi - left.lo))
      by_origin (Instance function args path) h = let no : IsEndOf (Instance function args path) left = subst (λ (o : Origin). IsEndOf o left) h end-of in absurd no
      by_origin (Loop function rest first path range) h = by_size (left.hi - left.lo) refl
        where
          e : IsEndOf (Loop function rest first path range) left
          e = subst (λ (o : Origin). IsEndOf o left) h end-of

          by_size : (n : ℕ) → left.hi - left.lo ≡ n → IsSoundStep t (split_step t left n)
          by_size zero g = none-left function rest first path range left h at e halves g
          by_size (suc zero) g = last-left function rest first path range left h at e halves g
          by_size (suc (suc n)) g = half-left function rest first path range left h at e halves (omega arith)

  remaining-sound : (remaining : Remaining) → t.remaining ≡ remaining → IsSoundRemaining t.plan t.origin ps remaining → IsSoundStep t (remaining_step t remaining)
  remaining-sound (Splits left) at sound = split-sound left at sound.0 sound.1
  remaining-sound (Runs stage) at sound = stage-sound stage at sound.0 sound.1 sound.2
  remaining-sound (Finished v true) at sound = over-alone v true at sound.1 sound.0
  remaining-sound (Finished v false) at sound = over-sound v at sound.0 sound.1

-- Each step is sound.
pub steps_are_sound : (t : Task) → IsTask t → IsSoundStep t (step t)
steps_are_sound t is = remaining-sound t is t.remaining refl is.remaining

-- A task begins sound.
pub tasks_begin : (plan : PlanView) (o : Origin) → IsOriginOf plan o → IsClearPlan plan → IsTask (start plan o)
tasks_begin plan (Instance function args path) known clear =
    let o = Instance function args path in
    let kids = children_of plan o in
    let rest : Run Item NodeFault Value = rest_of_stage plan kids path (begun_stage (function_begun plan function args)) in
    let whole : node_of plan o ≡ (rest_open plan kids path [] (begun_stage (function_begun plan function args)) then λ v. done (v ∷ [])) =
    begun-whole plan function args path ∙ ap (λ (r : Run Item NodeFault Value). r then λ v. done (v ∷ [])) (sym (halves-rest plan kids path [] tt (function_begun plan function args))) in
    record {
      finishes = sym (eval-closed plan o ∙ ap (closed_run kids) whole ∙ closed-then kids (rest_open plan kids path [] (begun_stage (function_begun plan function args))) (λ v. v ∷ []));
      known = known;
      clear = clear;
      awaiting = tt;
      shown = λ none. tt;
      remaining = (tt, record { front = []; whole = whole }, begun-sound plan function args [] clear tt);
      pending = begun-pending plan function args [] tt;
      found = λ plan-found. tt;
    }
tasks_begin plan (Loop function rest first path range) known clear = record {
  finishes = then-done (loop_evaluation (eval plan) function rest first path range.lo (range.hi - range.lo)) ∙ sym (eval-loop function rest first path plan range (loop-of-plan plan (Loop function rest first path range) known));
  known = known;
  clear = clear;
  awaiting = tt;
  shown = λ none. tt;
  remaining = ((omega arith, refl, λ h. h), tt);
  pending = tt;
  found = λ plan-found. tt;
}
