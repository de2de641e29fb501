-- Fewer stops are left after each stop.
use Rattle.std.proofs.Common.{◌≡◌, ℕ, zero, suc, ◌+◌, ◌-◌, ◌/◌, ◌<◌, ◌≤◌, Bool, true, false, List, [], ◌∷◌, ◌++◌, Option, Some, None, Result, Ok, Err, length, refl, sym, ap, ◌∙◌, subst, arith}
use Rattle.loop_range.specs.Range.{Range}
use Rattle.serial_meaning.specs.Runs.{Run, after_items}
use Rattle.serial_meaning.specs.Plan.{PlanView}
use Rattle.serial_meaning.specs.Eval.{Evaluation, path_of, eval}
use Rattle.serial_meaning.specs.Open.{Item, Happened, Child, Opened, Closed, NodeFault, Own, ChildFaulted}
use Rattle.serial_meaning.specs.declared.value.Value.{Value}
use Rattle.serial_meaning.specs.declared.event.Fault.{Fault}
use Rattle.serial_meaning.specs.declared.event.Event.{Event}
use Rattle.serial_meaning.specs.declared.event.Event.TheVariants as event
use Rattle.serial_meaning.specs.declared.origin.Origin.{Origin}
use Rattle.serial_meaning.specs.declared.origin.Origin.TheVariants.{Instance, Loop}
use Rattle.serial_meaning.specs.declared.answer.Outcome.{Outcome}
use Rattle.script_grammar.specs.declared.tree.Name.{Name}
use Rattle.strand_meaning.specs.Machine.{Destination, Spawned, Looped, Half, Effect, Opens, Closes, Emitted, Starts, Syncs, Loops, loop_effects, sync_effects, Machine, Reached, Stands, Gives, function_begun, move}
use Rattle.strand_meaning.specs.Trace.{AwaitedChild, with_effects}
use Rattle.strand_meaning.specs.Task.{Stage, Running, AtSync, AtLoop, Ended, Remaining, Splits, Runs, Finished, Task, begun_stage, begins_last, own_instance, MoveOrStop, Passes, Stops, Stop, Spawn, Wait, End, IsNext, Now, Later, stage_after, child_in, stops_at, passing, step_result, waits, ends_unless, faults_after, returned, stage_step, split_step, over_step, remaining_step, step, takes, takes_all, pass_sync, resumed, resumed_remaining, on}
use Rattle.strand_meaning.specs.Rest.{children_of, evaluations, rest_of_stage, rest_open}
use Rattle.strand_meaning.specs.Sound.{AreHalves, IsSoundStage, IsSoundRemaining, IsTask}
use Rattle.strand_meaning.specs.Left.{item_stops, at_end, stage_stops, remaining_stops, stops_of, stops_left}
use Rattle.strand_meaning.specs.Laws.{LeavesFewer, IsSoundStep}
use Rattle.strand_meaning.specs.Observation.{effect_items}
use Rattle.strand_meaning.proofs.Unfilled.RestAfterEffects.{effect_parts}
use Rattle.strand_meaning.proofs.Unfilled.MovesBeforeAnswers.{shown_with, open-move, none-known}
use Rattle.strand_meaning.proofs.Unfilled.SoundMoves.{sound-free}
use Rattle.strand_meaning.proofs.UnfilledPending.AlikeButEvents.{alike-effects, alike-takes}
use Rattle.strand_meaning.proofs.SoundSteps.ChildrenFollowEvents.{EffectRules, effects-move}
use Rattle.strand_meaning.proofs.SoundSteps.RestStartsAsNode.{halves-rest}
use Rattle.strand_meaning.proofs.TakenAnswers.AnswersKeepTasks.{rest-same, none-unmerged}
use Rattle.strand_meaning.proofs.SoundSteps.StepsKeepTasks.{steps_are_sound}

-- What a move shows pays for its waits

abbrev waits_in : List Effect → ℕ
waits_in [] = 0
waits_in (Opens j ∷ ts) = waits_in ts
waits_in (Closes j ∷ ts) = waits_in ts
waits_in (Emitted e ∷ ts) = waits_in ts
waits_in (Starts o destination ∷ ts) = waits_in ts
waits_in (Syncs ∷ ts) = 1
waits_in (Loops ∷ ts) = 1

abbrev Paid : List Effect → Type 0
Paid ts = waits_in ts ≤ item_stops (effect_items ts)

items-append : (xs ys : List Item) → item_stops (xs ++ ys) ≡ item_stops xs + item_stops ys
items-append [] ys = omega arith
items-append (Opened j ∷ xs) ys = items-append xs ys
items-append (Closed j ∷ xs) ys = items-append xs ys
items-append (Happened e ∷ xs) ys = let h : item_stops (xs ++ ys) ≡ item_stops xs + item_stops ys = items-append xs ys in omega arith
items-append (Child o ∷ xs) ys = let h : item_stops (xs ++ ys) ≡ item_stops xs + item_stops ys = items-append xs ys in omega arith

effects-append : (xs ys : List Effect) → item_stops (effect_items (xs ++ ys)) ≡ item_stops (effect_items xs) + item_stops (effect_items ys)
effects-append [] ys = omega arith
effects-append (Opens j ∷ xs) ys = effects-append xs ys
effects-append (Closes j ∷ xs) ys = effects-append xs ys
effects-append (Emitted e ∷ xs) ys = let h : item_stops (effect_items (xs ++ ys)) ≡ item_stops (effect_items xs) + item_stops (effect_items ys) = effects-append xs ys in omega arith
effects-append (Starts o destination ∷ xs) ys = let h : item_stops (effect_items (xs ++ ys)) ≡ item_stops (effect_items xs) + item_stops (effect_items ys) = effects-append xs ys in omega arith
effects-append (Syncs ∷ xs) ys = effects-append xs ys
effects-append (Loops ∷ xs) ys = effects-append xs ys

waits-append : (xs ys : List Effect) → waits_in (xs ++ ys) ≤ waits_in xs + waits_in ys
waits-append [] ys = omega arith
waits-append (Opens j ∷ xs) ys = waits-append xs ys
waits-append (Closes j ∷ xs) ys = waits-append xs ys
waits-append (Emitted e ∷ xs) ys = waits-append xs ys
waits-append (Starts o destination ∷ xs) ys = waits-append xs ys
waits-append (Syncs ∷ xs) ys = omega arith
waits-append (Loops ∷ xs) ys = omega arith

paid-append : (xs ys : List Effect) → Paid xs → Paid ys → Paid (xs ++ ys)
paid-append xs ys h k =
    let w : waits_in (xs ++ ys) ≤ waits_in xs + waits_in ys = waits-append xs ys in
    let i : item_stops (effect_items (xs ++ ys)) ≡ item_stops (effect_items xs) + item_stops (effect_items ys) = effects-append xs ys in omega arith

paid : (path : List ℕ) → EffectRules path Paid
paid path = record {
  none = omega arith;
  more = paid-append;
  prefix = λ e. omega arith;
  spawned = λ e o height target begins. omega arith;
  synced = at_sync;
  looped = λ e o target b begins. at_loop e o target b;
  opened = λ j. omega arith;
  closed = λ j. omega arith;
}
  where
    at_sync : (j : List ℕ) (b : Bool) → Paid (Emitted (event.Sync j) ∷ sync_effects b)
    at_sync j true = omega arith
    at_sync j false = omega arith

    at_loop : (e : Event) (o : Origin) (target : Option Name) (b : Bool) → Paid (Emitted e ∷ loop_effects b o (Looped target))
    at_loop e o target true = omega arith
    at_loop e o target false = omega arith

child-paid : (ts : List Effect) (o : Origin) → child_in ts ≡ Some o → 2 ≤ item_stops (effect_items ts)
child-paid [] o h = absurd (cc)
child-paid (Opens j ∷ ts) o h = child-paid ts o h
child-paid (Closes j ∷ ts) o h = child-paid ts o h
child-paid (Emitted e ∷ ts) o h = let k : 2 ≤ item_stops (effect_items ts) = child-paid ts o h in omega arith
child-paid (Starts c destination ∷ ts) o h = omega arith
child-paid (Syncs ∷ ts) o h = child-paid ts o h
child-paid (Loops ∷ ts) o h = child-paid ts o h

few-waits : (ts : List Effect) → waits_in ts ≤ 1
few-waits [] = omega arith
few-waits (Opens j ∷ ts) = few-waits ts
few-waits (Closes j ∷ ts) = few-waits ts
few-waits (Emitted e ∷ ts) = few-waits ts
few-waits (Starts o destination ∷ ts) = few-waits ts
few-waits (Syncs ∷ ts) = omega arith
few-waits (Loops ∷ ts) = omega arith

end-few : (parts : List AwaitedChild) → at_end false parts ≤ 2
end-few [] = omega arith
end-few (p ∷ ps) = omega arith

-- the stops that are left after a move
stage-stops : (plan : PlanView) (child : Origin → Evaluation) (path : List ℕ) (parts : List AwaitedChild) (ts : List Effect) (k : Machine) →
    stage_stops plan child path false parts (stage_after ts k) ≤ waits_in ts + (3 + item_stops (rest_open plan child path parts (stage_after ts k)).items)
stage-stops plan child path parts [] k = omega arith
stage-stops plan child path parts (Opens j ∷ ts) k = stage-stops plan child path parts ts k
stage-stops plan child path parts (Closes j ∷ ts) k = stage-stops plan child path parts ts k
stage-stops plan child path parts (Emitted e ∷ ts) k = stage-stops plan child path parts ts k
stage-stops plan child path parts (Starts o destination ∷ ts) k = stage-stops plan child path parts ts k
stage-stops plan child path parts (Syncs ∷ ts) k = omega arith
stage-stops plan child path parts (Loops ∷ ts) k = omega arith

-- A step leaves no more, and a stop fewer.
abbrev FewerStep : Task → MoveOrStop → Type 0
FewerStep t (Passes next) = (stops_left next ≤ stops_left t) × (next.waiting ≡ false)
FewerStep t (Stops stop) = LeavesFewer t stop

module _ (t : Task) (is : IsTask t) (idle : t.waiting ≡ false) where
  abbrev ps : List AwaitedChild
  ps = t.trace.unmerged

  abbrev own : Origin
  own = own_instance t.origin

  abbrev kids : Origin → Evaluation
  kids = children_of t.plan own

  abbrev path : List ℕ
  path = path_of own

  -- the number of other work
  abbrev of_remaining : List AwaitedChild → Remaining → ℕ
  of_remaining parts remaining = stops_of t.plan t.origin false parts remaining

  left-is : (remaining : Remaining) → t.remaining ≡ remaining → stops_left t ≡ of_remaining ps remaining
  left-is remaining at = ap (λ b. stops_of t.plan t.origin b ps t.remaining) idle ∙ ap (λ w. of_remaining ps w) at

  next-is : (parts : List AwaitedChild) (remaining : Remaining) → stops_of t.plan t.origin t.waiting parts remaining ≡ of_remaining parts remaining
  next-is parts remaining = ap (λ b. stops_of t.plan t.origin b parts remaining) idle

  fewer-ends : (f : Option Fault) (ended : Outcome) → FewerStep t (ends_unless f t ended)
  fewer-ends None ended = tt
  fewer-ends (Some f) ended = tt

  -- after a move
  module _ (m : Machine) (at : t.remaining ≡ Runs (Running m)) where
    abbrev before : ℕ
    before = item_stops (rest_open t.plan kids path ps (Running m)).items

    now-is : stops_left t ≡ 2 + (3 + before)
    now-is = left-is (Runs (Running m)) at

    shows-items : (ts : List Effect) (rest : Run Item NodeFault Value) → rest_open t.plan kids path ps (Running m) ≡ after_items (effect_items ts) rest → before ≡ item_stops (effect_items ts) + item_stops rest.items
    shows-items ts rest h = ap (λ (r : Run Item NodeFault Value). item_stops r.items) h ∙ items-append (effect_items ts) rest.items

    fewer-at : (o : Option Origin) (ts : List Effect) (stage : Stage) → child_in ts ≡ o →
        stops_of t.plan t.origin false (with_effects ts t.trace).unmerged (Runs stage) ≤ 2 + (waits_in ts + (3 + (before - item_stops (effect_items ts)))) → waits_in ts ≤ item_stops (effect_items ts) → item_stops (effect_items ts) ≤ before →
        FewerStep t (stops_at o (passing t ts (Runs stage)))
    fewer-at None ts stage h some paid-for inside = (no_more (next-is (with_effects ts t.trace).unmerged (Runs stage)) now-is, idle)
      where
        no_more : stops_of t.plan t.origin t.waiting (with_effects ts t.trace).unmerged (Runs stage) ≡ of_remaining (with_effects ts t.trace).unmerged (Runs stage) → stops_left t ≡ 2 + (3 + before) →
            stops_left (passing t ts (Runs stage)) ≤ stops_left t
        no_more e f = omega arith
    fewer-at (Some o) ts stage h some paid-for inside = (fewer (next-is (with_effects ts t.trace).unmerged (Runs stage)) now-is (child-paid ts o h) (few-waits ts), idle)
      where
        fewer : stops_of t.plan t.origin t.waiting (with_effects ts t.trace).unmerged (Runs stage) ≡ of_remaining (with_effects ts t.trace).unmerged (Runs stage) → stops_left t ≡ 2 + (3 + before) →
            2 ≤ item_stops (effect_items ts) → waits_in ts ≤ 1 → stops_left (passing t ts (Runs stage)) < stops_left t
        fewer e f g k = omega arith

    fewer-result : (ts : List Effect) (e : Result Reached Fault) → Paid ts → rest_open t.plan kids path ps (Running m) ≡ after_items (effect_items ts) (shown_with t.plan kids path ps ts e) → FewerStep t (step_result t ts e)
    fewer-result ts (Ok (Stands k)) p h =
        let rest : Run Item NodeFault Value = rest_open t.plan kids path (ps ++ effect_parts ts) (stage_after ts k) in
        let after = (with_effects ts t.trace).unmerged in
        let same : rest ≡ rest_open t.plan kids path after (stage_after ts k) = ap (λ s. rest_of_stage t.plan kids path (resumed s)) (alike-takes kids (alike-effects ts t.trace) (stage_after ts k)) in
        let sizes = ap (λ (r : Run Item NodeFault Value). item_stops r.items) same in
        let whole = shows-items ts rest h in
        fewer-at (child_in ts) ts (stage_after ts k) refl
        (bound (waits_in ts) (item_stops (effect_items ts)) (item_stops rest.items) _ before _ sizes whole (stage-stops t.plan kids path after ts k)) p (inside (item_stops (effect_items ts)) (item_stops rest.items) before whole)
      where
        bound : (w p r q b s : ℕ) → r ≡ q → b ≡ p + r → s ≤ w + (3 + q) → 2 + s ≤ 2 + (w + (3 + (b - p)))
        bound w p r q b s e f g = omega arith

        inside : (p r b : ℕ) → b ≡ p + r → p ≤ b
        inside p r b e = omega arith
    fewer-result ts (Ok (Gives v)) p h = (few (end-few (with_effects ts t.trace).unmerged) (next-is (with_effects ts t.trace).unmerged (Runs (Ended (Ok v)))) now-is, idle)
      where
        few : at_end false (with_effects ts t.trace).unmerged ≤ 2 → stops_of t.plan t.origin t.waiting (with_effects ts t.trace).unmerged (Runs (Ended (Ok v))) ≡ 2 + at_end false (with_effects ts t.trace).unmerged → stops_left t ≡ 2 + (3 + before) →
            stops_left (passing t ts (Runs (Ended (Ok v)))) ≤ stops_left t
        few e f g = omega arith
    fewer-result ts (Err x) p h = (few (end-few (with_effects ts t.trace).unmerged) (next-is (with_effects ts t.trace).unmerged (Runs (Ended (Err (Own x))))) now-is, idle)
      where
        few : at_end false (with_effects ts t.trace).unmerged ≤ 2 → stops_of t.plan t.origin t.waiting (with_effects ts t.trace).unmerged (Runs (Ended (Err (Own x)))) ≡ 2 + at_end false (with_effects ts t.trace).unmerged → stops_left t ≡ 2 + (3 + before) →
            stops_left (passing t ts (Runs (Ended (Err (Own x))))) ≤ stops_left t
        few e f g = omega arith

    fewer-going : IsSoundStage t.plan ps (Running m) → FewerStep t (step_result t (move t.plan path m).items (move t.plan path m).ending)
    fewer-going sound =
        let r = move t.plan path m in
        fewer-result r.items r.ending (effects-move Paid t.plan path (paid path) m)
        (open-move t.plan kids path (length m.below) ps sound.0 m (sound-free t.plan ps m sound) (none-known kids ps m sound.1.spawned sound.1.faulted) (λ h. (sound.1.leaving h).1))

  -- a wait that the task comes to
  fewer-wait : (remaining : Remaining) → t.remaining ≡ remaining → stops_of t.plan t.origin true ps remaining < of_remaining ps remaining → FewerStep t (waits t)
  fewer-wait remaining at h = (fewer (left-is remaining at) (ap (λ w. stops_of t.plan t.origin true ps w) at), refl)
    where
      fewer : stops_left t ≡ of_remaining ps remaining → stops_of t.plan t.origin true ps t.remaining ≡ stops_of t.plan t.origin true ps remaining → stops_of t.plan t.origin true ps t.remaining < stops_left t
      fewer e f = omega arith

  fewer-faults : (f : Fault) (qs : List AwaitedChild) → ps ≡ qs → t.remaining ≡ Runs (Ended (Err (Own f))) → FewerStep t (faults_after qs t f)
  fewer-faults f [] h at = fewer-ends t.trace.fault _
  fewer-faults f (q ∷ qs) h at = fewer-wait (Runs (Ended (Err (Own f)))) at (from ps h)
    where
      from : (rs : List AwaitedChild) → rs ≡ q ∷ qs → 2 + 1 < 2 + at_end false rs
      from [] e = absurd (cc)
      from (r ∷ rs) e = omega arith

  -- work that the task goes on with
  fewer-remaining : (remaining next : Remaining) → t.remaining ≡ remaining → of_remaining ps next ≤ of_remaining ps remaining → FewerStep t (Passes (record t { remaining = next; advanced = true }))
  fewer-remaining remaining next at h = (no_more (left-is remaining at) (next-is ps next), idle)
    where
      no_more : stops_left t ≡ of_remaining ps remaining → stops_of t.plan t.origin t.waiting ps next ≡ of_remaining ps next → stops_of t.plan t.origin t.waiting ps next ≤ stops_left t
      no_more e f = omega arith

  fewer-returned : (o : Origin) (v : Value) → t.remaining ≡ Runs (Ended (Ok v)) → FewerStep t (returned t o v)
  fewer-returned (Instance function args path) v at = fewer-ends t.trace.fault _
  fewer-returned (Loop function rest first path range) v at = fewer-remaining (Runs (Ended (Ok v))) (Finished v false) at (from ps)
    where
      from : (qs : List AwaitedChild) → 1 + 1 ≤ 2 + at_end false qs
      from [] = omega arith
      from (q ∷ qs) = omega arith

  fewer-stage : (stage : Stage) → t.remaining ≡ Runs stage → IsSoundStage t.plan ps stage → FewerStep t (stage_step t stage)
  fewer-stage (Running m) at sound = fewer-going m at sound
  fewer-stage (AtSync m) at sound = fewer-wait (Runs (AtSync m)) at (omega arith)
  fewer-stage (AtLoop m) at sound = fewer-wait (Runs (AtLoop m)) at (omega arith)
  fewer-stage (Ended (Ok v)) at sound = fewer-returned t.origin v at
  fewer-stage (Ended (Err (Own f))) at sound = fewer-faults f ps refl at
  fewer-stage (Ended (Err (ChildFaulted f))) at sound = fewer-ends t.trace.fault _

  fewer-over : (v : Value) (o : Origin) → t.remaining ≡ Finished v false → FewerStep t (over_step t v o)
  fewer-over v (Instance function args path) at = fewer-ends t.trace.fault _
  fewer-over v (Loop function rest first path range) at = by_size (range.hi - range.lo) refl
    where
      by_size : (n : ℕ) → range.hi - range.lo ≡ n → FewerStep t (over_step t v (Loop function rest first path range))
      by_size zero g = rw g (fewer-ends t.trace.fault _)
      by_size (suc zero) g = rw g (fewer-ends t.trace.fault _)
      by_size (suc (suc n)) g = rw g (fewer-wait (Finished v false) at (omega arith))

  -- parts of a loop don't count before the first move of its last iteration
  begun-few : (child : Origin → Evaluation) (path : List ℕ) → AreHalves ps → (r : Reached) → stage_stops t.plan child path false ps (begun_stage r) ≤ 1 + stage_stops t.plan child path false [] (begun_stage r)
  begun-few child path halves (Gives v) = let h : at_end false ps ≤ 2 = end-few ps in omega arith
  begun-few child path halves (Stands m) =
      let h : item_stops (rest_open t.plan child path ps (Running m)).items ≡ item_stops (rest_open t.plan child path [] (Running m)).items =
      ap (λ (r : Run Item NodeFault Value). item_stops r.items) (halves-rest t.plan child path ps halves (Stands m) ∙ sym (halves-rest t.plan child path [] tt (Stands m))) in omega arith

  last-few : AreHalves ps → (o : Origin) → stops_of t.plan o false ps (begins_last t.plan o) ≤ 1 + remaining_stops t.plan o false [] (begins_last t.plan o)
  last-few halves (Instance function args path) =
      let o = Instance function args path in more _ _ (begun-few (children_of t.plan (own_instance o)) (path_of (own_instance o)) halves (function_begun t.plan function args))
    where
      more : (a b : ℕ) → a ≤ 1 + b → 2 + a ≤ 1 + (2 + b)
      more a b h = omega arith
  last-few halves (Loop function rest first path range) =
      let o = Loop function rest first path range in more _ _ (begun-few (children_of t.plan (own_instance o)) (path_of (own_instance o)) halves (function_begun t.plan function _))
    where
      more : (a b : ℕ) → a ≤ 1 + b → 2 + a ≤ 1 + (2 + b)
      more a b h = omega arith

  fewer-split : (left : Range) (n : ℕ) → left.hi - left.lo ≡ n → t.remaining ≡ Splits left → AreHalves ps → FewerStep t (split_step t left n)
  fewer-split left zero h at halves = fewer-ends t.trace.fault _
  fewer-split left (suc zero) h at halves = fewer-remaining (Splits left) (begins_last t.plan t.origin) at (one _ _ (last-few halves t.origin))
    where
      one : (a b : ℕ) → a ≤ 1 + b → a ≤ (left.hi - left.lo) + b
      one a b g = omega arith
  fewer-split left (suc (suc n)) h at halves = (smaller (left-is (Splits left) at), idle)
    where
      smaller : stops_left t ≡ (left.hi - left.lo) + remaining_stops t.plan t.origin false [] (begins_last t.plan t.origin) →
          (left.hi - (left.lo + (left.hi - left.lo) / 2)) + remaining_stops t.plan t.origin false [] (begins_last t.plan t.origin) < stops_left t
      smaller e = omega arith

  fewer-of : (remaining : Remaining) → t.remaining ≡ remaining → IsSoundRemaining t.plan t.origin ps remaining → FewerStep t (remaining_step t remaining)
  fewer-of (Splits left) at sound = fewer-split left (left.hi - left.lo) refl at sound.1
  fewer-of (Runs stage) at sound = fewer-stage stage at sound.2
  fewer-of (Finished v true) at sound = fewer-ends t.trace.fault _
  fewer-of (Finished v false) at sound = fewer-over v t.origin at

  fewer-step : FewerStep t (step t)
  fewer-step = fewer-of t.remaining refl is.remaining

fewer-further : (t next : Task) (stop : Stop) → stops_left next ≤ stops_left t → LeavesFewer next stop → LeavesFewer t stop
fewer-further t next (Spawn child rest) h f = (less f.0, f.1)
  where
    less : stops_left rest < stops_left next → stops_left rest < stops_left t
    less g = omega arith
fewer-further t next (Wait rest) h f = (less f.0, f.1)
  where
    less : stops_left rest < stops_left next → stops_left rest < stops_left t
    less g = omega arith
fewer-further t next (End out ended) h f = tt

-- Each stop of a task that doesn't stand in a wait leaves fewer.
pub stops_fall : (t : Task) (stop : Stop) → IsTask t → t.waiting ≡ false → IsNext t stop → LeavesFewer t stop
stops_fall t stop is idle (Now h) = subst (FewerStep t) h (fewer-step t is idle)
stops_fall t stop is idle (Later next h n) =
    let f : FewerStep t (Passes next) = subst (FewerStep t) h (fewer-step t is idle) in
    fewer-further t next stop f.0 (stops_fall next stop (subst (IsSoundStep t) h (steps_are_sound t is)) f.1 n)

-- Answers

module _ (plan : PlanView) (child : Origin → Evaluation) (path : List ℕ) where
  resumed-few : (stage : Stage) → stage_stops plan child path false [] (resumed stage) ≤ 3 + item_stops (rest_open plan child path [] (resumed stage)).items
  resumed-few (Running m) = omega arith
  resumed-few (AtSync m) = by_fault m.top.faulted
    where
      by_fault : (f : Option Fault) → stage_stops plan child path false [] (pass_sync f m) ≤ 3 + item_stops (rest_open plan child path [] (pass_sync f m)).items
      by_fault None = omega arith
      by_fault (Some f) = omega arith
  resumed-few (AtLoop m) = omega arith
  resumed-few (Ended e) = omega arith

  ended-few : (ps : List AwaitedChild) (answers : List Evaluation) (e : Result Value NodeFault) → stage_stops plan child path false [] (resumed (takes_all ps answers (Ended e))) ≤ 1
  ended-few [] answers e = omega arith
  ended-few (p ∷ ps) [] e = omega arith
  ended-few (p ∷ ps) (answer ∷ answers) e = from p.destination answer.ending (ended-few ps answers)
    where
      from : (destination : Destination) (q : Result (List Value) Fault) → ((e : Result Value NodeFault) → stage_stops plan child path false [] (resumed (takes_all ps answers (Ended e))) ≤ 1) →
          stage_stops plan child path false [] (resumed (takes_all ps answers (takes destination q (Ended e)))) ≤ 1
      from (Spawned owner target) q later = later e
      from (Looped target) (Ok vs) later = later e
      from (Looped target) (Err f) later = later (Err (ChildFaulted f))
      from Half q later = later e

-- The answers leave no more stops than the wait did.
pub answers_leave_no_more : (t : Task) → IsTask t → t.waiting ≡ true → stops_left (on (evaluations (eval t.plan) t.trace.unmerged) t) ≤ stops_left t
answers_leave_no_more t is stands = whole (by_remaining t.remaining)
  where
    ps : List AwaitedChild
    ps = t.trace.unmerged

    own : Origin
    own = own_instance t.origin

    answers : List Evaluation
    answers = evaluations (eval t.plan) ps

    size : Stage → ℕ
    size stage = item_stops (rest_open t.plan (children_of t.plan own) (path_of own) ps stage).items

    going : (stage : Stage) → stage_stops t.plan (children_of t.plan own) (path_of own) false [] (resumed (takes_all ps answers stage)) ≤ 3 + size stage
    going stage =
        let same : size stage ≡ item_stops (rest_open t.plan (children_of t.plan own) (path_of own) [] (resumed (takes_all ps answers stage))).items = ap (λ (r : Run Item NodeFault Value). item_stops r.items) (rest-same t is stage) in
        let few = resumed-few t.plan (children_of t.plan own) (path_of own) (takes_all ps answers stage) in bound _ _ _ same few
      where
        bound : (a b c : ℕ) → b ≡ c → a ≤ 3 + c → a ≤ 3 + b
        bound a b c e h = omega arith

    two : (a b : ℕ) → a ≤ b → 2 + a ≤ 2 + b
    two a b h = omega arith

    by_stage : (stage : Stage) → stage_stops t.plan (children_of t.plan own) (path_of own) false [] (resumed (takes_all ps answers stage)) ≤ stage_stops t.plan (children_of t.plan own) (path_of own) true ps stage
    by_stage (Running m) = going (Running m)
    by_stage (AtSync m) = plus (going (AtSync m))
      where
        plus : {a b : ℕ} → a ≤ b → a ≤ 0 + b
        plus h = omega arith
    by_stage (AtLoop m) = plus (going (AtLoop m))
      where
        plus : {a b : ℕ} → a ≤ b → a ≤ 0 + b
        plus h = omega arith
    by_stage (Ended e) = ended-few t.plan (children_of t.plan own) (path_of own) ps answers e

    by_remaining : (remaining : Remaining) → stops_of t.plan t.origin false [] (resumed_remaining ps answers remaining) ≤ stops_of t.plan t.origin true ps remaining
    by_remaining (Splits left) = omega arith
    by_remaining (Runs stage) = two _ _ (by_stage stage)
    by_remaining (Finished v true) = omega arith
    by_remaining (Finished v false) = omega arith

    whole : stops_of t.plan t.origin false [] (resumed_remaining ps answers t.remaining) ≤ stops_of t.plan t.origin true ps t.remaining → stops_left (on answers t) ≤ stops_left t
    whole h =
        let none : (on answers t).trace.unmerged ≡ [] = none-unmerged t is in
        let after : stops_left (on answers t) ≡ stops_of t.plan t.origin false [] (resumed_remaining ps answers t.remaining) = ap (λ qs. stops_of t.plan t.origin false qs (resumed_remaining ps answers t.remaining)) none in
        let before : stops_left t ≡ stops_of t.plan t.origin true ps t.remaining = ap (λ b. stops_of t.plan t.origin b ps t.remaining) stands in omega arith
