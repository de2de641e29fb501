-- The children that a task begins: each stop but a spawn leaves them alone, and a spawn adds one, which is smaller than the task's
-- own origin.
use Rattle.std.proofs.Common.{◌≡◌, ℕ, zero, suc, ◌+◌, ◌-◌, ◌<◌, ◌≤◌, ◌⊎◌, inl, inr, true, false, List, [], ◌∷◌, ◌++◌, Option, Some, None, Result, Ok, Err, length, length-append, append-nil, append_assoc, refl, sym, ap, ◌∙◌, subst, arith}
use Rattle.loop_range.specs.Range.{Range}
use Rattle.serial_meaning.specs.Plan.{PlanView}
use Rattle.serial_meaning.specs.Eval.{path_of, depth_left}
use Rattle.serial_meaning.specs.Open.{Own, ChildFaulted}
use Rattle.serial_meaning.specs.declared.value.Value.{Value}
use Rattle.serial_meaning.specs.declared.event.Fault.{Fault}
use Rattle.serial_meaning.specs.declared.event.Event.{Event}
use Rattle.serial_meaning.specs.declared.origin.Origin.{Origin}
use Rattle.serial_meaning.specs.declared.origin.Origin.TheVariants.{Instance, Loop}
use Rattle.serial_meaning.specs.declared.answer.Outcome.{Outcome}
use Rattle.strand_meaning.specs.Machine.{Effect, Opens, Closes, Emitted, Starts, Syncs, Loops, Reached, Stands, Gives, move}
use Rattle.strand_meaning.specs.Trace.{AwaitedChild, Trace, after_last, emit, emit_at, add_child, with_effects}
use Rattle.strand_meaning.specs.Task.{Stage, Running, AtSync, AtLoop, Ended, Remaining, Splits, Runs, Finished, Task, own_instance, MoveOrStop, Passes, Stops, Stop, Spawn, Wait, End, IsNext, Now, Later, stage_after, child_in, stops_at, passing, step_result, ends_unless, faults_after, returned, stage_step, first_half, split_step, over_step, remaining_step, step}
use Rattle.strand_meaning.specs.Sound.{IsEndOf, IsSoundRemaining, IsTask}
use Rattle.strand_meaning.specs.Laws.{IsSameTask, IsSoundStep}
use Rattle.strand_meaning.proofs.SoundSteps.StepsKeepTasks.{steps_are_sound}
use Rattle.strand_meaning.proofs.NextStops.OneSoundStop.{KeepsStep, step-keeps}
use Rattle.strand_machine.specs.AwaitedChildren.{awaited}
use Rattle.serial_runner.proofs.Shows.{children, IsDeeper, AtMostOne, MoveStarts, move_starts}

-- the children whose answers aren't taken
abbrev pub unmerged : Task → List Origin
unmerged t = awaited t.trace.unmerged

pub awaited-append : (ps qs : List AwaitedChild) → awaited (ps ++ qs) ≡ awaited ps ++ awaited qs
awaited-append [] qs = refl
awaited-append (p ∷ ps) qs = ap (λ l. p.child ∷ l) (awaited-append ps qs)

awaited-after : (p : AwaitedChild) (ps : List AwaitedChild) (e : Event) → awaited (after_last p ps e) ≡ awaited (p ∷ ps)
awaited-after p [] e = refl
awaited-after p (q ∷ qs) e = ap (λ l. p.child ∷ l) (awaited-after q qs e)

awaited-emit : (ps : List AwaitedChild) (e : Event) (trace : Trace) → trace.unmerged ≡ ps → awaited (emit_at ps e trace).unmerged ≡ awaited trace.unmerged
awaited-emit [] e trace h = refl
awaited-emit (p ∷ ps) e trace h = awaited-after p ps e ∙ ap awaited (sym h)

awaited-effects : (ts : List Effect) (trace : Trace) → awaited (with_effects ts trace).unmerged ≡ awaited trace.unmerged ++ children ts
awaited-effects [] trace = sym (append-nil (awaited trace.unmerged))
awaited-effects (Opens j ∷ ts) trace = awaited-effects ts trace
awaited-effects (Closes j ∷ ts) trace = awaited-effects ts trace
awaited-effects (Emitted e ∷ ts) trace = awaited-effects ts (emit e trace) ∙ ap (λ l. l ++ children ts) (awaited-emit trace.unmerged e trace refl)
awaited-effects (Starts o destination ∷ ts) trace =
    awaited-effects ts (add_child o destination trace) ∙ ap (λ l. l ++ children ts) (awaited-append trace.unmerged _) ∙ append_assoc (awaited trace.unmerged) (o ∷ []) (children ts)
awaited-effects (Syncs ∷ ts) trace = awaited-effects ts trace
awaited-effects (Loops ∷ ts) trace = awaited-effects ts trace

abbrev pub first : List Origin → Option Origin
first [] = None
first (o ∷ os) = Some o

pub child-first : (ts : List Effect) → child_in ts ≡ first (children ts)
child-first [] = refl
child-first (Opens j ∷ ts) = child-first ts
child-first (Closes j ∷ ts) = child-first ts
child-first (Emitted e ∷ ts) = child-first ts
child-first (Starts o destination ∷ ts) = refl
child-first (Syncs ∷ ts) = child-first ts
child-first (Loops ∷ ts) = child-first ts

-- how many iterations an origin has
abbrev pub size_of : Origin → ℕ
size_of (Instance function args path) = 0
size_of (Loop function rest first path range) = range.hi - range.lo

-- deeper, or a smaller part of the same loop
abbrev pub IsSmaller : PlanView → Origin → Origin → Type 0
IsSmaller plan o child = (depth_left plan child < depth_left plan o) ⊎ ((depth_left plan child ≡ depth_left plan o) × (size_of child < size_of o))

abbrev pub StartsInStep : Task → MoveOrStop → Type 0
StartsInStep t (Passes next) = unmerged next ≡ unmerged t
StartsInStep t (Stops (Spawn child rest)) = (unmerged rest ≡ unmerged t ++ child ∷ []) × IsSmaller t.plan t.origin child
StartsInStep t (Stops (Wait rest)) = unmerged rest ≡ unmerged t
StartsInStep t (Stops (End out ended)) = Unit {0}

own-longer : (o : Origin) → length (path_of o) ≤ length (path_of (own_instance o))
own-longer (Instance function args path) = omega arith
own-longer (Loop function rest first path range) = let e : length (path ++ (range.hi - 1) ∷ []) ≡ length path + length ((range.hi - 1) ∷ []) = length-append path ((range.hi - 1) ∷ []) in omega arith

deeper-smaller : (plan : PlanView) (o c : Origin) → IsDeeper plan (path_of (own_instance o)) c → IsSmaller plan o c
deeper-smaller plan o c d = let h : length (path_of o) ≤ length (path_of (own_instance o)) = own-longer o in inl (omega (arith, d.longer, d.fits))

module _ (t : Task) where
  starts-ends : (f : Option Fault) (ended : Outcome) → StartsInStep t (ends_unless f t ended)
  starts-ends None ended = tt
  starts-ends (Some f) ended = tt

  starts-at : (os : List Origin) (o : Option Origin) (next : Task) → o ≡ first os → unmerged next ≡ unmerged t ++ os → AtMostOne t.plan (path_of (own_instance t.origin)) os → StartsInStep t (stops_at o next)
  starts-at [] None next e h k = h ∙ append-nil (unmerged t)
  starts-at [] (Some o) next e h k = absurd (cc)
  starts-at (c ∷ []) None next e h k = absurd (cc)
  starts-at (c ∷ []) (Some o) next e h k =
      let same : c ≡ o = cc in (h ∙ ap (λ d. unmerged t ++ d ∷ []) same, subst (λ d. IsSmaller t.plan t.origin d) same (deeper-smaller t.plan t.origin c k))
  starts-at (c ∷ d ∷ os) o next e h k = absurd k

  starts-result : (ts : List Effect) (e : Result Reached Fault) → MoveStarts t.plan (path_of (own_instance t.origin)) (children ts) e → StartsInStep t (step_result t ts e)
  starts-result ts (Ok (Stands m)) h = starts-at (children ts) (child_in ts) (passing t ts (Runs (stage_after ts m))) (child-first ts) (awaited-effects ts t.trace) h
  starts-result ts (Ok (Gives v)) h = awaited-effects ts t.trace ∙ ap (λ os. unmerged t ++ os) h ∙ append-nil (unmerged t)
  starts-result ts (Err f) h = awaited-effects ts t.trace ∙ ap (λ os. unmerged t ++ os) h ∙ append-nil (unmerged t)

  starts-faults : (ps : List AwaitedChild) (f : Fault) → StartsInStep t (faults_after ps t f)
  starts-faults [] f = starts-ends t.trace.fault _
  starts-faults (p ∷ ps) f = refl

  starts-returned : (o : Origin) (v : Value) → StartsInStep t (returned t o v)
  starts-returned (Instance function args path) v = starts-ends t.trace.fault _
  starts-returned (Loop function rest first path range) v = refl

  starts-stage : (stage : Stage) → StartsInStep t (stage_step t stage)
  starts-stage (Running m) =
      let path = path_of (own_instance t.origin) in let r = move t.plan path m in starts-result r.items r.ending (move_starts t.plan path m)
  starts-stage (AtSync m) = refl
  starts-stage (AtLoop m) = refl
  starts-stage (Ended (Ok v)) = starts-returned t.origin v
  starts-stage (Ended (Err (Own f))) = starts-faults t.trace.unmerged f
  starts-stage (Ended (Err (ChildFaulted f))) = starts-ends t.trace.fault _

  half-smaller : (o : Origin) (left : Range) (n : ℕ) → IsEndOf o left → left.hi - left.lo ≡ suc (suc n) → IsSmaller t.plan o (first_half o left)
  half-smaller (Instance function args path) left n is e = absurd is
  half-smaller (Loop function rest first path range) left n is e = inr (refl, omega (arith, is.0, is.1))

  starts-split : (left : Range) (n : ℕ) → IsEndOf t.origin left → left.hi - left.lo ≡ n → StartsInStep t (split_step t left n)
  starts-split left zero is e = starts-ends t.trace.fault _
  starts-split left (suc zero) is e = refl
  starts-split left (suc (suc n)) is e = (awaited-append t.trace.unmerged _, half-smaller t.origin left n is e)

  starts-over : (v : Value) (o : Origin) → StartsInStep t (over_step t v o)
  starts-over v (Instance function args path) = starts-ends t.trace.fault _
  starts-over v (Loop function rest first path range) = by_size (range.hi - range.lo) refl
    where
      by_size : (n : ℕ) → range.hi - range.lo ≡ n → StartsInStep t (over_step t v (Loop function rest first path range))
      by_size zero g = rw g (starts-ends t.trace.fault _)
      by_size (suc zero) g = rw g (starts-ends t.trace.fault _)
      by_size (suc (suc n)) g = rw g refl

  starts-remaining : (remaining : Remaining) → IsSoundRemaining t.plan t.origin t.trace.unmerged remaining → StartsInStep t (remaining_step t remaining)
  starts-remaining (Splits left) is = starts-split left (left.hi - left.lo) is.0 refl
  starts-remaining (Runs stage) is = starts-stage stage
  starts-remaining (Finished v true) is = starts-ends t.trace.fault _
  starts-remaining (Finished v false) is = starts-over v t.origin

step-starts : (t : Task) → IsTask t → StartsInStep t (step t)
step-starts t is = starts-remaining t t.remaining is.remaining

abbrev pub StartsBeforeStop : Task → Stop → Type 0
StartsBeforeStop t stop = StartsInStep t (Stops stop)

starts-further : (t next : Task) (stop : Stop) → IsSameTask t next → unmerged next ≡ unmerged t → StartsBeforeStop next stop → StartsBeforeStop t stop
starts-further t next (Spawn child rest) same h k =
    (k.0 ∙ ap (λ l. l ++ child ∷ []) h, subst (λ (o : Origin). IsSmaller t.plan o child) same.1 (subst (λ (p : PlanView). IsSmaller p next.origin child) same.0 k.1))
starts-further t next (Wait rest) same h k = k ∙ h
starts-further t next (End out ended) same h k = tt

-- A spawn adds its child, and it is smaller. Other stops leave the children alone.
pub stops_start : (t : Task) (stop : Stop) → IsTask t → IsNext t stop → StartsBeforeStop t stop
stops_start t stop is (Now h) = subst (StartsInStep t) h (step-starts t is)
stops_start t stop is (Later next h n) =
    starts-further t next stop (subst (KeepsStep t) h (step-keeps t)) (subst (StartsInStep t) h (step-starts t is)) (stops_start next stop (subst (IsSoundStep t) h (steps_are_sound t is)) n)
