-- The next stop of a task: it is sound, it is of the task's origin, and there is one.
use Rattle.std.proofs.Common.{◌≡◌, ℕ, zero, suc, ◌-◌, true, false, List, [], ◌∷◌, Option, Some, None, Result, Ok, Err, refl, sym, ap, ◌∙◌, subst}
use Rattle.loop_range.specs.Range.{Range}
use Rattle.serial_meaning.specs.Plan.{PlanView}
use Rattle.serial_meaning.specs.Eval.{path_of}
use Rattle.serial_meaning.specs.Open.{Own, ChildFaulted}
use Rattle.serial_meaning.specs.Laws.{IsOriginOf}
use Rattle.serial_meaning.specs.Answer.{IsEval}
use Rattle.serial_meaning.specs.declared.value.Value.{Value}
use Rattle.serial_meaning.specs.declared.event.Fault.{Fault}
use Rattle.serial_meaning.specs.declared.origin.Origin.{Origin}
use Rattle.serial_meaning.specs.declared.origin.Origin.TheVariants.{Instance, Loop}
use Rattle.serial_meaning.specs.declared.answer.Outcome.{Outcome}
use Rattle.strand_meaning.specs.Machine.{Effect, Reached, Stands, Gives, move}
use Rattle.strand_meaning.specs.Trace.{AwaitedChild}
use Rattle.strand_meaning.specs.Task.{Stage, Running, AtSync, AtLoop, Ended, Remaining, Splits, Runs, Finished, Task, own_instance, MoveOrStop, Passes, Stops, Stop, Spawn, Wait, End, IsNext, Now, Later, stage_after, child_in, stops_at, passing, step_result, ends_unless, faults_after, returned, stage_step, split_step, over_step, remaining_step, step}
use Rattle.strand_meaning.specs.Sound.{IsTask}
use Rattle.strand_meaning.specs.Laws.{IsSoundStop, IsSoundStep, IsFaultOf, IsSameTask, KeepsOrigin}
use Rattle.strand_meaning.proofs.SoundSteps.StepsKeepTasks.{steps_are_sound}

abbrev pub KeepsStep : Task → MoveOrStop → Type 0
KeepsStep t (Passes next) = IsSameTask t next
KeepsStep t (Stops stop) = KeepsOrigin t stop

module _ (t : Task) where
  keeps-ends : (f : Option Fault) (ended : Outcome) → KeepsStep t (ends_unless f t ended)
  keeps-ends None ended = tt
  keeps-ends (Some f) ended = tt

  keeps-at : (o : Option Origin) (next : Task) → IsSameTask t next → KeepsStep t (stops_at o next)
  keeps-at None next h = h
  keeps-at (Some o) next h = h

  keeps-result : (ts : List Effect) (e : Result Reached Fault) → KeepsStep t (step_result t ts e)
  keeps-result ts (Ok (Stands m)) = keeps-at (child_in ts) (passing t ts (Runs (stage_after ts m))) (refl, refl)
  keeps-result ts (Ok (Gives v)) = (refl, refl)
  keeps-result ts (Err f) = (refl, refl)

  keeps-faults : (ps : List AwaitedChild) (f : Fault) → KeepsStep t (faults_after ps t f)
  keeps-faults [] f = keeps-ends t.trace.fault _
  keeps-faults (p ∷ ps) f = (refl, refl)

  keeps-returned : (o : Origin) (v : Value) → KeepsStep t (returned t o v)
  keeps-returned (Instance function args path) v = keeps-ends t.trace.fault _
  keeps-returned (Loop function rest first path range) v = (refl, refl)

  keeps-stage : (stage : Stage) → KeepsStep t (stage_step t stage)
  keeps-stage (Running m) = let r = move t.plan (path_of (own_instance t.origin)) m in keeps-result r.items r.ending
  keeps-stage (AtSync m) = (refl, refl)
  keeps-stage (AtLoop m) = (refl, refl)
  keeps-stage (Ended (Ok v)) = keeps-returned t.origin v
  keeps-stage (Ended (Err (Own f))) = keeps-faults t.trace.unmerged f
  keeps-stage (Ended (Err (ChildFaulted f))) = keeps-ends t.trace.fault _

  keeps-split : (left : Range) (n : ℕ) → KeepsStep t (split_step t left n)
  keeps-split left zero = keeps-ends t.trace.fault _
  keeps-split left (suc zero) = (refl, refl)
  keeps-split left (suc (suc n)) = (refl, refl)

  keeps-over : (v : Value) (o : Origin) → KeepsStep t (over_step t v o)
  keeps-over v (Instance function args path) = keeps-ends t.trace.fault _
  keeps-over v (Loop function rest first path range) = by_size (range.hi - range.lo) refl
    where
      by_size : (n : ℕ) → range.hi - range.lo ≡ n → KeepsStep t (over_step t v (Loop function rest first path range))
      by_size zero g = rw g (keeps-ends t.trace.fault _)
      by_size (suc zero) g = rw g (keeps-ends t.trace.fault _)
      by_size (suc (suc n)) g = rw g (refl, refl)

  keeps-remaining : (remaining : Remaining) → KeepsStep t (remaining_step t remaining)
  keeps-remaining (Splits left) = keeps-split left (left.hi - left.lo)
  keeps-remaining (Runs stage) = keeps-stage stage
  keeps-remaining (Finished v true) = keeps-ends t.trace.fault _
  keeps-remaining (Finished v false) = keeps-over v t.origin

pub step-keeps : (t : Task) → KeepsStep t (step t)
step-keeps t = keeps-remaining t t.remaining

keeps-further : (t next : Task) (stop : Stop) → IsSameTask t next → KeepsOrigin next stop → KeepsOrigin t stop
keeps-further t next (Spawn child rest) h k = (k.0 ∙ h.0, k.1 ∙ h.1)
keeps-further t next (Wait rest) h k = (k.0 ∙ h.0, k.1 ∙ h.1)
keeps-further t next (End out ended) h k = tt

pub stops_keep_origins : (t : Task) (stop : Stop) → IsNext t stop → KeepsOrigin t stop
stops_keep_origins t stop (Now h) = subst (KeepsStep t) h (step-keeps t)
stops_keep_origins t stop (Later next h n) = keeps-further t next stop (subst (KeepsStep t) h (step-keeps t)) (stops_keep_origins next stop n)

sound-further : (t next : Task) (stop : Stop) → IsSameTask t next → IsSoundStop next stop → IsSoundStop t stop
sound-further t next (Spawn child rest) h s = (subst (λ (p : PlanView). IsOriginOf p child) h.0 s.0, s.1)
sound-further t next (Wait rest) h s = s
sound-further t next (End out ended) h s =
    (subst (λ (p : PlanView). IsEval p t.origin out ended) h.0 (subst (λ (o : Origin). IsEval next.plan o out ended) h.1 s.0), subst (λ (p : PlanView). IsFaultOf p ended) h.0 s.1)

-- The stop that a task comes to is sound.
pub stops_are_sound : (t : Task) (stop : Stop) → IsTask t → IsNext t stop → IsSoundStop t stop
stops_are_sound t stop is (Now h) = subst (IsSoundStep t) h (steps_are_sound t is)
stops_are_sound t stop is (Later next h n) =
    sound-further t next stop (subst (KeepsStep t) h (step-keeps t)) (stops_are_sound next stop (subst (IsSoundStep t) h (steps_are_sound t is)) n)

-- There is no other.

abbrev stop_of : Stop → MoveOrStop → Stop
stop_of d (Passes next) = d
stop_of d (Stops stop) = stop

abbrev next_of : Task → MoveOrStop → Task
next_of d (Passes next) = next
next_of d (Stops stop) = d

not-both : (next : Task) (stop : Stop) → Passes next ≡ Stops stop → ⊥
not-both next stop h = absurd (cc)

pub stops_are_unique : (t : Task) (stop other : Stop) → IsNext t stop → IsNext t other → stop ≡ other
stops_are_unique t stop other (Now h) (Now g) = same (sym h ∙ g)
  where
    same : Stops stop ≡ Stops other → stop ≡ other
    same e = ap (stop_of stop) e
stops_are_unique t stop other (Now h) (Later next g n) = absurd (not-both next stop (sym g ∙ h))
stops_are_unique t stop other (Later next h m) (Now g) = absurd (not-both next other (sym h ∙ g))
stops_are_unique t stop other (Later next h m) (Later after g n) =
    stops_are_unique next stop other m (subst (λ (x : Task). IsNext x other) (sym (task-same (sym h ∙ g))) n)
  where
    task-same : Passes next ≡ Passes after → next ≡ after
    task-same e = ap (next_of next) e
