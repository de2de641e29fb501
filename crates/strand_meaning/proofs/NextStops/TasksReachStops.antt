-- A task comes to a stop.
use Rattle.std.proofs.Common.{◌≡◌, ℕ, zero, suc, ◌+◌, ◌-◌, ◌*◌, ◌<◌, ◌≤◌, true, false, List, [], ◌∷◌, Option, Some, None, Result, Ok, Err, refl, subst, arith}
use Rattle.loop_range.specs.Range.{Range}
use Rattle.script_grammar.specs.declared.tree.Function.{Function}
use Rattle.serial_meaning.specs.Functions.{function_at}
use Rattle.serial_meaning.specs.Plan.{functions_of}
use Rattle.serial_meaning.specs.Eval.{path_of}
use Rattle.serial_meaning.specs.Open.{Own, ChildFaulted}
use Rattle.serial_meaning.specs.declared.value.Value.{Value}
use Rattle.serial_meaning.specs.declared.event.Fault.{Fault}
use Rattle.serial_meaning.specs.declared.origin.Origin.{Origin}
use Rattle.serial_meaning.specs.declared.origin.Origin.TheVariants.{Instance, Loop}
use Rattle.serial_meaning.specs.declared.answer.Outcome.{Outcome}
use Rattle.strand_meaning.specs.Machine.{Effect, Opens, Closes, Emitted, Starts, Syncs, Loops, Machine, Reached, Stands, Gives, function_begun, move}
use Rattle.strand_meaning.specs.Trace.{AwaitedChild}
use Rattle.strand_meaning.specs.Task.{Stage, Running, AtSync, AtLoop, Ended, Remaining, Splits, Runs, Finished, Task, begun_stage, own_instance, begins_last, MoveOrStop, Passes, Stops, Stop, IsNext, Now, Later, stage_after, child_in, stops_at, passing, step_result, ends_unless, faults_after, returned, stage_step, split_step, over_step, remaining_step, step}
use Rattle.strand_meaning.specs.Left.{moves_of, stage_moves, remaining_moves, moves_left}
use Rattle.strand_meaning.proofs.NextStops.MovesUseSteps.{Falls, move-falls}

-- a step to another task leaves fewer
abbrev StepFalls : ℕ → MoveOrStop → Type 0
StepFalls n (Passes next) = moves_left next < n
StepFalls n (Stops stop) = Unit {0}

stage-after-falls : (ts : List Effect) (k : Machine) (n : ℕ) → 2 + moves_of k < n → stage_moves (stage_after ts k) < n
stage-after-falls [] k n h = h
stage-after-falls (Opens j ∷ ts) k n h = stage-after-falls ts k n h
stage-after-falls (Closes j ∷ ts) k n h = stage-after-falls ts k n h
stage-after-falls (Emitted e ∷ ts) k n h = stage-after-falls ts k n h
stage-after-falls (Starts o destination ∷ ts) k n h = stage-after-falls ts k n h
stage-after-falls (Syncs ∷ ts) k n h = omega arith
stage-after-falls (Loops ∷ ts) k n h = omega arith

module _ (t : Task) where
  ends-fall : (n : ℕ) (f : Option Fault) (ended : Outcome) → StepFalls n (ends_unless f t ended)
  ends-fall n None ended = tt
  ends-fall n (Some f) ended = tt

  at-falls : (n : ℕ) (o : Option Origin) (next : Task) → moves_left next < n → StepFalls n (stops_at o next)
  at-falls n None next h = h
  at-falls n (Some o) next h = tt

  result-falls : (m : Machine) (ts : List Effect) (e : Result Reached Fault) → Falls m e → StepFalls (2 + moves_of m) (step_result t ts e)
  result-falls m ts (Ok (Stands k)) h = at-falls (2 + moves_of m) (child_in ts) (passing t ts (Runs (stage_after ts k))) (stage-after-falls ts k (2 + moves_of m) (omega arith))
  result-falls m ts (Ok (Gives v)) h = omega arith
  result-falls m ts (Err f) h = omega arith

  faults-fall : (ps : List AwaitedChild) (f : Fault) → StepFalls 1 (faults_after ps t f)
  faults-fall [] f = ends-fall 1 t.trace.fault _
  faults-fall (p ∷ ps) f = tt

  returned-falls : (o : Origin) (v : Value) → StepFalls 1 (returned t o v)
  returned-falls (Instance function args path) v = ends-fall 1 t.trace.fault _
  returned-falls (Loop function rest first path range) v = omega arith

  stage-falls : (stage : Stage) → StepFalls (stage_moves stage) (stage_step t stage)
  stage-falls (Running m) =
      let path = path_of (own_instance t.origin) in result-falls m (move t.plan path m).items (move t.plan path m).ending (move-falls t.plan path m)
  stage-falls (AtSync m) = tt
  stage-falls (AtLoop m) = tt
  stage-falls (Ended (Ok v)) = returned-falls t.origin v
  stage-falls (Ended (Err (Own f))) = faults-fall t.trace.unmerged f
  stage-falls (Ended (Err (ChildFaulted f))) = ends-fall 1 t.trace.fault _

  begun-falls : (o : Origin) → remaining_moves t.plan (begins_last t.plan o) < 3 + 3 * t.plan.limits.budget
  begun-falls o = by_origin o
    where
      by_function : (function : ℕ) (args : List Value) (f : Option Function) → function_at (functions_of t.plan) function ≡ f → stage_moves (begun_stage (function_begun t.plan function args)) < 3 + 3 * t.plan.limits.budget
      by_function function args None h = rw h (omega arith)
      by_function function args (Some f) h = rw h (omega arith)

      by_origin : (o : Origin) → remaining_moves t.plan (begins_last t.plan o) < 3 + 3 * t.plan.limits.budget
      by_origin (Instance function args path) = by_function function args (function_at (functions_of t.plan) function) refl
      by_origin (Loop function rest first path range) = by_function function _ (function_at (functions_of t.plan) function) refl

  split-falls : (left : Range) (n : ℕ) → StepFalls (3 + 3 * t.plan.limits.budget) (split_step t left n)
  split-falls left zero = ends-fall (3 + 3 * t.plan.limits.budget) t.trace.fault _
  split-falls left (suc zero) = begun-falls t.origin
  split-falls left (suc (suc n)) = tt

  over-falls : (v : Value) (o : Origin) → StepFalls 0 (over_step t v o)
  over-falls v (Instance function args path) = ends-fall 0 t.trace.fault _
  over-falls v (Loop function rest first path range) = by_size (range.hi - range.lo) refl
    where
      by_size : (n : ℕ) → range.hi - range.lo ≡ n → StepFalls 0 (over_step t v (Loop function rest first path range))
      by_size zero g = rw g (ends-fall 0 t.trace.fault _)
      by_size (suc zero) g = rw g (ends-fall 0 t.trace.fault _)
      by_size (suc (suc n)) g = rw g tt

  remaining-falls : (remaining : Remaining) → StepFalls (remaining_moves t.plan remaining) (remaining_step t remaining)
  remaining-falls (Splits left) = split-falls left (left.hi - left.lo)
  remaining-falls (Runs stage) = stage-falls stage
  remaining-falls (Finished v true) = ends-fall 0 t.trace.fault _
  remaining-falls (Finished v false) = over-falls v t.origin

-- a move leaves fewer
pub moves_fall : (t next : Task) → step t ≡ Passes next → moves_left next < moves_left t
moves_fall t next e = subst (StepFalls (moves_left t)) e (remaining-falls t t.remaining)

comes-within : (n : ℕ) (t : Task) → moves_left t ≤ n → (stop : Stop) × IsNext t stop
comes-within zero t h = by_step (step t) refl (remaining-falls t t.remaining)
  where
    by_step : (s : MoveOrStop) → step t ≡ s → StepFalls (moves_left t) s → (stop : Stop) × IsNext t stop
    by_step (Stops stop) e f = (stop, Now e)
    by_step (Passes next) e f = absurd (omega arith)
comes-within (suc n) t h = by_step (step t) refl (remaining-falls t t.remaining) (comes-within n)
  where
    by_step : (s : MoveOrStop) → step t ≡ s → StepFalls (moves_left t) s → ((next : Task) → moves_left next ≤ n → (stop : Stop) × IsNext next stop) → (stop : Stop) × IsNext t stop
    by_step (Stops stop) e f go = (stop, Now e)
    by_step (Passes next) e f go = let c = go next (omega arith) in (c.0, Later next e c.1)

pub stops_exist : (t : Task) → (stop : Stop) × IsNext t stop
stops_exist t = comes-within (moves_left t) t (omega arith)
