-- What is left of a task after a move is sound, and each kind of move is the defined one.
use Rattle.std.proofs.Common.{add-one, ◌≡◌, ℕ, zero, suc, ◌+◌, ◌-◌, ◌≤◌, Bool, true, false, List, [], ◌∷◌, ◌++◌, Option, Some, None, length, length-append, replicate, nat_lt, refl, sym, ap, ◌∙◌, subst, arith, append_assoc}
use Rattle.std.proofs.Common.{ℤ}
use Rattle.std.proofs.lemmas.Bool.{true≢false}
use Rattle.std.proofs.lemmas.Bool.Decides.{nat_tests}
use Rattle.dotmix.specs.Trails.{FitsGamma}
use Rattle.dotmix.specs.declared.trail.Trail.{Trail}
use Rattle.loop_range.specs.Range.{Range, lower_half, upper_half}
use Rattle.serial_meaning.specs.Answer.{IsEval, IsAnswer}
use Rattle.serial_meaning.specs.Eval.{path_of}
use Rattle.serial_meaning.specs.Laws.{IsOriginOf}
use Rattle.serial_meaning.specs.Plan.{PlanView}
use Rattle.serial_meaning.specs.declared.event.Fault.{Fault}
use Rattle.serial_meaning.specs.declared.event.Event.{Event}
use Rattle.serial_meaning.specs.declared.value.Value.{Value}
use Rattle.serial_meaning.specs.declared.origin.Origin.{Origin}
use Rattle.serial_meaning.specs.declared.origin.Origin.TheVariants.{Instance, Loop}
use Rattle.serial_meaning.specs.declared.answer.Outcome.{Outcome}
use Rattle.serial_meaning.specs.declared.answer.Outcome.TheVariants as outcome
use Rattle.strand_meaning.specs.Laws.{IsSoundStep, IsFaultOf, StepsAreSound}
use Rattle.serial_meaning.specs.Runs.{Run}
use Rattle.strand_meaning.specs.Machine.{Effect, Reached, move}
use Rattle.strand_meaning.specs.Trace.{AwaitedChild}
use Rattle.strand_meaning.specs.Sound.{IsTask}
use Rattle.strand_meaning.specs.Task as meaning
use Rattle.strand_meaning.specs.Task.{Task, ends, ends_unless, own_instance, first_half, split_step, over_step, waits, begins_last, returned, faults_after, step_result, stops_at, child_in}
use Rattle.strand_moves.specs.Machines as moves
use Rattle.strand_moves.specs.Moves.{IsTrailOf, ShowsTrail, effects_of, run_of}
use Rattle.strand_moves.specs.declared.instance.Instance.{Instance as RawInstance}
use Rattle.strand_moves.specs.declared.effects.Effects.{Effects}
use Rattle.strand_moves.specs.declared.effects.MoveResult.TheVariants as move_result-in
use Rattle.strand_family.specs.Origins.{loop_part}
use Rattle.strand_machine.specs.TaskStates.{is_long}
use Rattle.strand_machine.specs.Links.{AreJoinNames, LinksView, links_with_child}
use Rattle.strand_machine.specs.AwaitedChildren.{awaited, destination_of}
use Rattle.strand_machine.specs.Effects.{task_after_effects, HasSoundEffects, IsKnownChild}
use Rattle.strand_machine.specs.Made.{IsSpawn, ended_move, made as made_so}
use Rattle.strand_machine.specs.Stops.{IsStep}
use Rattle.strand_machine.specs.MoveOrStop.{MoveOrStop as MadeStep}
use Rattle.strand_machine.specs.MoveOrStop as step-in
use Rattle.strand_machine.specs.declared.stop.Passed.TheVariants as passed-in
use Rattle.strand_machine.specs.declared.stop.Stop.TheVariants as stop-in
use Rattle.strand_machine.specs.Tasks.{TaskView, view_of, fresh, cut_of, AwaitsLast, RunsAt, RemainsAt, IsSound, task_of, task_with, remaining_of, gone, waiting, with_child, ended_by}
use Rattle.strand_machine.specs.declared.task_state.TaskState.{TaskState}
use Rattle.strand_machine.specs.declared.destination.Destination.{Destination}
use Rattle.strand_machine.specs.declared.destination.Destination.TheVariants as destination
use Rattle.strand_machine.specs.declared.remaining.Stage.TheVariants as stage
use Rattle.strand_machine.specs.declared.remaining.Left.{Left}
use Rattle.strand_machine.specs.declared.remaining.Remaining.{Remaining}
use Rattle.strand_machine.specs.declared.remaining.Remaining.TheVariants as remaining

-- Sound moves

sound-step : {K : Type 0} → StepsAreSound → (b : TaskState K) (w : Remaining) (s : meaning.MoveOrStop) → IsSound b w → meaning.step (task_of b w) ≡ s → IsSoundStep (task_of b w) s
sound-step steps_are_sound b w s h e = subst (IsSoundStep (task_of b w)) e (steps_are_sound (task_of b w) h.task)

pub pass-sound : {K : Type 0} → StepsAreSound → (b : TaskState K) (w next : Remaining) → IsSound b w → meaning.step (task_of b w) ≡ meaning.Passes (task_of (gone b) next) → RemainsAt b.links.plan b.links.origin next → IsSound (gone b) next
pass-sound law b w next h e of_plan = record { task = sound-step law b w (meaning.Passes (task_of (gone b) next)) h e; links = h.links; of_plan = of_plan }

pub wait-sound : {K : Type 0} → StepsAreSound → (b : TaskState K) (w next : Remaining) → IsSound b w → meaning.step (task_of b w) ≡ meaning.Stops (meaning.Wait (task_of (waiting b) next)) → RemainsAt b.links.plan b.links.origin next → IsSound (waiting b) next
wait-sound law b w next h e of_plan = record { task = sound-step law b w (meaning.Stops (meaning.Wait (task_of (waiting b) next))) h e; links = h.links; of_plan = of_plan }

awaited-append : (ps qs : List AwaitedChild) → awaited (ps ++ qs) ≡ awaited ps ++ awaited qs
awaited-append [] qs = refl
awaited-append (p ∷ ps) qs = ap (λ l. p.child ∷ l) (awaited-append ps qs)

one-longer : (n : ℕ) → replicate n false ++ false ∷ [] ≡ replicate (suc n) false
one-longer zero = refl
one-longer (suc n) = ap (λ l. false ∷ l) (one-longer n)

one-more : (n : ℕ) → replicate n false ++ false ∷ [] ≡ replicate (n + 1) false
one-more n = rw add-one (one-longer n)

pub awaits-more : (links : LinksView) (parts : List AwaitedChild) (p : AwaitedChild) → AwaitsLast links parts → AwaitsLast (links_with_child links p.child) (parts ++ p ∷ [])
awaits-more links parts p h = record {
  before = h.before;
  passed = h.passed;
  same = h.same;
  children = ap (λ l. l ++ p.child ∷ []) h.children ∙ append_assoc h.before (awaited parts) (p.child ∷ []) ∙ ap (λ l. h.before ++ l) (sym (awaited-append parts (p ∷ [])));
  taken = ap (λ l. l ++ false ∷ []) h.taken ∙ append_assoc h.passed (replicate (length parts) false) (false ∷ [])
      ∙ ap (λ l. h.passed ++ l) (one-more (length parts) ∙ ap (λ n. replicate n false) (sym (length-append parts (p ∷ []))));
}

pub spawn-sound : {K : Type 0} → StepsAreSound → (b : TaskState K) (w next : Remaining) (child : Origin) (p : Destination) → IsSound b w → meaning.step (task_of b w) ≡ meaning.Stops (meaning.Spawn child (task_of (with_child b child p) next)) →
    RemainsAt b.links.plan b.links.origin next → IsOriginOf b.links.plan child × IsSound (with_child b child p) next
spawn-sound law b w next child p h e of_plan =
    let s = sound-step law b w (meaning.Stops (meaning.Spawn child (task_of (with_child b child p) next))) h e in
    (s.0, record { task = s.1; links = awaits-more b.links b.trace.unmerged (record { child = child; destination = destination_of p; after = [] }) h.links; of_plan = of_plan })

-- Ends

pub ends-is : (t : Task) (o : Outcome) → ends t o ≡ meaning.Stops (meaning.End t.trace.prefix (ended_by t.trace.fault o))
ends-is t o = by_fault t.trace.fault
  where
    by_fault : (f : Option Fault) → ends_unless f t o ≡ meaning.Stops (meaning.End t.trace.prefix (ended_by f o))
    by_fault None = refl
    by_fault (Some f) = refl

answer-of : (plan : PlanView) (o : Origin) (out : List Event) (ended : Outcome) → IsEval plan o out ended → IsFaultOf plan ended → IsAnswer plan o out ended
answer-of plan o out (outcome.Value v) e f = e
answer-of plan o out (outcome.Values vs) e f = e
answer-of plan o out (outcome.Fault g) e f = e
answer-of plan o out (outcome.Cut g) e f = absurd f

pub end-answers : {K : Type 0} → StepsAreSound → (b : TaskState K) (w : Remaining) (o : Outcome) → IsSound b w → meaning.step (task_of b w) ≡ ends (task_of b w) o → IsAnswer b.links.plan b.links.origin b.trace.prefix (ended_by b.trace.fault o)
end-answers law b w o h e =
    let s = sound-step law b w (meaning.Stops (meaning.End b.trace.prefix (ended_by b.trace.fault o))) h (e ∙ ends-is (task_of b w) o) in
    answer-of b.links.plan b.links.origin b.trace.prefix (ended_by b.trace.fault o) s.0 s.1

-- What a call gives

pub end-is : {K : Type 0} (b : TaskState K) (w : Remaining) (o : Outcome) (s : MadeStep K) → meaning.step (task_of b w) ≡ ends (task_of b w) o → s ≡ ended_move b o → IsStep (view_of b w) s
end-is b w o s e h = rw h (record { is = e ∙ ends-is (task_of b w) o; keeps = (refl, refl, refl) })

-- no work of a task that goes on is that of one that took a cut
pub of_plan-on : (plan : PlanView) (o : Origin) (w : Remaining) → RemainsAt plan o w → cut_of w ≡ None
of_plan-on plan o (remaining.Splits left) h = refl
of_plan-on plan o (remaining.Runs s) h = refl
of_plan-on plan o (remaining.Finished v has_waited) h = refl
of_plan-on plan o (remaining.Ends ended) h = absurd h

pub pass-is : {K : Type 0} (b : TaskState K) (w next : Remaining) (s : MadeStep K) → RemainsAt b.links.plan b.links.origin next → meaning.step (task_of b w) ≡ meaning.Passes (task_of (gone b) next) → s ≡ step-in.Passes (view_of (gone b) next) → IsStep (view_of b w) s
pass-is b w next s of_plan e h = rw h (record { is = e; keeps = (refl, refl, of_plan-on b.links.plan b.links.origin next of_plan, refl) })

pub wait-is : {K : Type 0} (b : TaskState K) (w next : Remaining) (s : MadeStep K) → RemainsAt b.links.plan b.links.origin next → meaning.step (task_of b w) ≡ meaning.Stops (meaning.Wait (task_of (waiting b) next)) → s ≡ step-in.Stops (stop-in.Wait (view_of (waiting b) next)) → IsStep (view_of b w) s
wait-is b w next s of_plan e h = rw h (record { is = e; keeps = (refl, refl, of_plan-on b.links.plan b.links.origin next of_plan, refl) })

pub spawn-is : {K : Type 0} (b : TaskState K) (w next : Remaining) (child : Origin) (p : Destination) (s : MadeStep K) → RemainsAt b.links.plan b.links.origin next → meaning.step (task_of b w) ≡ meaning.Stops (meaning.Spawn child (task_of (with_child b child p) next)) →
    IsSpawn b child p next s → IsStep (view_of b w) s
spawn-is b w next child p s of_plan e (joins, are, h) = rw h (record { is = e; keeps = (refl, refl, refl, of_plan-on b.links.plan b.links.origin next of_plan, refl, are) })

-- what was begun
pub spawned-so : {K : Type 0} (b after : TaskState K) (o : Origin) (at : Destination) (w left : Remaining) (child : TaskView) → child ≡ fresh b.links.plan o child.joins → AreJoinNames b.links.joins.own child.joins →
    after ≡ with_child b o at → left ≡ w → IsSpawn b o at w (made_so (record { state = after; remaining = left }) (passed-in.Spawned child))
spawned-so b after o at w left child is are e f = (
  child.joins,
  are,
  ap (λ (v : TaskView). step-in.Stops (stop-in.Spawn v (view_of after left))) is
      ∙ ap (λ (x : TaskState _). step-in.Stops (stop-in.Spawn (fresh b.links.plan o child.joins) (view_of x left))) e
      ∙ ap (λ (x : Remaining). step-in.Stops (stop-in.Spawn (fresh b.links.plan o child.joins) (view_of (with_child b o at) x))) f,
)

-- Loops

only-half : (o : Origin) (left : Range) → loop_part o (lower_half left) ≡ first_half o left
only-half (Instance function args path) left = refl
only-half (Loop function rest first path range) left = refl

pub split-many : {K : Type 0} (b : TaskState K) (left upper : Left) (lower : Range) (child : Origin) → 2 ≤ left.range.hi - left.range.lo → lower ≡ lower_half left.range → upper.range ≡ upper_half left.range → child ≡ loop_part b.links.origin lower →
    meaning.step (task_of b (remaining.Splits left)) ≡ meaning.Stops (meaning.Spawn child (task_of (with_child b child destination.Half) (remaining.Splits upper)))
split-many b left upper lower child h l u c = by_size (left.range.hi - left.range.lo) refl h
  where
    same : child ≡ first_half b.links.origin left.range
    same = c ∙ ap (loop_part b.links.origin) l ∙ only-half b.links.origin left.range

    by_size : (n : ℕ) → left.range.hi - left.range.lo ≡ n → 2 ≤ n → split_step (task_of b (remaining.Splits left)) left.range n ≡ meaning.Stops (meaning.Spawn child (task_of (with_child b child destination.Half) (remaining.Splits upper)))
    by_size zero e g = absurd (omega arith)
    by_size (suc zero) e g = absurd (omega arith)
    by_size (suc (suc n)) e g =
        ap (λ (o : Origin). meaning.Stops (meaning.Spawn o (task_with (with_child b o destination.Half) (meaning.Splits (upper_half left.range))))) (sym same)
        ∙ ap (λ (r : Range). meaning.Stops (meaning.Spawn child (task_with (with_child b child destination.Half) (meaning.Splits r)))) (sym u)

pub split-none : {K : Type 0} (b : TaskState K) (left : Left) → left.range.hi - left.range.lo ≡ 0 → meaning.step (task_of b (remaining.Splits left)) ≡ ends (task_of b (remaining.Splits left)) (outcome.Values b.values)
split-none b left e = ap (split_step (task_of b (remaining.Splits left)) left.range) e

pub split-one : {K : Type 0} (b : TaskState K) (left : Left) (next : Remaining) → left.range.hi - left.range.lo ≡ 1 → remaining_of b.links.plan next ≡ begins_last b.links.plan b.links.origin →
    meaning.step (task_of b (remaining.Splits left)) ≡ meaning.Passes (task_of (gone b) next)
split-one b left next e begun =
    ap (split_step (task_of b (remaining.Splits left)) left.range) e
    ∙ ap (λ (w : meaning.Remaining). meaning.Passes (record (task_of b (remaining.Splits left)) { remaining = w; advanced = true })) (sym begun)

-- a part of a loop has the loop's path
only-path : (o : Origin) (part : Range) → path_of (loop_part o part) ≡ path_of o
only-path (Instance function args path) part = refl
only-path (Loop function rest first path range) part = refl

pub part-trail : (plan : PlanView) (o child : Origin) (part : Range) (trail shared : Trail) → child ≡ loop_part o part → shared ≡ trail → IsTrailOf plan o trail → IsTrailOf plan child shared
part-trail plan o child part trail shared c s h = record {
  fits = subst (FitsGamma plan.gamma) (sym s) h.fits;
  path = ap (λ (t : Trail). t.path) s ∙ h.path ∙ sym (ap path_of c ∙ only-path o part);
}

over-waits : (t : Task) (v : Value) (o : Origin) → is_long o ≡ true → over_step t v o ≡ waits t
over-waits t v (Instance function args path) h = absurd (true≢false (sym h))
over-waits t v (Loop function rest first path range) h = by_size (range.hi - range.lo) refl h
  where
    by_size : (n : ℕ) → range.hi - range.lo ≡ n → nat_lt 1 (range.hi - range.lo) ≡ true → over_step t v (Loop function rest first path range) ≡ waits t
    by_size zero g k = absurd (true≢false (sym (rw g at k)))
    by_size (suc zero) g k = absurd (true≢false (sym (rw g at k)))
    by_size (suc (suc n)) g k = rw g refl

long : (n : ℕ) → true ≡ nat_lt 1 (suc (suc n))
long n = grind (arith, nat_tests)

over-ends : (t : Task) (v : Value) (o : Origin) → is_long o ≡ false → over_step t v o ≡ ends t (outcome.Values (t.values ++ v ∷ []))
over-ends t v (Instance function args path) h = refl
over-ends t v (Loop function rest first path range) h = by_size (range.hi - range.lo) refl h
  where
    by_size : (n : ℕ) → range.hi - range.lo ≡ n → nat_lt 1 (range.hi - range.lo) ≡ false → over_step t v (Loop function rest first path range) ≡ ends t (outcome.Values (t.values ++ v ∷ []))
    by_size zero g k = rw g refl
    by_size (suc zero) g k = rw g refl
    by_size (suc (suc n)) g k = absurd (true≢false (long n ∙ rw g at k))

pub over-long : {K : Type 0} (b : TaskState K) (v : Value) (has_waited : Bool) → has_waited ≡ false → is_long b.links.origin ≡ true →
    meaning.step (task_of b (remaining.Finished v has_waited)) ≡ meaning.Stops (meaning.Wait (task_of (waiting b) (remaining.Finished v false)))
over-long b v true e h = absurd (true≢false e)
over-long b v false e h = over-waits (task_of b (remaining.Finished v false)) v b.links.origin h

pub over-short : {K : Type 0} (b : TaskState K) (v : Value) (has_waited : Bool) → has_waited ≡ false → is_long b.links.origin ≡ false →
    meaning.step (task_of b (remaining.Finished v has_waited)) ≡ ends (task_of b (remaining.Finished v has_waited)) (outcome.Values (b.values ++ v ∷ []))
over-short b v true e h = absurd (true≢false e)
over-short b v false e h = over-ends (task_of b (remaining.Finished v false)) v b.links.origin h

pub over-on : {K : Type 0} (b : TaskState K) (v : Value) (has_waited : Bool) → has_waited ≡ true → meaning.step (task_of b (remaining.Finished v has_waited)) ≡ ends (task_of b (remaining.Finished v has_waited)) (outcome.Values (b.values ++ v ∷ []))
over-on b v true e = refl
over-on b v false e = absurd (true≢false (sym e))

-- Instances

pub give-instance : {K : Type 0} (b : TaskState K) (v : Value) (function : ℕ) (args : List Value) (path : List ℕ) → b.links.origin ≡ Instance function args path →
    meaning.step (task_of b (remaining.Runs (stage.Returned v))) ≡ ends (task_of b (remaining.Runs (stage.Returned v))) (outcome.Value v)
give-instance b v function args path e = ap (λ (o : Origin). returned (task_of b (remaining.Runs (stage.Returned v))) o v) e

pub give-loop : {K : Type 0} (b : TaskState K) (v : Value) (function : ℕ) (rest : List Value) (first : ℤ) (path : List ℕ) (range : Range) → b.links.origin ≡ Loop function rest first path range →
    meaning.step (task_of b (remaining.Runs (stage.Returned v))) ≡ meaning.Passes (task_of (gone b) (remaining.Finished v false))
give-loop b v function rest first path range e = ap (λ (o : Origin). returned (task_of b (remaining.Runs (stage.Returned v))) o v) e

pub fault-alone : {K : Type 0} (b : TaskState K) (f : Fault) → b.trace.unmerged ≡ [] → meaning.step (task_of b (remaining.Runs (stage.Faulted f))) ≡ ends (task_of b (remaining.Runs (stage.Faulted f))) (outcome.Fault f)
fault-alone b f e = ap (λ (ps : List AwaitedChild). faults_after ps (task_of b (remaining.Runs (stage.Faulted f))) f) e

pub fault-after : {K : Type 0} (b : TaskState K) (f : Fault) → (b.trace.unmerged ≡ [] → ⊥) → meaning.step (task_of b (remaining.Runs (stage.Faulted f))) ≡ meaning.Stops (meaning.Wait (task_of (waiting b) (remaining.Runs (stage.Faulted f))))
fault-after b f h = from b.trace.unmerged h
  where
    from : (ps : List AwaitedChild) → (ps ≡ [] → ⊥) → faults_after ps (task_of b (remaining.Runs (stage.Faulted f))) f ≡ waits (task_of b (remaining.Runs (stage.Faulted f)))
    from [] g = absurd (g refl)
    from (p ∷ ps) g = refl

-- Moves

module _ {K : Type 0} (b : TaskState K) (i : RawInstance) where
  abbrev here : Task
  here = task_of b (remaining.Runs (stage.Running i))

  abbrev made : Run Effect Fault Reached → meaning.MoveOrStop
  made r = step_result here r.items r.ending

  pub go-moved : (next : RawInstance) (s : Effects) → RunsAt b.links.plan (path_of (own_instance b.links.origin)) i →
      move b.links.plan (moves.path_of i) (moves.machine_of b.links.plan i) ≡ run_of (move_result-in.Moved s) (moves.machine_of b.links.plan next) →
      meaning.step here ≡ stops_at (child_in (effects_of s)) (task_after_effects b next s)
  go-moved next s at e = ap (λ (p : List ℕ). made (move b.links.plan p (moves.machine_of b.links.plan i))) (sym at.at) ∙ ap made e

  pub go-returned : (next : RawInstance) (v : Value) → RunsAt b.links.plan (path_of (own_instance b.links.origin)) i →
      move b.links.plan (moves.path_of i) (moves.machine_of b.links.plan i) ≡ run_of (move_result-in.Returned v) (moves.machine_of b.links.plan next) →
      meaning.step here ≡ meaning.Passes (task_of (gone b) (remaining.Runs (stage.Returned v)))
  go-returned next v at e = ap (λ (p : List ℕ). made (move b.links.plan p (moves.machine_of b.links.plan i))) (sym at.at) ∙ ap made e

  pub go-faulted : (next : RawInstance) (f : Fault) → RunsAt b.links.plan (path_of (own_instance b.links.origin)) i →
      move b.links.plan (moves.path_of i) (moves.machine_of b.links.plan i) ≡ run_of (move_result-in.Faulted f) (moves.machine_of b.links.plan next) →
      meaning.step here ≡ meaning.Passes (task_of (gone b) (remaining.Runs (stage.Faulted f)))
  go-faulted next f at e = ap (λ (p : List ℕ). made (move b.links.plan p (moves.machine_of b.links.plan i))) (sym at.at) ∙ ap made e

  pub shown-sound : StepsAreSound → (next : RawInstance) (s : Effects) → IsSound b (remaining.Runs (stage.Running i)) →
      move b.links.plan (moves.path_of i) (moves.machine_of b.links.plan i) ≡ run_of (move_result-in.Moved s) (moves.machine_of b.links.plan next) →
      RunsAt b.links.plan (path_of (own_instance b.links.origin)) next → ShowsTrail b.links.plan s → HasSoundEffects b next s
  shown-sound law next s h moved-so runs trail =
      let e = go-moved next s h.of_plan moved-so in
      let known = from (child_in (effects_of s)) (sound-step law b (remaining.Runs (stage.Running i)) (stops_at (child_in (effects_of s)) (task_after_effects b next s)) h e) in
      record { task = known.0; child = known.1; links = h.links; runs = runs; trail = trail }
    where
      from : (o : Option Origin) → IsSoundStep here (stops_at o (task_after_effects b next s)) → IsTask (task_after_effects b next s) × IsKnownChild b.links.plan o
      from None g = (g, tt)
      from (Some o) g = (g.1, g.0)
