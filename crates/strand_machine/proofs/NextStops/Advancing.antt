-- How a task that was advanced comes to its next stop.
use Rattle.std.proofs.Common.{arith, ◌≡◌, ◌<◌, ℕ, zero, suc, ◌-◌, true, false, List, [], ◌∷◌, ◌++◌, Option, Some, None, Result, Ok, Err, refl, sym, ap, ◌∙◌, subst}
use Rattle.std.proofs.Common.{Bool}
use Rattle.std.proofs.lemmas.Bool.{true≢false}
use Rattle.loop_range.specs.Range.{Range}
use Rattle.serial_meaning.specs.Answer.{AnswerTag, AnswerView, IsAnswer}
use Rattle.serial_meaning.specs.Eval.{path_of}
use Rattle.serial_meaning.specs.declared.event.Event.{Event}
use Rattle.serial_meaning.specs.Open.{Own, ChildFaulted}
use Rattle.serial_meaning.specs.Plan.{PlanView}
use Rattle.serial_meaning.specs.declared.value.Value.{Value}
use Rattle.serial_meaning.specs.declared.event.Fault.{Fault}
use Rattle.serial_meaning.specs.declared.origin.Origin.{Origin}
use Rattle.serial_meaning.specs.declared.origin.Origin.TheVariants.{Instance, Loop}
use Rattle.serial_meaning.specs.declared.answer.Outcome.{Outcome}
use Rattle.strand_meaning.specs.Laws.{IsSameTask, IsSoundStop, MovesFall, StopsAreSound}
use Rattle.strand_meaning.specs.Left.{moves_left}
use Rattle.strand_meaning.specs.Machine.{Effect, Reached, Stands, Gives, move}
use Rattle.strand_meaning.specs.Trace.{AwaitedChild}
use Rattle.strand_meaning.specs.Sound.{IsTask}
use Rattle.strand_meaning.specs.Task as meaning
use Rattle.strand_meaning.specs.Task.{Task, Stop, IsNext, Now, Later, own_instance, stage_after, child_in, stops_at, passing, step_result, ends_unless, faults_after, returned, stage_step, split_step, over_step, remaining_step}
use Rattle.strand_machine.specs.Links.{AreJoinNames, GiveView, JoinNames, task_give}
use Rattle.strand_machine.specs.Made.{IsRun, LeadsTo, StepsOn, stage_goes_on, remaining_goes_on}
use Rattle.strand_machine.specs.Stops.{IsStep, IsStop, IsKnownStop, Advances, KeepsLinks, stop_of}
use Rattle.strand_machine.proofs.NextStops.ByCut.{advances-so}
use Rattle.strand_machine.specs.Tasks.{TaskView, HoldsOfTask, HasOutcome, IsSound, fresh, has_outcome, cut_of, view_of}
use Rattle.strand_machine.specs.declared.task_state.TaskState.{TaskState}
use Rattle.strand_machine.specs.declared.remaining.Remaining.{Remaining}
use Rattle.strand_machine.specs.declared.remaining.Remaining.TheVariants as remaining
use Rattle.strand_machine.specs.MoveOrStop.{MoveOrStop as MadeStep}
use Rattle.strand_machine.specs.MoveOrStop as step-in
use Rattle.strand_machine.specs.declared.stop.Stop.{Stop as MadeStop}
use Rattle.strand_machine.specs.declared.stop.Stop.TheVariants as stop-in

-- A pass keeps the plan and the origin

abbrev KeepsOf : Task → meaning.MoveOrStop → Type 0
KeepsOf t (meaning.Passes next) = IsSameTask t next
KeepsOf t (meaning.Stops stop) = Unit {0}

module _ (t : Task) where
  of-ends : (f : Option Fault) (ended : Outcome) → KeepsOf t (ends_unless f t ended)
  of-ends None ended = tt
  of-ends (Some f) ended = tt

  of-at : (o : Option Origin) (next : Task) → IsSameTask t next → KeepsOf t (stops_at o next)
  of-at None next h = h
  of-at (Some o) next h = tt

  of-result : (ts : List Effect) (e : Result Reached Fault) → KeepsOf t (step_result t ts e)
  of-result ts (Ok (Stands m)) = of-at (child_in ts) (passing t ts (meaning.Runs (stage_after ts m))) (refl, refl)
  of-result ts (Ok (Gives v)) = (refl, refl)
  of-result ts (Err f) = (refl, refl)

  of-faults : (ps : List AwaitedChild) (f : Fault) → KeepsOf t (faults_after ps t f)
  of-faults [] f = of-ends t.trace.fault _
  of-faults (p ∷ ps) f = tt

  of-returned : (o : Origin) (v : Value) → KeepsOf t (returned t o v)
  of-returned (Instance function args path) v = of-ends t.trace.fault _
  of-returned (Loop function rest first path range) v = (refl, refl)

  of-stage : (stage : meaning.Stage) → KeepsOf t (stage_step t stage)
  of-stage (meaning.Running m) = let r = move t.plan (path_of (own_instance t.origin)) m in of-result r.items r.ending
  of-stage (meaning.AtSync m) = tt
  of-stage (meaning.AtLoop m) = tt
  of-stage (meaning.Ended (Ok v)) = of-returned t.origin v
  of-stage (meaning.Ended (Err (Own f))) = of-faults t.trace.unmerged f
  of-stage (meaning.Ended (Err (ChildFaulted f))) = of-ends t.trace.fault _

  of-split : (left : Range) (n : ℕ) → KeepsOf t (split_step t left n)
  of-split left zero = of-ends t.trace.fault _
  of-split left (suc zero) = (refl, refl)
  of-split left (suc (suc n)) = tt

  of-over : (v : Value) (o : Origin) → KeepsOf t (over_step t v o)
  of-over v (Instance function args path) = of-ends t.trace.fault _
  of-over v (Loop function rest first path range) = by_size (range.hi - range.lo) refl
    where
      by_size : (n : ℕ) → range.hi - range.lo ≡ n → KeepsOf t (over_step t v (Loop function rest first path range))
      by_size zero g = rw g (of-ends t.trace.fault _)
      by_size (suc zero) g = rw g (of-ends t.trace.fault _)
      by_size (suc (suc n)) g = rw g tt

  of-remaining : (remaining : meaning.Remaining) → KeepsOf t (remaining_step t remaining)
  of-remaining (meaning.Splits left) = of-split left (left.hi - left.lo)
  of-remaining (meaning.Runs stage) = of-stage stage
  of-remaining (meaning.Finished v true) = of-ends t.trace.fault _
  of-remaining (meaning.Finished v false) = of-over v t.origin

pass-of : (t next : Task) → meaning.step t ≡ meaning.Passes next → IsSameTask t next
pass-of t next e = subst (KeepsOf t) e (of-remaining t t.remaining)

-- Moves in a row

pub leads-start : (t : TaskView) → t.cut ≡ None → LeadsTo t t
leads-start t goes = record { next = λ stop n. n; fewer = omega arith; plan = refl; origin = refl; children = refl; loads = refl; joins = refl; cut = goes }

pub leads-over : (first now next : TaskView) → LeadsTo first now → LeadsTo now next → LeadsTo first next
leads-over first now next h g = record {
  next = λ stop n. h.next stop (g.next stop n);
  fewer = omega (arith, h.fewer, g.fewer);
  plan = g.plan ∙ h.plan;
  origin = g.origin ∙ h.origin;
  children = g.children ∙ h.children;
  loads = g.loads ∙ h.loads;
  joins = g.joins ∙ h.joins;
  cut = g.cut;
}

pub falls : {K : Type 0} → MovesFall → (now next : TaskView) (s : MadeStep K) → IsStep now s → s ≡ step-in.Passes next → moves_left next.task < moves_left now.task
falls {K} law now next s g e =
    let k : IsStep {K = K} now (step-in.Passes next) = subst (IsStep now) e g in
    law now.task next.task k.is

pub leads-on : {K : Type 0} → MovesFall → (first now next : TaskView) (s : MadeStep K) → LeadsTo first now → IsStep now s → s ≡ step-in.Passes next → LeadsTo first next
leads-on {K} law first now next s h g e =
    let k : IsStep {K = K} now (step-in.Passes next) = subst (IsStep now) e g in
    let of = pass-of now.task next.task k.is in
    let fall : moves_left next.task < moves_left now.task = law now.task next.task k.is in
    record {
      next = λ stop n. h.next stop (Later next.task k.is n);
      fewer = omega (arith, fall, h.fewer);
      plan = of.0 ∙ h.plan;
      origin = of.1 ∙ h.origin;
      children = k.keeps.0 ∙ h.children;
      loads = k.keeps.1 ∙ h.loads;
      joins = k.keeps.3 ∙ h.joins;
      cut = k.keeps.2;
    }

keeps-first : {K : Type 0} (first now : TaskView) (stop : MadeStop K) → LeadsTo first now → KeepsLinks now stop → KeepsLinks first stop
keeps-first first now (stop-in.Spawn child rest) h k = (
  k.0 ∙ ap (λ (p : PlanView). fresh p child.task.origin child.joins) h.plan,
  k.1 ∙ ap (λ (l : List Origin). l ++ child.task.origin ∷ []) h.children,
  k.2 ∙ h.loads,
  k.3,
  k.4 ∙ h.joins,
  subst (λ (l : JoinNames). AreJoinNames l.own child.joins) h.joins k.5,
)
keeps-first first now (stop-in.Wait rest) h k = (k.0 ∙ h.children, k.1 ∙ h.loads, k.2, k.3 ∙ h.joins)
keeps-first first now (stop-in.Done answer give) h k = (
  k.0 ∙ h.plan,
  k.1 ∙ h.origin,
  k.2 ∙ ap (λ (p : PlanView). task_give p now.task.origin now.joins) h.plan ∙ ap (λ (o : Origin). task_give first.task.plan o now.joins) h.origin
      ∙ ap (task_give first.task.plan first.task.origin) h.joins,
)

known-of : {K : Type 0} (t : TaskView) (stop : MadeStop K) → IsSoundStop t.task (stop_of stop) → IsKnownStop t stop
known-of t (stop-in.Spawn child rest) h = h.0
known-of t (stop-in.Wait rest) h = tt
known-of t (stop-in.Done answer give) h = h.1

pub stops-there : {K : Type 0} → StopsAreSound → (first now : TaskView) (s : MadeStep K) (stop : MadeStop K) → IsTask first.task → LeadsTo first now → IsStep now s → s ≡ step-in.Stops stop → IsStop first stop
stops-there law first now s stop sound h g e =
    let k : IsStep now (step-in.Stops stop) = subst (IsStep now) e g in
    let n : IsNext first.task (stop_of stop) = h.next (stop_of stop) (Now k.is) in
    record { next = n; keeps = keeps-first first now stop h k.keeps; known = known-of first stop (law first.task (stop_of stop) sound n) }

-- What a call that makes moves in a row leads to

pub one-step : {K : Type 0} (now : TaskView) (s : MadeStep K) → now.cut ≡ None → IsStep now s → IsRun now s
one-step now s goes g = record { before = now; leads = leads-start now goes; step = g }

pub runs : {K : Type 0} (now : TaskView) (s : MadeStep K) → now.cut ≡ None → StepsOn now s → IsRun now s
runs now s goes g = by_remaining now.task.remaining g
  where
    by_stage : (stage : meaning.Stage) → stage_goes_on stage now s → IsRun now s
    by_stage (meaning.Running m) h = h
    by_stage (meaning.AtSync m) h = one-step now s goes h
    by_stage (meaning.AtLoop m) h = one-step now s goes h
    by_stage (meaning.Ended e) h = one-step now s goes h

    by_remaining : (remaining : meaning.Remaining) → remaining_goes_on remaining now s → IsRun now s
    by_remaining (meaning.Splits left) h = one-step now s goes h
    by_remaining (meaning.Runs stage) h = by_stage stage h
    by_remaining (meaning.Finished v has_waited) h = one-step now s goes h

pub run-leads : {K : Type 0} → MovesFall → (first now next : TaskView) (s : MadeStep K) → LeadsTo first now → IsRun now s → s ≡ step-in.Passes next → LeadsTo first next
run-leads law first now next s h r e = leads-on law first r.before next s (leads-over first now r.before h r.leads) r.step e

pub run-falls : {K : Type 0} → MovesFall → (now next : TaskView) (s : MadeStep K) → IsRun now s → s ≡ step-in.Passes next → moves_left next.task < moves_left now.task
run-falls law now next s r e =
    let last : moves_left next.task < moves_left r.before.task = falls law r.before next s r.step e in
    omega (arith, last, r.leads.fewer)

pub run-stops : {K : Type 0} → StopsAreSound → (first now : TaskView) (s : MadeStep K) (stop : MadeStop K) → IsTask first.task → LeadsTo first now → IsRun now s → s ≡ step-in.Stops stop → IsStop first stop
run-stops law first now s stop sound h r e = stops-there law first r.before s stop sound (leads-over first now r.before h r.leads) r.step e

-- what holds of a task by its type, where it took no cut
pub holds-sound : {K : Type 0} (b : TaskState K) (w : Remaining) → cut_of w ≡ None → HoldsOfTask b w → IsSound b w
holds-sound b (remaining.Splits left) e h = h
holds-sound b (remaining.Runs s) e h = h
holds-sound b (remaining.Finished v has_waited) e h = h
holds-sound b (remaining.Ends ended) e h = absurd (cc)

pub sound_holds : {K : Type 0} (b : TaskState K) (w : Remaining) → IsSound b w → HoldsOfTask b w
sound_holds b (remaining.Splits left) h = h
sound_holds b (remaining.Runs s) h = h
sound_holds b (remaining.Finished v has_waited) h = h
sound_holds b (remaining.Ends ended) h = absurd h.of_plan

pub is-sound : {K : Type 0} (b : TaskState K) (w : Remaining) (t : TaskView) → view_of b w ≡ t → t.cut ≡ None → HoldsOfTask b w → IsSound b w
is-sound b w t view goes h = holds-sound b w (ap (λ (v : TaskView). v.cut) view ∙ goes) h

pub is-task : {K : Type 0} (b : TaskState K) (w : Remaining) (t : TaskView) → view_of b w ≡ t → t.cut ≡ None → HoldsOfTask b w → IsTask t.task
is-task b w t view goes h = subst (λ (v : TaskView). IsTask v.task) view (is-sound b w t view goes h).task

-- a task that waits took none
pub waits-sound : {K : Type 0} (b : TaskState K) (w : Remaining) (t : TaskView) → view_of b w ≡ t → t.task.waiting ≡ true → HoldsOfTask b w → IsSound b w
waits-sound b (remaining.Splits left) t view waits h = h
waits-sound b (remaining.Runs s) t view waits h = h
waits-sound b (remaining.Finished v has_waited) t view waits h = h
waits-sound b (remaining.Ends ended) t view waits h = absurd (true≢false (sym waits ∙ ap (λ (v : TaskView). v.task.waiting) (sym view) ∙ h.waits))

-- one that took none, and one that did
not-cut : (o : Option Outcome) → has_outcome o ≡ false → o ≡ None
not-cut None e = refl
not-cut (Some ended) e = absurd (true≢false e)

pub goes-on-uncut : (o : Option Outcome) (r : Bool) → r ≡ has_outcome o → r ≡ false → o ≡ None
goes-on-uncut o r e f = not-cut o (sym e ∙ f)

pub advances-uncut : {K : Type 0} (t : TaskView) (stop : MadeStop K) → t.cut ≡ None → IsStop t stop → Advances t stop
advances-uncut t stop e h = advances-so t stop None e h

-- one that took a cut ends so

pub is-short : {K : Type 0} (b : TaskState K) (w : Remaining) (t : TaskView) → view_of b w ≡ t → has_outcome t.cut ≡ true → ((o : Outcome) → w ≡ remaining.Ends o → ⊥) → ⊥
is-short b w t view short other = by_remaining w (ap (λ (v : TaskView). has_outcome v.cut) view ∙ short) other
  where
    by_remaining : (x : Remaining) → has_outcome (cut_of x) ≡ true → ((o : Outcome) → x ≡ remaining.Ends o → ⊥) → ⊥
    by_remaining (remaining.Splits left) e h = true≢false (sym e)
    by_remaining (remaining.Runs s) e h = true≢false (sym e)
    by_remaining (remaining.Finished v has_waited) e h = true≢false (sym e)
    by_remaining (remaining.Ends o) e h = h o refl

holds-outcome : {K : Type 0} (b : TaskState K) (w : Remaining) (o : Outcome) → w ≡ remaining.Ends o → HoldsOfTask b w → HasOutcome b o
holds-outcome b w o is h = subst (HoldsOfTask b) is h

pub outcome-answers : {K : Type 0} (b : TaskState K) (w : Remaining) (o : Outcome) (prefix : List Event) → w ≡ remaining.Ends o → prefix ≡ b.trace.prefix → HoldsOfTask b w → IsAnswer b.links.plan b.links.origin prefix o
outcome-answers b w o prefix is same h = subst (λ (es : List Event). IsAnswer b.links.plan b.links.origin es o) (sym same) (holds-outcome b w o is h).answers

pub short-ends : {K : Type 0} (b : TaskState K) (w : Remaining) (o : Outcome) (t : TaskView) → view_of b w ≡ t → w ≡ remaining.Ends o → HoldsOfTask b w → (prefix : List Event) (answer : AnswerView) (give : GiveView AnswerTag) → prefix ≡ b.trace.prefix →
    answer ≡ record { plan = b.links.plan; origin = b.links.origin; out = prefix; outcome = o } → give ≡ task_give b.links.plan b.links.origin b.links.joins → Advances {K = K} t (stop-in.Done answer give)
short-ends {K} b w o t view is h prefix answer give same e g = subst (λ (v : TaskView). Advances {K = K} v (stop-in.Done answer give)) view (subst (λ (x : Remaining). Advances {K = K} (view_of b x) (stop-in.Done answer give)) (sym is) (advances-so (view_of b (remaining.Ends o)) (stop-in.Done answer give) (Some o) refl (record {
  is = ap (λ (a : AnswerView). stop-in.Done a give) (e ∙ ap (λ (es : List Event). record { plan = b.links.plan; origin = b.links.origin; out = es; outcome = o }) same)
      ∙ ap (λ (y : GiveView AnswerTag). stop-in.Done (record { plan = b.links.plan; origin = b.links.origin; out = b.trace.prefix; outcome = o }) y) g;
  known = (holds-outcome b w o is h).known;
})))
