-- A task in whose trace a child's answer is a fault.
use Rattle.std.proofs.lemmas.Bool.{true≢false}
use Rattle.std.proofs.Common.{◌≡◌, Bool, true, false, ◌||◌, List, [], ◌∷◌, ◌++◌, Option, Some, None, Result, Ok, Err, refl, sym, ap, ◌∙◌, subst}
use Rattle.serial_meaning.specs.Answer.{AnswerView, AnswerTag, IsAnswer, IsEval, outcome_of}
use Rattle.serial_meaning.specs.Eval.{Evaluation, eval}
use Rattle.serial_meaning.specs.Laws.{EndsWithin}
use Rattle.serial_meaning.specs.Open.{faults}
use Rattle.serial_meaning.specs.Plan.{PlanView}
use Rattle.serial_meaning.specs.Runs.{◌then◌}
use Rattle.serial_meaning.proofs.OriginFaults.Origins.{origins_end_within_faults}
use Rattle.serial_meaning.specs.declared.value.Value.{Value}
use Rattle.serial_meaning.specs.declared.event.Event.{Event}
use Rattle.serial_meaning.specs.declared.event.Fault.{Fault}
use Rattle.serial_meaning.specs.declared.origin.Origin.{Origin}
use Rattle.serial_meaning.specs.declared.origin.Origin.TheVariants.{Instance, Loop}
use Rattle.serial_meaning.specs.declared.answer.Outcome.{Outcome}
use Rattle.serial_meaning.specs.declared.answer.Outcome.TheVariants as outcome
use Rattle.strand_meaning.specs.Laws.{IsFaultOf}
use Rattle.strand_meaning.specs.Trace.{AwaitedChild, Trace, merged_answer_unless, merged_answer, merged_answers}
use Rattle.strand_meaning.specs.Rest.{evaluations, prefix_run, awaited_run, remaining_run}
use Rattle.strand_meaning.specs.Sound.{IsTask}
use Rattle.strand_meaning.specs.Task.{Task}
use Rattle.strand_machine.specs.Links.{GiveView, task_give, tag, tags}
use Rattle.strand_machine.specs.Faults.{is_fault, EndsByFault}
use Rattle.strand_machine.specs.AwaitedChildren.{awaited}
use Rattle.strand_machine.specs.Stops.{IsResumedWith, answer_tags, any_cut, is_cut, resumed_view}
use Rattle.strand_machine.specs.Tasks.{TaskView, task_of, view_of, IsSound}
use Rattle.strand_machine.specs.declared.task_state.TaskState.{TaskState}
use Rattle.strand_machine.specs.declared.remaining.Remaining.{Remaining}
use Rattle.strand_machine.proofs.TakenAnswers.Answering.{answer-tags-more}

-- The fault is there

abbrev pub IsErr : Result (List Value) Fault → Type 0
IsErr (Ok vs) = ⊥
IsErr (Err f) = Unit {0}

-- an answer that is a fault is of an origin whose evaluation ends by one
err-of : (o : Origin) (r : Result (List Value) Fault) (ended : Outcome) → ended ≡ outcome_of o r → is_fault ended ≡ true → IsErr r
err-of (Instance function args path) (Ok vs) ended e h = absurd (cc)
err-of (Loop function rest first path range) (Ok vs) ended e h = absurd (cc)
err-of o (Err f) ended e h = tt

pub answers-err : (plan : PlanView) (o : Origin) (out : List Event) (ended : Outcome) → IsAnswer plan o out ended → is_fault ended ≡ true → IsErr (eval plan o).ending
answers-err plan o out (outcome.Fault f) is h = err-of o (eval plan o).ending (outcome.Fault f) is.ends refl
answers-err plan o out (outcome.Value v) is h = absurd (cc)
answers-err plan o out (outcome.Values vs) is h = absurd (cc)
answers-err plan o out (outcome.Cut f) is h = absurd (cc)

merging-err : (f : Option Fault) (prefix : List Event) (p : AwaitedChild) (events : List Event) (ending : Result (List Value) Fault) → IsErr ending → (merged_answer_unless f prefix p events ending).fault ≡ None → ⊥
merging-err (Some g) prefix p events ending is h = absurd (cc)
merging-err None prefix p events (Ok vs) is h = is
merging-err None prefix p events (Err g) is h = absurd (cc)

-- where the last of the children ends by a fault, there is one in the trace once they are heard
pub last-err : (plan : PlanView) (ps : List AwaitedChild) (ts : List AnswerTag) (t : AnswerTag) → ts ++ t ∷ [] ≡ tags plan (awaited ps) → IsErr (eval t.plan t.origin).ending →
    (trace : Trace) → (merged_answers ps (evaluations (eval plan) ps) trace).fault ≡ None → ⊥
last-err plan [] [] t e is trace h = absurd (cc)
last-err plan [] (x ∷ ts) t e is trace h = absurd (cc)
last-err plan (p ∷ []) [] t e is trace h =
    let same : t ≡ tag plan p.child = cc in
    merging-err trace.fault trace.prefix p (eval plan p.child).items (eval plan p.child).ending (subst (λ (s : AnswerTag). IsErr (eval s.plan s.origin).ending) same is) h
last-err plan (p ∷ q ∷ ps) [] t e is trace h = absurd (cc)
last-err plan (p ∷ ps) (x ∷ ts) t e is trace h = last-err plan ps ts t (cc) is (merged_answer p (eval plan p.child) trace) h

-- The end by it

err-outcome : (o : Origin) (f : Fault) → outcome_of o (Err f) ≡ outcome.Fault f
err-outcome (Instance function args path) f = refl
err-outcome (Loop function rest first path range) f = refl

-- a task with a fault in its trace is its origin's evaluation up to there
faulted-same : (t : Task) → IsTask t → (f : Fault) → t.trace.fault ≡ Some f → ◌≡◌ {A = Evaluation} (record { items = t.trace.prefix; ending = Err f }) (eval t.plan t.origin)
faulted-same t is f h = ap run (sym h) ∙ is.finishes
  where
    run : Option Fault → Evaluation
    run g = prefix_run (record t.trace { fault = g }) then λ u. awaited_run (eval t.plan) t.trace.unmerged t.values then remaining_run t.plan t.origin t.trace.unmerged t.remaining

pub faulted-answer : (t : Task) → IsTask t → (f : Fault) → t.trace.fault ≡ Some f → IsEval t.plan t.origin t.trace.prefix (outcome.Fault f)
faulted-answer t is f h =
    let same = faulted-same t is f h in
    record { events = ap (λ (q : Evaluation). q.items) same; ends = sym (err-outcome t.origin f) ∙ ap (λ (q : Evaluation). outcome_of t.origin q.ending) same }

pub faulted-known : (t : Task) → IsTask t → (f : Fault) → t.trace.fault ≡ Some f → IsFaultOf t.plan (outcome.Fault f)
faulted-known t is f h = subst (λ (q : Evaluation). EndsWithin (faults t.plan) q.ending) (sym (faulted-same t is f h)) (origins_end_within_faults t.plan t.origin is.known)

pub answers-by : {K : Type 0} (b : TaskState K) (w : Remaining) (prefix : List Event) (f : Fault) → IsSound b w → prefix ≡ b.trace.prefix → b.trace.fault ≡ Some f → IsEval b.links.plan b.links.origin prefix (outcome.Fault f)
answers-by b w prefix f sound same h = subst (λ (es : List Event). IsEval b.links.plan b.links.origin es (outcome.Fault f)) (sym same) (faulted-answer (task_of b w) sound.task f h)

-- The call

pub tags-with : (xs ys given : List AnswerView) (a : AnswerView) (ts : List AnswerTag) → ys ≡ xs ++ a ∷ [] → xs ≡ given → answer_tags given ++ tag a.plan a.origin ∷ [] ≡ ts → answer_tags ys ≡ ts
tags-with xs ys given a ts e h k = ap answer_tags e ∙ answer-tags-more xs a ∙ ap (λ (l : List AnswerView). answer_tags l ++ tag a.plan a.origin ∷ []) h ∙ k

pub view-err : (plan : PlanView) (o : Origin) (out : List Event) (ended : Outcome) (a : AnswerView) → ◌≡◌ {A = AnswerView} (record { plan = plan; origin = o; out = out; outcome = ended }) a →
    IsAnswer plan o out ended → is_fault a.outcome ≡ true → IsErr (eval a.plan a.origin).ending
view-err plan o out ended a view is h =
    let P : AnswerView → Type 0 = λ b. is_fault b.outcome ≡ true → IsErr (eval b.plan b.origin).ending in subst P view (answers-err plan o out ended is) h

fault-whole : (o : Outcome) → is_fault o ≡ true → (is_cut o || false) ≡ false
fault-whole (outcome.Value v) h = refl
fault-whole (outcome.Values vs) h = refl
fault-whole (outcome.Fault f) h = refl
fault-whole (outcome.Cut f) h = absurd (true≢false (sym h))

or-both : (a b c : Bool) → (b ≡ false → c ≡ false) → (a || b) ≡ false → (a || c) ≡ false
or-both true b c f h = absurd (true≢false h)
or-both false b c f h = f h

-- none of these is a cut either, where the last is a fault
whole-more : (xs : List AnswerView) (a : AnswerView) → is_fault a.outcome ≡ true → any_cut xs ≡ false → any_cut (xs ++ a ∷ []) ≡ false
whole-more [] a f h = fault-whole a.outcome f
whole-more (x ∷ xs) a f h = or-both (is_cut x.outcome) (any_cut xs) (any_cut (xs ++ a ∷ [])) (whole-more xs a f) h

pub goes-whole : (xs ys given : List AnswerView) (a : AnswerView) (t next : TaskView) → ys ≡ xs ++ a ∷ [] → xs ≡ given → any_cut given ≡ false → is_fault a.outcome ≡ true → IsResumedWith ys t next → next ≡ resumed_view t
goes-whole xs ys given a t next e same whole f on =
    let none : any_cut ys ≡ false = ap any_cut e ∙ whole-more xs a f (ap any_cut same ∙ whole) in on.whole none

-- once its children's answers are taken, of which the last is a fault, there is one in a task's trace
pub not-none : (v begun after : TaskView) (ts : List AnswerTag) (t : AnswerTag) → begun ≡ v → after ≡ resumed_view begun → ts ++ t ∷ [] ≡ tags v.task.plan (awaited v.task.trace.unmerged) →
    IsErr (eval t.plan t.origin).ending → after.task.trace.fault ≡ None → ⊥
not-none v begun after ts t same on tagged err none =
    let is : after ≡ resumed_view v = on ∙ ap resumed_view same in
    last-err v.task.plan v.task.trace.unmerged ts t tagged err (record v.task.trace { unmerged = [] }) (ap (λ (w : TaskView). w.task.trace.fault) (sym is) ∙ none)

-- the answer of the task after them is the task's own
pub ends-by : {K : Type 0} (b : TaskState K) (w : Remaining) (v begun after : TaskView) → begun ≡ v → after ≡ resumed_view begun → view_of b w ≡ after → IsSound b w → (f : Fault) → b.trace.fault ≡ Some f →
    (out : List Event) (answer : AnswerView) (by : GiveView AnswerTag) → answer ≡ record { plan = b.links.plan; origin = b.links.origin; out = out; outcome = outcome.Fault f } → by ≡ task_give b.links.plan b.links.origin b.links.joins →
    EndsByFault v answer by
ends-by b w v begun after same on view sound f h out answer by e g =
    let is : view_of b w ≡ resumed_view v = view ∙ on ∙ ap resumed_view same in
    let plan : b.links.plan ≡ v.task.plan = ap (λ (x : TaskView). x.task.plan) is in
    let origin : b.links.origin ≡ v.task.origin = ap (λ (x : TaskView). x.task.origin) is in
    record {
      plan = ap (λ (a : AnswerView). a.plan) e ∙ plan;
      origin = ap (λ (a : AnswerView). a.origin) e ∙ origin;
      give = g ∙ ap (λ (p : PlanView). task_give p b.links.origin b.links.joins) plan ∙ ap (λ (o : Origin). task_give v.task.plan o b.links.joins) origin
          ∙ ap (λ (x : TaskView). task_give v.task.plan v.task.origin x.joins) is;
      fault = ap (λ (a : AnswerView). is_fault a.outcome) e;
      known = subst (IsFaultOf v.task.plan) (sym (ap (λ (a : AnswerView). a.outcome) e)) (subst (λ (p : PlanView). IsFaultOf p (outcome.Fault f)) plan (faulted-known (task_of b w) sound.task f h));
    }
