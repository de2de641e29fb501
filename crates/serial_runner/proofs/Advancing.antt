-- A stop of the topmost task leaves a sound stack.
use Rattle.std.proofs.Common.{◌≡◌, Bool, true, false, ◌||◌, List, [], ◌∷◌, ◌++◌, Option, Some, None, Result, Ok, Err, IfOk, append-nil, refl, sym, ap, ◌∙◌, subst}
use Rattle.std.proofs.lemmas.Bool.{true≢false}
use Rattle.serial_meaning.specs.Answer.{AnswerView, AnswerTag}
use Rattle.serial_meaning.specs.Eval.{Evaluation, eval}
use Rattle.serial_meaning.specs.Plan.{PlanView}
use Rattle.serial_meaning.specs.declared.value.Value.{Value}
use Rattle.serial_meaning.specs.declared.event.Event.{Event}
use Rattle.serial_meaning.specs.declared.event.Fault.{Fault}
use Rattle.serial_meaning.specs.declared.origin.Origin.{Origin}
use Rattle.serial_meaning.specs.declared.answer.Outcome.{Outcome}
use Rattle.serial_meaning.specs.declared.answer.Outcome.TheVariants as outcome
use Rattle.strand_meaning.specs.Laws.{IsFaultOf, IsSameTask, IsSoundStop, KeepsOrigin, LeavesFewer}
use Rattle.strand_meaning.specs.Trace.{AwaitedChild, Trace, merged_answer_unless, merged_answer, merged_answers}
use Rattle.strand_meaning.specs.Rest.{evaluations}
use Rattle.strand_meaning.specs.Sound.{IsTask}
use Rattle.strand_meaning.specs.Task.{Task, start, Stop, Spawn, Wait, End}
use Rattle.strand_meaning.proofs.SoundSteps.StepsKeepTasks.{tasks_begin}
use Rattle.strand_meaning.proofs.NextStops.StopsLeaveFewer.{stops_fall}
use Rattle.strand_meaning.proofs.TakenAnswers.AnswersKeepTasks.{answers_keep_tasks}
use Rattle.strand_meaning.proofs.NextStops.OneSoundStop.{stops_are_sound, stops_keep_origins}
use Rattle.strand_machine.specs.Links.{GiveView, JoinNames, tag, tags}
use Rattle.strand_machine.specs.Faults.{is_fault, EndsByFault}
use Rattle.strand_machine.specs.AwaitedChildren.{awaited}
use Rattle.strand_machine.specs.Stops.{IsStop, IsResumedWith, answer_tags, any_cut, is_cut, with_evaluations, resumed_view}
use Rattle.strand_machine.specs.Tasks.{TaskView, fresh}
use Rattle.strand_machine.specs.declared.stop.Stop.TheVariants as stop
use Rattle.serial_runner.specs.Stacks.{task_of, IsOpenTask, AreBelow, IsStack, lowest_of, tasks, IsAnswerOf, task_of_answer, stack_with_answer, StepsStack, AnswersLowest, AdvancesTo}
use Rattle.serial_runner.specs.declared.open_tasks.OpenTask.{OpenTask}
use Rattle.serial_runner.specs.declared.stack.Stack.{Stack}
use Rattle.serial_runner.specs.declared.stack.Advanced.{Advanced}
use Rattle.serial_runner.specs.declared.stack.Advanced.TheVariants.{Continues, Ends}
use Rattle.strand_machine.specs.declared.memory.Memory.{Memory}
use Rattle.serial_runner.proofs.Starts.{unmerged, StartsBeforeStop, stops_start}

-- Tags

tags-append : (plan : PlanView) (os more : List Origin) → tags plan (os ++ more) ≡ tags plan os ++ tags plan more
tags-append plan [] more = refl
tags-append plan (o ∷ os) more = ap (λ l. tag plan o ∷ l) (tags-append plan os more)

pub answer-tags-append : (first more : List AnswerView) → answer_tags (first ++ more) ≡ answer_tags first ++ answer_tags more
answer-tags-append [] more = refl
answer-tags-append (a ∷ first) more = ap (λ l. tag a.plan a.origin ∷ l) (answer-tags-append first more)

-- No answer is a cut

pub uncut : (plan : PlanView) (ended : Outcome) → IsFaultOf plan ended → is_cut ended ≡ false
uncut plan (outcome.Value v) h = refl
uncut plan (outcome.Values vs) h = refl
uncut plan (outcome.Fault f) h = refl
uncut plan (outcome.Cut f) h = absurd h

or-first : (a b : Bool) → (a || b) ≡ false → a ≡ false
or-first true b h = h
or-first false b h = refl

or-second : (a b : Bool) → (a || b) ≡ false → b ≡ false
or-second true b h = absurd (true≢false h)
or-second false b h = h

neither : (a b : Bool) → a ≡ false → b ≡ false → (a || b) ≡ false
neither a b g h = ap (λ c. c || b) g ∙ h

pub more-uncut : (answers : List AnswerView) (a : AnswerView) → any_cut answers ≡ false → is_cut a.outcome ≡ false → any_cut (answers ++ a ∷ []) ≡ false
more-uncut [] a whole h = ap (λ (b : Bool). b || false) h
more-uncut (x ∷ answers) a whole h =
    let cut = is_cut x.outcome in
    neither cut (any_cut (answers ++ a ∷ [])) (or-first cut (any_cut answers) whole) (more-uncut answers a (or-second cut (any_cut answers) whole) h)

-- By answers of which none is a cut it goes on.
pub resumed_whole : (answers : List AnswerView) (t next : TaskView) → any_cut answers ≡ false → IsResumedWith answers t next → next ≡ resumed_view t
resumed_whole answers t next whole h = h.whole whole

-- Children that a wait is over with aren't awaited

heard-none : (f : Option Fault) (prefix : List Event) (p : AwaitedChild) (events : List Event) (ending : Result (List Value) Fault) → (merged_answer_unless f prefix p events ending).unmerged ≡ []
heard-none (Some f) prefix p events ending = refl
heard-none None prefix p events (Ok vs) = refl
heard-none None prefix p events (Err f) = refl

pub none-heard : (ps : List AwaitedChild) (answers : List Evaluation) (trace : Trace) → trace.unmerged ≡ [] → (merged_answers ps answers trace).unmerged ≡ []
none-heard [] answers trace h = h
none-heard (p ∷ ps) [] trace h = h
none-heard (p ∷ ps) (a ∷ answers) trace h = none-heard ps answers (merged_answer p a trace) (heard-none trace.fault trace.prefix p a.items a.ending)

-- Stacks

-- only the plan and the origin of the task above count
pub below-same : {K : Type 0} (t u : Task) (fs : List (OpenTask K)) → IsSameTask t u → AreBelow t fs → AreBelow u fs
below-same t u [] same b = tt
below-same t u (f ∷ fs) same b = (same.0 ∙ b.0, subst (λ (o : Origin). IsOpenTask (o ∷ []) f) (sym same.1) b.1, b.2)

pub lowest-same : {K : Type 0} (t u : Task) (fs : List (OpenTask K)) → IsSameTask t u → IsSameTask (lowest_of t fs) (lowest_of u fs)
lowest-same t u [] same = same
lowest-same t u (f ∷ fs) same = (refl, refl)

begun-open_task : {K : Type 0} (plan : PlanView) (o : Origin) (joins : JoinNames) → IsTask (start plan o) → IsOpenTask {K = K} [] (record { task = fresh plan o joins; answers = [] })
begun-open_task plan o joins is = record { task = is; idle = refl; goes_on = refl; whole = refl; answers = refl }

-- the stack of an origin's task alone
pub begun_stack : {K : Type 0} (plan : PlanView) (o : Origin) (joins : JoinNames) (top : OpenTask K) (below : List (OpenTask K)) → IsTask (start plan o) → top ≡ record { task = fresh plan o joins; answers = [] } → below ≡ [] → IsStack (record { top = top; below = below })
begun_stack plan o joins top below is e h = record { top = subst (IsOpenTask []) (sym e) (begun-open_task plan o joins is); below = subst (AreBelow (task_of top)) (sym h) tt }

-- What is left of a sound stack, by the stop of its topmost task
module _ {K : Type 0} (s : Stack K) (is : IsStack s) where
  abbrev t : Task
  t = task_of s.top

  abbrev open_task : TaskView → List AnswerView → OpenTask K
  open_task v answers = record { task = v; answers = answers }

  module _ (child rest : TaskView) (at : IsStop {K = K} s.top.task (stop.Spawn child rest)) where
    abbrev c : Origin
    c = child.task.origin

    abbrev to : Stop
    to = Spawn c rest.task

    is-fresh : child ≡ fresh t.plan c child.joins
    is-fresh = at.keeps.0

    begun : child.task ≡ start t.plan c
    begun = ap (λ (v : TaskView). v.task) is-fresh

    with-child : IsSoundStop t to → KeepsOrigin t to → LeavesFewer t to → StartsBeforeStop t to → StepsStack s (record { top = open_task child []; below = open_task rest s.top.answers ∷ s.below })
    with-child sound same fewer starts = record {
      sound = record {
        top = subst (λ (v : TaskView). IsOpenTask [] (open_task v [])) (sym is-fresh) (begun-open_task t.plan c child.joins (tasks_begin t.plan c sound.0 is.top.task.clear));
        below = (ap (λ (u : Task). u.plan) begun ∙ sym same.0, record { task = sound.1; idle = fewer.1; goes_on = at.keeps.3; whole = is.top.whole; answers = answers }, below-same t rest.task s.below same is.below);
      };
      lowest = lowest-same t rest.task s.below same;
      stop = to;
      comes = at.next;
      leaves = ap (λ (u : Task). u ∷ rest.task ∷ tasks s.below) (begun ∙ ap (λ (p : PlanView). start p c) (sym same.0));
    }
      where
        answers : answer_tags s.top.answers ++ tags rest.task.plan (c ∷ []) ≡ tags rest.task.plan (unmerged rest.task)
        answers =
            ap (λ (l : List AnswerTag). l ++ tags rest.task.plan (c ∷ [])) (sym (append-nil (answer_tags s.top.answers)) ∙ is.top.answers ∙ ap (λ (p : PlanView). tags p (unmerged t)) (sym same.0))
            ∙ sym (tags-append rest.task.plan (unmerged t) (c ∷ [])) ∙ ap (tags rest.task.plan) (sym starts.0)

    -- A child goes on top.
    pub spawned : (top : OpenTask K) (below : List (OpenTask K)) → top ≡ record { task = child; answers = [] } → below ≡ record { task = rest; answers = s.top.answers } ∷ s.below → StepsStack s (record { top = top; below = below })
    spawned top below e h =
        subst (λ (f : OpenTask _). StepsStack s (record { top = f; below = below })) (sym e) (subst (λ (fs : List (OpenTask _)). StepsStack s (record { top = open_task child []; below = fs })) (sym h)
        (with-child (stops_are_sound t to is.top.task at.next) (stops_keep_origins t to at.next) (stops_fall t to is.top.task is.top.idle at.next) (stops_start t to is.top.task at.next)))

  module _ (rest : TaskView) (at : IsStop {K = K} s.top.task (stop.Wait rest)) where
    -- At a wait the answers are those of all children.
    pub waits : rest.task.waiting ≡ true
    waits = let fewer : LeavesFewer t (Wait rest.task) = stops_fall t (Wait rest.task) is.top.task is.top.idle at.next in fewer.1

    pub has_answers : answer_tags s.top.answers ≡ tags rest.task.plan (awaited rest.task.trace.unmerged)
    has_answers =
        let same : KeepsOrigin t (Wait rest.task) = stops_keep_origins t (Wait rest.task) at.next in
        let starts : StartsBeforeStop t (Wait rest.task) = stops_start t (Wait rest.task) is.top.task at.next in
        sym (append-nil (answer_tags s.top.answers)) ∙ is.top.answers ∙ ap (λ (p : PlanView). tags p (unmerged t)) (sym same.0) ∙ ap (tags rest.task.plan) (sym starts)

    none : (with_evaluations rest).trace.unmerged ≡ []
    none = none-heard rest.task.trace.unmerged (evaluations (eval rest.task.plan) rest.task.trace.unmerged) _ refl

    gone-on : IsSoundStop t (Wait rest.task) → KeepsOrigin t (Wait rest.task) → StepsStack s (record { top = open_task (resumed_view rest) []; below = s.below })
    gone-on sound same = record {
      sound = record {
        top = record { task = answers_keep_tasks rest.task sound; idle = refl; goes_on = at.keeps.2; whole = refl; answers = ap (λ (l : List AwaitedChild). tags rest.task.plan (awaited l)) (sym none) };
        below = below-same t (with_evaluations rest) s.below same is.below;
      };
      lowest = lowest-same t (with_evaluations rest) s.below same;
      stop = Wait rest.task;
      comes = at.next;
      leaves = refl;
    }

    -- It goes on.
    pub resumed_above : (top : OpenTask K) (v : TaskView) → top ≡ record { task = v; answers = [] } → v ≡ resumed_view rest → StepsStack s (record { top = top; below = s.below })
    resumed_above top v e h =
        subst (λ (f : OpenTask _). StepsStack s (record { top = f; below = s.below })) (sym (e ∙ ap (λ (w : TaskView). open_task w []) h))
        (gone-on (stops_are_sound t (Wait rest.task) is.top.task at.next) (stops_keep_origins t (Wait rest.task) at.next))

  module _ (answer : AnswerView) (give : GiveView AnswerTag) (at : IsStop {K = K} s.top.task (stop.Done answer give)) where
    to-parent : (f : OpenTask K) (fs : List (OpenTask K)) → s.below ≡ f ∷ fs → AreBelow t (f ∷ fs) → StepsStack s (stack_with_answer answer f fs)
    to-parent f fs e b = record {
      sound = record { top = record { task = b.1.task; idle = b.1.idle; goes_on = b.1.goes_on; whole = more-uncut f.answers answer b.1.whole whole; answers = answers }; below = b.2 };
      lowest = subst (λ (l : List (OpenTask _)). IsSameTask (lowest_of t l) (lowest_of (task_of f) fs)) (sym e) (refl, refl);
      stop = End answer.out answer.outcome;
      comes = at.next;
      leaves = ap tasks (sym e);
    }
      where
        whole : is_cut answer.outcome ≡ false
        whole = uncut t.plan answer.outcome at.known

        answers : answer_tags (f.answers ++ answer ∷ []) ++ [] ≡ tags (task_of f).plan (awaited (task_of f).trace.unmerged)
        answers =
            append-nil (answer_tags (f.answers ++ answer ∷ [])) ∙ answer-tags-append f.answers (answer ∷ [])
            ∙ ap (λ (p : PlanView). answer_tags f.answers ++ tag p answer.origin ∷ []) (at.keeps.0 ∙ b.0)
            ∙ ap (λ (o : Origin). answer_tags f.answers ++ tag (task_of f).plan o ∷ []) at.keeps.1 ∙ b.1.answers

    abbrev IsEnd : List (OpenTask K) → Type 0
    IsEnd fs = IsAnswerOf (lowest_of t fs) answer

    -- An end's answer goes to the task below, or is the one of the task at the bottom.
    pub ended : (result : Result (Advanced K) Memory) → ((f : OpenTask K) (fs : List (OpenTask K)) → s.below ≡ f ∷ fs → IfOk result (λ to. to ≡ Continues (stack_with_answer answer f fs))) →
        (s.below ≡ [] → IfOk result (λ to. to ≡ Ends answer)) → IfOk result (AdvancesTo s)
    ended (Err e) parent last = tt
    ended (Ok to) parent last = by_below s.below refl
      where
        sound : IsSoundStop t (End answer.out answer.outcome)
        sound = stops_are_sound t (End answer.out answer.outcome) is.top.task at.next

        by_below : (fs : List (OpenTask K)) → s.below ≡ fs → AdvancesTo s to
        by_below [] e =
            let closes : AnswersLowest s answer = subst IsEnd (sym e) (record { plan = at.keeps.0; origin = at.keeps.1; fault = sound.1 }) in subst (AdvancesTo s) (sym (last e)) closes
        by_below (f ∷ fs) e = let follows : StepsStack s (stack_with_answer answer f fs) = to-parent f fs e (subst (AreBelow t) e is.below) in subst (AdvancesTo s) (sym (parent f fs e)) follows

    -- An end by a fault ends all tasks.
    same-task : IsSameTask t (task_of_answer answer)
    same-task = (at.keeps.0, at.keeps.1)

    pub known_fault : IsFaultOf answer.plan answer.outcome
    known_fault =
        let sound : IsSoundStop t (End answer.out answer.outcome) = stops_are_sound t (End answer.out answer.outcome) is.top.task at.next in
        subst (λ (p : PlanView). IsFaultOf p answer.outcome) (sym at.keeps.0) sound.1

    pub answer_below : AreBelow (task_of_answer answer) s.below
    answer_below = below-same t (task_of_answer answer) s.below same-task is.below

    pub all_ended : (last : AnswerView) → IsAnswerOf (lowest_of (task_of_answer answer) s.below) last → AnswersLowest s last
    all_ended last h =
        let same : IsSameTask (lowest_of t s.below) (lowest_of (task_of_answer answer) s.below) = lowest-same t (task_of_answer answer) s.below same-task in
        record { plan = h.plan ∙ same.0; origin = h.origin ∙ same.1; fault = subst (λ (p : PlanView). IsFaultOf p last.outcome) same.0 h.fault }

-- The tasks below an answer that is a fault

pub record EndsAt {K : Type 0} (bottom : Task) (answer : AnswerView) (fs : List (OpenTask K)) : Type 0 where
  pub below : AreBelow (task_of_answer answer) fs
  pub fault : is_fault answer.outcome ≡ true
  pub known : IsFaultOf answer.plan answer.outcome
  pub lowest : IsSameTask bottom (lowest_of (task_of_answer answer) fs)

pub ends-next : {K : Type 0} (bottom : Task) (a b : AnswerView) (by : GiveView AnswerTag) (f : OpenTask K) (fs gs : List (OpenTask K)) → gs ≡ f ∷ fs → EndsAt bottom a gs → EndsByFault f.task b by → EndsAt bottom b fs
ends-next bottom a b by f fs gs e at ends =
    let was : EndsAt bottom a (f ∷ fs) = subst (EndsAt bottom a) e at in
    let same : IsSameTask (task_of f) (task_of_answer b) = (ends.plan, ends.origin) in
    let lower : IsSameTask (lowest_of (task_of f) fs) (lowest_of (task_of_answer b) fs) = lowest-same (task_of f) (task_of_answer b) fs same in
    record {
      below = below-same (task_of f) (task_of_answer b) fs same was.below.2;
      fault = ends.fault;
      known = subst (λ (p : PlanView). IsFaultOf p b.outcome) (sym ends.plan) ends.known;
      lowest = (lower.0 ∙ was.lowest.0, lower.1 ∙ was.lowest.1);
    }

pub ends-last : {K : Type 0} (bottom : Task) (a : AnswerView) (fs : List (OpenTask K)) → fs ≡ [] → EndsAt bottom a fs → IsAnswerOf bottom a
ends-last {K} bottom a fs e at =
    let was : EndsAt {K = K} bottom a [] = subst (EndsAt bottom a) e at in
    record { plan = was.lowest.0; origin = was.lowest.1; fault = subst (λ (p : PlanView). IsFaultOf p a.outcome) was.lowest.0 was.known }
