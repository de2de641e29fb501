-- What a call on a task gives, by the meaning of tasks.
use Rattle.std.specs.Prelude.{◌≡◌, ℕ, Bool, true, false, ◌||◌, List, [], ◌∷◌, ◌++◌, Some, None}
use Rattle.serial_meaning.specs.Answer.{AnswerView, AnswerTag}
use Rattle.serial_meaning.specs.Eval.{eval}
use Rattle.serial_meaning.specs.Laws.{IsOriginOf}
use Rattle.strand_meaning.specs.Laws.{IsFaultOf}
use Rattle.strand_meaning.specs.Answers.{answer_evaluations}
use Rattle.strand_meaning.specs.Cuts.{AreAnswersOf, IsByFaultOf, by_fault, ended_after}
use Rattle.strand_meaning.specs.Trace.{merged_answers}
use Rattle.strand_meaning.specs.Rest.{evaluations}
use Rattle.strand_meaning.specs.Task as meaning
use Rattle.strand_meaning.specs.Task.{IsNext, on}
use Rattle.strand_machine.specs.Links.{AreJoinNames, HasPassed, HasStopped, task_give, tag}
use Rattle.serial_meaning.specs.declared.answer.Outcome.{Outcome}
use Rattle.serial_meaning.specs.declared.answer.Outcome.TheVariants as outcome
use Rattle.serial_meaning.specs.declared.event.Event.{Event}
use Rattle.strand_machine.specs.Tasks.{TaskView, fresh}
use Rattle.strand_machine.specs.declared.stop.Stop.{Stop}
use Rattle.strand_machine.specs.declared.stop.Paused.{Paused}
use Rattle.strand_machine.specs.declared.stop.Paused.TheVariants as paused
use Rattle.strand_machine.specs.declared.stop.Stop.TheVariants as stop
use Rattle.strand_machine.specs.MoveOrStop.{MoveOrStop}
use Rattle.strand_machine.specs.MoveOrStop as step
use Rattle.strand_machine.specs.declared.stop.Resumed.{Resumed}
use Rattle.strand_machine.specs.declared.stop.Resumed.TheVariants as resumed

abbrev pub stop_of : {K : Type 0} → Stop K → meaning.Stop
stop_of (stop.Spawn child rest) = meaning.Spawn child.task.origin rest.task
stop_of (stop.Wait rest) = meaning.Wait rest.task
stop_of (stop.Done answer give) = meaning.End answer.out answer.outcome

abbrev pub step_of : {K : Type 0} → MoveOrStop K → meaning.MoveOrStop
step_of (step.Passes next) = meaning.Passes next.task
step_of (step.Stops stop) = meaning.Stops (stop_of stop)

-- A child is a fresh task of the plan, its origin is the last of those that the rest began, and its give is of the task's own join. An
-- answer is the origin's, and the give is the one that the task was begun with.
abbrev pub KeepsLinks : {K : Type 0} → TaskView → Stop K → Type 0
KeepsLinks t (stop.Spawn child rest) =
    (child ≡ fresh t.task.plan child.task.origin child.joins) × (rest.children ≡ t.children ++ child.task.origin ∷ []) × (rest.loads ≡ t.loads) × (rest.cut ≡ None)
    × (rest.joins ≡ t.joins) × AreJoinNames t.joins.own child.joins
KeepsLinks t (stop.Wait rest) = (rest.children ≡ t.children) × (rest.loads ≡ t.loads) × (rest.cut ≡ None) × (rest.joins ≡ t.joins)
KeepsLinks t (stop.Done answer give) = (answer.plan ≡ t.task.plan) × (answer.origin ≡ t.task.origin) × (give ≡ task_give t.task.plan t.task.origin t.joins)

abbrev pub KeepsLinksInStep : {K : Type 0} → TaskView → MoveOrStop K → Type 0
KeepsLinksInStep t (step.Passes next) = (next.children ≡ t.children) × (next.loads ≡ t.loads) × (next.cut ≡ None) × (next.joins ≡ t.joins)
KeepsLinksInStep t (step.Stops stop) = KeepsLinks t stop

-- The next move or stop of a task.
pub record IsStep {K : Type 0} (t : TaskView) (s : MoveOrStop K) : Type 0 where
  pub is : meaning.step t.task ≡ step_of s
  pub keeps : KeepsLinksInStep t s

-- a child is of an origin of the plan, and a fault by which the task ended is one of the plan's
abbrev pub IsKnownStop : {K : Type 0} → TaskView → Stop K → Type 0
IsKnownStop t (stop.Spawn child rest) = IsOriginOf t.task.plan child.task.origin
IsKnownStop t (stop.Wait rest) = Unit {0}
IsKnownStop t (stop.Done answer give) = IsFaultOf t.task.plan answer.outcome

-- The next stop of a task.
pub record IsStop {K : Type 0} (t : TaskView) (s : Stop K) : Type 0 where
  pub next : IsNext t.task (stop_of s)
  pub keeps : KeepsLinks t s
  pub known : IsKnownStop t s

-- The end of a task that took a cut, or that has ended and still has its answer.
pub record IsCutEnd {K : Type 0} (t : TaskView) (ended : Outcome) (s : Stop K) : Type 0 where
  pub is : s ≡ stop.Done (record { plan = t.task.plan; origin = t.task.origin; out = t.task.trace.prefix; outcome = ended }) (task_give t.task.plan t.task.origin t.joins)
  pub known : IsByFaultOf t.task.plan ended

-- A task has ended, and what is left of it has the answer.
pub record HasEnded (K : Type 0) (t rest : TaskView) : Type 0 where
  pub outcome : Outcome
  pub cut : rest.cut ≡ Some outcome
  pub stop : IsStop {K = K} t (stop.Done (record { plan = rest.task.plan; origin = rest.task.origin; out = rest.task.trace.prefix; outcome = outcome }) (task_give rest.task.plan rest.task.origin rest.joins))

-- The next stop of a task. One that has ended still has its answer.
abbrev pub Pauses : {K : Type 0} → TaskView → Paused K → Type 0
Pauses {K} t (paused.Spawn child rest) = IsStop {K = K} t (stop.Spawn child rest)
Pauses {K} t (paused.Wait rest) = IsStop {K = K} t (stop.Wait rest)
Pauses {K} t (paused.Ended rest) = HasEnded K t rest

-- The next stop of a task that goes on, and else its end.
pub record Advances {K : Type 0} (t : TaskView) (s : Stop K) : Type 0 where
  pub goes_on : t.cut ≡ None → IsStop t s
  pub has_ended : (ended : Outcome) → t.cut ≡ Some ended → IsCutEnd t ended s

-- The task with the answers of its children, which are their evaluations.
abbrev pub with_evaluations : TaskView → meaning.Task
with_evaluations t = on (evaluations (eval t.task.plan) t.task.trace.unmerged) t.task

abbrev pub is_cut : Outcome → Bool
is_cut (outcome.Value v) = false
is_cut (outcome.Values vs) = false
is_cut (outcome.Fault f) = false
is_cut (outcome.Cut f) = true

-- one of these answers is a cut
abbrev pub any_cut : List AnswerView → Bool
any_cut [] = false
any_cut (a ∷ answers) = is_cut a.outcome || any_cut answers

-- the events of a task once these answers are merged
abbrev pub prefix_with : List AnswerView → meaning.Task → List Event
prefix_with answers t = (merged_answers t.trace.unmerged (answer_evaluations answers) (record t.trace { unmerged = [] })).prefix

-- A task that took these answers, of which one is a cut. It ends by the first fault or cut in the order of its trace.
pub record IsCutOn (answers : List AnswerView) (t next : TaskView) : Type 0 where
  pub plan : next.task.plan ≡ t.task.plan
  pub origin : next.task.origin ≡ t.task.origin
  pub prefix : next.task.trace.prefix ≡ prefix_with answers t.task
  pub unmerged : next.task.trace.unmerged ≡ []
  pub waits : next.task.waiting ≡ false
  pub advanced : next.task.advanced ≡ t.task.advanced
  pub cut : next.cut ≡ ended_after (by_fault t.task.trace.fault) answers
  pub children : next.children ≡ t.children
  pub joins : next.joins ≡ t.joins

-- the task resumed with its children's answers
abbrev pub resumed_view : TaskView → TaskView
resumed_view t = record t { task = with_evaluations t }

-- A task that took these answers of its children: it goes on with them, or it ends by one that is a cut.
pub record IsResumedWith (answers : List AnswerView) (t next : TaskView) : Type 0 where
  pub whole : any_cut answers ≡ false → next ≡ resumed_view t
  pub cut : any_cut answers ≡ true → IsCutOn answers t next × (next.loads ≡ t.loads)

-- the task, not ended, once its looks have loaded these numbers
abbrev pub looked : List ℕ → TaskView → TaskView
looked loads t = record t { loads = loads; cut = None }

-- The wait is over, and the task took these answers of its children; or it is as it was, and a look has loaded a number that isn't 0.
abbrev pub IsResumed : {K : Type 0} → TaskView → Resumed K → Type 0
IsResumed t (resumed.On next) =
    (answers : List AnswerView) × AreAnswersOf t.task.plan t.task.trace.unmerged answers × IsResumedWith answers (looked next.loads t) next × HasPassed t.loads next.loads
IsResumed t (resumed.NotYet same) = (same.task ≡ t.task) × (same.children ≡ t.children) × HasStopped t.loads same.loads × (same.cut ≡ t.cut) × (same.joins ≡ t.joins)

abbrev pub answer_tags : List AnswerView → List AnswerTag
answer_tags [] = []
answer_tags (answer ∷ answers) = tag answer.plan answer.origin ∷ answer_tags answers
