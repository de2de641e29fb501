-- The tasks that one thread runs, each a child of the one below it.
use Rattle.std.specs.Prelude.{◌≡◌, false, List, [], ◌∷◌, ◌++◌, None}
use Rattle.serial_meaning.specs.Answer.{AnswerView}
use Rattle.serial_meaning.specs.Eval.{eval}
use Rattle.serial_meaning.specs.declared.origin.Origin.{Origin}
use Rattle.strand_meaning.specs.Laws.{IsFaultOf, IsSameTask}
use Rattle.strand_meaning.specs.Rest.{evaluations}
use Rattle.strand_meaning.specs.Sound.{IsTask}
use Rattle.strand_meaning.specs.Task.{Task, start, Stop, Spawn, Wait, End, IsNext, on}
use Rattle.strand_machine.specs.Links.{tags}
use Rattle.strand_machine.specs.AwaitedChildren.{awaited}
use Rattle.strand_machine.specs.Stops.{HasEnded, answer_tags, any_cut}
use Rattle.strand_machine.specs.Tasks.{TaskView}
use Rattle.serial_runner.specs.declared.open_tasks.OpenTask.{OpenTask}
use Rattle.serial_runner.specs.declared.stack.Stack.{Stack}
use Rattle.serial_runner.specs.declared.stack.Advanced.{Advanced}
use Rattle.serial_runner.specs.declared.stack.Advanced.TheVariants.{Continues, Ends}

abbrev pub task_of : {K : Type 0} → OpenTask K → Task
task_of f = f.task.task

-- A task with the answers of the children that it awaits, in order, without the last ones, which are missing. It isn't at a wait, and no
-- answer is a cut.
pub record IsOpenTask {K : Type 0} (missing : List Origin) (f : OpenTask K) : Type 0 where
  pub task : IsTask (task_of f)
  pub idle : (task_of f).waiting ≡ false
  pub goes_on : f.task.cut ≡ None
  pub whole : any_cut f.answers ≡ false
  pub answers : answer_tags f.answers ++ tags (task_of f).plan missing ≡ tags (task_of f).plan (awaited (task_of f).trace.unmerged)

-- Of each open task only the answer of the child above it is missing.
abbrev pub AreBelow : {K : Type 0} → Task → List (OpenTask K) → Type 0
AreBelow above [] = Unit {0}
AreBelow above (f ∷ fs) = (above.plan ≡ (task_of f).plan) × IsOpenTask (above.origin ∷ []) f × AreBelow (task_of f) fs

pub record IsStack {K : Type 0} (s : Stack K) : Type 0 where
  pub top : IsOpenTask [] s.top
  pub below : AreBelow (task_of s.top) s.below

-- the task at the bottom
abbrev pub lowest_of : {K : Type 0} → Task → List (OpenTask K) → Task
lowest_of t [] = t
lowest_of t (f ∷ fs) = lowest_of (task_of f) fs

abbrev pub lowest : {K : Type 0} → Stack K → Task
lowest s = lowest_of (task_of s.top) s.below

-- The tasks of a stack, and what a stop of the topmost one makes of them: its child goes first, its wait is over at once, since its
-- children have ended, and its end leaves the others.
abbrev pub tasks : {K : Type 0} → List (OpenTask K) → List Task
tasks [] = []
tasks (f ∷ fs) = task_of f ∷ tasks fs

abbrev pub tasks_after : Stop → List Task → List Task
tasks_after (Spawn child rest) ts = start rest.plan child ∷ rest ∷ ts
tasks_after (Wait rest) ts = on (evaluations (eval rest.plan) rest.trace.unmerged) rest ∷ ts
tasks_after (End out ended) ts = ts

-- the stack once the task at the head of these has one answer more
abbrev pub stack_with_answer : {K : Type 0} → AnswerView → OpenTask K → List (OpenTask K) → Stack K
stack_with_answer answer f fs = record { top = record f { answers = f.answers ++ answer ∷ [] }; below = fs }

-- one stop of the topmost task
pub record StepsStack {K : Type 0} (s next : Stack K) : Type 0 where
  pub sound : IsStack next
  pub lowest : IsSameTask (lowest s) (lowest next)
  pub stop : Stop
  pub comes : IsNext (task_of s.top) stop
  pub leaves : tasks (next.top ∷ next.below) ≡ tasks_after stop (tasks s.below)

-- what a task answers
pub record IsAnswerOf (t : Task) (answer : AnswerView) : Type 0 where
  pub plan : answer.plan ≡ t.plan
  pub origin : answer.origin ≡ t.origin
  pub fault : IsFaultOf t.plan answer.outcome

-- the answer of the task at the bottom
abbrev pub AnswersLowest : {K : Type 0} → Stack K → AnswerView → Type 0
AnswersLowest s = IsAnswerOf (lowest s)

-- the task of an answer before it was begun
abbrev pub task_of_answer : AnswerView → Task
task_of_answer answer = start answer.plan answer.origin

-- a task that has ended stood on top of these, in a sound stack
abbrev pub IsEndAbove : {K : Type 0} → TaskView → List (OpenTask K) → Type 0
IsEndAbove {K} ended below = (s : Stack K) × IsStack s × (s.below ≡ below) × HasEnded K s.top.task ended

abbrev pub AdvancesTo : {K : Type 0} → Stack K → Advanced K → Type 0
AdvancesTo s (Continues next) = StepsStack s next
AdvancesTo s (Ends answer) = AnswersLowest s answer
