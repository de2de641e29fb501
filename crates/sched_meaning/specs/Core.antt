-- The core: workers with their tasks, what was begun and what was answered.
use Rattle.std.specs.Prelude.{ℕ, ◌-◌, Bool, false, List, [], ◌∷◌, ◌++◌, Option, Some, None, All, Contains, map, replicate, flat_map}
use Rattle.serial_meaning.specs.Answer.{AnswerView}
use Rattle.serial_meaning.specs.Plan.{PlanView}
use Rattle.serial_meaning.specs.Eval.{eval, main_origin}
use Rattle.serial_meaning.specs.declared.origin.Origin.{Origin}
use Rattle.strand_meaning.specs.Task.{Task, start, on}
use Rattle.strand_meaning.specs.Rest.{evaluations}

-- A worker: its current task, its deque, the front first, and its tasks that wait for their children.
pub record Worker : Type 0 where
  pub current : Option Task
  pub deque : List Task
  pub stalled : List Task

-- The origins that were begun and the answers that were given, both in order; the number of run events; and whether a step ran out
-- of memory.
pub record Core : Type 0 where
  pub plan : PlanView
  pub workers : List Worker
  pub begun : List Origin
  pub answers : List AnswerView
  pub runs : ℕ
  pub spent : Bool

-- a worker without tasks
abbrev pub free_worker : Worker
free_worker = record { current = None; deque = []; stalled = [] }

abbrev pub first_worker : PlanView → Worker
first_worker plan = record { current = Some (start plan (main_origin plan)); deque = []; stalled = [] }

-- this many workers, of which the first has main's task
abbrev pub new_core : PlanView → ℕ → Core
new_core plan n = record {
  plan = plan;
  workers = first_worker plan ∷ replicate (n - 1) free_worker;
  begun = main_origin plan ∷ [];
  answers = [];
  runs = 0;
  spent = false;
}

-- Tasks

-- the children whose answers a task hasn't taken
abbrev pub awaited : Task → List Origin
awaited t = map (λ p. p.child) t.trace.unmerged

-- the task once it has taken the evaluations of its children
abbrev pub resumed_task : Task → Task
resumed_task t = on (evaluations (eval t.plan) t.trace.unmerged) t

abbrev pub current_tasks : Option Task → List Task
current_tasks None = []
current_tasks (Some t) = t ∷ []

abbrev pub tasks_of : Worker → List Task
tasks_of w = current_tasks w.current ++ w.deque ++ w.stalled

-- the tasks of all workers: each current task, and those in the deques and among the stalled ones
abbrev pub all_tasks : Core → List Task
all_tasks c = flat_map tasks_of c.workers

abbrev pub origins_of : List Task → List Origin
origins_of ts = map (λ t. t.origin) ts

-- Answers

abbrev pub answered : Core → List Origin
answered c = map (λ a. a.origin) c.answers

abbrev pub IsAnswered : Core → Origin → Type 0
IsAnswered c o = Contains (answered c) o

abbrev pub IsRootAnswered : Core → Type 0
IsRootAnswered c = IsAnswered c (main_origin c.plan)

-- all children of a task are answered
abbrev pub IsReady : Core → Task → Type 0
IsReady c t = All (IsAnswered c) (awaited t)
