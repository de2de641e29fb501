-- One step of the core, by one event.
use Rattle.std.specs.Prelude.{◌≡◌, ◌≢◌, ℕ, ◌+◌, ◌⊎◌, List, [], ◌∷◌, ◌++◌, Some, None, slice_get, slice_set, remove}
use Rattle.serial_meaning.specs.Plan.{PlanView}
use Rattle.strand_meaning.specs.Task.{Task, start, Stop, Spawn, Wait, End, IsNext}
use Rattle.sched_meaning.specs.Core.{Worker, Core, free_worker, new_core, resumed_task, IsRootAnswered, IsReady}
use Rattle.sched_meaning.specs.declared.event.CoreEvent.{CoreEvent}
use Rattle.sched_meaning.specs.declared.event.CoreEvent.TheVariants.{Run, Pop, Steal, Look, Idle}

-- A worker's part of a step

-- a worker whose current task came to this stop: after a spawn the rest goes to the back of the deque, and the child becomes
-- current
abbrev pub after_stop : Stop → Worker → Worker
after_stop (Spawn child rest) w = record w { current = Some (start rest.plan child); deque = w.deque ++ rest ∷ [] }
after_stop (Wait rest) w = record w { current = None; stalled = w.stalled ++ rest ∷ [] }
after_stop (End out ended) w = record w { current = None }

-- The current task comes to its next stop.
pub record WorkerRuns (t : Task) (stop : Stop) (w next : Worker) : Type 0 where
  pub current : w.current ≡ Some t
  pub comes : IsNext t stop
  pub after : next ≡ after_stop stop w

-- The task at the back of the deque becomes the current one.
pub record WorkerPops (t : Task) (w next : Worker) : Type 0 where
  pub free : w.current ≡ None
  pub back : w.deque ≡ next.deque ++ t ∷ []
  pub current : next.current ≡ Some t
  pub stalled : next.stalled ≡ w.stalled

-- The task at the front of the deque is stolen.
pub record WorkerGives (t : Task) (w next : Worker) : Type 0 where
  pub front : w.deque ≡ t ∷ next.deque
  pub current : next.current ≡ w.current
  pub stalled : next.stalled ≡ w.stalled

-- A stolen task becomes the current one.
pub record WorkerTakes (t : Task) (w next : Worker) : Type 0 where
  pub free : w.current ≡ None
  pub after : next ≡ record w { current = Some t }

-- The stalled task with this index continues, with its children's answers.
pub record WorkerResumes (place : ℕ) (t : Task) (w next : Worker) : Type 0 where
  pub free : w.current ≡ None
  pub there : slice_get w.stalled place ≡ Some t
  pub after : next ≡ record w { current = Some (resumed_task t); stalled = remove w.stalled place }

-- The stalled task with this index can't continue, and goes to the end of the stalled tasks.
pub record WorkerPasses (place : ℕ) (t : Task) (w next : Worker) : Type 0 where
  pub free : w.current ≡ None
  pub there : slice_get w.stalled place ≡ Some t
  pub after : next ≡ record w { stalled = remove w.stalled place ++ t ∷ [] }

-- The core's part

-- The worker with this number changes like this, and no other does.
pub record Changes (n : ℕ) (R : Worker → Worker → Type 0) (c next : Core) : Type 0 where
  pub worker : Worker
  pub after : Worker
  pub there : slice_get c.workers n ≡ Some worker
  pub does : R worker after
  pub next_is : next ≡ record c { workers = slice_set c.workers n after }

-- what the core records of a stop: one run event more, and a child that is begun, or an answer
abbrev pub recorded : Task → Stop → Core → Core
recorded t (Spawn child rest) c = record c { begun = c.begun ++ child ∷ []; runs = c.runs + 1 }
recorded t (Wait rest) c = record c { runs = c.runs + 1 }
recorded t (End out ended) c =
    record c { answers = c.answers ++ record { plan = t.plan; origin = t.origin; out = out; outcome = ended } ∷ []; runs = c.runs + 1 }

-- A worker runs its task to the next stop. The core is `moved` before the stop is recorded.
pub record ReachesStop (w : ℕ) (c next : Core) : Type 0 where
  pub task : Task
  pub stop : Stop
  pub moved : Core
  pub runs : Changes w (WorkerRuns task stop) c moved
  pub next_is : next ≡ recorded task stop moved

pub record Pops (w : ℕ) (c next : Core) : Type 0 where
  pub task : Task
  pub pops : Changes w (WorkerPops task) c next

pub record Steals (thief victim : ℕ) (c next : Core) : Type 0 where
  pub two : thief ≢ victim
  pub task : Task
  pub without : Core
  pub gives : Changes victim (WorkerGives task) c without
  pub takes : Changes thief (WorkerTakes task) without next

pub record Resumes (w place : ℕ) (c next : Core) : Type 0 where
  pub task : Task
  pub ready : IsReady c task
  pub resumes : Changes w (WorkerResumes place task) c next

-- a fruitless look
pub record StaysStalled (w place : ℕ) (c next : Core) : Type 0 where
  pub task : Task
  pub waits : IsReady c task → ⊥
  pub passes : Changes w (WorkerPasses place task) c next

pub record Idles (w : ℕ) (c next : Core) : Type 0 where
  pub free : slice_get c.workers w ≡ Some free_worker
  pub next_is : next ≡ c

abbrev pub Happens : CoreEvent → Core → Core → Type 0
Happens (Run w) c next = ReachesStop w c next
Happens (Pop w) c next = Pops w c next
Happens (Steal thief victim) c next = Steals thief victim c next
Happens (Look w place) c next = Resumes w place c next ⊎ StaysStalled w place c next
Happens (Idle w) c next = Idles w c next

-- There is no step after the root's answer.
pub record Step (e : CoreEvent) (c next : Core) : Type 0 where
  pub unanswered : IsRootAnswered c → ⊥
  pub happens : Happens e c next

-- These events, the newest first, lead from a new core to this one.
abbrev pub Leads : PlanView → ℕ → List CoreEvent → Core → Type 0
Leads plan workers [] c = c ≡ new_core plan workers
Leads plan workers (e ∷ es) c = (before : Core) × Leads plan workers es before × Step e before c
