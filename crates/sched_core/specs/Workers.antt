-- How contracts see a worker.
use Rattle.std.specs.Prelude.{List, [], Option}
use Rattle.sched_core.specs.declared.job.Job.{Job}

pub record WorkerView : Type 0 where
  pub current : Option Job
  pub deque : List Job
  pub stalled : List Job

-- a worker whose only task is this one
abbrev pub worker_with : Option Job → WorkerView
worker_with current = record { current = current; deque = []; stalled = [] }
