-- A core before its first step.
use Rattle.std.specs.Prelude.{◌≡◌, ℕ, ◌-◌, List, [], ◌∷◌, Some, None, replicate}
use Rattle.serial_meaning.specs.Eval.{main_origin}
use Rattle.serial_meaning.specs.Plan.{PlanView}
use Rattle.strand_machine.specs.Links.{detached}
use Rattle.strand_machine.specs.Tasks.{TaskView, fresh}
use Rattle.sched_core.specs.Cores.{plan_of}
use Rattle.sched_core.specs.Moves.{job}
use Rattle.sched_core.specs.Nodes.{new_node}
use Rattle.sched_core.specs.Workers.{WorkerView, worker_with}
use Rattle.sched_core.specs.declared.state.CoreState.{CoreState}

-- this many workers, of which the first has this task
abbrev pub first_workers : TaskView → ℕ → List WorkerView
first_workers main workers = worker_with (Some (job main 0)) ∷ replicate (workers - 1) (worker_with None)

pub record IsBegun (plan : PlanView) (workers : ℕ) (s : CoreState) : Type 0 where
  pub plan_is : plan_of s ≡ plan
  pub workers_are : s.workers.items ≡ first_workers (fresh plan (main_origin plan) detached) workers
  pub nodes : s.nodes.items ≡ new_node (main_origin plan) None ∷ []
  pub given : s.given ≡ []
  pub root : s.root ≡ None
  pub runs : s.runs ≡ 0
