-- A core by its fields, in the terms of the scheduling machine.
use Rattle.std.specs.Prelude.{Bool, List, Option, Some, None, map}
use Rattle.std.specs.Arc.{arc_value}
use Rattle.serial_meaning.specs.Answer.{AnswerView, outcome_of}
use Rattle.serial_meaning.specs.Eval.{eval}
use Rattle.serial_meaning.specs.Plan.{PlanView}
use Rattle.serial_meaning.specs.declared.origin.Origin.{Origin}
use Rattle.strand_meaning.specs.Task.{Task}
use Rattle.sched_meaning.specs.Core as machine
use Rattle.sched_core.specs.declared.node.SpawnNode.{SpawnNode}
use Rattle.sched_core.specs.declared.state.CoreState.{CoreState}
use Rattle.sched_core.specs.Workers.{WorkerView}
use Rattle.sched_core.specs.declared.job.Job.{Job}

abbrev pub task_in : Job → Task
task_in j = j.task.task

abbrev pub current_in : Option Job → Option Task
current_in None = None
current_in (Some j) = Some (task_in j)

abbrev pub worker_of : WorkerView → machine.Worker
worker_of w = record { current = current_in w.current; deque = map task_in w.deque; stalled = map task_in w.stalled }

abbrev pub origins_of : List SpawnNode → List Origin
origins_of nodes = map (λ n. n.origin) nodes

-- an origin's answer: its evaluation
abbrev pub answer_of : PlanView → Origin → AnswerView
answer_of plan o = record { plan = plan; origin = o; out = (eval plan o).items; outcome = outcome_of o (eval plan o).ending }

abbrev pub plan_of : CoreState → PlanView
plan_of s = arc_value s.plan

abbrev pub core_of : Bool → CoreState → machine.Core
core_of spent s = record {
  plan = plan_of s;
  workers = map worker_of s.workers.items;
  begun = origins_of s.nodes.items;
  answers = map (answer_of (plan_of s)) s.given;
  runs = s.runs;
  spent = spent;
}
