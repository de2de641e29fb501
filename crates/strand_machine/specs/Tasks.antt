-- A running task as the task that `strand_meaning` defines.
use Rattle.std.specs.Prelude.{◌≡◌, ℕ, Bool, true, false, List, [], ◌++◌, Option, Some, None, Ok, Err, length, replicate}
use Rattle.std.specs.Prelude.{pos}
use Rattle.serial_meaning.specs.Answer.{IsAnswer}
use Rattle.serial_meaning.specs.Eval.{path_of}
use Rattle.serial_meaning.specs.Open.{Own, ChildFaulted}
use Rattle.serial_meaning.specs.Plan.{PlanView}
use Rattle.serial_meaning.specs.declared.event.Fault.{Fault}
use Rattle.serial_meaning.specs.declared.value.Value.TheVariants.{Int}
use Rattle.serial_meaning.specs.declared.origin.Origin.{Origin}
use Rattle.serial_meaning.specs.declared.answer.Outcome.{Outcome}
use Rattle.serial_meaning.specs.declared.answer.Outcome.TheVariants as outcome
use Rattle.strand_meaning.specs.Cuts.{IsByFaultOf}
use Rattle.strand_meaning.specs.Trace.{AwaitedChild, add_child}
use Rattle.strand_meaning.specs.Task as meaning
use Rattle.strand_meaning.specs.Task.{Task, start, own_instance}
use Rattle.strand_meaning.specs.Sound.{IsTask}
use Rattle.strand_moves.specs.Machines as moves
use Rattle.strand_moves.specs.Moves.{IsTrailOf}
use Rattle.strand_moves.specs.declared.instance.Instance.{Instance}
use Rattle.strand_machine.specs.Links.{LinksView, JoinNames, links_with_child}
use Rattle.strand_machine.specs.AwaitedChildren.{awaited, destination_of}
use Rattle.strand_machine.specs.declared.task_state.TaskState.{TaskState}
use Rattle.strand_machine.specs.declared.destination.Destination.{Destination}
use Rattle.strand_machine.specs.declared.remaining.Stage.{Stage}
use Rattle.strand_machine.specs.declared.remaining.Stage.TheVariants as stage
use Rattle.strand_machine.specs.declared.remaining.Remaining.{Remaining}
use Rattle.strand_machine.specs.declared.remaining.Remaining.TheVariants as remaining

-- A task as contracts see it: what it is by its meaning, the origins of all children that it began, in order, the numbers that looks
-- at their join have loaded, and the names of its joins; and of a task that took a cut for an answer, or that has ended and still has its
-- answer, how it ends. Such a task isn't finished: of its meaning its plan and origin count, and its own events.
pub record TaskView : Type 0 where
  pub task : Task
  pub children : List Origin
  pub loads : List ℕ
  pub joins : JoinNames
  pub cut : Option Outcome

-- a task of which nothing is done
abbrev pub fresh : PlanView → Origin → JoinNames → TaskView
fresh plan o joins = record { task = start plan o; children = []; loads = []; joins = joins; cut = None }

abbrev pub stage_of : PlanView → Stage → meaning.Stage
stage_of plan (stage.Running i) = meaning.Running (moves.machine_of plan i)
stage_of plan (stage.AtSync i) = meaning.AtSync (moves.machine_of plan i)
stage_of plan (stage.AtLoop i) = meaning.AtLoop (moves.machine_of plan i)
stage_of plan (stage.Returned v) = meaning.Ended (Ok v)
stage_of plan (stage.Faulted f) = meaning.Ended (Err (Own f))
stage_of plan (stage.ChildFaulted f) = meaning.Ended (Err (ChildFaulted f))

abbrev pub remaining_of : PlanView → Remaining → meaning.Remaining
remaining_of plan (remaining.Splits left) = meaning.Splits left.range
remaining_of plan (remaining.Runs s) = meaning.Runs (stage_of plan s)
remaining_of plan (remaining.Finished v has_waited) = meaning.Finished v has_waited
remaining_of plan (remaining.Ends o) = meaning.Finished (Int (pos 0)) true

abbrev pub cut_of : Remaining → Option Outcome
cut_of (remaining.Splits left) = None
cut_of (remaining.Runs s) = None
cut_of (remaining.Finished v has_waited) = None
cut_of (remaining.Ends o) = Some o

abbrev pub has_outcome : Option Outcome → Bool
has_outcome None = false
has_outcome (Some ended) = true

abbrev pub task_with : {K : Type 0} → TaskState K → meaning.Remaining → Task
task_with b w = record {
  plan = b.links.plan;
  origin = b.links.origin;
  trace = b.trace;
  values = b.values;
  remaining = w;
  waiting = b.waiting;
  advanced = b.advanced;
}

abbrev pub task_of : {K : Type 0} → TaskState K → Remaining → Task
task_of b w = task_with b (remaining_of b.links.plan w)

abbrev pub view_of : {K : Type 0} → TaskState K → Remaining → TaskView
view_of b w = record { task = task_of b w; children = b.links.children; loads = b.links.loads; joins = b.links.joins; cut = cut_of w }

-- The join's last tags are those of the children whose answers aren't taken.
pub record AwaitsLast (links : LinksView) (parts : List AwaitedChild) : Type 0 where
  pub before : List Origin
  pub passed : List Bool
  pub same : length passed ≡ length before
  pub children : links.children ≡ before ++ awaited parts
  pub taken : links.taken ≡ passed ++ replicate (length parts) false

-- An instance that runs is one of the plan, at this path.
pub record RunsAt (plan : PlanView) (path : List ℕ) (i : Instance) : Type 0 where
  pub sound : moves.IsInstance plan i
  pub at : moves.path_of i ≡ path

abbrev pub StandsAt : PlanView → List ℕ → Stage → Type 0
StandsAt plan path (stage.Running i) = RunsAt plan path i
StandsAt plan path (stage.AtSync i) = RunsAt plan path i
StandsAt plan path (stage.AtLoop i) = RunsAt plan path i
StandsAt plan path (stage.Returned v) = Unit {0}
StandsAt plan path (stage.Faulted f) = Unit {0}
StandsAt plan path (stage.ChildFaulted f) = Unit {0}

-- the same of what remains of a task of this origin; a loop that is split has the trail of its strand
abbrev pub RemainsAt : PlanView → Origin → Remaining → Type 0
RemainsAt plan o (remaining.Splits left) = IsTrailOf plan o left.trail
RemainsAt plan o (remaining.Runs s) = StandsAt plan (path_of (own_instance o)) s
RemainsAt plan o (remaining.Finished v has_waited) = Unit {0}
RemainsAt plan o (remaining.Ends ended) = ⊥

-- What holds of a task that goes on: it hasn't ended, and took no cut.
pub record IsSound {K : Type 0} (b : TaskState K) (w : Remaining) : Type 0 where
  pub task : IsTask (task_of b w)
  pub links : AwaitsLast b.links b.trace.unmerged
  pub of_plan : RemainsAt b.links.plan b.links.origin w

-- What holds of a task whose outcome is known: it has ended, or it took a cut.
pub record HasOutcome {K : Type 0} (b : TaskState K) (ended : Outcome) : Type 0 where
  pub answers : IsAnswer b.links.plan b.links.origin b.trace.prefix ended
  pub known : IsByFaultOf b.links.plan ended
  pub waits : b.waiting ≡ false

-- What holds of a task at all times.
abbrev pub HoldsOfTask : {K : Type 0} → TaskState K → Remaining → Type 0
HoldsOfTask b (remaining.Splits left) = IsSound b (remaining.Splits left)
HoldsOfTask b (remaining.Runs s) = IsSound b (remaining.Runs s)
HoldsOfTask b (remaining.Finished v has_waited) = IsSound b (remaining.Finished v has_waited)
HoldsOfTask b (remaining.Ends ended) = HasOutcome b ended

-- after a step; where it waits; where it began a child
abbrev pub gone : {K : Type 0} → TaskState K → TaskState K
gone b = record b { advanced = true }

abbrev pub waiting : {K : Type 0} → TaskState K → TaskState K
waiting b = record b { waiting = true; advanced = true }

abbrev pub with_child : {K : Type 0} → TaskState K → Origin → Destination → TaskState K
with_child b o p = record b { links = links_with_child b.links o; trace = add_child o (destination_of p) b.trace; advanced = true }

-- the fault in the trace, or else this outcome
abbrev pub ended_by : Option Fault → Outcome → Outcome
ended_by (Some f) o = outcome.Fault f
ended_by None o = o
