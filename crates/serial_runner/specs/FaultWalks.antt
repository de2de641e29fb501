-- The fault of its own by which an instance ends, with the place where it stood.
use Rattle.std.specs.Prelude.{◌≡◌, ◌<◌, false, List, [], Option, None}
use Rattle.serial_meaning.specs.Eval.{eval}
use Rattle.serial_meaning.specs.Plan.{PlanView}
use Rattle.serial_meaning.specs.declared.answer.Outcome.{Outcome}
use Rattle.serial_meaning.specs.declared.event.Event.{Event}
use Rattle.serial_meaning.specs.declared.origin.Origin.{Origin}
use Rattle.strand_meaning.specs.Left.{stops_left}
use Rattle.strand_meaning.specs.Rest.{evaluations}
use Rattle.strand_meaning.specs.Sound.{IsTask}
use Rattle.strand_meaning.specs.Task.{Task, start, Spawn, Wait, End, on}
use Rattle.strand_machine.specs.AwaitedChildren.{awaited}
use Rattle.strand_machine.specs.Placed.{Meets, latest}
use Rattle.strand_machine.specs.Links.{detached}
use Rattle.strand_machine.specs.Tasks.{fresh}
use Rattle.strand_machine.specs.declared.placed.PlacedFault.{PlacedFault}
use Rattle.serial_runner.specs.declared.fault_walk.FaultWalk.{FaultWalk}
use Rattle.serial_runner.specs.declared.fault_walk.FaultWalked.{FaultWalked}
use Rattle.serial_runner.specs.declared.fault_walk.FaultWalked.TheVariants.{Continues, Ends}

-- The fault of its instance's own that a task meets up to its end, where its children's answers are their evaluations.
pub data MeetsToEnd : Task → Option PlacedFault → Type 0 where
  AtEnd : {t : Task} {met : Option PlacedFault} (out : List Event) (ended : Outcome) → Meets t met (End out ended) → MeetsToEnd t met
  AfterSpawn : {t : Task} {met : Option PlacedFault} (child : Origin) (rest : Task) (here later : Option PlacedFault) → Meets t here (Spawn child rest) → MeetsToEnd rest later → met ≡ latest here later → MeetsToEnd t met
  AfterWait : {t : Task} {met : Option PlacedFault} (rest : Task) (here later : Option PlacedFault) → Meets t here (Wait rest) → MeetsToEnd (on (evaluations (eval rest.plan) rest.trace.unmerged) rest) later → met ≡ latest here later → MeetsToEnd t met

-- The same of an origin of the plan.
abbrev pub OriginMeets : PlanView → Origin → Option PlacedFault → Type 0
OriginMeets plan o met = MeetsToEnd (start plan o) met

abbrev pub origin_in : FaultWalk → Origin
origin_in w = w.task.task.origin

-- a walk before its first stop
abbrev pub begun_fault_walk : PlanView → Origin → FaultWalk
begun_fault_walk plan o = record { task = fresh plan o detached; awaited = []; met = None }

-- An origin's task on its way, the children whose answers it awaits, and the fault that it met so far.
pub record IsFaultWalk (plan : PlanView) (o : Origin) (w : FaultWalk) : Type 0 where
  pub task : IsTask w.task.task
  pub idle : w.task.task.waiting ≡ false
  pub goes_on : w.task.cut ≡ None
  pub plan_is : w.task.task.plan ≡ plan
  pub origin_is : origin_in w ≡ o
  pub awaits : w.awaited ≡ awaited w.task.task.trace.unmerged
  pub meets : (later : Option PlacedFault) → MeetsToEnd w.task.task later → OriginMeets plan o (latest w.met later)

-- One stop further: a walk with fewer stops left, or all that is met.
abbrev pub FaultWalksOn : PlanView → Origin → FaultWalk → FaultWalked → Type 0
FaultWalksOn plan o w (Continues next) = IsFaultWalk plan o next × (stops_left next.task.task < stops_left w.task.task)
FaultWalksOn plan o w (Ends met) = OriginMeets plan o met
