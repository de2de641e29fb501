-- The invariant of a core, and how its steps change it.
use Rattle.std.specs.Prelude.{◌≡◌, ℕ, Bool, true, false, List, [], ◌∷◌, Option, Some, None, IfSome, Contains, slice_get}
use Rattle.script_check.specs.Valid.{IsValid}
use Rattle.serial_meaning.specs.Answer.{AnswerView}
use Rattle.serial_meaning.specs.Eval.{main_origin}
use Rattle.serial_meaning.specs.Plan.{PlanView}
use Rattle.serial_meaning.specs.declared.origin.Origin.{Origin}
use Rattle.strand_machine.specs.AwaitedChildren.{awaited}
use Rattle.strand_meaning.specs.Laws.{IsFaultOf}
use Rattle.sched_meaning.specs.Core as machine
use Rattle.sched_meaning.specs.Steps.{Step, Leads}
use Rattle.sched_meaning.specs.declared.event.CoreEvent.{CoreEvent}
use Rattle.sched_core.specs.Cores.{core_of, origins_of, plan_of, task_in}
use Rattle.sched_core.specs.Nodes.{missing}
use Rattle.sched_core.specs.Workers.{WorkerView}
use Rattle.sched_core.specs.declared.node.NodeChild.{NodeChild}
use Rattle.sched_core.specs.declared.node.Link.{Link}
use Rattle.sched_core.specs.declared.node.SpawnNode.{SpawnNode}
use Rattle.sched_core.specs.declared.state.CoreState.{CoreState}
use Rattle.sched_core.specs.declared.job.Job.{Job}

abbrev pub Everywhere : {A : Type 0} → (A → Type 0) → List A → Type 0
Everywhere P xs = (k : ℕ) (x : _) → slice_get xs k ≡ Some x → P x

-- Jobs

-- these are the origins of the children, in order
abbrev pub Awaits : List Origin → List NodeChild → List Origin → Type 0
Awaits begun [] [] = Unit {0}
Awaits begun [] (o ∷ os) = ⊥
Awaits begun (c ∷ cs) [] = ⊥
Awaits begun (c ∷ cs) (o ∷ os) = (slice_get begun c.number ≡ Some o) × Awaits begun cs os

-- A job has the number of its task's origin, and the task awaits the children of that node.
pub record IsJob (nodes : List SpawnNode) (j : Job) : Type 0 where
  pub node : SpawnNode
  pub there : slice_get nodes j.number ≡ Some node
  pub origin : node.origin ≡ (task_in j).origin
  pub awaits : Awaits (origins_of nodes) node.children (awaited (task_in j).trace.unmerged)
  pub uncut : j.task.cut ≡ None

pub record AreJobs (nodes : List SpawnNode) (w : WorkerView) : Type 0 where
  pub current : IfSome w.current (IsJob nodes)
  pub deque : Everywhere (IsJob nodes) w.deque
  pub stalled : Everywhere (IsJob nodes) w.stalled

-- Nodes

-- an answer of this origin, which was given, and whose fault, if any, is the plan's
pub record IsGiven (plan : PlanView) (given : List Origin) (o : Origin) (a : AnswerView) : Type 0 where
  pub plan_is : a.plan ≡ plan
  pub origin : a.origin ≡ o
  pub known : IsFaultOf plan a.outcome
  pub there : Contains given o

-- an answer of this origin is kept exactly if it was given
abbrev pub IsAnsweredBy : PlanView → List Origin → Origin → Option AnswerView → Type 0
IsAnsweredBy plan given o None = Contains given o → ⊥
IsAnsweredBy plan given o (Some a) = IsGiven plan given o a

-- a child knows its index at its parent
pub record IsChild (plan : PlanView) (given : List Origin) (nodes : List SpawnNode) (n place : ℕ) (child : NodeChild) : Type 0 where
  pub node : SpawnNode
  pub there : slice_get nodes child.number ≡ Some node
  pub link : node.link ≡ Some (record { parent = n; place = place })
  pub answer_given : IsAnsweredBy plan given node.origin child.answer

-- its parent awaits it at that index
pub record IsAwaited (nodes : List SpawnNode) (n : ℕ) (l : Link) : Type 0 where
  pub parent : SpawnNode
  pub child : NodeChild
  pub there : slice_get nodes l.parent ≡ Some parent
  pub at : slice_get parent.children l.place ≡ Some child
  pub number : child.number ≡ n

-- what holds of an unanswered origin's parent
abbrev pub IsLinked : List SpawnNode → ℕ → Option Link → Type 0
IsLinked nodes n None = n ≡ 0
IsLinked nodes n (Some l) = IsAwaited nodes n l

pub record IsNode (plan : PlanView) (given : List Origin) (nodes : List SpawnNode) (n : ℕ) (node : SpawnNode) : Type 0 where
  pub unanswered : node.unanswered ≡ missing node.children
  pub children : (place : ℕ) (child : NodeChild) → slice_get node.children place ≡ Some child → IsChild plan given nodes n place child
  pub link : (Contains given node.origin → ⊥) → IsLinked nodes n node.link
  pub first : n ≡ 0 → node.link ≡ None

-- A core

-- Events lead to it from a new core.
pub record IsLed (plan : PlanView) (c : machine.Core) : Type 0 where
  pub workers : ℕ
  pub events : List CoreEvent
  pub leads : Leads plan workers events c

abbrev pub AreWorkers : List SpawnNode → List WorkerView → Type 0
AreWorkers nodes ws = Everywhere (AreJobs nodes) ws

abbrev pub AreNodes : PlanView → List Origin → List SpawnNode → Type 0
AreNodes plan given nodes = (n : ℕ) (node : SpawnNode) → slice_get nodes n ≡ Some node → IsNode plan given nodes n node

pub record IsConsistent (s : CoreState) : Type 0 where
  pub valid : IsValid (plan_of s).script
  pub led : IsLed (plan_of s) (core_of false s)
  pub workers : AreWorkers s.nodes.items s.workers.items
  pub nodes : AreNodes (plan_of s) s.given s.nodes.items
  pub root : IsAnsweredBy (plan_of s) s.given (main_origin (plan_of s)) s.root

-- One step.
pub record StepsTo (e : CoreEvent) (s next : CoreState) : Type 0 where
  pub step : Step e (core_of false s) (core_of false next)
  pub consistent : IsConsistent next

-- The invariant of a core, unless a step ran out of memory.
abbrev pub HoldsOfCore : Bool → CoreState → Type 0
HoldsOfCore false s = IsConsistent s
HoldsOfCore true s = Unit {0}
