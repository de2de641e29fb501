-- How an event changes the fields of a core.
use Rattle.std.specs.Prelude.{◌≡◌, ◌<◌, ◌≤◌, ℕ, true, List, [], ◌∷◌, ◌++◌, Option, Some, None, length, slice_get, slice_set, remove}
use Rattle.serial_meaning.specs.Answer.{AnswerView}
use Rattle.serial_meaning.specs.declared.keep.All.{All}
use Rattle.strand_machine.specs.Tasks.{TaskView}
use Rattle.strand_machine.specs.Links.{tags}
use Rattle.strand_machine.specs.AwaitedChildren.{awaited}
use Rattle.strand_machine.specs.Stops.{IsResumedWith, answer_tags}
use Rattle.strand_machine.specs.declared.stop.Stop.{Stop}
use Rattle.strand_machine.specs.declared.stop.Stop.TheVariants as stop
use Rattle.sched_core.specs.Nodes.{BeginsChild, ChildAnswers, NodeChanges, answers_in, missing, without_children}
use Rattle.sched_core.specs.Workers.{WorkerView}
use Rattle.sched_core.specs.declared.job.Job.{Job}
use Rattle.sched_core.specs.declared.node.Link.{Link}
use Rattle.sched_core.specs.declared.node.SpawnNode.{SpawnNode}
use Rattle.sched_core.specs.declared.state.CoreState.{CoreState}

abbrev pub job : TaskView → ℕ → Job
job t n = record { task = t; number = n }

-- Workers

abbrev pub SwitchesToChild : Job → Job → WorkerView → WorkerView → Type 0
SwitchesToChild child rest w next = next ≡ record w { current = Some child; deque = w.deque ++ rest ∷ [] }

abbrev pub Stalls : Job → WorkerView → WorkerView → Type 0
Stalls rest w next = next ≡ record w { stalled = w.stalled ++ rest ∷ [] }

-- the current task is taken out
abbrev pub TakesCurrent : Job → WorkerView → WorkerView → Type 0
TakesCurrent j w next = (w.current ≡ Some j) × (next ≡ record w { current = None })

abbrev pub PopsBack : Job → WorkerView → WorkerView → Type 0
PopsBack j w next = (w.deque ≡ next.deque ++ j ∷ []) × (next ≡ record w { deque = next.deque })

abbrev pub PopsFront : Job → WorkerView → WorkerView → Type 0
PopsFront j w next = (w.deque ≡ j ∷ next.deque) × (next ≡ record w { deque = next.deque })

abbrev pub SetsCurrent : Job → WorkerView → WorkerView → Type 0
SetsCurrent j w next = next ≡ record w { current = Some j }

-- the task at this index is stalled no more
abbrev pub TakesStalled : ℕ → Job → WorkerView → WorkerView → Type 0
TakesStalled place j w next = (slice_get w.stalled place ≡ Some j) × (next ≡ record w { stalled = remove w.stalled place })

-- The worker with this number changes like this, and no other does.
pub record WorkerChanges (n : ℕ) (R : WorkerView → WorkerView → Type 0) (ws next : List WorkerView) : Type 0 where
  pub worker : WorkerView
  pub after : WorkerView
  pub there : slice_get ws n ≡ Some worker
  pub does : R worker after
  pub next_is : next ≡ slice_set ws n after

-- Stops

abbrev pub AnswerGoes : Option Link → AnswerView → CoreState → CoreState → Type 0
AnswerGoes None answer s next = (next.root ≡ Some answer) × (next.nodes.items ≡ s.nodes.items)
AnswerGoes (Some l) answer s next = (next.root ≡ s.root) × NodeChanges l.parent (ChildAnswers l.place answer) s.nodes.items next.nodes.items

-- An answer goes to the node of this link, or is main's.
pub record DeliversAnswer (link : Option Link) (answer : AnswerView) (s next : CoreState) : Type 0 where
  pub goes : AnswerGoes link answer s next
  pub given : next.given ≡ s.given
  pub plan : next.plan ≡ s.plan
  pub workers : next.workers.items ≡ s.workers.items
  pub runs : next.runs ≡ s.runs

-- The answer of the origin with this number goes to its parent, or is main's.
pub record PutsAnswer (number : ℕ) (answer : AnswerView) (s next : CoreState) : Type 0 where
  pub node : SpawnNode
  pub there : slice_get s.nodes.items number ≡ Some node
  pub goes : AnswerGoes node.link answer s next
  pub given : next.given ≡ s.given ++ answer.origin ∷ []
  pub plan : next.plan ≡ s.plan
  pub workers : next.workers.items ≡ s.workers.items
  pub runs : next.runs ≡ s.runs

-- A child of the task with this number is begun, and becomes current.
pub record BeginsTask (w number : ℕ) (child rest : TaskView) (s next : CoreState) : Type 0 where
  pub begun : ℕ
  pub nodes : BeginsChild number child.task.origin s.nodes.items next.nodes.items
  pub workers : WorkerChanges w (SwitchesToChild (job child begun) (job rest number)) s.workers.items next.workers.items
  pub begun_is : begun ≡ length s.nodes.items
  pub plan : next.plan ≡ s.plan
  pub given : next.given ≡ s.given
  pub root : next.root ≡ s.root
  pub runs : next.runs ≡ s.runs

pub record StallsTask (w : ℕ) (rest : Job) (s next : CoreState) : Type 0 where
  pub workers : WorkerChanges w (Stalls rest) s.workers.items next.workers.items
  pub nodes : next.nodes.items ≡ s.nodes.items
  pub plan : next.plan ≡ s.plan
  pub given : next.given ≡ s.given
  pub root : next.root ≡ s.root
  pub runs : next.runs ≡ s.runs

-- What a stop does, of a task that was taken from its worker.
abbrev pub StopsAt : ℕ → ℕ → Stop All → CoreState → CoreState → Type 0
StopsAt w number (stop.Spawn child rest) s next = BeginsTask w number child rest s next
StopsAt w number (stop.Wait rest) s next = StallsTask w (job rest number) s next
StopsAt w number (stop.Done answer give) s next = PutsAnswer number answer s next

-- A task takes the answers of its children, all of which have answered.
pub record TakesAnswers (j : Job) (answers : List AnswerView) (next : Job) : Type 0 where
  pub task : IsResumedWith answers j.task next.task
  pub number : next.number ≡ j.number

-- What a stop of a task of this number needs

-- a node that still awaits the answer of the child at this index
pub record CanAnswerAt (nodes : List SpawnNode) (l : Link) : Type 0 where
  pub parent : SpawnNode
  pub there : slice_get nodes l.parent ≡ Some parent
  pub place : l.place < length parent.children
  pub unanswered : 0 < parent.unanswered

abbrev pub CanAnswer : List SpawnNode → Option Link → Type 0
CanAnswer nodes None = Unit {0}
CanAnswer nodes (Some l) = CanAnswerAt nodes l

pub record CanStop (w number : ℕ) (s : CoreState) : Type 0 where
  pub worker : w < length s.workers.items
  pub node : SpawnNode
  pub there : slice_get s.nodes.items number ≡ Some node
  pub within : node.unanswered ≤ length node.children
  pub parent_awaits : CanAnswer s.nodes.items node.link

-- What a task needs to continue

pub record CanResume (nodes : List SpawnNode) (j : Job) : Type 0 where
  pub node : SpawnNode
  pub there : slice_get nodes j.number ≡ Some node
  pub answered : missing node.children ≡ 0
  pub waits : j.task.task.waiting ≡ true
  pub tags : answer_tags (answers_in node.children) ≡ tags j.task.task.plan (awaited j.task.task.trace.unmerged)

-- A task continued with the answers of its children, which its node gave up.
pub record Resumes (j next : Job) (nodes after : List SpawnNode) : Type 0 where
  pub node : SpawnNode
  pub there : slice_get nodes j.number ≡ Some node
  pub takes : TakesAnswers j (answers_in node.children) next
  pub after_is : after ≡ slice_set nodes j.number (without_children node)
