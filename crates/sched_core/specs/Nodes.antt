-- How an event changes the origins that were begun.
use Rattle.std.specs.Prelude.{◌≡◌, ℕ, ◌+◌, ◌-◌, List, [], ◌∷◌, ◌++◌, Option, Some, None, length, slice_get, slice_set}
use Rattle.serial_meaning.specs.Answer.{AnswerView}
use Rattle.serial_meaning.specs.declared.origin.Origin.{Origin}
use Rattle.sched_core.specs.declared.node.NodeChild.{NodeChild}
use Rattle.sched_core.specs.declared.node.Link.{Link}
use Rattle.sched_core.specs.declared.node.SpawnNode.{SpawnNode}

-- an origin that awaits no children
abbrev pub new_node : Origin → Option Link → SpawnNode
new_node o link = record { origin = o; link = link; children = []; unanswered = 0 }

-- the node with one more child to await
abbrev pub awaiting : ℕ → SpawnNode → SpawnNode
awaiting number n = record n { children = n.children ++ record { number = number; answer = None } ∷ []; unanswered = n.unanswered + 1 }

-- the node once this child has answered
abbrev pub child_answered : ℕ → NodeChild → AnswerView → SpawnNode → SpawnNode
child_answered place child answer n = record n { children = slice_set n.children place (record child { answer = Some answer }); unanswered = n.unanswered - 1 }

-- the node once its task has taken the answers
abbrev pub without_children : SpawnNode → SpawnNode
without_children n = record n { children = [] }

abbrev pub missing_one : Option AnswerView → ℕ
missing_one None = 1
missing_one (Some a) = 0

-- how many children have no answer
abbrev pub missing : List NodeChild → ℕ
missing [] = 0
missing (c ∷ cs) = missing_one c.answer + missing cs

abbrev pub and_answer : Option AnswerView → List AnswerView → List AnswerView
and_answer None answers = answers
and_answer (Some a) answers = a ∷ answers

-- the answers that are there, in order
abbrev pub answers_in : List NodeChild → List AnswerView
answers_in [] = []
answers_in (c ∷ cs) = and_answer c.answer (answers_in cs)

-- The node with this number changes like this, and no other does.
pub record NodeChanges (n : ℕ) (R : SpawnNode → SpawnNode → Type 0) (nodes next : List SpawnNode) : Type 0 where
  pub node : SpawnNode
  pub after : SpawnNode
  pub there : slice_get nodes n ≡ Some node
  pub does : R node after
  pub next_is : next ≡ slice_set nodes n after

-- A child of this origin is begun.
pub record BeginsChild (parent : ℕ) (o : Origin) (nodes next : List SpawnNode) : Type 0 where
  pub node : SpawnNode
  pub there : slice_get nodes parent ≡ Some node
  pub next_is : next ≡ slice_set nodes parent (awaiting (length nodes) node) ++ new_node o (Some (record { parent = parent; place = length node.children })) ∷ []

-- The child at this index has answered.
pub record ChildAnswers (place : ℕ) (answer : AnswerView) (n next : SpawnNode) : Type 0 where
  pub child : NodeChild
  pub there : slice_get n.children place ≡ Some child
  pub next_is : next ≡ child_answered place child answer n
