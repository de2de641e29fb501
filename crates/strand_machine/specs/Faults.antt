-- A task that ends by a fault of its children.
use Rattle.std.specs.Prelude.{◌≡◌, Bool, true, false}
use Rattle.serial_meaning.specs.Answer.{AnswerTag, AnswerView}
use Rattle.serial_meaning.specs.declared.answer.Outcome.{Outcome}
use Rattle.serial_meaning.specs.declared.answer.Outcome.TheVariants as outcome
use Rattle.strand_meaning.specs.Laws.{IsFaultOf}
use Rattle.strand_machine.specs.Links.{GiveView, task_give}
use Rattle.strand_machine.specs.Tasks.{TaskView}

abbrev pub is_fault : Outcome → Bool
is_fault (outcome.Value v) = false
is_fault (outcome.Values vs) = false
is_fault (outcome.Fault f) = true
is_fault (outcome.Cut f) = false

-- The answer of a task that ended by a fault of its plan, and the give for it. That its events and its fault are the origin's is the
-- answer's own invariant.
pub record EndsByFault (t : TaskView) (answer : AnswerView) (by : GiveView AnswerTag) : Type 0 where
  pub plan : answer.plan ≡ t.task.plan
  pub origin : answer.origin ≡ t.task.origin
  pub give : by ≡ task_give t.task.plan t.task.origin t.joins
  pub fault : is_fault answer.outcome ≡ true
  pub known : IsFaultOf t.task.plan answer.outcome
