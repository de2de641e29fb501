-- A task that takes its children's answers.
use Rattle.std.specs.Prelude.{◌≡◌, ℕ, Bool, true, false, ◌||◌, Option, Some, None, List, [], ◌∷◌, Result, Ok, Err, length}
use Rattle.serial_meaning.specs.Answer.{AnswerTag, AnswerView, IsAnswer}
use Rattle.serial_meaning.specs.Eval.{Evaluation, eval}
use Rattle.serial_meaning.specs.Plan.{PlanView}
use Rattle.serial_meaning.specs.declared.answer.Outcome.{Outcome}
use Rattle.serial_meaning.specs.declared.answer.Outcome.TheVariants as outcome
use Rattle.serial_meaning.specs.declared.event.Event.{Event}
use Rattle.serial_meaning.specs.declared.event.Fault.{Fault}
use Rattle.serial_meaning.specs.declared.origin.Origin.{Origin}
use Rattle.serial_meaning.specs.declared.value.Value.{Value}
use Rattle.strand_meaning.specs.Answers.{answer_evaluations}
use Rattle.strand_meaning.specs.Cuts.{IsByFaultOf, ended_after}
use Rattle.strand_meaning.specs.Trace.{AwaitedChild, Trace, merged_answers}
use Rattle.strand_meaning.specs.Machine as machine
use Rattle.strand_meaning.specs.Found.{FindsDestination, functions_at, functions_left}
use Rattle.strand_meaning.specs.Sound.{IsTask}
use Rattle.strand_meaning.specs.Task as meaning
use Rattle.strand_meaning.specs.Task.{Splits, Runs, Finished, takes_all, all_values}
use Rattle.strand_machine.specs.Links.{LinksView}
use Rattle.strand_machine.specs.AwaitedChildren.{destination_of}
use Rattle.strand_machine.specs.Stops.{any_cut}
use Rattle.strand_machine.specs.Tasks.{TaskView, stage_of, remaining_of, task_of, StandsAt, RemainsAt}
use Rattle.strand_machine.specs.declared.task_state.TaskState.{TaskState}
use Rattle.strand_machine.specs.declared.merge.Merging.{Merging}
use Rattle.strand_machine.specs.declared.parts.Parts.{Parts}
use Rattle.strand_machine.specs.declared.trace.AfterChild.{AfterChild}
use Rattle.strand_machine.specs.declared.remaining.Stage.{Stage}
use Rattle.strand_machine.specs.declared.remaining.Remaining.{Remaining}

-- the values of an outcome, or its fault
abbrev pub result_of_outcome : Outcome → Result (List Value) Fault
result_of_outcome (outcome.Value v) = Ok (v ∷ [])
result_of_outcome (outcome.Values vs) = Ok vs
result_of_outcome (outcome.Fault f) = Err f
result_of_outcome (outcome.Cut f) = Err f

-- what remains, with the instance's stage changed where an instance remains
abbrev pub with_stage : (meaning.Stage → meaning.Stage) → meaning.Remaining → meaning.Remaining
with_stage change (Splits left) = Splits left
with_stage change (Runs stage) = Runs (change stage)
with_stage change (Finished v has_waited) = Finished v has_waited

-- An instance in a stage, or in what remains of a task, is one of the plan.
abbrev pub IsStageOfPlan : PlanView → Stage → Type 0
IsStageOfPlan plan stage = (path : List ℕ) × StandsAt plan path stage

abbrev pub IsRemainingOfPlan : PlanView → Remaining → Type 0
IsRemainingOfPlan plan remaining = (o : Origin) × RemainsAt plan o remaining

-- The variable that the value of a child with this destination goes to has a slot, in the instance of a stage and in that of what remains of a task.
abbrev pub StageFinds : PlanView → machine.Destination → meaning.Stage → Type 0
StageFinds plan destination stage = FindsDestination plan (functions_at stage) destination

abbrev pub RemainingFinds : PlanView → machine.Destination → meaning.Remaining → Type 0
RemainingFinds plan destination w = FindsDestination plan (functions_left w) destination

abbrev pub RemainingFindsAll : {K : Type 0} → PlanView → List (AfterChild K) → meaning.Remaining → Type 0
RemainingFindsAll plan [] w = Unit {0}
RemainingFindsAll plan (b ∷ bs) w = RemainingFinds plan (destination_of b.destination) w × RemainingFindsAll plan bs w

-- By its meaning the stage after this is the one before it with this change, and an instance in it is still one of the plan.
pub record BecomesStage (change : meaning.Stage → meaning.Stage) (before after : Stage) : Type 0 where
  pub is : (plan : PlanView) → stage_of plan after ≡ change (stage_of plan before)
  pub stands : (plan : PlanView) (path : List ℕ) → StandsAt plan path before → StandsAt plan path after

-- The same of what remains of a task.
pub record BecomesRemaining (change : meaning.Remaining → meaning.Remaining) (before after : Remaining) : Type 0 where
  pub is : (plan : PlanView) → remaining_of plan after ≡ change (remaining_of plan before)
  pub of_plan : (plan : PlanView) (o : Origin) → RemainsAt plan o before → RemainsAt plan o after

-- A task while it takes its children's answers: its own events, its values and what remains; whether one of the answers was a cut; and whether
-- the fault is one by which a child was cut.
pub record Merge : Type 0 where
  pub prefix : List Event
  pub fault : Option Fault
  pub values : List Value
  pub remaining : Remaining
  pub cut : Bool
  pub by_cut : Bool

abbrev pub merge_of : {K : Type 0} → Parts K → Merging → Merge
merge_of p h = record { prefix = p.state.trace.prefix; fault = p.state.trace.fault; values = p.state.values; remaining = p.remaining; cut = h.cut; by_cut = h.by_cut }

-- An answer changes nothing else, and none is awaited.
pub record KeepsRest {K : Type 0} (before after : Parts K) : Type 0 where
  pub state : after.state ≡ record before.state { trace = after.state.trace; values = after.state.values }
  pub unmerged : after.state.trace.unmerged ≡ []

abbrev pub trace_of : Merge → Trace
trace_of g = record { prefix = g.prefix; fault = g.fault; unmerged = [] }

-- A task took the answers of these children.
pub record IsMergeOf (parts : List AwaitedChild) (answers : List Evaluation) (before after : Merge) : Type 0 where
  pub trace : trace_of after ≡ merged_answers parts answers (trace_of before)
  pub values : after.values ≡ all_values parts answers before.values
  pub remaining : BecomesRemaining (with_stage (takes_all parts answers)) before.remaining after.remaining

-- the first fault or cut among the answers so far
abbrev pub end_of : Option Fault → Bool → Option Outcome
end_of None by_cut = None
end_of (Some f) false = Some (outcome.Fault f)
end_of (Some f) true = Some (outcome.Cut f)

abbrev pub ended_of : Merge → Option Outcome
ended_of g = end_of g.fault g.by_cut

-- each of these is an answer of its origin
abbrev pub AreAnswers : List AnswerView → Type 0
AreAnswers [] = Unit {0}
AreAnswers (a ∷ answers) = IsAnswer a.plan a.origin a.out a.outcome × AreAnswers answers

-- A task took these answers of these children.
pub record TakesAnswers (parts : List AwaitedChild) (answers : List AnswerView) (before after : Merge) : Type 0 where
  pub takes : IsMergeOf parts (answer_evaluations answers) before after
  pub ended : ended_of after ≡ ended_after (ended_of before) answers
  pub cut : after.cut ≡ (before.cut || any_cut answers)
  pub said : AreAnswers answers

-- How a task that took a cut ends.
pub record EndsShort (links : LinksView) (g : Merge) : Type 0 where
  pub outcome : Outcome
  pub ended : ended_of g ≡ Some outcome
  pub answers : IsAnswer links.plan links.origin g.prefix outcome
  pub known : IsByFaultOf links.plan outcome

-- what is left of a task that took a cut
pub record IsShort (links : LinksView) (g : Merge) (was_advanced : Bool) (next : TaskView) : Type 0 where
  pub plan : next.task.plan ≡ links.plan
  pub origin : next.task.origin ≡ links.origin
  pub prefix : next.task.trace.prefix ≡ g.prefix
  pub unmerged : next.task.trace.unmerged ≡ []
  pub waits : next.task.waiting ≡ false
  pub advanced : next.task.advanced ≡ was_advanced
  pub cut : next.cut ≡ ended_of g
  pub children : next.children ≡ links.children
  pub loads : next.loads ≡ links.loads
  pub joins : next.joins ≡ links.joins

-- what origins give by the serial meaning
abbrev pub meanings : List AnswerTag → List Evaluation
meanings [] = []
meanings (t ∷ ts) = eval t.plan t.origin ∷ meanings ts

-- What holds of a task whose children's answers are at hand: those of all children that it began were taken from its join.
pub record HasTakenAnswers {K : Type 0} (b : TaskState K) (w : Remaining) : Type 0 where
  pub task : IsTask (task_of b w)
  pub taken : length b.links.taken ≡ length b.links.children
  pub of_plan : RemainsAt b.links.plan b.links.origin w
