-- What the code makes of a task in place: moves in a row, a stop, or a look.
use Rattle.std.specs.Prelude.{◌≡◌, ◌≤◌, ◌-◌, Bool, true, false, [], Some, None}
use Rattle.dotmix.specs.declared.trail.Trail.{Trail}
use Rattle.loop_range.specs.Range.{Range, lower_half, upper_half}
use Rattle.serial_meaning.specs.Answer.{AnswerTag, AnswerView, IsAnswer}
use Rattle.serial_meaning.specs.declared.answer.Outcome.{Outcome}
use Rattle.serial_meaning.specs.declared.answer.Outcome.TheVariants as outcome
use Rattle.serial_meaning.specs.declared.origin.Origin.{Origin}
use Rattle.strand_meaning.specs.Cuts.{IsByFaultOf}
use Rattle.strand_meaning.specs.Left.{moves_left}
use Rattle.strand_meaning.specs.Task as meaning
use Rattle.strand_meaning.specs.Task.{IsNext}
use Rattle.strand_machine.specs.Links.{AreJoinNames, GiveView, JoinNames, task_give}
use Rattle.strand_machine.specs.Stops.{IsStep, IsStop}
use Rattle.strand_machine.specs.Tasks.{TaskView, IsSound, ended_by, fresh, view_of, with_child}
use Rattle.strand_machine.specs.declared.destination.Destination.{Destination}
use Rattle.strand_machine.specs.declared.remaining.Left.{Left}
use Rattle.strand_machine.specs.declared.remaining.Remaining.{Remaining}
use Rattle.strand_machine.specs.declared.remaining.Remaining.TheVariants as remaining
use Rattle.strand_machine.specs.declared.task_state.TaskState.{TaskState}
use Rattle.strand_machine.specs.declared.parts.Parts.{Parts}
use Rattle.strand_machine.specs.declared.stop.Passed.{Passed}
use Rattle.strand_machine.specs.declared.stop.Passed.TheVariants as passed
use Rattle.strand_machine.specs.declared.stop.Paused.{Paused}
use Rattle.strand_machine.specs.declared.stop.Paused.TheVariants as paused
use Rattle.strand_machine.specs.declared.stop.Resumed.{Resumed}
use Rattle.strand_machine.specs.declared.stop.Resumed.TheVariants as resumed
use Rattle.strand_machine.specs.MoveOrStop.{MoveOrStop}
use Rattle.strand_machine.specs.MoveOrStop as step
use Rattle.strand_machine.specs.declared.stop.Stop.TheVariants as stop

-- Moves in a row lead from the first task to this one: its next stop is the first one's next stop, and it has the same origin and the same
-- children.
pub record LeadsTo (first now : TaskView) : Type 0 where
  pub next : (stop : meaning.Stop) → IsNext now.task stop → IsNext first.task stop
  pub fewer : moves_left now.task ≤ moves_left first.task
  pub plan : now.task.plan ≡ first.task.plan
  pub origin : now.task.origin ≡ first.task.origin
  pub children : now.children ≡ first.children
  pub loads : now.loads ≡ first.loads
  pub joins : now.joins ≡ first.joins
  pub cut : now.cut ≡ None

-- Moves of a task in a row, and the next move or stop after them.
pub record IsRun {K : Type 0} (t : TaskView) (s : MoveOrStop K) : Type 0 where
  pub before : TaskView
  pub leads : LeadsTo t before
  pub step : IsStep before s

-- An instance that goes on makes moves in a row. Else it is one move or stop.
abbrev pub stage_goes_on : {K : Type 0} → meaning.Stage → TaskView → MoveOrStop K → Type 0
stage_goes_on (meaning.Running m) = IsRun
stage_goes_on _ = IsStep

abbrev pub remaining_goes_on : {K : Type 0} → meaning.Remaining → TaskView → MoveOrStop K → Type 0
remaining_goes_on (meaning.Runs stage) = stage_goes_on stage
remaining_goes_on _ = IsStep

abbrev pub StepsOn : {K : Type 0} → TaskView → MoveOrStop K → Type 0
StepsOn t = remaining_goes_on t.task.remaining t

-- a task may end by the fault in its trace, or else by this outcome
abbrev pub CanEnd : {K : Type 0} → TaskState K → Outcome → Type 0
CanEnd b o = IsAnswer b.links.plan b.links.origin b.trace.prefix (ended_by b.trace.fault o)

-- the stop of a task that has ended by this outcome
abbrev pub done_by : {K : Type 0} → TaskState K → Outcome → MoveOrStop K
done_by b o = step.Stops (stop.Done (record { plan = b.links.plan; origin = b.links.origin; out = b.trace.prefix; outcome = o }) (task_give b.links.plan b.links.origin b.links.joins))

abbrev pub ended_move : {K : Type 0} → TaskState K → Outcome → MoveOrStop K
ended_move b o = done_by b (ended_by b.trace.fault o)

-- the outcome that is left of a task that has ended
abbrev pub outcome_left : Remaining → Outcome
outcome_left (remaining.Ends o) = o
outcome_left _ = outcome.Values []

-- A task has ended by what is left of it, an outcome of its origin.
pub record LeavesOutcome {K : Type 0} (p : Parts K) : Type 0 where
  pub is : p.remaining ≡ remaining.Ends (outcome_left p.remaining)
  pub answers : IsAnswer p.state.links.plan p.state.links.origin p.state.trace.prefix (outcome_left p.remaining)
  pub waits : p.state.waiting ≡ false

-- A stop that begins a new child of this origin, whose give is of the task's own join. Of the task this remains.
abbrev pub IsSpawn : {K : Type 0} → TaskState K → Origin → Destination → Remaining → MoveOrStop K → Type 0
IsSpawn b o at w s = (joins : JoinNames) × AreJoinNames b.links.joins.own joins × (s ≡ step.Stops (stop.Spawn (fresh b.links.plan o joins) (view_of (with_child b o at) w)))

-- Of a loop's iterations the lower half was taken out, with the trail of the loop's strand. The upper half is left.
pub record IsHalved (before after : Remaining) (lower : Range) (trail : Trail) : Type 0 where
  pub left : Left
  pub splits : before ≡ remaining.Splits left
  pub many : 2 ≤ left.range.hi - left.range.lo
  pub lower_is : lower ≡ lower_half left.range
  pub upper_is : after ≡ remaining.Splits (record { range = upper_half left.range; trail = left.trail })
  pub trail_is : trail ≡ left.trail

-- The move or stop that came to this, and left the task's parts so.
abbrev pub made : {K : Type 0} → Parts K → Passed K → MoveOrStop K
made p passed.Continues = step.Passes (view_of p.state p.remaining)
made p passed.Waits = step.Stops (stop.Wait (view_of p.state p.remaining))
made p (passed.Spawned child) = step.Stops (stop.Spawn child (view_of p.state p.remaining))
made p passed.Ends = done_by p.state (outcome_left p.remaining)

-- What holds of the parts then: what remains is sound, or the task has ended by it.
abbrev pub IsSoundMade : {K : Type 0} → Parts K → Passed K → Type 0
IsSoundMade p passed.Continues = IsSound p.state p.remaining
IsSoundMade p passed.Waits = IsSound p.state p.remaining
IsSoundMade p (passed.Spawned child) = IsSound p.state p.remaining
IsSoundMade p passed.Ends = LeavesOutcome p

-- The task doesn't go on by itself.
abbrev pub IsStopped : {K : Type 0} → Passed K → Type 0
IsStopped passed.Continues = ⊥
IsStopped passed.Waits = Unit {0}
IsStopped (passed.Spawned child) = Unit {0}
IsStopped passed.Ends = Unit {0}

-- A fault by which the task ended is one of its plan's.
abbrev pub KnowsEnd : {K : Type 0} → Parts K → Passed K → Type 0
KnowsEnd p passed.Continues = Unit {0}
KnowsEnd p passed.Waits = Unit {0}
KnowsEnd p (passed.Spawned child) = Unit {0}
KnowsEnd p passed.Ends = IsByFaultOf p.state.links.plan (outcome_left p.remaining)

-- The task has ended, and still has this answer and this give.
abbrev pub KeepsAnswer : {K : Type 0} → AnswerView → GiveView AnswerTag → Paused K → Type 0
KeepsAnswer answer give (paused.Spawn child rest) = ⊥
KeepsAnswer answer give (paused.Wait rest) = ⊥
KeepsAnswer answer give (paused.Ended rest) =
    (rest.task.plan ≡ answer.plan) × (rest.task.origin ≡ answer.origin) × (rest.task.trace.prefix ≡ answer.out) × (rest.cut ≡ Some answer.outcome) × (rest.joins.parents ≡ give.join)

-- It is this stop.
abbrev pub PausesAs : {K : Type 0} → MoveOrStop K → Paused K → Type 0
PausesAs (step.Passes next) p = ⊥
PausesAs (step.Stops (stop.Spawn child rest)) p = p ≡ paused.Spawn child rest
PausesAs (step.Stops (stop.Wait rest)) p = p ≡ paused.Wait rest
PausesAs (step.Stops (stop.Done answer give)) p = KeepsAnswer answer give p

-- It is a stop, the task's next one.
abbrev pub StopsSo : {K : Type 0} → TaskView → MoveOrStop K → Type 0
StopsSo t (step.Passes next) = ⊥
StopsSo t (step.Stops stop) = IsStop t stop

-- What became of a wait, by whether all children have answered.
abbrev pub resumed_as : {K : Type 0} → Bool → TaskView → Resumed K
resumed_as true next = resumed.On next
resumed_as false same = resumed.NotYet same
