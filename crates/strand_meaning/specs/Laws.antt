-- Laws of tasks. Each is the contract of a function of the module `laws`.
use Rattle.std.specs.Prelude.{◌≡◌, ◌<◌, ◌≤◌, ◌+◌, ℕ, true, false, List, Option, Result, Ok, Err, Contains, length}
use Rattle.script_grammar.specs.declared.tree.Name.{Name}
use Rattle.serial_meaning.specs.Runs.{Run}
use Rattle.script_check.specs.Valid.{IsValid}
use Rattle.serial_meaning.specs.Plan.{PlanView}
use Rattle.serial_meaning.specs.Eval.{eval}
use Rattle.serial_meaning.specs.Open.{faults}
use Rattle.serial_meaning.specs.Laws.{IsOriginOf}
use Rattle.serial_meaning.specs.Answer.{IsEval}
use Rattle.serial_meaning.specs.declared.value.Value.{Value}
use Rattle.serial_meaning.specs.declared.event.Event.{Event}
use Rattle.serial_meaning.specs.declared.event.Fault.{Fault}
use Rattle.serial_meaning.specs.declared.origin.Origin.{Origin}
use Rattle.serial_meaning.specs.declared.origin.Origin.TheVariants.{Instance, Loop}
use Rattle.serial_meaning.specs.declared.answer.Outcome.{Outcome}
use Rattle.serial_meaning.specs.declared.answer.Outcome.TheVariants as outcome
use Rattle.strand_meaning.specs.Answers.{evaluation_of}
use Rattle.strand_meaning.specs.Clear.{IsClearPlan}
use Rattle.strand_meaning.specs.Machine.{Spawned, Effect, Machine, Reached, Stands, Gives, move}
use Rattle.strand_meaning.specs.Trace.{AwaitedChild}
use Rattle.strand_meaning.specs.Task.{Running, changed, frame_with_answer, Task, Stop, Spawn, Wait, End, MoveOrStop, Passes, Stops, start, step, IsNext, on}
use Rattle.strand_meaning.specs.Rest.{evaluations}
use Rattle.strand_meaning.specs.Left.{stops_left, moves_left}
use Rattle.strand_meaning.specs.Observation.{IsInstanceOrigin, Observation, no_observation, also, Shows, IsOnWay, OnWay}
use Rattle.strand_meaning.specs.Sound.{IsSoundStage, UnfilledArePendingIn, IsTask}

-- No function of a valid script touches a pending variable.
abbrev pub ValidPlansAreClear : Type 0
ValidPlansAreClear = (plan : PlanView) → IsValid plan.script → IsClearPlan plan

-- A new task satisfies the invariant: of an origin of the plan, where no function touches a pending variable.
abbrev pub TasksBegin : Type 0
TasksBegin = (plan : PlanView) (o : Origin) → IsOriginOf plan o → IsClearPlan plan → IsTask (start plan o)

abbrev pub IsFaultOf : PlanView → Outcome → Type 0
IsFaultOf plan (outcome.Value v) = Unit {0}
IsFaultOf plan (outcome.Values vs) = Unit {0}
IsFaultOf plan (outcome.Fault f) = Contains (faults plan) f
IsFaultOf plan (outcome.Cut f) = ⊥

-- what a stop returns satisfies the invariant, and an end is the origin's evaluation
abbrev pub IsSoundStop : Task → Stop → Type 0
IsSoundStop t (Spawn child rest) = IsOriginOf t.plan child × IsTask rest
IsSoundStop t (Wait rest) = IsTask rest
IsSoundStop t (End out ended) = IsEval t.plan t.origin out ended × IsFaultOf t.plan ended

abbrev pub IsSoundStep : Task → MoveOrStop → Type 0
IsSoundStep t (Passes next) = IsTask next
IsSoundStep t (Stops stop) = IsSoundStop t stop

-- A move or stop keeps the invariant.
abbrev pub StepsAreSound : Type 0
StepsAreSound = (t : Task) → IsTask t → IsSoundStep t (step t)

abbrev pub StopsAreSound : Type 0
StopsAreSound = (t : Task) (stop : Stop) → IsTask t → IsNext t stop → IsSoundStop t stop

-- A task that takes its children's evaluations as their answers keeps the invariant.
abbrev pub AnswersKeepTasks : Type 0
AnswersKeepTasks = (t : Task) → IsTask t → IsTask (on (evaluations (eval t.plan) t.trace.unmerged) t)

abbrev pub on_reached : (Machine → Machine) → Result Reached Fault → Result Reached Fault
on_reached change (Ok (Stands m)) = Ok (Stands (change m))
on_reached change (Ok (Gives v)) = Ok (Gives v)
on_reached change (Err f) = Err f

-- a move's run, with the machine that it leaves changed
abbrev pub changed_run : (Machine → Machine) → Run Effect Fault Reached → Run Effect Fault Reached
changed_run change r = record { items = r.items; ending = on_reached change r.ending }

-- A child's value or fault may be put in before a move or after it, with the same effects: no move reads or writes an unfilled
-- variable.
abbrev pub MovesLeaveUnfilledAlone : Type 0
MovesLeaveUnfilledAlone =
    (plan : PlanView) (path : List ℕ) (awaiting : List AwaitedChild) (m : Machine) (p : AwaitedChild) (owner : ℕ) (target : Option Name) (ended : Result (List Value) Fault) →
    IsSoundStage plan awaiting (Running m) → Contains awaiting p → p.destination ≡ Spawned owner target →
    move plan path (changed owner (frame_with_answer target ended) m) ≡ changed_run (changed owner (frame_with_answer target ended)) (move plan path m)

-- The unfilled variables of each frame of a task are in the set with which validity judges the statement that the frame is at; at
-- an implied sync, and at the `return` that implies it, in the set that validity has after the statements before it.
abbrev pub UnfilledIsPending : Type 0
UnfilledIsPending = (t : Task) → IsTask t → UnfilledArePendingIn t.plan t.trace.unmerged t.remaining

-- a task of the same plan and origin
abbrev pub IsSameTask : Task → Task → Type 0
IsSameTask t other = (other.plan ≡ t.plan) × (other.origin ≡ t.origin)

abbrev pub KeepsOrigin : Task → Stop → Type 0
KeepsOrigin t (Spawn child rest) = IsSameTask t rest
KeepsOrigin t (Wait rest) = IsSameTask t rest
KeepsOrigin t (End out ended) = Unit {0}

-- fewer stops are left after this one
abbrev pub LeavesFewer : Task → Stop → Type 0
LeavesFewer t (Spawn child rest) = (stops_left rest < stops_left t) × (rest.waiting ≡ false)
LeavesFewer t (Wait rest) = (stops_left rest < stops_left t) × (rest.waiting ≡ true)
LeavesFewer t (End out ended) = Unit {0}

-- Each stop of a task that isn't waiting leaves fewer stops.
abbrev pub StopsFall : Type 0
StopsFall = (t : Task) (stop : Stop) → IsTask t → t.waiting ≡ false → IsNext t stop → LeavesFewer t stop

-- An answer with the events and the outcome of an origin's evaluation is taken as that evaluation.
abbrev pub AnswersAreEvaluations : Type 0
AnswersAreEvaluations = (plan : PlanView) (o : Origin) (out : List Event) (ended : Outcome) → IsEval plan o out ended → evaluation_of out ended ≡ eval plan o

-- Answers leave no more stops than the wait did.
abbrev pub AnswersLeaveNoMore : Type 0
AnswersLeaveNoMore = (t : Task) → IsTask t → t.waiting ≡ true → stops_left (on (evaluations (eval t.plan) t.trace.unmerged) t) ≤ stops_left t

-- The rest of a task at a stop has its plan and its origin.
abbrev pub StopsKeepOrigins : Type 0
StopsKeepOrigins = (t : Task) (stop : Stop) → IsNext t stop → KeepsOrigin t stop

-- There is only one next stop.
abbrev pub StopsAreUnique : Type 0
StopsAreUnique = (t : Task) (stop other : Stop) → IsNext t stop → IsNext t other → stop ≡ other

abbrev pub StopsExist : Type 0
StopsExist = (t : Task) → (stop : Stop) × IsNext t stop

-- Each move leaves fewer moves before the next stop.
abbrev pub MovesFall : Type 0
MovesFall = (t next : Task) → step t ≡ Passes next → moves_left next < moves_left t

-- an instance's path leaves room for a rank, and a loop's for its iterations' ranks too
abbrev pub FitsDepth : PlanView → Origin → Type 0
FitsDepth plan (Instance function args path) = length path + 1 ≤ plan.limits.depth
FitsDepth plan (Loop function rest first path range) = length path + 2 ≤ plan.limits.depth

-- An origin of the plan is within its depth.
abbrev pub OriginsFit : Type 0
OriginsFit = (plan : PlanView) (o : Origin) → 1 ≤ plan.limits.depth → IsOriginOf plan o → FitsDepth plan o

-- Nothing is observed of a task that hasn't run yet.
abbrev pub ObservationBegins : Type 0
ObservationBegins = (plan : PlanView) (o : Origin) → IsInstanceOrigin o → IsOnWay no_observation (start plan o)

-- What is observed up to a stop extends what was observed of the task, and at the end it is the whole node.
abbrev pub ObservationGoesOn : Type 0
ObservationGoesOn = (t : Task) (observation later : Observation) (stop : Stop) → IsTask t → IsInstanceOrigin t.origin → IsOnWay observation t → Shows t later stop → OnWay (also observation later) t stop

-- A task that takes its children's answers shows nothing.
abbrev pub AnswersShowNothing : Type 0
AnswersShowNothing = (t : Task) (observation : Observation) → IsTask t → IsInstanceOrigin t.origin → IsOnWay observation t → IsOnWay observation (on (evaluations (eval t.plan) t.trace.unmerged) t)

-- There is a way to the next stop on which the task is observed.
abbrev pub StopsAreShown : Type 0
StopsAreShown = (t : Task) (stop : Stop) → IsNext t stop → (observation : Observation) × Shows t observation stop
