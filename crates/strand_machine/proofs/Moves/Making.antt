-- What a move in place makes of a task.
use Rattle.std.proofs.Common.{◌≡◌, ◌<◌, Bool, List, false, Result, Ok, Err, refl, sym, ap, subst, ◌∙◌}
use Rattle.std.specs.Prelude.{IfOk}
use Rattle.serial_meaning.specs.Answer.{AnswerTag, AnswerView, IsAnswer}
use Rattle.serial_meaning.specs.declared.answer.Outcome.{Outcome}
use Rattle.serial_meaning.specs.declared.event.Event.{Event}
use Rattle.strand_meaning.specs.Laws.{MovesFall, StopsAreSound}
use Rattle.strand_meaning.specs.Left.{moves_left}
use Rattle.strand_meaning.specs.Trace.{Trace}
use Rattle.strand_machine.specs.Made.{IsSoundMade, IsStopped, LeavesOutcome, StopsSo, done_by, ended_move, made, outcome_left, resumed_as, CanEnd, IsRun, LeadsTo}
use Rattle.strand_machine.specs.Links.{GiveView, task_give}
use Rattle.strand_machine.specs.Stops.{IsResumed}
use Rattle.strand_machine.specs.Tasks.{HoldsOfTask, IsSound, TaskView, ended_by, task_of, view_of}
use Rattle.strand_machine.specs.declared.task_state.TaskState.{TaskState}
use Rattle.strand_machine.specs.declared.parts.Parts.{Parts}
use Rattle.strand_machine.specs.declared.stop.Passed.{Passed}
use Rattle.strand_machine.specs.declared.stop.Passed.TheVariants as passed
use Rattle.strand_machine.specs.MoveOrStop.{MoveOrStop}
use Rattle.strand_machine.specs.MoveOrStop as step
use Rattle.strand_machine.specs.declared.stop.Stop.TheVariants as stop
use Rattle.strand_machine.specs.declared.remaining.Remaining.{Remaining}
use Rattle.strand_machine.specs.declared.remaining.Remaining.TheVariants as remaining
use Rattle.strand_machine.proofs.NextStops.Advancing.{leads-start, run-falls, run-leads, run-stops, sound_holds}
use Rattle.strand_machine.proofs.Moves.Dispatch.{of_plan-on}

-- what is known of a move is known of the step that it makes
pub made-ok : {K E : Type 0} (p : Parts K) (r : Result (Passed K) E) (F G : MoveOrStop K → Type 0) → ((s : MoveOrStop K) → F s → G s) → IfOk r (λ (x : Passed K). F (made p x)) → IfOk r (λ (x : Passed K). G (made p x))
made-ok p (Ok x) F G f h = f (made p x) h
made-ok p (Err x) F G f h = tt

-- a task that ends, by what is left of its parts
module _ {K : Type 0} (b : TaskState K) (trace : Trace) (w : Remaining) (o ended : Outcome) (prefix : trace.prefix ≡ b.trace.prefix) (is : ended ≡ ended_by b.trace.fault o) (left : w ≡ remaining.Ends ended) where
  abbrev left_so : Parts K
  left_so = record { state = record b { trace = trace; waiting = false }; remaining = w }

  left-is : outcome_left w ≡ ended_by b.trace.fault o
  left-is = ap outcome_left left ∙ is

  pub ends-made : made left_so passed.Ends ≡ ended_move b o
  ends-made = ap (λ (es : List Event). done_by (record b { trace = record b.trace { prefix = es } }) (outcome_left w)) prefix ∙ ap (done_by b) left-is

  pub ends-sound : CanEnd b o → LeavesOutcome left_so
  ends-sound can = record {
    is = left ∙ ap (λ (x : Outcome). remaining.Ends x) (sym (ap outcome_left left));
    answers = subst (λ (es : List Event). IsAnswer b.links.plan b.links.origin es (outcome_left w)) (sym prefix) (subst (IsAnswer b.links.plan b.links.origin b.trace.prefix) (sym left-is) can);
    waits = refl;
  }

-- what holds of the task, by what the move came to
pub waits-holds : {K : Type 0} (p : Parts K) (x : Passed K) → x ≡ passed.Waits → IsSoundMade p x → HoldsOfTask p.state p.remaining
waits-holds p x is h = sound_holds p.state p.remaining (subst (IsSoundMade p) is h)

pub spawned-holds : {K : Type 0} (p : Parts K) (x : Passed K) (child : TaskView) → x ≡ passed.Spawned child → IsSoundMade p x → HoldsOfTask p.state p.remaining
spawned-holds p x child is h = sound_holds p.state p.remaining (subst (IsSoundMade p) is h)

pub leaves-outcome : {K : Type 0} (p : Parts K) (x : Passed K) → x ≡ passed.Ends → IsSoundMade p x → LeavesOutcome p
leaves-outcome p x is h = subst (IsSoundMade p) is h

-- what is left of it is its answer, and the stop is the end by that
module _ {K : Type 0} (p : Parts K) (o : Outcome) (prefix : List Event) (is : p.remaining ≡ remaining.Ends o) (same : prefix ≡ p.state.trace.prefix) where
  pub left-answers : LeavesOutcome p → IsAnswer p.state.links.plan p.state.links.origin prefix o
  left-answers h =
      subst (λ (es : List Event). IsAnswer p.state.links.plan p.state.links.origin es o) (sym same)
      (subst (IsAnswer p.state.links.plan p.state.links.origin p.state.trace.prefix) (ap outcome_left is) h.answers)

  pub left-done : (answer : AnswerView) (give : GiveView AnswerTag) → answer ≡ record { plan = p.state.links.plan; origin = p.state.links.origin; out = prefix; outcome = o } →
      give ≡ task_give p.state.links.plan p.state.links.origin p.state.links.joins → ◌≡◌ {A = MoveOrStop K} (step.Stops (stop.Done answer give)) (done_by p.state (outcome_left p.remaining))
  left-done answer give e g =
      ap (λ (a : AnswerView). step.Stops (stop.Done a give)) e
      ∙ ap (λ (y : GiveView AnswerTag). step.Stops (stop.Done (record { plan = p.state.links.plan; origin = p.state.links.origin; out = prefix; outcome = o }) y)) g
      ∙ ap (λ (es : List Event). done_by (record p.state { trace = record p.state.trace { prefix = es } }) o) same
      ∙ ap (done_by p.state) (sym (ap outcome_left is))

pub sound-at : {K : Type 0} (b : TaskState K) (w v : Remaining) → w ≡ v → IsSound b w → IsSound b v
sound-at b w v e h = subst (IsSound b) e h

-- what became of a wait, once it is known whether all have answered
pub resumed-so : (K : Type 0) (v t next : TaskView) (ready known : Bool) → v ≡ t → ready ≡ known → IsResumed {K = K} v (resumed_as ready next) → IsResumed {K = K} t (resumed_as known next)
resumed-so K v t next ready known same is h = subst (λ (b : Bool). IsResumed {K = K} t (resumed_as b next)) is (subst (λ (x : TaskView). IsResumed {K = K} x (resumed_as ready next)) same h)

-- what is no move is a stop
pub is-stopped : {K : Type 0} (x : Passed K) → (x ≡ passed.Continues → ⊥) → IsStopped x
is-stopped passed.Continues other = other refl
is-stopped passed.Waits other = tt
is-stopped (passed.Spawned child) other = tt
is-stopped passed.Ends other = tt

pub never-goes : {K : Type 0} (x : Passed K) → x ≡ passed.Continues → IsStopped x → ⊥
never-goes x is h = subst IsStopped is h

-- The parts of a task to which moves in a row have led.
pub record IsOnWay {K : Type 0} (first : TaskView) (p : Parts K) : Type 0 where
  pub sound : IsSound p.state p.remaining
  pub leads : LeadsTo first (view_of p.state p.remaining)

pub way-start : {K : Type 0} (p : Parts K) → IsSound p.state p.remaining → IsOnWay (view_of p.state p.remaining) p
way-start p h = record { sound = h; leads = leads-start (view_of p.state p.remaining) (of_plan-on p.state.links.plan p.state.links.origin p.remaining h.of_plan) }

module _ {K : Type 0} (first : TaskView) (now next : Parts K) (x : Passed K) (way : IsOnWay first now) (goes : IsRun (view_of now.state now.remaining) (made next x)) (sound : IsSoundMade next x) where
  abbrev here : TaskView
  here = view_of now.state now.remaining

  passes : x ≡ passed.Continues → made next x ≡ step.Passes (view_of next.state next.remaining)
  passes is = ap (made next) is

  pub way-on : MovesFall → x ≡ passed.Continues → IsOnWay first next
  way-on law is = record { sound = subst (IsSoundMade next) is sound; leads = run-leads law first here (view_of next.state next.remaining) (made next x) way.leads goes (passes is) }

  pub way-falls : MovesFall → x ≡ passed.Continues → moves_left (task_of next.state next.remaining) < moves_left (task_of now.state now.remaining)
  way-falls law is = run-falls law here (view_of next.state next.remaining) (made next x) goes (passes is)

pub way-stops : {K : Type 0} → StopsAreSound → (start now next : Parts K) (x : Passed K) → IsSound start.state start.remaining → IsOnWay (view_of start.state start.remaining) now → IsRun (view_of now.state now.remaining) (made next x) → IsStopped x → StopsSo (view_of start.state start.remaining) (made next x)
way-stops law start now next passed.Continues sound way goes h = h
way-stops law start now next passed.Waits sound way goes h =
    run-stops law (view_of start.state start.remaining) (view_of now.state now.remaining) (made next passed.Waits) (stop.Wait (view_of next.state next.remaining)) sound.task way.leads goes refl
way-stops law start now next (passed.Spawned child) sound way goes h =
    run-stops law (view_of start.state start.remaining) (view_of now.state now.remaining) (made next (passed.Spawned child)) (stop.Spawn child (view_of next.state next.remaining)) sound.task way.leads goes refl
way-stops law start now next passed.Ends sound way goes h = run-stops law (view_of start.state start.remaining) (view_of now.state now.remaining) (made next passed.Ends) _ sound.task way.leads goes refl
