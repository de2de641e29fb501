-- What holds of a task by what remains of it.
use Rattle.std.proofs.Common.{◌≡◌, Result, refl, sym, subst}
use Rattle.std.specs.Prelude.{IfOk}
use Rattle.serial_meaning.specs.declared.answer.Outcome.TheVariants as outcome
use Rattle.serial_meaning.specs.declared.event.Fault.{Fault}
use Rattle.strand_meaning.specs.Laws.{StepsAreSound}
use Rattle.strand_moves.specs.declared.instance.Instance.{Instance}
use Rattle.strand_machine.specs.Made.{StepsOn, CanEnd, ended_move}
use Rattle.strand_machine.specs.Stops.{IsStep}
use Rattle.strand_machine.specs.Tasks.{IsSound, view_of, waiting}
use Rattle.strand_machine.specs.declared.task_state.TaskState.{TaskState}
use Rattle.strand_machine.specs.MoveOrStop.{MoveOrStop}
use Rattle.strand_machine.specs.MoveOrStop as step
use Rattle.strand_machine.specs.declared.stop.Stop.TheVariants as stop
use Rattle.strand_machine.specs.declared.remaining.Stage.{Stage}
use Rattle.strand_machine.specs.declared.remaining.Stage.TheVariants as stage
use Rattle.strand_machine.specs.declared.remaining.Remaining.{Remaining}
use Rattle.strand_machine.specs.declared.remaining.Remaining.TheVariants as remaining
use Rattle.strand_machine.proofs.Moves.Dispatch.{wait-sound, wait-is, end-answers, end-is}

-- the same where the stage, or what remains, is known
pub stage-sound : {K : Type 0} (b : TaskState K) (s t : Stage) → s ≡ t → IsSound b (remaining.Runs s) → IsSound b (remaining.Runs t)
stage-sound b s t e h = subst (λ (x : Stage). IsSound b (remaining.Runs x)) e h

pub stage-is : {K : Type 0} (b : TaskState K) (s t : Stage) (r : MoveOrStop K) → s ≡ t → StepsOn (view_of b (remaining.Runs t)) r → StepsOn (view_of b (remaining.Runs s)) r
stage-is b s t r e h = subst (λ (x : Stage). StepsOn (view_of b (remaining.Runs x)) r) (sym e) h

-- a wait after a sync, and after a loop
pub sync-sound : {K : Type 0} → StepsAreSound → (b : TaskState K) (s : Stage) (i : Instance) → s ≡ stage.AtSync i → IsSound b (remaining.Runs s) → IsSound (waiting b) (remaining.Runs (stage.AtSync i))
sync-sound law b s i e h =
    let k = stage-sound b s (stage.AtSync i) e h in wait-sound law b (remaining.Runs (stage.AtSync i)) (remaining.Runs (stage.AtSync i)) k refl k.of_plan

pub sync-is : {K : Type 0} (b : TaskState K) (s : Stage) (i : Instance) (r : MoveOrStop K) → s ≡ stage.AtSync i → IsSound b (remaining.Runs s) → r ≡ step.Stops (stop.Wait (view_of (waiting b) (remaining.Runs (stage.AtSync i)))) → StepsOn (view_of b (remaining.Runs s)) r
sync-is b s i r e sound h = let k = stage-sound b s (stage.AtSync i) e sound in stage-is b s (stage.AtSync i) r e (wait-is b (remaining.Runs (stage.AtSync i)) (remaining.Runs (stage.AtSync i)) r k.of_plan refl h)

pub loop-sound : {K : Type 0} → StepsAreSound → (b : TaskState K) (s : Stage) (i : Instance) → s ≡ stage.AtLoop i → IsSound b (remaining.Runs s) → IsSound (waiting b) (remaining.Runs (stage.AtLoop i))
loop-sound law b s i e h =
    let k = stage-sound b s (stage.AtLoop i) e h in wait-sound law b (remaining.Runs (stage.AtLoop i)) (remaining.Runs (stage.AtLoop i)) k refl k.of_plan

pub loop-is : {K : Type 0} (b : TaskState K) (s : Stage) (i : Instance) (r : MoveOrStop K) → s ≡ stage.AtLoop i → IsSound b (remaining.Runs s) → r ≡ step.Stops (stop.Wait (view_of (waiting b) (remaining.Runs (stage.AtLoop i)))) → StepsOn (view_of b (remaining.Runs s)) r
loop-is b s i r e sound h = let k = stage-sound b s (stage.AtLoop i) e sound in stage-is b s (stage.AtLoop i) r e (wait-is b (remaining.Runs (stage.AtLoop i)) (remaining.Runs (stage.AtLoop i)) r k.of_plan refl h)

-- an end by a child's fault
pub child_fault-ends : {K : Type 0} → StepsAreSound → (b : TaskState K) (s : Stage) (f : Fault) → s ≡ stage.ChildFaulted f → IsSound b (remaining.Runs s) → CanEnd b (outcome.Fault f)
child_fault-ends law b s f e h = end-answers law b (remaining.Runs (stage.ChildFaulted f)) (outcome.Fault f) (stage-sound b s (stage.ChildFaulted f) e h) refl

pub child_fault-is : {K : Type 0} (b : TaskState K) (s : Stage) (f : Fault) (r : MoveOrStop K) → s ≡ stage.ChildFaulted f → r ≡ ended_move b (outcome.Fault f) → StepsOn (view_of b (remaining.Runs s)) r
child_fault-is b s f r e h = stage-is b s (stage.ChildFaulted f) r e (end-is b (remaining.Runs (stage.ChildFaulted f)) (outcome.Fault f) r refl h)

-- a task whose instance doesn't go on makes one move or stop
pub stage-once : {K X E : Type 0} (f : X → MoveOrStop K) (b : TaskState K) (s : Stage) (r : Result X E) → ((i : Instance) → s ≡ stage.Running i → ⊥) → IfOk r (λ x. StepsOn (view_of b (remaining.Runs s)) (f x)) → IfOk r (λ x. IsStep (view_of b (remaining.Runs s)) (f x))
stage-once f b (stage.Running i) r other h = absurd (other i refl)
stage-once f b (stage.AtSync i) r other h = h
stage-once f b (stage.AtLoop i) r other h = h
stage-once f b (stage.Returned v) r other h = h
stage-once f b (stage.Faulted g) r other h = h
stage-once f b (stage.ChildFaulted g) r other h = h

pub remaining-once : {K X E : Type 0} (f : X → MoveOrStop K) (b : TaskState K) (w : Remaining) (r : Result X E) → ((s : Stage) → w ≡ remaining.Runs s → ⊥) → IfOk r (λ x. StepsOn (view_of b w) (f x)) → IfOk r (λ x. IsStep (view_of b w) (f x))
remaining-once f b (remaining.Splits left) r other h = h
remaining-once f b (remaining.Runs s) r other h = absurd (other s refl)
remaining-once f b (remaining.Finished v has_waited) r other h = h
remaining-once f b (remaining.Ends ended) r other h = h
