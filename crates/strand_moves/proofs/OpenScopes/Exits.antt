-- What a call shows that is left by a `?`.
use Rattle.std.proofs.Common.{◌≡◌, ℕ, List, Result, Ok, Err, IfOk, sym, subst, ◌∙◌}
use Rattle.std.specs.Prelude.{OnErr, OnOk}
use Rattle.std.specs.Result.{IsErrAnd}
use Rattle.serial_meaning.specs.Plan.{PlanView}
use Rattle.serial_meaning.specs.Runs.{Run}
use Rattle.serial_meaning.specs.declared.event.Event.{Event}
use Rattle.serial_meaning.specs.declared.event.Fault.{Fault}
use Rattle.serial_meaning.specs.declared.event.FaultKind.{FaultKind}
use Rattle.strand_meaning.specs.Machine.{Effect, Machine, Reached}
use Rattle.strand_values.specs.Gives.{Calculates}
use Rattle.strand_values.specs.declared.evaluation_error.EvaluationError as values
use Rattle.strand_values.specs.declared.evaluation_error.EvaluationError.TheVariants as error
use Rattle.strand_moves.specs.declared.effects.MoveResult.{MoveResult}
use Rattle.strand_moves.specs.declared.instance_parts.InstanceParts.{InstanceParts}
use Rattle.strand_moves.specs.Acts.{IsKept, KeepsInstance}
use Rattle.strand_moves.specs.Moves.{Makes, HasEffects}
use Rattle.strand_moves.specs.FastPath.{emitted, silent}
use Rattle.strand_moves.proofs.Statements.Equations.{faults, moved}

module _ (run : Run Effect Fault Reached) (strand : List ℕ) (m : Machine) where
  shows-error : {A : Type 0} (h : values.EvaluationError) (defined : Result A FaultKind) → Calculates (Err h) defined → ((kind : FaultKind) → defined ≡ Err kind → run ≡ faults kind strand) → Makes run strand m (Err h)
  shows-error (error.Fault kind) defined g f = f kind g
  shows-error error.Memory defined g f = tt

  -- by what a calculation answered
  pub shows-exit : {A : Type 0} (r : Result MoveResult values.EvaluationError) (h : values.EvaluationError) (defined : Result A FaultKind) → IsErrAnd r (λ y. y ≡ h) → Calculates (Err h) defined →
      ((kind : FaultKind) → defined ≡ Err kind → run ≡ faults kind strand) → Makes run strand m r
  shows-exit (Ok s) h defined e g f = absurd e
  shows-exit (Err y) h defined e g f = let P : values.EvaluationError → Type 0 = λ z. Makes run strand m (Err z) in subst P (sym e) (shows-error h defined g f)

  pub shows-fault : (r : Result MoveResult values.EvaluationError) (kind : FaultKind) → IsErrAnd r (λ y. y ≡ error.Fault kind) → run ≡ faults kind strand → Makes run strand m r
  shows-fault (Ok s) kind e f = absurd e
  shows-fault (Err y) kind e f = let P : values.EvaluationError → Type 0 = λ z. Makes run strand m (Err z) in subst P (sym e) f

  -- the same of a call that shows nothing
  pub silent-exit : {A : Type 0} (r : Result (Unit {0}) values.EvaluationError) (h : values.EvaluationError) (defined : Result A FaultKind) → IsErrAnd r (λ y. y ≡ h) → Calculates (Err h) defined →
      ((kind : FaultKind) → defined ≡ Err kind → run ≡ faults kind strand) → Makes run strand m (silent r)
  silent-exit (Ok u) h defined e g f = absurd e
  silent-exit (Err y) h defined e g f = let P : values.EvaluationError → Type 0 = λ z. Makes run strand m (Err z) in subst P (sym e) (shows-error h defined g f)

  -- the same of a call that shows an event
  pub emitted-exit : {A : Type 0} (r : Result Event values.EvaluationError) (h : values.EvaluationError) (defined : Result A FaultKind) → IsErrAnd r (λ y. y ≡ h) → Calculates (Err h) defined →
      ((kind : FaultKind) → defined ≡ Err kind → run ≡ faults kind strand) → Makes run strand m (emitted r)
  emitted-exit (Ok e) h defined x g f = absurd x
  emitted-exit (Err y) h defined x g f = let P : values.EvaluationError → Type 0 = λ z. Makes run strand m (Err z) in subst P (sym x) (shows-error h defined g f)

  -- by a call that shows these effects
  pub shows-made : {A : Type 0} (effects : List Effect) (r : Result MoveResult values.EvaluationError) → IfOk r (HasEffects effects) → OnErr r (r ≡ Err error.Memory) → OnOk r A → (A → run ≡ moved effects m) → Makes run strand m r
  shows-made effects (Ok move_result) s f a g = g a ∙ sym (s m)
  shows-made effects (Err (error.Fault kind)) s f a g = absurd (cc)
  shows-made effects (Err error.Memory) s f a g = tt

-- and what it keeps
pub keeps-made : {A : Type 0} (plan : PlanView) (old new : InstanceParts) (r : Result MoveResult values.EvaluationError) → OnErr r (r ≡ Err error.Memory) → OnOk r A → (A → IsKept plan old new) → KeepsInstance plan old new r
keeps-made plan old new (Ok move_result) f a g = g a
keeps-made plan old new (Err (error.Fault kind)) f a g = absurd (cc)
keeps-made plan old new (Err error.Memory) f a g = tt
