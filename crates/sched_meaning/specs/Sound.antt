-- What holds of every core that events lead to.
use Rattle.std.specs.Prelude.{◌≡◌, ℕ, List, Some, All, slice_get}
use Rattle.serial_meaning.specs.Answer.{AnswerView, IsEval}
use Rattle.serial_meaning.specs.Plan.{PlanView}
use Rattle.serial_meaning.specs.declared.origin.Origin.{Origin}
use Rattle.sched_meaning.specs.Core.{Core}
use Rattle.sched_meaning.specs.Steps.{Resumes, Step}
use Rattle.sched_meaning.specs.declared.event.CoreEvent.{CoreEvent}
use Rattle.sched_meaning.specs.declared.event.CoreEvent.TheVariants.{Run, Pop, Steal, Look, Idle}

-- Each answer is the evaluation of its origin.
abbrev pub AreEvaluations : PlanView → List AnswerView → Type 0
AreEvaluations plan answers = All (λ a. (a.plan ≡ plan) × IsEval plan a.origin a.out a.outcome) answers

-- neither idle nor a fruitless look
abbrev pub MakesProgress : CoreEvent → Core → Type 0
MakesProgress (Run w) c = Unit {0}
MakesProgress (Pop w) c = Unit {0}
MakesProgress (Steal thief victim) c = Unit {0}
MakesProgress (Look w place) c = (next : Core) × Resumes w place c next
MakesProgress (Idle w) c = ⊥

-- Some event makes progress.
pub record IsLively (c : Core) : Type 0 where
  pub event : CoreEvent
  pub next : Core
  pub step : Step event c next
  pub fruitful : MakesProgress event c

-- An origin is exactly once among these.
pub record OccursOnce (o : Origin) (os : List Origin) : Type 0 where
  pub place : ℕ
  pub there : slice_get os place ≡ Some o
  pub alone : (k : ℕ) → slice_get os k ≡ Some o → k ≡ place
