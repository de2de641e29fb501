-- Answers of origins: what an instance or a loop gives, whoever runs it (docs/LANGUAGE.md, "The serial elision" and "Tasks").
use Rattle.std.specs.Prelude.{◌≡◌, ◌≤◌, ◌<◌, ◌++◌, ℕ, List, [], ◌∷◌, Result, Ok, Err, Contains}
use Rattle.ped_path.specs.Path.{IsBefore}
use Rattle.serial_meaning.specs.Plan.{PlanView}
use Rattle.serial_meaning.specs.Eval.{first_value, eval}
use Rattle.serial_meaning.specs.Open.{faults}
use Rattle.serial_meaning.specs.declared.value.Value.{Value}
use Rattle.serial_meaning.specs.declared.event.Event.{Event}
use Rattle.serial_meaning.specs.declared.event.Fault.{Fault}
use Rattle.serial_meaning.specs.declared.origin.Origin.{Origin}
use Rattle.serial_meaning.specs.declared.origin.Origin.TheVariants.{Instance, Loop}
use Rattle.serial_meaning.specs.declared.answer.Outcome.{Outcome}
use Rattle.serial_meaning.specs.declared.answer.Outcome.TheVariants as outcome

-- An answer as contracts see it.
pub record AnswerView : Type 0 where
  pub plan : PlanView
  pub origin : Origin
  pub out : List Event
  pub outcome : Outcome

-- what an answer is the answer to
pub record AnswerTag : Type 0 where
  pub plan : PlanView
  pub origin : Origin

-- how an origin ends, by how its evaluation ended
abbrev pub outcome_of : Origin → Result (List Value) Fault → Outcome
outcome_of (Instance function args path) (Ok vs) = outcome.Value (first_value vs)
outcome_of (Loop function rest first path range) (Ok vs) = outcome.Values vs
outcome_of o (Err f) = outcome.Fault f

-- Events and outcome are the origin's serial meaning.
pub record IsEval (plan : PlanView) (origin : Origin) (out : List Event) (ended : Outcome) : Type 0 where
  pub events : out ≡ (eval plan origin).items
  pub ends : ended ≡ outcome_of origin (eval plan origin).ending

-- The pedigrees that an origin answers for: those that begin with an instance's path, or with that of one of these iterations of a loop.
abbrev pub AnswersFor : Origin → List ℕ → Type 0
AnswersFor (Instance function args path) j = (more : List ℕ) × (j ≡ path ++ more)
AnswersFor (Loop function rest first path range) j = (k : ℕ) × (more : List ℕ) × (j ≡ path ++ k ∷ more) × (range.lo ≤ k) × (k < range.hi)

-- where they begin: an instance's path, or that of a loop's first iteration
abbrev pub start_of : Origin → List ℕ
start_of (Instance function args path) = path
start_of (Loop function rest first path range) = path ++ range.lo ∷ []

-- A fault of the plan by which an origin may be cut: it stands before all that the origin answers for.
pub record IsCut (plan : PlanView) (origin : Origin) (by : Fault) : Type 0 where
  pub known : Contains (faults plan) by
  pub before : IsBefore by.at (start_of origin)

-- What an answer may say: the origin's serial meaning, or a cut.
abbrev pub IsAnswer : PlanView → Origin → List Event → Outcome → Type 0
IsAnswer plan origin out (outcome.Value v) = IsEval plan origin out (outcome.Value v)
IsAnswer plan origin out (outcome.Values vs) = IsEval plan origin out (outcome.Values vs)
IsAnswer plan origin out (outcome.Fault f) = IsEval plan origin out (outcome.Fault f)
IsAnswer plan origin out (outcome.Cut f) = IsCut plan origin f

-- a known fault as contracts see it
pub record KnownView : Type 0 where
  pub plan : PlanView
  pub fault : Fault
