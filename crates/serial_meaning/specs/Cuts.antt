-- Laws of cuts (docs/LANGUAGE.md, "Tasks"). Each is the contract of a function of the module `laws`.
use Rattle.std.specs.Prelude.{ℕ, List}
use Rattle.ped_path.specs.Path.{IsBefore}
use Rattle.serial_meaning.specs.Plan.{PlanView}
use Rattle.serial_meaning.specs.Eval.{main_origin}
use Rattle.serial_meaning.specs.Render.{IsWhole}
use Rattle.serial_meaning.specs.Answer.{AnswersFor, IsEval, IsCut, IsAnswer}
use Rattle.serial_meaning.specs.declared.event.Event.{Event}
use Rattle.serial_meaning.specs.declared.event.Fault.{Fault}
use Rattle.serial_meaning.specs.declared.origin.Origin.{Origin}
use Rattle.serial_meaning.specs.declared.answer.Outcome.{Outcome}

-- An answer that is no cut is the origin's serial meaning.
abbrev pub WholeAnswersAreEvals : Type 0
WholeAnswersAreEvals = (plan : PlanView) (o : Origin) (out : List Event) (ended : Outcome) → IsAnswer plan o out ended → IsWhole ended → IsEval plan o out ended

-- main's answer is no cut, since nothing stands before the empty path.
abbrev pub MainIsNotCut : Type 0
MainIsNotCut = (plan : PlanView) (out : List Event) (ended : Outcome) → IsAnswer plan (main_origin plan) out ended → IsWhole ended

-- The fault by which an origin is cut stands before every pedigree that the origin answers for.
abbrev pub CutsStandBefore : Type 0
CutsStandBefore = (plan : PlanView) (o : Origin) (by : Fault) (j : List ℕ) → IsCut plan o by → AnswersFor o j → IsBefore by.at j
