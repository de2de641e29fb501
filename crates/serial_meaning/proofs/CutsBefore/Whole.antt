-- Which answers are no cuts, and what a cut stands before.
use Rattle.std.proofs.Common.{ℕ, List, sym, subst}
use Rattle.ped_path.specs.Path.{IsBefore}
use Rattle.serial_meaning.specs.Answer.{AnswersFor, IsEval, IsCut, IsAnswer}
use Rattle.serial_meaning.specs.Eval.{main_origin}
use Rattle.serial_meaning.specs.Plan.{PlanView}
use Rattle.serial_meaning.specs.Render.{IsWhole}
use Rattle.serial_meaning.proofs.CutsBefore.Before.{before-longer, before-later, nothing-before}
use Rattle.serial_meaning.specs.declared.event.Event.{Event}
use Rattle.serial_meaning.specs.declared.event.Fault.{Fault}
use Rattle.serial_meaning.specs.declared.origin.Origin.{Origin}
use Rattle.serial_meaning.specs.declared.origin.Origin.TheVariants.{Instance, Loop}
use Rattle.serial_meaning.specs.declared.answer.Outcome.{Outcome}
use Rattle.serial_meaning.specs.declared.answer.Outcome.TheVariants as outcome

pub whole_answers_are_evals : (plan : PlanView) (o : Origin) (out : List Event) (ended : Outcome) → IsAnswer plan o out ended → IsWhole ended → IsEval plan o out ended
whole_answers_are_evals plan o out (outcome.Value v) is whole = is
whole_answers_are_evals plan o out (outcome.Values vs) is whole = is
whole_answers_are_evals plan o out (outcome.Fault f) is whole = is
whole_answers_are_evals plan o out (outcome.Cut f) is whole = absurd whole

pub main_is_not_cut : (plan : PlanView) (out : List Event) (ended : Outcome) → IsAnswer plan (main_origin plan) out ended → IsWhole ended
main_is_not_cut plan out (outcome.Value v) is = tt
main_is_not_cut plan out (outcome.Values vs) is = tt
main_is_not_cut plan out (outcome.Fault f) is = tt
main_is_not_cut plan out (outcome.Cut f) is = nothing-before f.at is.before

pub cuts_stand_before : (plan : PlanView) (o : Origin) (by : Fault) (j : List ℕ) → IsCut plan o by → AnswersFor o j → IsBefore by.at j
cuts_stand_before plan (Instance function args path) by j cut below = subst (IsBefore by.at) (sym below.1) (before-longer by.at path below.0 cut.before)
cuts_stand_before plan (Loop function rest first path range) by j cut below =
    subst (IsBefore by.at) (sym below.2) (before-later by.at path range.lo below.0 below.1 below.3 cut.before)
