-- An answer of an origin of the plan that is no cut ends by no fault but one of the plan's.
use Rattle.std.proofs.Common.{List, Result, Ok, Err, sym, subst}
use Rattle.serial_meaning.specs.Answer.{IsAnswer, outcome_of}
use Rattle.serial_meaning.specs.Cuts.{WholeAnswersAreEvals}
use Rattle.serial_meaning.specs.Eval.{eval}
use Rattle.serial_meaning.specs.Laws.{IsOriginOf, EndsWithin, OriginsEndWithinFaults}
use Rattle.serial_meaning.specs.Open.{faults}
use Rattle.serial_meaning.specs.Plan.{PlanView}
use Rattle.serial_meaning.specs.Render.{IsWhole}
use Rattle.serial_meaning.specs.declared.value.Value.{Value}
use Rattle.serial_meaning.specs.declared.event.Fault.{Fault}
use Rattle.serial_meaning.specs.declared.event.Event.{Event}
use Rattle.serial_meaning.specs.declared.origin.Origin.{Origin}
use Rattle.serial_meaning.specs.declared.origin.Origin.TheVariants.{Instance, Loop}
use Rattle.serial_meaning.specs.declared.answer.Outcome.{Outcome}
use Rattle.strand_meaning.specs.Laws.{IsFaultOf}

fault-of : (plan : PlanView) (o : Origin) (r : Result (List Value) Fault) → EndsWithin (faults plan) r → IsFaultOf plan (outcome_of o r)
fault-of plan (Instance function args path) (Ok vs) h = tt
fault-of plan (Instance function args path) (Err f) h = h
fault-of plan (Loop function rest first path range) (Ok vs) h = tt
fault-of plan (Loop function rest first path range) (Err f) h = h

pub ends_within : (plan : PlanView) (o : Origin) (out : List Event) (ended : Outcome) → OriginsEndWithinFaults → WholeAnswersAreEvals → IsOriginOf plan o →
    IsAnswer plan o out ended → IsWhole ended → IsFaultOf plan ended
ends_within plan o out ended law evals known is whole =
    subst (IsFaultOf plan) (sym (evals plan o out ended is whole).ends) (fault-of plan o (eval plan o).ending (law plan o known))
