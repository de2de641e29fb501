-- The answer of an origin is its evaluation.
use Rattle.std.proofs.Common.{◌≡◌, ℕ, List, [], ◌∷◌, Result, Ok, Err, refl, sym, ap, ◌∙◌}
use Rattle.serial_meaning.specs.Runs.{done}
use Rattle.serial_meaning.specs.Functions.{function_at}
use Rattle.serial_meaning.specs.Plan.{PlanView, functions_of}
use Rattle.serial_meaning.specs.Exec.{instance}
use Rattle.serial_meaning.specs.Eval.{Evaluation, first_value, serial, eval_below, eval, depth_left}
use Rattle.serial_meaning.specs.Answer.{IsEval, outcome_of}
use Rattle.serial_meaning.proofs.Equations.RunLaws.{Gives, anything, then-gives}
use Rattle.serial_meaning.specs.declared.value.Value.{Value}
use Rattle.serial_meaning.specs.declared.event.Fault.{Fault}
use Rattle.serial_meaning.specs.declared.event.Event.{Event}
use Rattle.serial_meaning.specs.declared.origin.Origin.{Origin}
use Rattle.serial_meaning.specs.declared.origin.Origin.TheVariants.{Instance, Loop}
use Rattle.serial_meaning.specs.declared.answer.Outcome.{Outcome}
use Rattle.strand_meaning.specs.Answers.{evaluation_of}

abbrev IsOne : List Value → Type 0
IsOne vs = vs ≡ first_value vs ∷ []

-- an instance gives one value
one-value : (plan : PlanView) (function : ℕ) (args : List Value) (path : List ℕ) → Gives IsOne (eval plan (Instance function args path)).ending
one-value plan function args path =
    let child : Origin → Evaluation = eval_below plan (depth_left plan (Instance function args path)) in
    let r = instance (serial child) plan path (function_at (functions_of plan) function) args in then-gives (λ (v : Value). Unit {0}) IsOne r (λ v. done (v ∷ [])) (anything r.ending) (λ v u. refl)

own-outcome : (plan : PlanView) (o : Origin) → evaluation_of (eval plan o).items (outcome_of o (eval plan o).ending) ≡ eval plan o
own-outcome plan (Instance function args path) =
    let o = Instance function args path in from (eval plan o).items (eval plan o).ending (one-value plan function args path)
  where
    from : (items : List Event) (q : Result (List Value) Fault) → Gives IsOne q → evaluation_of items (outcome_of (Instance function args path) q) ≡ record { items = items; ending = q }
    from items (Ok vs) h = ap (λ (l : List Value). record { items = items; ending = Ok l }) (sym h)
    from items (Err f) h = refl
own-outcome plan (Loop function rest first path range) = from (eval plan (Loop function rest first path range)).items (eval plan (Loop function rest first path range)).ending
  where
    from : (items : List Event) (q : Result (List Value) Fault) → evaluation_of items (outcome_of (Loop function rest first path range) q) ≡ record { items = items; ending = q }
    from items (Ok vs) = refl
    from items (Err f) = refl

pub answers_are_evaluations : (plan : PlanView) (o : Origin) (out : List Event) (ended : Outcome) → IsEval plan o out ended → evaluation_of out ended ≡ eval plan o
answers_are_evaluations plan o out ended h =
    ap (λ (l : List Event). evaluation_of l ended) h.events ∙ ap (evaluation_of (eval plan o).items) h.ends ∙ own-outcome plan o
