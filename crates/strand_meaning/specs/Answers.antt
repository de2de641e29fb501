-- Answers as the evaluations that a task takes.
use Rattle.std.specs.Prelude.{List, [], ◌∷◌, Ok, Err}
use Rattle.serial_meaning.specs.Answer.{AnswerView}
use Rattle.serial_meaning.specs.Eval.{Evaluation}
use Rattle.serial_meaning.specs.declared.event.Event.{Event}
use Rattle.serial_meaning.specs.declared.answer.Outcome.{Outcome}
use Rattle.serial_meaning.specs.declared.answer.Outcome.TheVariants as outcome

-- events and an outcome; a cut's fault precedes all that the origin can do
abbrev pub evaluation_of : List Event → Outcome → Evaluation
evaluation_of out (outcome.Value v) = record { items = out; ending = Ok (v ∷ []) }
evaluation_of out (outcome.Values vs) = record { items = out; ending = Ok vs }
evaluation_of out (outcome.Fault f) = record { items = out; ending = Err f }
evaluation_of out (outcome.Cut f) = record { items = out; ending = Err f }

abbrev pub answer_evaluations : List AnswerView → List Evaluation
answer_evaluations [] = []
answer_evaluations (answer ∷ answers) = evaluation_of answer.out answer.outcome ∷ answer_evaluations answers
