-- One script under a list of seeds (docs/LANGUAGE.md, "Printed lines"): main's answers, and what is printed of them.
use Rattle.std.specs.Prelude.{ℕ, List, [], ◌∷◌, ◌++◌, codes, decimal, flat_map}
use Rattle.serial_meaning.specs.Plan.{PlanView}
use Rattle.serial_meaning.specs.Eval.{elision, main_origin}
use Rattle.serial_meaning.specs.Answer.{AnswerView, outcome_of}
use Rattle.serial_meaning.specs.Render.{line, answer_text}

-- main's answer: the serial elision, with its value or fault
abbrev pub main_answer : PlanView → AnswerView
main_answer plan = record {
  plan = plan;
  origin = main_origin plan;
  out = (elision plan).items;
  outcome = outcome_of (main_origin plan) (elision plan).ending;
}

-- one part of a batch: the seed's line, and then what is printed under it
abbrev pub seed_lines : ℕ → List ℕ → List ℕ
seed_lines seed text = line (codes "seed " ++ decimal seed) ++ text

-- the parts of all seeds, in order
abbrev pub batch : (ℕ → List ℕ) → List ℕ → List ℕ
batch text_under seeds = flat_map (λ seed. seed_lines seed (text_under seed)) seeds

-- the parts of all seeds with the answers under them, in order
abbrev pub batch_text : List ℕ → List AnswerView → List ℕ
batch_text [] answers = []
batch_text (seed ∷ seeds) [] = []
batch_text (seed ∷ seeds) (answer ∷ answers) = seed_lines seed (answer_text answer) ++ batch_text seeds answers
