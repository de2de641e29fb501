-- The lines of runs, or of a strand, which are made only as they are written.
use Rattle.std.specs.Prelude.{◌≡◌, ⊤, ℕ, All, List, [], length}
use Rattle.seed_batch.specs.Batch.{batch_text}
use Rattle.serial_meaning.specs.Answer.{AnswerView}
use Rattle.serial_meaning.specs.KeptLines.{KeepsLines}
use Rattle.serial_meaning.specs.Prints.{is_print}
use Rattle.serial_meaning.specs.Render.{IsWhole, answer_text, strand_text}
use Rattle.engine.specs.declared.output.Runs.{Runs}
use Rattle.engine.specs.declared.output.Runs.TheVariants.{Nothing, Prints, Lines, Log, Strand, SeedsPrints, SeedsLines}

abbrev pub runs_text : Runs → List ℕ
runs_text Nothing = []
runs_text (Prints answer) = answer_text answer
runs_text (Lines answer) = answer_text answer
runs_text (Log answer) = answer_text answer
runs_text (Strand strand) = strand_text strand
runs_text (SeedsPrints seeds answers) = batch_text seeds answers
runs_text (SeedsLines seeds answers) = batch_text seeds answers

abbrev pub AreAnswers : List ℕ → List AnswerView → Type 0
AreAnswers seeds answers = (length answers ≡ length seeds) × All (λ (answer : AnswerView). IsWhole answer.outcome) answers

-- No answer was cut, and each event that has a line was kept.
abbrev pub AreWhole : Runs → Type 0
AreWhole Nothing = ⊤
AreWhole (Prints answer) = IsWhole answer.outcome × KeepsLines is_print answer.plan.show
AreWhole (Lines answer) = IsWhole answer.outcome
AreWhole (Log answer) = IsWhole answer.outcome
AreWhole (Strand strand) = ⊤
AreWhole (SeedsPrints seeds answers) = AreAnswers seeds answers × All (λ (answer : AnswerView). KeepsLines is_print answer.plan.show) answers
AreWhole (SeedsLines seeds answers) = AreAnswers seeds answers
