use Rattle.std.proofs.Common.{◌≡◌, map, rules}
use Rattle.std.specs.Arc.{arc_value}
use Rattle.std.specs.List.{list_any}
use Rattle.serial_meaning.specs.Answer.{AnswerView}
use Rattle.engine.specs.Batches.{batch_ending, is_fault}
use Rattle.engine.proofs.BatchLemmas.{answers_written}
use Rattle.engine.proofs.batch.lines_report.Goals as goal

pub returns : goal.returns
returns c =
    let ending : c.ending_for-ending.result ≡ batch_ending (list_any (λ (answer : AnswerView). is_fault answer.outcome) c.args.answers) = search rules in
    answers_written c.args.seeds (map arc_value c.args.plans.now) c.args.answers (record { output = c.batch_of_lines.result; ending = c.ending_for-ending.result }) c.requires.answers c.batch_of_lines.ensures ending
