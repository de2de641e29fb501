use Rattle.std.proofs.Common.{◌≡◌, map, rules}
use Rattle.std.specs.Arc.{arc_value}
use Rattle.std.specs.List.{list_any}
use Rattle.serial_meaning.specs.Answer.{AnswerView}
use Rattle.serial_meaning.specs.Prints.{is_print}
use Rattle.engine.specs.Batches.{batch_ending, is_fault}
use Rattle.engine.proofs.BatchLemmas.{answers_keep, answers_written}
use Rattle.engine.proofs.batch.prints_report.Goals as goal

pub batch_of_prints-requires-clause-lines : goal.batch_of_prints-requires-clause-lines
batch_of_prints-requires-clause-lines c = answers_keep is_print (map arc_value c.args.plans.now) c.args.answers c.requires.answers c.requires.lines

pub returns : goal.returns
returns c =
    let ending : c.ending_for-ending.result ≡ batch_ending (list_any (λ (answer : AnswerView). is_fault answer.outcome) c.args.answers) = search rules in
    answers_written c.args.seeds (map arc_value c.args.plans.now) c.args.answers (record { output = c.batch_of_prints.result; ending = c.ending_for-ending.result }) c.requires.answers c.batch_of_prints.ensures ending
