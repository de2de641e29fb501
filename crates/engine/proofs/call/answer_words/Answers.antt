use Rattle.std.proofs.Common.{◌≡◌, Ok, map, string_bytes, rules}
use Rattle.ped_words.specs.Reading.{reading}
use Rattle.engine.specs.Promise.{watched}
use Rattle.engine.proofs.CallLemmas.{words_refused, words_taken}
use Rattle.engine.proofs.WordLemmas.{no_batch}
use Rattle.engine.proofs.call.answer_words.Goals as goal

pub answer_command-requires-clause-not_batch : goal.answer_command-requires-clause-not_batch
answer_command-requires-clause-not_batch g c =
    let e : reading (map string_bytes c.args.words.now) ≡ Ok c.in-Ok.command = search rules in
    no_batch (map string_bytes c.args.words.now) c.in-Ok.command e c.requires

pub returns-in-Ok-clause-promise : goal.returns-in-Ok-clause-promise
returns-in-Ok-clause-promise g c =
    words_taken (reading (map string_bytes c.args.words.now)) (watched g.S.Source.left g.S.Source.faults c.args.script.now c.answer_command.new.source)
    (watched g.K.Sink.written g.K.Sink.faults c.args.out.now c.answer_command.new.out) c.in-Ok.command c.in-Ok.ensures.value c.answer_command.result c.answer_command.ensures.answers

pub returns-in-Err-clause-promise : goal.returns-in-Err-clause-promise
returns-in-Err-clause-promise g c =
    words_refused (reading (map string_bytes c.args.words.now)) (watched g.S.Source.left g.S.Source.faults c.args.script.now c.args.script.now)
    (watched g.K.Sink.written g.K.Sink.faults c.args.out.now c.args.out.now) c.in-Err.error c.in-Err.ensures.value c.refused_words.result c.refused_words.ensures
