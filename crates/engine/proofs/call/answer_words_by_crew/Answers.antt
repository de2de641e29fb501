use Rattle.std.proofs.Common.{map, string_bytes}
use Rattle.ped_words.specs.Reading.{reading}
use Rattle.engine.specs.Promise.{watched}
use Rattle.engine.proofs.CallLemmas.{words_refused, words_taken}
use Rattle.engine.proofs.call.answer_words_by_crew.Goals as goal

pub returns-in-Ok-clause-promise : goal.returns-in-Ok-clause-promise
returns-in-Ok-clause-promise g c =
    words_taken (reading (map string_bytes c.args.words.now)) (watched g.S.Source.left g.S.Source.faults c.args.script.now c.answer_command_by_crew.new.source)
    (watched g.K.Sink.written g.K.Sink.faults c.args.out.now c.answer_command_by_crew.new.out) c.in-Ok.command c.in-Ok.ensures.value c.answer_command_by_crew.result c.answer_command_by_crew.ensures.answers

pub returns-in-Err-clause-promise : goal.returns-in-Err-clause-promise
returns-in-Err-clause-promise g c =
    words_refused (reading (map string_bytes c.args.words.now)) (watched g.S.Source.left g.S.Source.faults c.args.script.now c.args.script.now)
    (watched g.K.Sink.written g.K.Sink.faults c.args.out.now c.args.out.now) c.in-Err.error c.in-Err.ensures.value c.refused_words.result c.refused_words.ensures
