use Rattle.engine.specs.Promise.{watched}
use Rattle.engine.proofs.CallLemmas.{can_draw, stream_means}
use Rattle.engine.proofs.call.answer_in_parts.Goals as goal

pub answer_stream-requires : goal.answer_stream-requires
answer_stream-requires g c =
    can_draw c.args.command c.in-Stream.gamma c.in-Stream.at c.in-Stream.count c.in-Stream.rounds c.in-Stream.below c.in-Stream.is c.requires.lawful

pub returns-clause-answers : goal.returns-clause-answers
returns-clause-answers g c = λ source.
    stream_means c.args.command c.in-Stream.gamma c.in-Stream.at c.in-Stream.count c.in-Stream.rounds c.in-Stream.below c.in-Stream.is source
    (watched g.K.Sink.written g.K.Sink.faults c.args.out.now c.answer_stream.new.out)
    c.answer_stream.result c.answer_stream.ensures.delivered
