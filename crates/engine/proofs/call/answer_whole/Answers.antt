use Rattle.engine.specs.Promise.{watched}
use Rattle.engine.specs.Report.{report_view}
use Rattle.engine.proofs.CallLemmas.{delivered_means, refused_means}
use Rattle.engine.proofs.call.answer_whole.Goals as goal

pub returns-in-Ok-clause-answers : goal.returns-in-Ok-clause-answers
returns-in-Ok-clause-answers g c =
    delivered_means c.args.command (watched g.S.Source.left g.S.Source.faults c.args.source.now c.prepare.new.source)
    (watched g.K.Sink.written g.K.Sink.faults c.args.out.now c.deliver.new.out)
    (report_view c.in-Ok.report) c.in-Ok.ensures.ready c.deliver.result c.deliver.ensures.delivered

pub returns-in-Err-clause-answers : goal.returns-in-Err-clause-answers
returns-in-Err-clause-answers g c =
    refused_means c.args.command (watched g.S.Source.left g.S.Source.faults c.args.source.now c.prepare.new.source)
    (watched g.K.Sink.written g.K.Sink.faults c.args.out.now c.args.out.now) c.in-Err.refusal c.in-Err.ensures.refused
