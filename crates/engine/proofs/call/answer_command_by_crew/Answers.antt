use Rattle.std.proofs.Common.{◌≡◌, sym, subst, rules}
use Rattle.ped_words.specs.declared.command.Command.{Command}
use Rattle.ped_words.specs.declared.command.Command.TheVariants.{Batch, Run}
use Rattle.engine.specs.CallEnds.{EndMeans}
use Rattle.engine.specs.Promise.{watched}
use Rattle.engine.proofs.call.answer_command_by_crew.Goals as goal

pub returns-in-Run-clause-answers : goal.returns-in-Run-clause-answers
returns-in-Run-clause-answers g c =
    let e : c.args.command ≡ Run c.in-Run.settings c.in-Run.workers = search rules in
    let P : Command → Type 0 = λ command. EndMeans command (watched g.S.Source.left g.S.Source.faults c.args.source.now c.answer_run.new.source)
    (watched g.K.Sink.written g.K.Sink.faults c.args.out.now c.answer_run.new.out) c.answer_run.result in
    subst P (sym e) c.answer_run.ensures.answers

pub returns-in-Batch-clause-answers : goal.returns-in-Batch-clause-answers
returns-in-Batch-clause-answers g c =
    let e : c.args.command ≡ Batch c.in-Batch.seeds c.in-Batch.limits c.in-Batch.show c.in-Batch.rounds c.in-Batch.workers = search rules in
    let P : Command → Type 0 = λ command. EndMeans command (watched g.S.Source.left g.S.Source.faults c.args.source.now c.answer_batch.new.source)
    (watched g.K.Sink.written g.K.Sink.faults c.args.out.now c.answer_batch.new.out) c.answer_batch.result in
    subst P (sym e) c.answer_batch.ensures.answers
