use Rattle.std.proofs.Common.{◌≡◌, refl, sym, subst, rules}
use Rattle.engine.specs.Batches.{batch_command}
use Rattle.engine.specs.Promise.{ReadWhole, watched}
use Rattle.engine.proofs.CallLemmas.{rejection_cause}
use Rattle.engine.proofs.call.prepare_batch.Goals as goal

pub returns-clause-refused : goal.returns-clause-refused
returns-clause-refused g c =
    let source = watched g.S.Source.left g.S.Source.faults c.args.source.now c.fetch.new.source in
    let same : c.deref.result.now ≡ c.in_ok-bytes.bytes.items = search rules in
    rejection_cause (batch_command c.args.batch.now c.args.workers) source c.deref.result.now refl (subst (ReadWhole source) (sym same) c.in_ok-bytes.ensures.whole) c.report_batch.result c.report_batch.ensures.refused
