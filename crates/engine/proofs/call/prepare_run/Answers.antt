use Rattle.std.proofs.Common.{◌≡◌, refl, sym, subst, rules}
use Rattle.ped_words.specs.declared.command.Command.TheVariants.{Run}
use Rattle.engine.specs.Promise.{ReadWhole, watched}
use Rattle.engine.proofs.CallLemmas.{rejection_cause}
use Rattle.engine.proofs.call.prepare_run.Goals as goal

pub returns-clause-refused : goal.returns-clause-refused
returns-clause-refused g c =
    let source = watched g.S.Source.left g.S.Source.faults c.args.source.now c.fetch.new.source in
    let same : c.deref.result.now ≡ c.in_ok-bytes.bytes.items = search rules in
    rejection_cause (Run c.args.settings c.args.workers) source c.deref.result.now refl (subst (ReadWhole source) (sym same) c.in_ok-bytes.ensures.whole) c.report_crew_run.result c.report_crew_run.ensures.refused
