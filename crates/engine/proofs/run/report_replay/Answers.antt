use Rattle.std.proofs.Common.{refl}
use Rattle.std.specs.Arc.{arc_value}
use Rattle.engine.proofs.ReportLemmas.{replayed_of}
use Rattle.engine.proofs.run.report_replay.Goals as goal

pub returns-clause-report : goal.returns-clause-report
returns-clause-report c =
    let plan = arc_value c.in_ok-plan.plan in
    replayed_of c.args.settings c.args.at c.args.bytes.now plan plan c.in_ok-plan.ensures.plan refl c.replay_report.result c.replay_report.ensures.report
