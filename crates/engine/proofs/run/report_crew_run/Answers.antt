use Rattle.std.specs.Arc.{arc_value}
use Rattle.engine.specs.Report.{report_view}
use Rattle.engine.proofs.ReportLemmas.{played_of}
use Rattle.engine.proofs.run.report_crew_run.Goals as goal

pub returns-in-Plain-clause-report : goal.returns-in-Plain-clause-report
returns-in-Plain-clause-report g c =
    let p = c.in_ok-prints-in-Plain in
    played_of c.args.settings c.args.bytes.now (arc_value c.in_ok-plan.plan) p.prints.plan (report_view c.prints_report.result) c.in_ok-plan.ensures.plan p.ensures.plan c.prints_report.ensures

pub returns-clause-report : goal.returns-clause-report
returns-clause-report g c =
    let l = c.in_ok-lines-in-Log in
    played_of c.args.settings c.args.bytes.now (arc_value c.in_ok-plan.plan) l.lines.plan (report_view c.lines_report.result) c.in_ok-plan.ensures.plan l.ensures.plan c.lines_report.ensures
