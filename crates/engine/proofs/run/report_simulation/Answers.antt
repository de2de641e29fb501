use Rattle.std.specs.Arc.{arc_value}
use Rattle.engine.specs.Report.{report_view}
use Rattle.engine.proofs.ReportLemmas.{simulated_of}
use Rattle.engine.proofs.run.report_simulation.Goals as goal

pub returns-clause-report : goal.returns-clause-report
returns-clause-report c =
    let s = c.in_ok-simulated.simulated in
    simulated_of c.args.settings c.args.workers c.args.number s.worker c.args.bytes.now (arc_value c.in_ok-plan.plan) s.answer.plan (report_view c.in_ok-sim_report.field-0)
    c.in_ok-plan.ensures.plan c.in_ok-simulated.ensures.plan c.in_ok-simulated.ensures.worker c.in_ok-sim_report.ensures.output c.in_ok-sim_report.ensures.ending
