use Rattle.std.proofs.Common.{◌∙◌, List, ℕ, ap, map}
use Rattle.std.specs.Arc.{arc_value}
use Rattle.serial_meaning.specs.Prints.{is_print}
use Rattle.engine.specs.Batches.{written}
use Rattle.engine.specs.Report.{report_view}
use Rattle.engine.proofs.BatchLemmas.{batch_is, plans_keep}
use Rattle.engine.proofs.KeptLemmas.{prints_kept}
use Rattle.engine.proofs.batch.report_batch.Goals as goal

pub prints_report-requires-clause-lines : goal.prints_report-requires-clause-lines
prints_report-requires-clause-lines g c =
    let batch = c.args.batch.now in
    plans_keep is_print batch c.in_ok-script.script (map arc_value c.in_ok-plans.plans) (prints_kept batch.show c.in-Plain.is) c.in_ok-plans.ensures.plans

pub returns-in-Plain-clause-report : goal.returns-in-Plain-clause-report
returns-in-Plain-clause-report g c =
    let plans = map arc_value c.in_ok-plans.plans in
    batch_is c.args.batch.now c.args.bytes.now c.in_ok-script.script plans (report_view c.prints_report.result)
    c.in_ok-script.ensures.script c.in_ok-script.ensures.valid c.in_ok-plans.ensures.plans (c.prints_report.ensures ∙ ap (λ (l : List ℕ). written l plans) c.in_ok-seeds.ensures)

pub returns-clause-report : goal.returns-clause-report
returns-clause-report g c =
    let plans = map arc_value c.in_ok-plans.plans in
    batch_is c.args.batch.now c.args.bytes.now c.in_ok-script.script plans (report_view c.lines_report.result)
    c.in_ok-script.ensures.script c.in_ok-script.ensures.valid c.in_ok-plans.ensures.plans (c.lines_report.ensures ∙ ap (λ (l : List ℕ). written l plans) c.in_ok-seeds.ensures)
