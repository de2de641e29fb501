use Rattle.std.proofs.Common.{◌≡◌, ◌∙◌, ap, sym, rules}
use Rattle.std.specs.Arc.{arc_value}
use Rattle.serial_meaning.specs.Plan.{PlanView}
use Rattle.run_lines.proofs.EventLemmas.{answer_lines}
use Rattle.run_lines.proofs.PutLemmas.{err_after, err_first, ok_after, on_err}
use Rattle.run_lines.proofs.run.put_answer.Goals as goal

pub returns-in_err-put_events-clause-front : goal.returns-in_err-put_events-clause-front
returns-in_err-put_events-clause-front g c =
    let same : c.deref-plan.result.now ≡ arc_value c.answer.inside.plan = search rules in
    let split = answer_lines c.args.answer.now _ c.plan.inside.show c.answer.view_is (ap (λ (p : PlanView). p.show) (sym same ∙ sym c.plan.view_is)) in
    on_err _ c.from_residual.result (err_first _ _ _ _ _ _ split c.in_err-put_events.ensures.front)

pub returns-clause-all : goal.returns-clause-all
returns-clause-all g c =
    let same : c.deref-plan.result.now ≡ arc_value c.answer.inside.plan = search rules in
    let split = answer_lines c.args.answer.now _ c.plan.inside.show c.answer.view_is (ap (λ (p : PlanView). p.show) (sym same ∙ sym c.plan.view_is)) in
    ok_after _ _ _ _ _ _ _ _ split _ c.put_end.result c.in_ok-put_events.ensures.all c.put_end.ensures.all

pub returns-clause-front : goal.returns-clause-front
returns-clause-front g c =
    let same : c.deref-plan.result.now ≡ arc_value c.answer.inside.plan = search rules in
    let split = answer_lines c.args.answer.now _ c.plan.inside.show c.answer.view_is (ap (λ (p : PlanView). p.show) (sym same ∙ sym c.plan.view_is)) in
    err_after _ _ _ _ _ _ _ _ split c.put_end.result c.in_ok-put_events.ensures.all c.put_end.ensures.front
