use Rattle.std.proofs.Common.{List, ℕ, ap, ◌∙◌}
use Rattle.serial_meaning.specs.Plan.{PlanView}
use Rattle.engine.specs.Batches.{settings_under}
use Rattle.engine.specs.Report.{plan_of}
use Rattle.engine.proofs.batch.plan_under.Goals as goal

pub returns-clause-plan : goal.returns-clause-plan
returns-clause-plan c =
    let batch = c.args.batch.now in
    let under : List ℕ → PlanView = λ gamma. plan_of (record { gamma = gamma; limits = batch.limits; show = batch.show; rounds = batch.rounds }) c.in_ok-share.field-0 in
    c.in_ok-new.ensures.ok ∙ c.make_plan.ensures ∙ ap under c.in_ok-of_seed.ensures ∙ ap (plan_of (settings_under batch c.args.seed)) c.in_ok-share.ensures
