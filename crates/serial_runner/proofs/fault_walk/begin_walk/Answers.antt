use Rattle.std.proofs.Common.{◌∙◌, subst}
use Rattle.std.specs.Arc.{arc_value}
use Rattle.script_check.specs.Valid.{IsValid}
use Rattle.serial_meaning.specs.Plan.{PlanView}
use Rattle.serial_runner.proofs.fault_walk.begin_walk.Goals as goal

pub returns-clause-sound : goal.returns-clause-sound
returns-clause-sound c =
    let plan = arc_value c.args.plan.now in
    let valid : IsValid plan.script = subst (λ (p : PlanView). IsValid p.script) (c.behind-plan.view_is ∙ c.deref.ensures) c.script-script.ensures.valid in
    c.tasks_begin.ensures plan c.args.origin c.requires (c.valid_plans_are_clear.ensures plan valid)
