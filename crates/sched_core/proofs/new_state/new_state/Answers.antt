use Rattle.std.specs.Arc.{arc_value}
use Rattle.std.proofs.Common.{◌∙◌, subst}
use Rattle.std.proofs.lemmas.Result.{IfOk-weaker}
use Rattle.script_check.specs.Valid.{IsValid}
use Rattle.serial_meaning.specs.Plan.{PlanView}
use Rattle.sched_core.specs.Begun.{IsBegun}
use Rattle.sched_core.specs.Consistent.{IsConsistent}
use Rattle.sched_core.proofs.KnownOfNodes.Beginning.{consistent-begun}
use Rattle.sched_core.proofs.new_state.new_state.Goals as goal

pub returns-clause-consistent : goal.returns-clause-consistent
returns-clause-consistent c =
    let plan = arc_value c.args.plan.now in
    let valid : IsValid plan.script = subst (λ (p : PlanView). IsValid p.script) (c.behind-plan.view_is ∙ c.deref.ensures) c.script-script.ensures.valid in
    IfOk-weaker c.first_state.result (IsBegun plan c.args.workers) IsConsistent (λ s begun. consistent-begun plan c.args.workers s valid begun) c.first_state.ensures
