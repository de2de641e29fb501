use Rattle.std.proofs.Common.{rules, ◌≡◌, Contains, sym, subst}
use Rattle.std.specs.Arc.{arc_value}
use Rattle.serial_meaning.specs.Open.{faults}
use Rattle.serial_meaning.specs.Plan.{PlanView}
use Rattle.serial_meaning.specs.declared.event.Fault.{Fault}
use Rattle.parallel_runner.proofs.faults.known_fault.Goals as goal

pub new-requires : goal.new-requires
new-requires c =
    let plan : arc_value c.in_ok-plan.plan ≡ arc_value c.args.plan.now = search rules in
    let fault : c.in_ok-fault.fault ≡ c.args.fault.now = search rules in
    subst (λ (p : PlanView). Contains (faults p) c.in_ok-fault.fault) (sym plan)
    (subst (λ (f : Fault). Contains (faults (arc_value c.args.plan.now)) f) (sym fault) c.requires)
