use Rattle.std.proofs.Common.{rules, ◌≡◌, ◌∙◌, IsTrue, ap}
use Rattle.serial_meaning.specs.Answer.{KnownView}
use Rattle.parallel_runner.proofs.Cutting.{is_cut}
use Rattle.parallel_runner.proofs.faults.cutting.Goals as goal

pub returns-clause-some : goal.returns-clause-some
returns-clause-some g c =
    let may : IsTrue c.may_cut.result = search rules in
    let one : IsTrue c.is_of.result = search rules in
    let plan : c.deref.result.now ≡ c.args.task.now.task.plan = search rules in
    let same : c.in_ok-by.by ≡ c.known.inside.fault = search rules in
    is_cut _ _ _ _ _ (ap (λ (k : KnownView). k.plan) c.known.view_is ∙ c.is_of.ensures.0 one ∙ plan) same c.known.invariant (c.may_cut.ensures.0 may)
