use Rattle.std.proofs.Common.{rules, ◌≡◌, ◌∙◌, IsTrue, ap}
use Rattle.serial_meaning.specs.Answer.{KnownView}
use Rattle.parallel_runner.proofs.Cutting.{is_cut}
use Rattle.parallel_runner.proofs.entry.cut_by_own.Goals as goal

pub returns : goal.returns
returns g c =
    let may : IsTrue c.may_cut.result = search rules in
    let same : c.in_ok-by.by ≡ c.own.inside.fault = search rules in
    is_cut _ _ _ _ _ (ap (λ (k : KnownView). k.plan) c.own.view_is ∙ c.requires) same c.own.invariant (c.may_cut.ensures.0 may)
