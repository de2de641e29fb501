use Rattle.std.proofs.Common.{◌≡◌, ◌<◌, ◌∙◌, List, length, get_or, map, sym, ap, subst}
use Rattle.std.specs.Arc.{arc_value}
use Rattle.serial_meaning.specs.Answer.{KnownView}
use Rattle.parallel_runner.specs.Faults.{HasNoneOf, IsLeastOf}
use Rattle.parallel_runner.proofs.Knowing.{least-at, none-known}
use Rattle.parallel_runner.proofs.known_faults.KnownFaults.least_of.Goals as goal

pub returns-in-Some-clause-some : goal.returns-in-Some-clause-some
returns-in-Some-clause-some c =
    let xs = c.as_slice-least.result.now in
    let ys = c.self.inside.least.items in
    let same : xs ≡ ys = c.as_slice-least.ensures.value in
    let found : c.deref.result.now ≡ arc_value (get_or ys c.in-Some.i c.index-least-i.result) =
    c.deref.ensures ∙ ap arc_value (c.index-least-i.is ∙ ap (λ zs. get_or zs c.in-Some.i c.index-least-i.result) same) in
    let least = least-at arc_value xs ys c.in-Some.i c.args.plan.now same c.in-Some.ensures.some.0 c.in-Some.ensures.some.1 c.self.inside.all.items c.index-least-i.result c.self.invariant in
    subst (IsLeastOf c.args.plan.now c.args.self.now) (sym found) (subst (λ (l : List KnownView). IsLeastOf c.args.plan.now l (arc_value (get_or ys c.in-Some.i c.index-least-i.result))) c.self.view_is least)

pub returns-in-None-clause-none : goal.returns-in-None-clause-none
returns-in-None-clause-none c =
    let xs = c.as_slice-least.result.now in
    let ys = c.self.inside.least.items in
    let same : xs ≡ ys = c.as_slice-least.ensures.value in
    let none = subst (λ (l : List KnownView). HasNoneOf c.args.plan.now l) (ap (map arc_value) same) c.in-None.ensures.none in
    subst (λ (l : List KnownView). HasNoneOf c.args.plan.now l) c.self.view_is (none-known c.self.inside.all.items (map arc_value ys) c.self.invariant c.args.plan.now none)
