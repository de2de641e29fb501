use Rattle.std.proofs.Common.{rules, ◌≡◌, ◌<◌, ◌≤◌, ◌∙◌, length, get_or, map, arith, sym, ap, subst}
use Rattle.std.proofs.lemmas.List.{get_or-map, length-map}
use Rattle.std.specs.Arc.{arc_value}
use Rattle.serial_meaning.specs.Answer.{KnownView}
use Rattle.parallel_runner.specs.Faults.{FaultsView, NoneCuts}
use Rattle.parallel_runner.proofs.Knowing.{here-none, next-cuts-none, none-cuts}
use Rattle.parallel_runner.proofs.faults.Faults.cutting.Goals as goal

pub loop-known-preserved : goal.loop-known-preserved
loop-known-preserved g c =
    let items = c.least-known-items.result.now in
    let i = c.loop-known.known-index in
    let lt : i < length items = search rules in
    let at : (d : KnownView) → get_or (map arc_value items) i d ≡ c.deref.result.now =
    λ d. get_or-map arc_value items i c.known-item.result d lt ∙ sym (ap arc_value c.known-item.is) ∙ sym c.deref.ensures in
    next-cuts-none (map arc_value items) c.args.entry.now.task.plan c.args.entry.now.task.origin i c.loop-known.invariant
    (λ d. here-none _ c.deref.result.now c.entry.inside.task c.args.entry.now (at d) c.entry.view_is (rw c.in_default-2.is at c.in_ok-by.ensures.none))

pub returns-clause-none : goal.returns-clause-none
returns-clause-none g c =
    let items = c.least-known-items.result.now in
    let plan = c.args.entry.now.task.plan in
    let origin = c.args.entry.now.task.origin in
    let end : length items ≤ c.loop-known.known-index = search rules in
    let none : NoneCuts (map arc_value items) plan origin = λ k d lt. c.loop-known.invariant k d (omega (arith, lt, end, length-map items arc_value)) in
    subst (λ (f : FaultsView). NoneCuts f.known plan origin) c.self.view_is (none-cuts c.self.inside.known (map arc_value items) plan origin c.least-known-items.ensures none)
