use Rattle.std.proofs.Common.{◌≡◌, ◌<◌, ◌∙◌, IsTrue, length, get_or, map, rules, sym, ap}
use Rattle.std.proofs.lemmas.List.{get_or-map}
use Rattle.std.specs.Arc.{arc_value}
use Rattle.serial_meaning.specs.Answer.{KnownView}
use Rattle.parallel_runner.proofs.Knowing.{none-more, plan_of}
use Rattle.parallel_runner.proofs.known_faults.place_of.Goals as goal

pub loop-i-preserved : goal.loop-i-preserved
loop-i-preserved c =
    let lt : c.loop-i.i < length c.args.least.now = search rules in
    let at = λ (d : KnownView). get_or-map arc_value c.args.least.now c.loop-i.i c.index-least-i.result d lt ∙ sym (ap arc_value c.index-least-i.is) ∙ sym c.deref.ensures in
    none-more (map arc_value c.args.least.now) c.args.plan.now c.loop-i.i c.loop-i.invariant
    (λ d same. let yes : IsTrue c.is_of.result = c.is_of.ensures.1 (ap plan_of (sym (at d)) ∙ same) in absurd (let no = c.if-is_of.false in (cc)))
