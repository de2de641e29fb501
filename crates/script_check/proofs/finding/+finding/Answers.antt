use Rattle.std.proofs.Common.{false, true, sym, ◌∙◌}
use Rattle.script_check.specs.Slots.{every_in_factor, every_in_summand}
use Rattle.script_check.specs.Walk.{finds}
use Rattle.script_check.proofs.FoundSlots.Collected.{all-at}
use Rattle.script_check.proofs.FoundSlots.Parts.{every-factor, every-summand}
use Rattle.script_check.proofs.finding.+finding.Goals as goal

pub in_summands-returns-then-not-in_expr : goal.in_summands-returns-then-not-in_expr
in_summands-returns-then-not-in_expr t c =
    let is = finds c.args.f.now in
    let part = c.part-item.result in
    sym (c.loop-part.invariant ∙ all-at (every_in_summand is) c.args.parts.now c.loop-part.part-index part false c.loop-part-test.true c.part-item.is
    (every-summand is part ∙ sym c.in_expr.ensures ∙ c.if-not-in_expr.true))

pub in_summands-loop-part-preserved : goal.in_summands-loop-part-preserved
in_summands-loop-part-preserved t c =
    let is = finds c.args.f.now in
    let part = c.part-item.result in
    c.loop-part.invariant ∙ all-at (every_in_summand is) c.args.parts.now c.loop-part.part-index part true c.loop-part-test.true c.part-item.is
    (every-summand is part ∙ sym c.in_expr.ensures ∙ c.if-not-in_expr.false)

pub in_factors-returns-then-not-in_expr : goal.in_factors-returns-then-not-in_expr
in_factors-returns-then-not-in_expr t c =
    let is = finds c.args.f.now in
    let part = c.part-item.result in
    sym (c.loop-part.invariant ∙ all-at (every_in_factor is) c.args.parts.now c.loop-part.part-index part false c.loop-part-test.true c.part-item.is
    (every-factor is part ∙ sym c.in_expr.ensures ∙ c.if-not-in_expr.true))

pub in_factors-loop-part-preserved : goal.in_factors-loop-part-preserved
in_factors-loop-part-preserved t c =
    let is = finds c.args.f.now in
    let part = c.part-item.result in
    c.loop-part.invariant ∙ all-at (every_in_factor is) c.args.parts.now c.loop-part.part-index part true c.loop-part-test.true c.part-item.is
    (every-factor is part ∙ sym c.in_expr.ensures ∙ c.if-not-in_expr.false)
