use Rattle.std.proofs.Common.{◌++◌, map, sym, ap, ◌∙◌}
use Rattle.script_check.specs.Slots.{joined, named_in_factor, named_in_summand}
use Rattle.script_check.proofs.FoundSlots.Collected.{one-part}
use Rattle.script_check.proofs.FoundSlots.Parts.{named-factor, named-summand}
use Rattle.script_check.proofs.named.+operands.Goals as goal

pub in_summands-loop-part-preserved : goal.in_summands-loop-part-preserved
in_summands-loop-part-preserved t c =
    let old = c.loop-part.named.items in
    let part = c.part-item.result in
    one-part named_in_summand c.args.parts.now c.loop-part.part-index part (c.args.named.now.items ++ joined (map named_in_summand c.args.parts.now)) old c.in_expr.new.named.items
    c.loop-part-test.true c.part-item.is c.loop-part.invariant (c.in_ok-in_expr.ensures ∙ ap (λ l. old ++ l) (sym (named-summand part)))

pub in_factors-loop-part-preserved : goal.in_factors-loop-part-preserved
in_factors-loop-part-preserved t c =
    let old = c.loop-part.named.items in
    let part = c.part-item.result in
    one-part named_in_factor c.args.parts.now c.loop-part.part-index part (c.args.named.now.items ++ joined (map named_in_factor c.args.parts.now)) old c.in_expr.new.named.items
    c.loop-part-test.true c.part-item.is c.loop-part.invariant (c.in_ok-in_expr.ensures ∙ ap (λ l. old ++ l) (sym (named-factor part)))
