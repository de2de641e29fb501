use Rattle.std.proofs.Common.{◌≡◌, ◌↔◌, drop}
use Rattle.serial_meaning.proofs.same_expression.+expressions.Given as goal

abbrev pub invariant-same_product_parts-loop-i : goal.invariant-same_product_parts-loop-i
invariant-same_product_parts-loop-i l = (l.parts ≡ l.others) ↔ (drop l.i l.parts ≡ drop l.i l.others)

abbrev pub invariant-same_sum_parts-loop-i : goal.invariant-same_sum_parts-loop-i
invariant-same_sum_parts-loop-i l = (l.parts ≡ l.others) ↔ (drop l.i l.parts ≡ drop l.i l.others)
