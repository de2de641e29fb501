use Rattle.std.proofs.Common.{◌≡◌, ◌++◌, flat_map, drop}
use Rattle.script_print.specs.Canonical.{sum_part_text, product_part_text}
use Rattle.script_print.proofs.expression.+expressions.Given as goal

abbrev pub invariant-write_product_parts-loop-part : goal.invariant-write_product_parts-loop-part
invariant-write_product_parts-loop-part l =
    l.fn.text.items ++ flat_map product_part_text l.parts ≡ l.text.items ++ flat_map product_part_text (drop l.part-index l.parts)

abbrev pub invariant-write_sum_parts-loop-part : goal.invariant-write_sum_parts-loop-part
invariant-write_sum_parts-loop-part l =
    l.fn.text.items ++ flat_map sum_part_text l.parts ≡ l.text.items ++ flat_map sum_part_text (drop l.part-index l.parts)
