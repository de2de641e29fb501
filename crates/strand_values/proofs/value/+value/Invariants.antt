use Rattle.std.proofs.Common.{◌≡◌, map, drop}
use Rattle.serial_meaning.specs.Values.{sums, sum_part, products, product_part}
use Rattle.serial_meaning.specs.declared.value.Value.TheVariants.{Int}
use Rattle.strand_values.proofs.value.+value.Given as goal

abbrev pub invariant-add-loop-part : goal.invariant-add-loop-part
invariant-add-loop-part l =
    sums l.env.variables (Int l.fn.first) (map sum_part l.rest) ≡ sums l.env.variables (Int l.total) (map sum_part (drop l.part-index l.rest))

abbrev pub invariant-multiply-loop-part : goal.invariant-multiply-loop-part
invariant-multiply-loop-part l =
    products l.env.variables (Int l.fn.first) (map product_part l.rest) ≡ products l.env.variables (Int l.total) (map product_part (drop l.part-index l.rest))
