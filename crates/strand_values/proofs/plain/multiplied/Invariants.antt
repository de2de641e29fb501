use Rattle.std.proofs.Common.{◌≡◌, map, drop}
use Rattle.serial_meaning.specs.Values.{products, product_part}
use Rattle.serial_meaning.specs.declared.value.Value.TheVariants.{Int}
use Rattle.strand_values.proofs.plain.multiplied.Given as goal

abbrev pub invariant-loop-part : goal.invariant-loop-part
invariant-loop-part l =
    products l.env.variables (Int l.fn.first) (map product_part l.rest) ≡ products l.env.variables (Int l.total) (map product_part (drop l.part-index l.rest))
