use Rattle.std.proofs.Common.{◌≡◌, map, drop}
use Rattle.serial_meaning.specs.Values.{sums, sum_part}
use Rattle.serial_meaning.specs.declared.value.Value.TheVariants.{Int}
use Rattle.strand_values.proofs.plain.total.Given as goal

abbrev pub invariant-loop-part : goal.invariant-loop-part
invariant-loop-part l =
    sums l.env.variables (Int l.fn.first) (map sum_part l.rest) ≡ sums l.env.variables (Int l.total) (map sum_part (drop l.part-index l.rest))
