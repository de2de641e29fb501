use Rattle.std.proofs.Common.{map, w64, rules, SFits}
use Rattle.std.proofs.lemmas.Int.{to_z-of_z}
use Rattle.serial_meaning.specs.Values.{value_of, product_part}
use Rattle.strand_values.proofs.NumberLemmas.{product_counts}
use Rattle.strand_values.proofs.plain.scaled.Goals as goal

pub returns : goal.returns
returns c =
    let env = c.args.env.now.variables in
    let n = c.in_ok-first.first in
    let fits : SFits w64 n = search rules in
    product_counts env (value_of c.args.first.now env) n (map product_part c.args.rest.now) c.multiplied.result c.in_ok-first.ensures (rw (to_z-of_z w64 n fits) at c.multiplied.ensures)
