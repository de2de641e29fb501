use Rattle.script_check.specs.Slots.{has_slot}
use Rattle.strand_values.proofs.FoundOperands.{in_product, in_variable}
use Rattle.strand_values.proofs.NumberLemmas.{value_of_product}
use Rattle.strand_values.proofs.plain.first_operand.Goals as goal

pub integer_or_zero-requires : goal.integer_or_zero-requires
integer_or_zero-requires c = in_variable (has_slot c.args.slots.now c.args.env.now.names) c.args.e.now c.in-Var.name c.in-Var.is c.requires

pub scaled-requires-clause-first : goal.scaled-requires-clause-first
scaled-requires-clause-first c =
    let found = in_product (has_slot c.args.slots.now c.args.env.now.names) c.args.e.now c.in-Product.first c.in-Product.rest c.in-Product.is c.requires in
    rw c.get.ensures found.0

pub scaled-requires-clause-rest : goal.scaled-requires-clause-rest
scaled-requires-clause-rest c =
    let found = in_product (has_slot c.args.slots.now c.args.env.now.names) c.args.e.now c.in-Product.first c.in-Product.rest c.in-Product.is c.requires in
    rw c.as_slice.ensures found.1

pub returns-in-Product : goal.returns-in-Product
returns-in-Product c =
    rw (c.in-Product.is, value_of_product c.args.env.now.variables c.in-Product.first c.in-Product.rest)
    (rw (c.get.ensures, c.as_slice.ensures) at c.scaled.ensures)
