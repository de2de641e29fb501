use Rattle.std.proofs.Common.{sym, ◌∙◌, w64, rules, SFits}
use Rattle.std.proofs.lemmas.Int.{to_z-of_z}
use Rattle.script_check.specs.Slots.{has_slot}
use Rattle.serial_meaning.specs.Values.{value_of}
use Rattle.strand_values.proofs.FoundOperands.{in_comparison, in_product, in_sum}
use Rattle.strand_values.proofs.NumberLemmas.{sum_is, product_is, value_of_sum, value_of_product}
use Rattle.strand_values.proofs.plain.longer.Goals as goal

pub first_operand-requires : goal.first_operand-requires
first_operand-requires c =
    let found = in_sum (has_slot c.args.slots.now c.args.env.now.names) c.args.e.now c.in-Sum.first c.in-Sum.rest c.in-Sum.is c.requires in
    rw c.get.ensures found.0

pub total-requires : goal.total-requires
total-requires c =
    let found = in_sum (has_slot c.args.slots.now c.args.env.now.names) c.args.e.now c.in-Sum.first c.in-Sum.rest c.in-Sum.is c.requires in
    rw c.as_slice-in-Sum.ensures found.1

pub returns-in_ok-first-in-Sum : goal.returns-in_ok-first-in-Sum
returns-in_ok-first-in-Sum c =
    let env = c.args.env.now.variables in
    let n = c.in_ok-first-in-Sum.first in
    let fits : SFits w64 n = search rules in
    let some = sym (rw c.as_slice.ensures at c.is_empty.ensures) ∙ c.if-is_empty.false in
    let known = rw c.get.ensures at c.in_ok-first-in-Sum.ensures in
    rw (c.in-Sum.is, value_of_sum env c.in-Sum.first c.in-Sum.rest)
    (sum_is env (value_of c.in-Sum.first env) n c.in-Sum.rest c.total.result some known (rw (c.as_slice-in-Sum.ensures, to_z-of_z w64 n fits) at c.total.ensures))

pub scaled-requires-clause-first : goal.scaled-requires-clause-first
scaled-requires-clause-first c =
    let found = in_product (has_slot c.args.slots.now c.args.env.now.names) c.args.e.now c.in-Product.first c.in-Product.rest c.in-Product.is c.requires in
    rw c.get-in-Product.ensures found.0

pub scaled-requires-clause-rest : goal.scaled-requires-clause-rest
scaled-requires-clause-rest c =
    let found = in_product (has_slot c.args.slots.now c.args.env.now.names) c.args.e.now c.in-Product.first c.in-Product.rest c.in-Product.is c.requires in
    rw c.as_slice-in-Product-2.ensures found.1

pub returns-else-is_empty-2 : goal.returns-else-is_empty-2
returns-else-is_empty-2 c =
    let env = c.args.env.now.variables in
    let some = sym (rw c.as_slice-in-Product.ensures at c.is_empty-in-Product.ensures) ∙ c.if-is_empty-2.false in
    rw (c.in-Product.is, value_of_product env c.in-Product.first c.in-Product.rest)
    (product_is env (value_of c.in-Product.first env) c.in-Product.rest c.scaled.result some (rw (c.get-in-Product.ensures, c.as_slice-in-Product-2.ensures) at c.scaled.ensures))

pub first_operand-requires-in-Compare : goal.first_operand-requires-in-Compare
first_operand-requires-in-Compare c =
    let found = in_comparison (has_slot c.args.slots.now c.args.env.now.names) c.args.e.now c.in-Compare.left c.in-Compare.how c.in-Compare.right c.in-Compare.is c.requires in
    rw c.get-in-Compare.ensures found.0

pub operand-requires : goal.operand-requires
operand-requires c =
    let found = in_comparison (has_slot c.args.slots.now c.args.env.now.names) c.args.e.now c.in-Compare.left c.in-Compare.how c.in-Compare.right c.in-Compare.is c.requires in
    rw c.get-in-Compare-2.ensures found.1
