use borrow.Author.Sizes.{sizes}
use Rattle.script_grammar.specs.declared.tree.Expr.{the_lemmas}
use Rattle.std.proofs.Common.{◌≡◌, map, add-one, sym, ◌∙◌, w64, rules, SFits}
use Rattle.std.proofs.lemmas.Int.{to_z-of_z}
use Rattle.script_check.specs.Slots.{has_slot}
use Rattle.serial_meaning.specs.Values.{value_of, sum_part, product_part}
use Rattle.strand_values.specs.Gives.{integer_result, integral}
use Rattle.strand_values.proofs.FoundOperands.{at_factor, at_summand, in_variable}
use Rattle.strand_values.proofs.NumberLemmas.{whole_gives, comparison_is_int, sum_gives, product_gives, sum_is_int, product_is_int, product_of_one, value_of_sum, value_of_product, value_of_comparison}
use Rattle.strand_values.proofs.Chains.{next_sum, next_product, sum_ends, product_ends, product_stops}
use Rattle.strand_values.proofs.value.+value.Goals as goal

pub value-scalar-requires : goal.value-scalar-requires
value-scalar-requires t c =
    in_variable (has_slot c.args.slots.now c.args.env.now.names) c.args.e.now c.in-Var.name c.in-Var.is c.requires.found

pub integer-integer_or_zero-requires : goal.integer-integer_or_zero-requires
integer-integer_or_zero-requires t c =
    in_variable (has_slot c.args.slots.now c.args.env.now.names) c.args.e.now c.in-Var.name c.in-Var.is c.requires.found

pub operand-integer_or_zero-requires : goal.operand-integer_or_zero-requires
operand-integer_or_zero-requires t c =
    in_variable (has_slot c.args.slots.now c.args.env.now.names) c.args.e.now c.in-Var.name c.in-Var.is c.requires.found

pub add-operand-requires : goal.add-operand-requires
add-operand-requires t c =
    (search (rules, sizes, the_lemmas), at_summand (has_slot c.args.slots.now c.args.env.now.names) c.args.rest.now c.loop-part.part-index c.part-item.result c.requires.found c.loop-part-test.true c.part-item.is)

pub multiply-operand-requires : goal.multiply-operand-requires
multiply-operand-requires t c =
    (search (rules, sizes, the_lemmas), at_factor (has_slot c.args.slots.now c.args.env.now.names) c.args.rest.now c.loop-part.part-index c.part-item.result c.requires.found c.loop-part-test.true c.part-item.is)

pub add-loop-part-preserved : goal.add-loop-part-preserved
add-loop-part-preserved t c =
    let fits : SFits w64 c.in_ok-right.right = search rules in
    let fits_sum : SFits w64 c.sum-total.result = search rules in
    let sum = rw (c.loop-part.total-is, to_z-of_z w64 c.in_ok-right.right fits) at c.sum-total.ensures in
    let from = rw c.loop-part.total-is at c.loop-part.invariant in
    rw (add-one, to_z-of_z w64 c.sum-total.result fits_sum)
    (next_sum c.args.env.now.variables c.args.rest.now c.loop-part.part-index c.part-item.result c.loop-part.total _ c.in_ok-right.right c.sum-total.result c.loop-part-test.true c.part-item.is c.in_ok-right.ensures sum from)

pub add-returns-in_err-right : goal.add-returns-in_err-right
add-returns-in_err-right t c =
    let from = rw (c.loop-part.total-is, to_z-of_z w64 c.args.first c.ranges.first) at c.loop-part.invariant in
    sum_ends c.args.env.now.variables c.args.rest.now c.loop-part.part-index c.part-item.result c.loop-part.total _ c.in_err-right.field-0.0 c.from_residual.result c.loop-part-test.true c.part-item.is c.in_err-right.ensures c.from_residual.ensures.1 from

pub multiply-loop-part-preserved : goal.multiply-loop-part-preserved
multiply-loop-part-preserved t c =
    let fits : SFits w64 c.in_ok-right.right = search rules in
    let fits_total : SFits w64 c.in_ok-total.total = search rules in
    let whole = rw (c.loop-part.total-is, to_z-of_z w64 c.in_ok-right.right fits) at c.in_ok-total.ensures in
    let from = rw c.loop-part.total-is at c.loop-part.invariant in
    rw (add-one, to_z-of_z w64 c.in_ok-total.total fits_total)
    (next_product c.args.env.now.variables c.args.rest.now c.loop-part.part-index c.part-item.result c.loop-part.total _ c.in_ok-right.right c.in_ok-total.total c.loop-part-test.true c.part-item.is c.in_ok-right.ensures (sym whole) from)

pub multiply-returns-in_err-right : goal.multiply-returns-in_err-right
multiply-returns-in_err-right t c =
    let from = rw (c.loop-part.total-is, to_z-of_z w64 c.args.first c.ranges.first) at c.loop-part.invariant in
    product_ends c.args.env.now.variables c.args.rest.now c.loop-part.part-index c.part-item.result c.loop-part.total _ c.in_err-right.field-0.0 c.from_residual.result c.loop-part-test.true c.part-item.is c.in_err-right.ensures c.from_residual.ensures.1 from

pub multiply-returns-in_err-total : goal.multiply-returns-in_err-total
multiply-returns-in_err-total t c =
    let fits : SFits w64 c.in_ok-right.right = search rules in
    let from = rw (c.loop-part.total-is, to_z-of_z w64 c.args.first c.ranges.first) at c.loop-part.invariant in
    let stop = rw (c.loop-part.total-is, to_z-of_z w64 c.in_ok-right.right fits) at c.in_err-total.ensures in
    product_stops c.args.env.now.variables c.args.rest.now c.loop-part.part-index c.part-item.result c.loop-part.total _ c.in_ok-right.right c.in_err-total.field-0.0 c.from_residual-in_err-total.result c.loop-part-test.true c.part-item.is
    c.in_ok-right.ensures (sym stop) c.from_residual-in_err-total.ensures.1 from

pub integer-returns-in-Ok-operand-2 : goal.integer-returns-in-Ok-operand-2
integer-returns-in-Ok-operand-2 t c =
    let env = c.args.env.now.variables in
    let n = c.in-Ok-operand-2.first in
    let fits : SFits w64 n = search rules in
    let known = rw c.get-in-Sum.ensures at c.in-Ok-operand-2.ensures in
    rw (c.in-Sum.is, value_of_sum env c.in-Sum.first c.in-Sum.rest)
    (sum_gives env (value_of c.in-Sum.first env) n (map sum_part c.in-Sum.rest) c.add.result known (rw (c.as_slice.ensures, to_z-of_z w64 n fits) at c.add.ensures))

pub integer-returns-in-Ok-operand-3 : goal.integer-returns-in-Ok-operand-3
integer-returns-in-Ok-operand-3 t c =
    let env = c.args.env.now.variables in
    let n = c.in-Ok-operand-3.first in
    let fits : SFits w64 n = search rules in
    let known = rw c.get-in-Product.ensures at c.in-Ok-operand-3.ensures in
    rw (c.in-Product.is, value_of_product env c.in-Product.first c.in-Product.rest)
    (product_gives env (value_of c.in-Product.first env) n (map product_part c.in-Product.rest) c.multiply.result known (rw (c.as_slice-in-Ok-operand-3.ensures, to_z-of_z w64 n fits) at c.multiply.ensures))

pub value-returns-else-is_empty : goal.value-returns-else-is_empty
value-returns-else-is_empty t c =
    let env = c.args.env.now.variables in
    let d = value_of c.args.e.now env in
    let empty = rw c.as_slice.ensures at c.is_empty.ensures in
    let some = sym empty ∙ c.if-is_empty.false in
    let whole : d ≡ integral (integer_result d) = rw (c.in-Sum.is, value_of_sum env c.in-Sum.first c.in-Sum.rest) (sum_is_int env (value_of c.in-Sum.first env) c.in-Sum.rest some) in
    rw c.integral.ensures (whole_gives c.integer.result d whole c.integer.ensures)

pub value-returns-then-is_empty-2 : goal.value-returns-then-is_empty-2
value-returns-then-is_empty-2 t c =
    let env = c.args.env.now.variables in
    let empty = rw c.as_slice-in-Product.ensures at c.is_empty-in-Product.ensures in
    let none = sym empty ∙ c.if-is_empty-2.true in
    let first = rw c.get-then-is_empty-2.ensures at c.value-then-is_empty-2.ensures in
    rw (c.in-Product.is, value_of_product env c.in-Product.first c.in-Product.rest, product_of_one env (value_of c.in-Product.first env) c.in-Product.rest none) first

pub value-returns-else-is_empty-2 : goal.value-returns-else-is_empty-2
value-returns-else-is_empty-2 t c =
    let env = c.args.env.now.variables in
    let d = value_of c.args.e.now env in
    let empty = rw c.as_slice-in-Product.ensures at c.is_empty-in-Product.ensures in
    let some = sym empty ∙ c.if-is_empty-2.false in
    let whole : d ≡ integral (integer_result d) = rw (c.in-Product.is, value_of_product env c.in-Product.first c.in-Product.rest) (product_is_int env (value_of c.in-Product.first env) c.in-Product.rest some) in
    rw c.integral-else-is_empty-2.ensures (whole_gives c.integer-else-is_empty-2.result d whole c.integer-else-is_empty-2.ensures)

pub value-returns-in-Compare : goal.value-returns-in-Compare
value-returns-in-Compare t c =
    let env = c.args.env.now.variables in
    let d = value_of c.args.e.now env in
    let whole : d ≡ integral (integer_result d) = rw (c.in-Compare.is, value_of_comparison env c.in-Compare.field-0 c.in-Compare.field-1 c.in-Compare.field-2) (comparison_is_int c.in-Compare.field-1 (value_of c.in-Compare.field-0 env) (value_of c.in-Compare.field-2 env)) in
    rw c.integral-in-Compare.ensures (whole_gives c.integer-in-Compare.result d whole c.integer-in-Compare.ensures)
