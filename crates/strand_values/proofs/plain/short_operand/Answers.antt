use Rattle.std.proofs.Common.{◌≡◌, length, sym, arith, w64, rules, SFits}
use Rattle.std.proofs.lemmas.Int.{to_z-of_z}
use Rattle.script_check.specs.Slots.{has_slot}
use Rattle.strand_values.proofs.Chains.{product_if_any}
use Rattle.strand_values.proofs.FoundOperands.{at_factor, in_product}
use Rattle.strand_values.proofs.plain.short_operand.Goals as goal

pub leaf-requires : goal.leaf-requires
leaf-requires c =
    let found = in_product (has_slot c.args.slots.now c.args.env.now.names) c.args.e.now c.in-Product.first c.in-Product.rest c.in-Product.is c.requires in
    rw c.get.ensures found.0

pub leaf-requires-in-Product : goal.leaf-requires-in-Product
leaf-requires-in-Product c =
    let is = has_slot c.args.slots.now c.args.env.now.names in
    let found = in_product is c.args.e.now c.in-Product.first c.in-Product.rest c.in-Product.is c.requires in
    at_factor is c.as_slice.result.now 0 c.part-item.result (rw c.as_slice.ensures found.1) (omega (arith, c.in-len1.len_at_least)) c.part-item.is

pub returns-in_ok-right-in-Product : goal.returns-in_ok-right-in-Product
returns-in_ok-right-in-Product c =
    let n = c.in_ok-left-in-Product.left in
    let m = c.in_ok-right-in-Product.right in
    let left : SFits w64 n = search rules in
    let right : SFits w64 m = search rules in
    let one : length c.as_slice.result.now ≡ 1 = omega (arith, c.in-len1.len_at_least, c.in-len1.len_below) in
    rw (c.in-Product.is, sym c.as_slice.ensures, c.ok.ensures.value)
    (product_if_any c.args.env.now.variables c.in-Product.first c.as_slice.result.now c.part-item.result n m c.product.result one c.part-item.is (rw c.get.ensures at c.in_ok-left-in-Product.ensures) c.in_ok-right-in-Product.ensures
    (rw (to_z-of_z w64 n left, to_z-of_z w64 m right) at c.product.ensures))
