use Rattle.std.proofs.Common.{◌≡◌, ℤ, length, Ok, sym, subst, arith, w64, rules, SFits}
use Rattle.std.proofs.lemmas.Int.{to_z-of_z}
use Rattle.script_grammar.specs.declared.tree.Expr.TheVariants as variant
use Rattle.script_check.specs.Slots.{has_slot}
use Rattle.serial_meaning.specs.Values.{value_of}
use Rattle.serial_meaning.specs.declared.value.Value.TheVariants.{Int}
use Rattle.strand_values.proofs.Chains.{two_added}
use Rattle.strand_values.proofs.FoundOperands.{at_summand, in_comparison, in_sum}
use Rattle.strand_values.proofs.plain.short.Goals as goal

pub leaf-requires : goal.leaf-requires
leaf-requires c =
    let is = has_slot c.args.slots.now c.args.env.now.names in
    let found = in_sum is c.args.e.now c.in-Sum.first c.in-Sum.rest c.in-Sum.is c.requires in
    at_summand is c.as_slice.result.now 0 c.part-item.result (rw c.as_slice.ensures found.1) (omega (arith, c.in-len1.len_at_least)) c.part-item.is

pub short_operand-requires : goal.short_operand-requires
short_operand-requires c =
    let found = in_sum (has_slot c.args.slots.now c.args.env.now.names) c.args.e.now c.in-Sum.first c.in-Sum.rest c.in-Sum.is c.requires in
    rw c.get.ensures found.0

pub returns-in_ok-left-in-Sum : goal.returns-in_ok-left-in-Sum
returns-in_ok-left-in-Sum c =
    let env = c.args.env.now.variables in
    let n = c.in_ok-left-in-Sum.left in
    let m = c.in_ok-right-in-Sum.right in
    let s = c.sum.result in
    let left : SFits w64 n = search rules in
    let right : SFits w64 m = search rules in
    let fits : SFits w64 s = search rules in
    let one : length c.as_slice.result.now ≡ 1 = omega (arith, c.in-len1.len_at_least, c.in-len1.len_below) in
    let Is : ℤ → Type 0 = λ z. value_of (variant.Sum c.in-Sum.first c.as_slice.result.now) env ≡ Ok (Int z) in
    rw (c.in-Sum.is, sym c.as_slice.ensures)
    (subst Is (sym (to_z-of_z w64 s fits))
    (two_added env c.in-Sum.first c.as_slice.result.now c.part-item.result n m s one c.part-item.is (rw c.get.ensures at c.in_ok-left-in-Sum.ensures) c.in_ok-right-in-Sum.ensures
    (rw (to_z-of_z w64 n left, to_z-of_z w64 m right) at c.sum.ensures)))

pub leaf-requires-in-Compare : goal.leaf-requires-in-Compare
leaf-requires-in-Compare c =
    let found = in_comparison (has_slot c.args.slots.now c.args.env.now.names) c.args.e.now c.in-Compare.left c.in-Compare.how c.in-Compare.right c.in-Compare.is c.requires in
    rw c.get-in-Compare.ensures found.0

pub leaf-requires-in-Compare-2 : goal.leaf-requires-in-Compare-2
leaf-requires-in-Compare-2 c =
    let found = in_comparison (has_slot c.args.slots.now c.args.env.now.names) c.args.e.now c.in-Compare.left c.in-Compare.how c.in-Compare.right c.in-Compare.is c.requires in
    rw c.get-in-Compare-2.ensures found.1
