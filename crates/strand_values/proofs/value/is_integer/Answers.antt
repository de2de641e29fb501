use Rattle.std.proofs.Common.{◌≡◌, Bool, true, false, not, length, ◌==◌, refl, sym, ◌∙◌}
use Rattle.std.specs.Prelude.{IsTrue}
use Rattle.std.specs.Str.{bytes_eq}
use Rattle.std.specs.Ordering.{nat_cmp, is_lt}
use Rattle.std.specs.Cmp.Lexicographic.{slice_cmp}
use Rattle.serial_meaning.specs.Values.{value_of, object}
use Rattle.strand_values.proofs.NumberLemmas.{comparison_is_int, truth_of_two_is_int, sum_is_int, product_is_int, value_of_sum, value_of_product, value_of_comparison, value_of_same, value_of_older}
use Rattle.strand_values.proofs.value.is_integer.Goals as goal

none : (b : Bool) → IsTrue (not b) → b ≡ false
none true h = absurd (cc)
none false h = refl

pub returns-in-Sum : goal.returns-in-Sum
returns-in-Sum c = λ env h.
    let some : (length c.in-Sum.rest == 0) ≡ false = sym (rw c.as_slice.ensures at c.is_empty.ensures) ∙ none c.is_empty.result h in
    rw (c.in-Sum.is, value_of_sum env c.in-Sum.field-0 c.in-Sum.rest) (sum_is_int env (value_of c.in-Sum.field-0 env) c.in-Sum.rest some)

pub returns-in-Product : goal.returns-in-Product
returns-in-Product c = λ env h.
    let some : (length c.in-Product.rest == 0) ≡ false = sym (rw c.as_slice-in-Product.ensures at c.is_empty-in-Product.ensures) ∙ none c.is_empty-in-Product.result h in
    rw (c.in-Product.is, value_of_product env c.in-Product.field-0 c.in-Product.rest) (product_is_int env (value_of c.in-Product.field-0 env) c.in-Product.rest some)

pub returns-in-Compare : goal.returns-in-Compare
returns-in-Compare c = λ env h.
    rw (c.in-Compare.is, value_of_comparison env c.in-Compare.field-0 c.in-Compare.field-1 c.in-Compare.field-2) (comparison_is_int c.in-Compare.field-1 (value_of c.in-Compare.field-0 env) (value_of c.in-Compare.field-2 env))

pub returns-in-Same : goal.returns-in-Same
returns-in-Same c = λ env h.
    rw (c.in-Same.is, value_of_same env c.in-Same.field-0 c.in-Same.field-1 c.in-Same.field-2) (truth_of_two_is_int (λ x y. bytes_eq (object x) (object y)) (value_of c.in-Same.field-1 env) (value_of c.in-Same.field-2 env))

pub returns-in-Older : goal.returns-in-Older
returns-in-Older c = λ env h.
    rw (c.in-Older.is, value_of_older env c.in-Older.field-0 c.in-Older.field-1 c.in-Older.field-2) (truth_of_two_is_int (λ x y. is_lt (slice_cmp nat_cmp (object x) (object y))) (value_of c.in-Older.field-1 env) (value_of c.in-Older.field-2 env))
