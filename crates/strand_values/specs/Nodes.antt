-- What a node of an expression gives by what its last operand gives: the last part of one case of the definition of values.
use Rattle.std.specs.Prelude.{ℕ, List, Ok, map}
use Rattle.std.specs.Prelude.{ℤ}
use Rattle.std.specs.Int.{w64, int_wrapping_neg}
use Rattle.std.specs.Str.{bytes_eq}
use Rattle.std.specs.Ordering.{nat_cmp, is_lt}
use Rattle.std.specs.Cmp.Lexicographic.{slice_cmp}
use Rattle.script_grammar.specs.declared.tree.Comparison.{Comparison}
use Rattle.script_grammar.specs.declared.tree.ProductPart.{ProductPart}
use Rattle.serial_meaning.specs.Runs.{◌>>=◌}
use Rattle.serial_meaning.specs.Values.{Val, Env, content_of, items_of, item, as_integer, object, truth, compared, products, product_part}
use Rattle.serial_meaning.specs.declared.value.Value.{Value}
use Rattle.serial_meaning.specs.declared.value.Value.TheVariants.{Int}

abbrev pub item_at : Env → List ℕ → Val → Val
item_at env name index = index >>= λ v. item (items_of (content_of env name)) (as_integer v)

abbrev pub negated : Val → Val
negated operand = operand >>= λ v. Ok (Int (int_wrapping_neg w64 (as_integer v)))

abbrev pub same : Value → Val → Val
same left right = right >>= λ y. Ok (truth (bytes_eq (object left) (object y)))

abbrev pub older : Value → Val → Val
older left right = right >>= λ y. Ok (truth (is_lt (slice_cmp nat_cmp (object left) (object y))))

abbrev pub comparison : ℤ → Comparison → Val → Val
comparison left how right = right >>= λ y. Ok (truth (compared how left (as_integer y)))

abbrev pub product_value : Env → Val → List ProductPart → Val
product_value env first rest = first >>= λ v. products env v (map product_part rest)
