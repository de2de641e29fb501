-- Values of which only the number counts.
use Rattle.std.proofs.Common.{◌≡◌, ℕ, zero, suc, Bool, true, false, ◌==◌, List, [], ◌∷◌, map, length, Result, Ok, Err, Option, Some, None, IfSome, refl, ap, sym, subst, ◌∙◌, int_rem, arith}
use Rattle.std.proofs.lemmas.Bool.{eqb-true}
use Rattle.std.proofs.Common.{ℤ, pos, negsuc, w64}
use Rattle.std.specs.Int.{int_wrapping_div}
use Rattle.std.specs.Str.{bytes_eq}
use Rattle.std.specs.Ordering.{nat_cmp, is_lt}
use Rattle.std.specs.Cmp.Lexicographic.{slice_cmp}
use Rattle.script_grammar.specs.declared.tree.Comparison.{Comparison}
use Rattle.script_grammar.specs.declared.tree.Expr.{Expr, roll-Expr, map-Expr, fold-roll-Expr}
use Rattle.script_grammar.specs.declared.tree.Expr.TheVariants as variant
use Rattle.script_grammar.specs.declared.tree.Expr.TheOpen as node
use Rattle.script_grammar.specs.declared.tree.Expr.TheOpen.{Expr-F}
use Rattle.script_grammar.specs.declared.tree.ProductSign.{ProductSign}
use Rattle.script_grammar.specs.declared.tree.ProductSign.TheVariants as sign
use Rattle.script_grammar.specs.declared.tree.ProductPart.{ProductPart}
use Rattle.script_grammar.specs.declared.tree.SumPart.{SumPart}
use Rattle.serial_meaning.specs.Runs.{◌>>=◌}
use Rattle.serial_meaning.specs.Values.{Val, Env, Meaning, as_integer, object, truth, compared, added, over, product, sums, products, sum_part, product_part, value_of, value_at, product_at, sum_at}
use Rattle.serial_meaning.specs.declared.value.Value.{Value}
use Rattle.serial_meaning.specs.declared.value.Value.TheVariants.{Int}
use Rattle.strand_values.specs.Gives.{Calculates, integer_result, integral}
use Rattle.strand_values.specs.declared.evaluation_error.EvaluationError.{EvaluationError}
use Rattle.strand_values.specs.declared.evaluation_error.EvaluationError.TheVariants as error

-- an integer that is given is the number
numbered_gives : (r : Result ℤ EvaluationError) (d : Val) → Calculates (integral r) d → Calculates r (integer_result d)
numbered_gives (Ok n) d h = ap integer_result h
numbered_gives (Err (error.Fault kind)) d h = ap integer_result h
numbered_gives (Err error.Memory) d h = tt

-- a number is given as the integer that it is, where the value is one
pub whole_gives : (r : Result ℤ EvaluationError) (d : Val) → d ≡ integral (integer_result d) → Calculates r (integer_result d) → Calculates (integral r) d
whole_gives (Ok n) d e h = e ∙ ap integral h
whole_gives (Err (error.Fault kind)) d e h = e ∙ ap integral h
whole_gives (Err error.Memory) d e h = tt

truth_is_int : (b : Bool) → let d : Val = Ok (truth b) in d ≡ integral (integer_result d)
truth_is_int true = refl
truth_is_int false = refl

pub comparison_is_int : (how : Comparison) (left right : Val) →
    (left >>= λ x. right >>= λ y. Ok (truth (compared how (as_integer x) (as_integer y)))) ≡ integral (integer_result (left >>= λ x. right >>= λ y. Ok (truth (compared how (as_integer x) (as_integer y)))))
comparison_is_int how (Err kind) right = refl
comparison_is_int how (Ok x) (Err kind) = refl
comparison_is_int how (Ok x) (Ok y) = truth_is_int (compared how (as_integer x) (as_integer y))

pub truth_of_two_is_int : (f : Value → Value → Bool) (left right : Val) →
    (left >>= λ x. right >>= λ y. Ok (truth (f x y))) ≡ integral (integer_result (left >>= λ x. right >>= λ y. Ok (truth (f x y))))
truth_of_two_is_int f (Err kind) right = refl
truth_of_two_is_int f (Ok x) (Err kind) = refl
truth_of_two_is_int f (Ok x) (Ok y) = truth_is_int (f x y)

-- Only the number of a chain's first value counts

sum_begins : (env : Env) (d : Val) (n : ℤ) (ps : List (Bool × Meaning)) → integer_result d ≡ Ok n → integer_result (d >>= λ v. sums env v ps) ≡ integer_result (sums env (Int n) ps)
sum_begins env (Err kind) n ps h = absurd (cc)
sum_begins env (Ok v) n [] h = h
sum_begins env (Ok v) n (p ∷ ps) h = let e : as_integer v ≡ n = cc in rw e refl

pub sum_gives : (env : Env) (d : Val) (n : ℤ) (ps : List (Bool × Meaning)) (r : Result ℤ EvaluationError) → integer_result d ≡ Ok n → Calculates (integral r) (sums env (Int n) ps) → Calculates r (integer_result (d >>= λ v. sums env v ps))
sum_gives env d n ps r h g = rw (sum_begins env d n ps h) (numbered_gives r (sums env (Int n) ps) g)

product_begins : (env : Env) (d : Val) (n : ℤ) (ps : List (ProductSign × Meaning)) → integer_result d ≡ Ok n → integer_result (d >>= λ v. products env v ps) ≡ integer_result (products env (Int n) ps)
product_begins env (Err kind) n ps h = absurd (cc)
product_begins env (Ok v) n [] h = h
product_begins env (Ok v) n (p ∷ ps) h = let e : as_integer v ≡ n = cc in rw e refl

pub product_gives : (env : Env) (d : Val) (n : ℤ) (ps : List (ProductSign × Meaning)) (r : Result ℤ EvaluationError) → integer_result d ≡ Ok n → Calculates (integral r) (products env (Int n) ps) → Calculates r (integer_result (d >>= λ v. products env v ps))
product_gives env d n ps r h g = rw (product_begins env d n ps h) (numbered_gives r (products env (Int n) ps) g)

-- Where there is an operand more, the value is an integer

abbrev IsInt : Val → Type 0
IsInt d = d ≡ integral (integer_result d)

goes_int : (r : Val) (f : Value → Val) → IsInt r → ((m : ℤ) → IsInt (f (Int m))) → IsInt (r >>= f)
goes_int (Err kind) f h g = refl
goes_int (Ok v) f h g =
    let e : v ≡ Int (as_integer v) = cc in
    let P : Value → Type 0 = λ x. IsInt (f x) in
    subst P (sym e) (g (as_integer v))

added_is_int : (minus : Bool) (x y : ℤ) → IsInt (added minus x y)
added_is_int true x y = refl
added_is_int false x y = refl

over_is_int : (f : ℤ → ℤ → ℤ) (x y : ℤ) → IsInt (over f x y)
over_is_int f x (pos zero) = refl
over_is_int f x (pos (suc n)) = refl
over_is_int f x (negsuc n) = refl

one_product_is_int : (s : ProductSign) (x y : ℤ) → IsInt (product s x y)
one_product_is_int sign.Times x y = refl
one_product_is_int sign.Over x y = over_is_int (int_wrapping_div w64) x y
one_product_is_int sign.Modulo x y = over_is_int int_rem x y

more_added : (env : Env) (minus : Bool) (n : ℤ) (d : Val) (ps : List (Bool × Meaning)) → ((m : ℤ) → IsInt (sums env (Int m) ps)) → IsInt (d >>= λ y. added minus n (as_integer y) >>= λ z. sums env z ps)
more_added env minus n (Err kind) ps f = refl
more_added env minus n (Ok y) ps f = goes_int (added minus n (as_integer y)) (λ z. sums env z ps) (added_is_int minus n (as_integer y)) f

more_multiplied : (env : Env) (s : ProductSign) (n : ℤ) (d : Val) (ps : List (ProductSign × Meaning)) → ((m : ℤ) → IsInt (products env (Int m) ps)) →
    IsInt (d >>= λ y. product s n (as_integer y) >>= λ z. products env z ps)
more_multiplied env s n (Err kind) ps f = refl
more_multiplied env s n (Ok y) ps f = goes_int (product s n (as_integer y)) (λ z. products env z ps) (one_product_is_int s n (as_integer y)) f

sums_of_int : (env : Env) (ps : List (Bool × Meaning)) (n : ℤ) → IsInt (sums env (Int n) ps)
sums_of_int env [] n = refl
sums_of_int env (p ∷ ps) n = more_added env p.0 n (p.1 env) ps (λ m. sums_of_int env ps m)

products_of_int : (env : Env) (ps : List (ProductSign × Meaning)) (n : ℤ) → IsInt (products env (Int n) ps)
products_of_int env [] n = refl
products_of_int env (p ∷ ps) n = more_multiplied env p.0 n (p.1 env) ps (λ m. products_of_int env ps m)

pub sum_is_int : (env : Env) (d : Val) (rest : List SumPart) → (length rest == 0) ≡ false →
    (d >>= λ v. sums env v (map sum_part rest)) ≡ integral (integer_result (d >>= λ v. sums env v (map sum_part rest)))
sum_is_int env (Err kind) rest h = refl
sum_is_int env (Ok v) [] h = absurd (cc)
sum_is_int env (Ok v) (p ∷ ps) h =
    let q = sum_part p in
    more_added env q.0 (as_integer v) (q.1 env) (map sum_part ps) (λ m. sums_of_int env (map sum_part ps) m)

pub product_is_int : (env : Env) (d : Val) (rest : List ProductPart) → (length rest == 0) ≡ false →
    (d >>= λ v. products env v (map product_part rest)) ≡ integral (integer_result (d >>= λ v. products env v (map product_part rest)))
product_is_int env (Err kind) rest h = refl
product_is_int env (Ok v) [] h = absurd (cc)
product_is_int env (Ok v) (p ∷ ps) h =
    let q = product_part p in
    more_multiplied env q.0 (as_integer v) (q.1 env) (map product_part ps) (λ m. products_of_int env (map product_part ps) m)

-- The same where there is a number

pub product_counts : (env : Env) (d : Val) (n : ℤ) (ps : List (ProductSign × Meaning)) (r : Option ℤ) → integer_result d ≡ Ok n →
    IfSome r (λ m. products env (Int n) ps ≡ Ok (Int m)) → IfSome r (λ m. integer_result (d >>= λ v. products env v ps) ≡ Ok m)
product_counts env d n ps None h g = tt
product_counts env d n ps (Some m) h g = product_begins env d n ps h ∙ ap integer_result g

pub product_is : (env : Env) (d : Val) (rest : List ProductPart) (r : Option ℤ) → (length rest == 0) ≡ false →
    IfSome r (λ m. integer_result (d >>= λ v. products env v (map product_part rest)) ≡ Ok m) → IfSome r (λ m. (d >>= λ v. products env v (map product_part rest)) ≡ Ok (Int m))
product_is env d rest None some g = tt
product_is env d rest (Some m) some g = product_is_int env d rest some ∙ ap integral g

pub sum_is : (env : Env) (d : Val) (n : ℤ) (rest : List SumPart) (r : Option ℤ) → (length rest == 0) ≡ false → integer_result d ≡ Ok n →
    IfSome r (λ m. sums env (Int n) (map sum_part rest) ≡ Ok (Int m)) → IfSome r (λ m. (d >>= λ v. sums env v (map sum_part rest)) ≡ Ok (Int m))
sum_is env d n rest None some h g = tt
sum_is env d n rest (Some m) some h g = sum_is_int env d rest some ∙ ap integral (sum_begins env d n (map sum_part rest) h ∙ ap integer_result g)

-- and without one, it is the first

pub product_of_one : (env : Env) (d : Val) (rest : List ProductPart) → (length rest == 0) ≡ true → (d >>= λ v. products env v (map product_part rest)) ≡ d
product_of_one env (Err kind) rest h = refl
product_of_one env (Ok v) [] h = refl
product_of_one env (Ok v) (p ∷ ps) h = let none : suc (length ps) ≡ 0 = eqb-true (suc (length ps)) 0 h in absurd (omega arith)

-- The cases of the definition

module _ (env : Env) where
  by_layer : (d : Expr-F Expr ProductPart SumPart) → value_of (roll-Expr d) env ≡ value_at (map-Expr Expr ProductPart SumPart Meaning (ProductSign × Meaning) (Bool × Meaning) value_of product_part sum_part d) env
  by_layer d = ap (λ (m : Meaning). m env) (fold-roll-Expr Meaning (ProductSign × Meaning) (Bool × Meaning) value_at product_at sum_at d)

  pub value_of_sum : (first : Expr) (rest : List SumPart) → value_of (variant.Sum first rest) env ≡ (value_of first env >>= λ v. sums env v (map sum_part rest))
  value_of_sum first rest = ap (λ (e : Expr). value_of e env) (sym (variant.rolls-Sum first rest)) ∙ by_layer (node.Sum first rest)

  pub value_of_product : (first : Expr) (rest : List ProductPart) → value_of (variant.Product first rest) env ≡ (value_of first env >>= λ v. products env v (map product_part rest))
  value_of_product first rest = ap (λ (e : Expr). value_of e env) (sym (variant.rolls-Product first rest)) ∙ by_layer (node.Product first rest)

  pub value_of_comparison : (left : Expr) (how : Comparison) (right : Expr) →
      value_of (variant.Compare left how right) env ≡ (value_of left env >>= λ x. value_of right env >>= λ y. Ok (truth (compared how (as_integer x) (as_integer y))))
  value_of_comparison left how right = ap (λ (e : Expr). value_of e env) (sym (variant.rolls-Compare left how right)) ∙ by_layer (node.Compare left how right)

  pub value_of_same : (at : ℕ) (left right : Expr) → value_of (variant.Same at left right) env ≡ (value_of left env >>= λ x. value_of right env >>= λ y. Ok (truth (bytes_eq (object x) (object y))))
  value_of_same at left right = ap (λ (e : Expr). value_of e env) (sym (variant.rolls-Same at left right)) ∙ by_layer (node.Same at left right)

  pub value_of_older : (at : ℕ) (left right : Expr) →
      value_of (variant.Older at left right) env ≡ (value_of left env >>= λ x. value_of right env >>= λ y. Ok (truth (is_lt (slice_cmp nat_cmp (object x) (object y)))))
  value_of_older at left right = ap (λ (e : Expr). value_of e env) (sym (variant.rolls-Older at left right)) ∙ by_layer (node.Older at left right)
