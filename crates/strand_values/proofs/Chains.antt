-- Chains of operators, one operand after another.
use Rattle.std.proofs.Common.{◌≡◌, ℕ, zero, suc, ◌<◌, Bool, List, [], ◌∷◌, map, length, get_or, drop, Some, IfSome, Result, Ok, Err, refl, sym, ap, subst, ◌∙◌, arith, rules}
use Rattle.std.proofs.Common.{ℤ}
use Rattle.script_grammar.specs.declared.tree.Expr.{Expr, the_lemmas}
use Rattle.script_grammar.specs.declared.tree.Expr.TheVariants as variant
use Rattle.script_grammar.specs.declared.tree.ProductPart.{ProductPart}
use Rattle.script_grammar.specs.declared.tree.ProductSign.{ProductSign}
use Rattle.script_grammar.specs.declared.tree.SumPart.{SumPart}
use Rattle.std.specs.Result.{IsErrAnd, result_ok}
use Rattle.serial_meaning.specs.Runs.{◌>>=◌}
use Rattle.serial_meaning.specs.Values.{Val, Env, Meaning, as_integer, added, product, sums, products, sum_part, product_part, value_of}
use Rattle.serial_meaning.specs.declared.value.Value.{Value}
use Rattle.serial_meaning.specs.declared.value.Value.TheVariants.{Int}
use Rattle.serial_meaning.specs.declared.event.FaultKind.{FaultKind}
use Rattle.strand_values.specs.Gives.{Calculates, integer_result, integral}
use Rattle.strand_values.specs.declared.evaluation_error.EvaluationError.{EvaluationError}
use Rattle.strand_values.proofs.NumberLemmas.{product_counts, sum_is, value_of_product, value_of_sum}
use Rattle.strand_values.specs.declared.evaluation_error.EvaluationError.TheVariants as error

summand : (p : SumPart) → sum_part p ≡ (p.minus, value_of p.operand)
summand p = search (rules, the_lemmas)

factor : (p : ProductPart) → product_part p ≡ (p.sign, value_of p.operand)
factor p = search (rules, the_lemmas)

-- what is answered where a step failed so
failed : (r : Result ℤ EvaluationError) (h : EvaluationError) → IsErrAnd r (λ e. e ≡ h) → integral r ≡ Err h
failed (Ok n) h g = absurd g
failed (Err k) h g = ap (λ e. Err e) g

given : (r : Result ℤ EvaluationError) (h : EvaluationError) (d : Val) → IsErrAnd r (λ e. e ≡ h) → Calculates {A = Value} (Err h) d → Calculates (integral r) d
given r h d so g = subst (λ x. Calculates {A = Value} x d) (sym (failed r h so)) g

-- an operand that counts as no number ends a chain
ended : (f : Val → Val) (w : Val) (h : EvaluationError) → ((kind : FaultKind) → f (Err kind) ≡ Err kind) → Calculates {A = ℤ} (Err h) (integer_result w) → Calculates {A = Value} (Err h) (f w)
ended f w error.Memory out g = tt
ended f (Ok v) (error.Fault kind) out g = absurd (cc)
ended f (Err k) (error.Fault kind) out g = let same : k ≡ kind = cc in out k ∙ ap (λ e. Err e) same

module _ (env : Env) where
  at_sum : (rest : List SumPart) (i : ℕ) (p : SumPart) (v : Value) → i < length rest → p ≡ get_or rest i p →
      sums env v (map sum_part (drop i rest)) ≡ (value_of p.operand env >>= λ y. added p.minus (as_integer v) (as_integer y) >>= λ z. sums env z (map sum_part (drop (suc i) rest)))
  at_sum [] i p v h e = absurd (omega arith)
  at_sum (q ∷ qs) zero p v h e =
      let Goes : SumPart → Type 0 = λ s. sums env v (sum_part q ∷ map sum_part qs) ≡ (value_of s.operand env >>= λ y. added s.minus (as_integer v) (as_integer y) >>= λ z. sums env z (map sum_part qs)) in
      subst Goes (sym e) (ap (λ (m : Bool × Meaning). m.1 env >>= λ y. added m.0 (as_integer v) (as_integer y) >>= λ z. sums env z (map sum_part qs)) (summand q))
  at_sum (q ∷ qs) (suc i) p v h e = at_sum qs i p v (omega arith) e

  at_product : (rest : List ProductPart) (i : ℕ) (p : ProductPart) (v : Value) → i < length rest → p ≡ get_or rest i p →
      products env v (map product_part (drop i rest)) ≡ (value_of p.operand env >>= λ y. product p.sign (as_integer v) (as_integer y) >>= λ z. products env z (map product_part (drop (suc i) rest)))
  at_product [] i p v h e = absurd (omega arith)
  at_product (q ∷ qs) zero p v h e =
      let Goes : ProductPart → Type 0 = λ s. products env v (product_part q ∷ map product_part qs) ≡ (value_of s.operand env >>= λ y. product s.sign (as_integer v) (as_integer y) >>= λ z. products env z (map product_part qs)) in
      subst Goes (sym e) (ap (λ (m : ProductSign × Meaning). m.1 env >>= λ y. product m.0 (as_integer v) (as_integer y) >>= λ z. products env z (map product_part qs)) (factor q))
  at_product (q ∷ qs) (suc i) p v h e = at_product qs i p v (omega arith) e

  -- the number of an operand goes into the chain
  goes : (f : ℤ → Val) (g : Value → Val) (w : Val) (m s : ℤ) → integer_result w ≡ Ok m → f m ≡ Ok (Int s) → (w >>= λ y. f (as_integer y) >>= g) ≡ g (Int s)
  goes f g (Err kind) m s h k = absurd (cc)
  goes f g (Ok y) m s h k = let e : as_integer y ≡ m = cc in rw (e, k) refl

  pub next_sum : (rest : List SumPart) (i : ℕ) (p : SumPart) (n : ℤ) (d : Val) (m s : ℤ) → i < length rest → p ≡ get_or rest i p → integer_result (value_of p.operand env) ≡ Ok m → added p.minus n m ≡ Ok (Int s) →
      d ≡ sums env (Int n) (map sum_part (drop i rest)) → d ≡ sums env (Int s) (map sum_part (drop (suc i) rest))
  next_sum rest i p n d m s h e w k so = so ∙ at_sum rest i p (Int n) h e ∙ goes (added p.minus n) (λ z. sums env z (map sum_part (drop (suc i) rest))) (value_of p.operand env) m s w k

  pub next_product : (rest : List ProductPart) (i : ℕ) (p : ProductPart) (n : ℤ) (d : Val) (m s : ℤ) → i < length rest → p ≡ get_or rest i p → integer_result (value_of p.operand env) ≡ Ok m → product p.sign n m ≡ Ok (Int s) →
      d ≡ products env (Int n) (map product_part (drop i rest)) → d ≡ products env (Int s) (map product_part (drop (suc i) rest))
  next_product rest i p n d m s h e w k so = so ∙ at_product rest i p (Int n) h e ∙ goes (product p.sign n) (λ z. products env z (map product_part (drop (suc i) rest))) (value_of p.operand env) m s w k

  -- two operands
  pub two_added : (first : Expr) (rest : List SumPart) (p : SumPart) (n m s : ℤ) → length rest ≡ 1 → p ≡ get_or rest 0 p → integer_result (value_of first env) ≡ Ok n → integer_result (value_of p.operand env) ≡ Ok m → added p.minus n m ≡ Ok (Int s) →
      value_of (variant.Sum first rest) env ≡ Ok (Int s)
  two_added first [] p n m s one is left right adds = absurd (omega (arith, one))
  two_added first (q ∷ []) p n m s one is left right adds =
      value_of_sum env first (q ∷ [])
      ∙ sum_is env (value_of first env) n (q ∷ []) (Some s) refl left (next_sum (q ∷ []) 0 p n (sums env (Int n) (map sum_part (q ∷ []))) m s (omega arith) is right adds refl)
  two_added first (q ∷ r ∷ rs) p n m s one is left right adds = absurd (omega (arith, one))

  two_multiplied : (first : Expr) (rest : List ProductPart) (p : ProductPart) (n m s : ℤ) → length rest ≡ 1 → p ≡ get_or rest 0 p → integer_result (value_of first env) ≡ Ok n → integer_result (value_of p.operand env) ≡ Ok m → product p.sign n m ≡ Ok (Int s) →
      integer_result (value_of (variant.Product first rest) env) ≡ Ok s
  two_multiplied first [] p n m s one is left right multiplies = absurd (omega (arith, one))
  two_multiplied first (q ∷ []) p n m s one is left right multiplies =
      ap integer_result (value_of_product env first (q ∷ []))
      ∙ product_counts env (value_of first env) n (map product_part (q ∷ [])) (Some s) left (next_product (q ∷ []) 0 p n (products env (Int n) (map product_part (q ∷ []))) m s (omega arith) is right multiplies refl)
  two_multiplied first (q ∷ r ∷ rs) p n m s one is left right multiplies = absurd (omega (arith, one))

  pub product_if_any : (first : Expr) (rest : List ProductPart) (p : ProductPart) (n m : ℤ) (r : Result ℤ FaultKind) → length rest ≡ 1 → p ≡ get_or rest 0 p → integer_result (value_of first env) ≡ Ok n → integer_result (value_of p.operand env) ≡ Ok m → integral r ≡ product p.sign n m →
      IfSome (result_ok r) (λ s. integer_result (value_of (variant.Product first rest) env) ≡ Ok s)
  product_if_any first rest p n m (Ok s) one is left right gives = two_multiplied first rest p n m s one is left right (sym gives)
  product_if_any first rest p n m (Err kind) one is left right gives = tt

  -- an operand without one ends it
  pub sum_ends : (rest : List SumPart) (i : ℕ) (p : SumPart) (n : ℤ) (d : Val) (h : EvaluationError) (r : Result ℤ EvaluationError) → i < length rest → p ≡ get_or rest i p →
      Calculates {A = ℤ} (Err h) (integer_result (value_of p.operand env)) → IsErrAnd r (λ e. e ≡ h) → d ≡ sums env (Int n) (map sum_part (drop i rest)) → Calculates (integral r) d
  sum_ends rest i p n d h r k e g so from =
      let f : Val → Val = λ w. w >>= λ y. added p.minus n (as_integer y) >>= λ z. sums env z (map sum_part (drop (suc i) rest)) in
      given r h d so (subst (λ x. Calculates {A = Value} (Err h) x) (sym (from ∙ at_sum rest i p (Int n) k e)) (ended f (value_of p.operand env) h (λ kind. refl) g))

  pub product_ends : (rest : List ProductPart) (i : ℕ) (p : ProductPart) (n : ℤ) (d : Val) (h : EvaluationError) (r : Result ℤ EvaluationError) → i < length rest → p ≡ get_or rest i p →
      Calculates {A = ℤ} (Err h) (integer_result (value_of p.operand env)) → IsErrAnd r (λ e. e ≡ h) → d ≡ products env (Int n) (map product_part (drop i rest)) → Calculates (integral r) d
  product_ends rest i p n d h r k e g so from =
      let f : Val → Val = λ w. w >>= λ y. product p.sign n (as_integer y) >>= λ z. products env z (map product_part (drop (suc i) rest)) in
      given r h d so (subst (λ x. Calculates {A = Value} (Err h) x) (sym (from ∙ at_product rest i p (Int n) k e)) (ended f (value_of p.operand env) h (λ kind. refl) g))

  stops : (f : ℤ → Val) (g : Value → Val) (w : Val) (m : ℤ) (kind : FaultKind) → integer_result w ≡ Ok m → f m ≡ Err kind → (w >>= λ y. f (as_integer y) >>= g) ≡ Err kind
  stops f g (Err k) m kind h e = absurd (cc)
  stops f g (Ok y) m kind h e = let same : as_integer y ≡ m = cc in rw (same, e) refl

  -- and so does a division by 0
  pub product_stops : (rest : List ProductPart) (i : ℕ) (p : ProductPart) (n : ℤ) (d : Val) (m : ℤ) (kind : FaultKind) (r : Result ℤ EvaluationError) → i < length rest → p ≡ get_or rest i p →
      integer_result (value_of p.operand env) ≡ Ok m → product p.sign n m ≡ Err kind → IsErrAnd r (λ e. e ≡ error.Fault kind) → d ≡ products env (Int n) (map product_part (drop i rest)) → Calculates (integral r) d
  product_stops rest i p n d m kind r k e w stop so from =
      let whole = from ∙ at_product rest i p (Int n) k e ∙ stops (product p.sign n) (λ z. products env z (map product_part (drop (suc i) rest))) (value_of p.operand env) m kind w stop in
      given r (error.Fault kind) d so whole
