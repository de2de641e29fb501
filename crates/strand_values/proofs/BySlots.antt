-- What stands in the slots of variables gives what their names give.
use Rattle.std.proofs.Common.{◌≡◌, Bool, true, List, [], ◌∷◌, Option, Result, Ok, Err, map, get_or, refl, sym, ap, ◌∙◌, subst, rules}
use Rattle.std.proofs.lemmas.Bool.{and_parts}
use Rattle.script_grammar.specs.declared.tree.Name.{Name}
use Rattle.script_grammar.specs.declared.tree.Expr.{Expr, roll-Expr, map-Expr, ind-Expr, fold-roll-Expr, the_lemmas}
use Rattle.script_grammar.specs.declared.tree.Expr.TheOpen as node
use Rattle.script_grammar.specs.declared.tree.Expr.TheOpen.{Expr-F, SumPart-F, ProductPart-F}
use Rattle.script_grammar.specs.declared.tree.SumPart.{SumPart}
use Rattle.script_grammar.specs.declared.tree.ProductPart.{ProductPart}
use Rattle.script_grammar.specs.declared.tree.ProductSign.{ProductSign}
use Rattle.script_check.specs.Slots.{all_true, every_at, every_in, every_in_factor, every_in_summand, has_slot}
use Rattle.serial_meaning.specs.Runs.{◌>>=◌}
use Rattle.serial_meaning.specs.Values.{Env, Meaning, content_of, scalar, items_of, as_integer, item, product, added, sums, products, value_at, product_at, sum_at, value_of, sum_part, product_part}
use Rattle.serial_meaning.specs.declared.environment.Content.{Content}
use Rattle.serial_meaning.specs.declared.event.FaultKind.{FaultKind}
use Rattle.serial_meaning.specs.declared.value.Value.{Value}
use Rattle.strand_values.specs.BySlots.{SlotsMeanNames, found_at, meaning_by, product_part_by, sum_part_by}
use Rattle.strand_values.specs.Environments.{content_at, filled_variables}
use Rattle.strand_values.proofs.Filled.{slot_found, content_held}

and-then : {A B E : Type 0} (r : Result A E) (f g : A → Result B E) → ((a : A) → f a ≡ g a) → (r >>= f) ≡ (r >>= g)
and-then (Ok a) f g h = h a
and-then (Err e) f g h = refl

both-then : {A B E : Type 0} (q r : Result A E) (f g : A → Result B E) → q ≡ r → ((a : A) → f a ≡ g a) → (q >>= f) ≡ (r >>= g)
both-then q r f g e h = and-then q f g h ∙ ap (λ (s : Result _ _). s >>= g) e

module _ (is : Name → Bool) (content : Name → Option Content) (env : Env) (same : (x : Name) → is x ≡ true → content x ≡ content_of env x.bytes) where
  -- what is to be filled_variables, of an expression and of the parts of a sum or product
  abbrev Fine : Bool → Meaning → Meaning → Type 0
  Fine known by meaning = known ≡ true → by [] ≡ meaning env

  sum_part-is : (p : SumPart) → sum_part p ≡ (p.minus, value_of p.operand)
  sum_part-is p = search (rules, the_lemmas)

  product_part-is : (p : ProductPart) → product_part p ≡ (p.sign, value_of p.operand)
  product_part-is p = search (rules, the_lemmas)

  sum_part_by-is : (p : SumPart) → sum_part_by content p ≡ (p.minus, meaning_by content p.operand)
  sum_part_by-is p = search (rules, the_lemmas)

  product_part_by-is : (p : ProductPart) → product_part_by content p ≡ (p.sign, meaning_by content p.operand)
  product_part_by-is p = search (rules, the_lemmas)

  summand-is : (p : SumPart) → every_in_summand is p ≡ every_in is p.operand
  summand-is p = search (rules, the_lemmas)

  factor-is : (p : ProductPart) → every_in_factor is p ≡ every_in is p.operand
  factor-is p = search (rules, the_lemmas)

  abbrev FineExpr : Expr → Type 0
  FineExpr e = Fine (every_in is e) (meaning_by content e) (value_of e)

  -- a part's operand is fine
  abbrev FineSum : SumPart → Type 0
  FineSum p = FineExpr p.operand

  abbrev FineProduct : ProductPart → Type 0
  FineProduct p = FineExpr p.operand

  module _ {X : Type 0} where
    sums-same : (part : X → SumPart) → ((x : X) → FineSum (part x)) → (xs : List X) (v : Value) → all_true (map (every_in_summand is) (map part xs)) ≡ true →
        sums [] v (map (sum_part_by content) (map part xs)) ≡ sums env v (map sum_part (map part xs))
    sums-same part fine [] v a = refl
    sums-same part fine (x ∷ xs) v a =
        let h = and_parts (every_in_summand is (part x)) (all_true (map (every_in_summand is) (map part xs))) a in
        let one = fine x (sym (summand-is (part x)) ∙ h.0) in
        rw (sum_part_by-is (part x), sum_part-is (part x))
        (both-then (meaning_by content (part x).operand []) (value_of (part x).operand env) _ _ one
        (λ y. and-then (added (part x).minus (as_integer v) (as_integer y)) _ _ (λ z. sums-same part fine xs z h.1)))

    products-same : (part : X → ProductPart) → ((x : X) → FineProduct (part x)) → (xs : List X) (v : Value) → all_true (map (every_in_factor is) (map part xs)) ≡ true →
        products [] v (map (product_part_by content) (map part xs)) ≡ products env v (map product_part (map part xs))
    products-same part fine [] v a = refl
    products-same part fine (x ∷ xs) v a =
        let h = and_parts (every_in_factor is (part x)) (all_true (map (every_in_factor is) (map part xs))) a in
        let one = fine x (sym (factor-is (part x)) ∙ h.0) in
        rw (product_part_by-is (part x), product_part-is (part x))
        (both-then (meaning_by content (part x).operand []) (value_of (part x).operand env) _ _ one
        (λ y. and-then (product (part x).sign (as_integer v) (as_integer y)) _ _ (λ z. products-same part fine xs z h.1)))

  abbrev known_of_layer : Expr-F Expr ProductPart SumPart → Bool
  known_of_layer d = every_at is (map-Expr Expr ProductPart SumPart Bool Bool Bool (every_in is) (every_in_factor is) (every_in_summand is) d)

  abbrev by_of_layer : Expr-F Expr ProductPart SumPart → Meaning
  by_of_layer d = found_at content (map-Expr Expr ProductPart SumPart Meaning (ProductSign × Meaning) (Bool × Meaning) (meaning_by content) (product_part_by content) (sum_part_by content) d)

  abbrev value_of_layer : Expr-F Expr ProductPart SumPart → Meaning
  value_of_layer d = value_at (map-Expr Expr ProductPart SumPart Meaning (ProductSign × Meaning) (Bool × Meaning) value_of product_part sum_part d)

  module _ {A B C : Type 0} (expr : A → Expr) (times : B → ProductPart) (plus : C → SumPart)
      (e : (a : A) → FineExpr (expr a))
      (t : (b : B) → FineProduct (times b))
      (p : (c : C) → FineSum (plus c)) where
    abbrev layer : Expr-F A B C → Expr-F Expr ProductPart SumPart
    layer = map-Expr A B C Expr ProductPart SumPart expr times plus

    two-fine : {D : Type 0} (x y : A) (f : Value → Value → Result D FaultKind) →
        every_in is (expr x) ≡ true → every_in is (expr y) ≡ true →
        (meaning_by content (expr x) [] >>= λ v. meaning_by content (expr y) [] >>= λ w. f v w) ≡ (value_of (expr x) env >>= λ v. value_of (expr y) env >>= λ w. f v w)
    two-fine x y f a b =
        both-then (meaning_by content (expr x) []) (value_of (expr x) env) _ _ (e x a)
        (λ v. both-then (meaning_by content (expr y) []) (value_of (expr y) env) _ _ (e y b) (λ w. refl))

    -- one node, where its parts are fine
    node-fine : (y : Expr-F A B C) → Fine (known_of_layer (layer y)) (by_of_layer (layer y)) (value_of_layer (layer y))
    node-fine (node.Number n) a = refl
    node-fine (node.Var x) a = ap (λ o. Ok (scalar o)) (same x a)
    node-fine (node.Item x i) a =
        let h = and_parts (is x) (every_in is (expr i)) a in
        both-then (meaning_by content (expr i) []) (value_of (expr i) env) _ _ (e i h.1) (λ v. ap (λ o. item (items_of o) (as_integer v)) (same x h.0))
    node-fine (node.Neg at x) a = both-then (meaning_by content (expr x) []) (value_of (expr x) env) _ _ (e x a) (λ v. refl)
    node-fine (node.Same at x y) a = let h = and_parts (every_in is (expr x)) (every_in is (expr y)) a in two-fine x y _ h.0 h.1
    node-fine (node.Older at x y) a = let h = and_parts (every_in is (expr x)) (every_in is (expr y)) a in two-fine x y _ h.0 h.1
    node-fine (node.Compare x how y) a = let h = and_parts (every_in is (expr x)) (every_in is (expr y)) a in two-fine x y _ h.0 h.1
    node-fine (node.Sum first rest) a =
        let h = and_parts (every_in is (expr first)) (all_true (map (every_in_summand is) (map plus rest))) a in
        both-then (meaning_by content (expr first) []) (value_of (expr first) env) _ _ (e first h.0) (λ v. sums-same plus p rest v h.1)
    node-fine (node.Product first rest) a =
        let h = and_parts (every_in is (expr first)) (all_true (map (every_in_factor is) (map times rest))) a in
        both-then (meaning_by content (expr first) []) (value_of (expr first) env) _ _ (e first h.0) (λ v. products-same times t rest v h.1)

  rolled : (d : Expr-F Expr ProductPart SumPart) → Fine (known_of_layer d) (by_of_layer d) (value_of_layer d) → FineExpr (roll-Expr d)
  rolled d fine a =
      let known : every_in is (roll-Expr d) ≡ known_of_layer d = fold-roll-Expr Bool Bool Bool (every_at is) (λ p. p.operand) (λ p. p.operand) d in
      let by : meaning_by content (roll-Expr d) ≡ by_of_layer d = fold-roll-Expr Meaning (ProductSign × Meaning) (Bool × Meaning) (found_at content) product_at sum_at d in
      let value : value_of (roll-Expr d) ≡ value_of_layer d = fold-roll-Expr Meaning (ProductSign × Meaning) (Bool × Meaning) value_at product_at sum_at d in
      ap (λ (m : Meaning). m []) by ∙ fine (sym known ∙ a) ∙ sym (ap (λ (m : Meaning). m env) value)

  pub same_values : (e : Expr) → FineExpr e
  same_values =
      ind-Expr FineExpr FineProduct FineSum
      (λ x y h. subst FineExpr (ap roll-Expr h) (rolled (layer (λ e. e.0) (λ e. e.0) (λ e. e.0) (λ e. e.1) (λ e. e.1) (λ e. e.1) y) (node-fine (λ e. e.0) (λ e. e.0) (λ e. e.0) (λ e. e.1) (λ e. e.1) (λ e. e.1) y)))
      (λ x y h. subst FineExpr (ap (λ p. p.operand) h) y.operand.1)
      (λ x y h. subst FineExpr (ap (λ p. p.operand) h) y.operand.1)

pub slots_mean_names : SlotsMeanNames
slots_mean_names table names entries filled is =
    same_values (has_slot table names) (λ x. content_at entries (get_or table x.at 0)) (filled_variables names entries filled) same
  where
    same : (x : Name) → has_slot table names x ≡ true → content_at entries (get_or table x.at 0) ≡ content_of (filled_variables names entries filled) x.bytes
    same x found = sym (content_held names x.bytes (get_or table x.at 0) (slot_found table names x found) entries filled is)
