-- The value of an expression depends on no variable that it doesn't name.
use Rattle.std.proofs.Common.{◌≡◌, suc, Bool, List, [], ◌∷◌, ◌++◌, Result, Ok, Err, map, refl, sym, ap, ◌∙◌, subst, rules, arith}
use Rattle.std.specs.Prelude.{All}
use Rattle.script_grammar.specs.declared.tree.Expr.{Expr, roll-Expr, map-Expr, ind-Expr, fold-roll-Expr, the_lemmas}
use Rattle.script_grammar.specs.declared.tree.Expr.TheOpen as node
use Rattle.script_grammar.specs.declared.tree.Expr.TheOpen.{Expr-F, SumPart-F, ProductPart-F}
use Rattle.script_grammar.specs.declared.tree.SumPart.{SumPart}
use Rattle.script_grammar.specs.declared.tree.ProductPart.{ProductPart}
use Rattle.script_grammar.specs.declared.tree.ProductSign.{ProductSign}
use Rattle.serial_meaning.specs.Runs.{◌>>=◌}
use Rattle.serial_meaning.specs.Values.{Env, Meaning, content_of, scalar, items_of, as_integer, item, product, added, sums, products, value_at, product_at, sum_at, value_of, sum_part, product_part}
use Rattle.serial_meaning.specs.Names.{Names, joined_names, names_at, names_in, names_in_sum_part, names_in_product_part}
use Rattle.serial_meaning.proofs.Equations.Each.{Each}
use Rattle.serial_meaning.specs.declared.value.Value.{Value}
use Rattle.serial_meaning.specs.declared.event.FaultKind.{FaultKind}

-- two environments agree on these names
abbrev Agree : Env → Env → Names → Type 0
Agree env other names = Each (λ name. content_of env name ≡ content_of other name) names

agree-left : (env other : Env) (xs ys : Names) → Agree env other (xs ++ ys) → Agree env other xs
agree-left env other [] ys a = tt
agree-left env other (x ∷ xs) ys a = (a.0, agree-left env other xs ys a.1)

agree-right : (env other : Env) (xs ys : Names) → Agree env other (xs ++ ys) → Agree env other ys
agree-right env other [] ys a = a
agree-right env other (x ∷ xs) ys a = agree-right env other xs ys a.1

-- what is to be shown, of an expression and of the parts of a sum or product
abbrev Fine : Names → Meaning → Type 0
Fine names meaning = (env other : Env) → Agree env other names → meaning env ≡ meaning other

and-then : {A B E : Type 0} (r : Result A E) (f g : A → Result B E) → ((a : A) → f a ≡ g a) → (r >>= f) ≡ (r >>= g)
and-then (Ok a) f g h = h a
and-then (Err e) f g h = refl

both-then : {A B E : Type 0} (q r : Result A E) (f g : A → Result B E) → q ≡ r → ((a : A) → f a ≡ g a) → (q >>= f) ≡ (r >>= g)
both-then q r f g e h = and-then q f g h ∙ ap (λ (s : Result _ _). s >>= g) e

pub sum_part-is : (p : SumPart) → sum_part p ≡ (p.minus, value_of p.operand)
sum_part-is p = search (rules, the_lemmas)

pub product_part-is : (p : ProductPart) → product_part p ≡ (p.sign, value_of p.operand)
product_part-is p = search (rules, the_lemmas)

names_in_sum_part-is : (p : SumPart) → names_in_sum_part p ≡ names_in p.operand
names_in_sum_part-is p = search (rules, the_lemmas)

names_in_product_part-is : (p : ProductPart) → names_in_product_part p ≡ names_in p.operand
names_in_product_part-is p = search (rules, the_lemmas)

module _ (env other : Env) {X : Type 0} where
  sums-same : (part : X → SumPart) → ((x : X) → Fine (names_in_sum_part (part x)) (sum_part (part x)).1) → (xs : List X) (v : Value) → Agree env other (joined_names (map names_in_sum_part (map part xs))) →
      sums env v (map sum_part (map part xs)) ≡ sums other v (map sum_part (map part xs))
  sums-same part fine [] v a = refl
  sums-same part fine (x ∷ xs) v a =
      both-then ((sum_part (part x)).1 env) ((sum_part (part x)).1 other) _ _ (fine x env other (agree-left env other (names_in_sum_part (part x)) (joined_names (map names_in_sum_part (map part xs))) a))
      (λ y. and-then (added (sum_part (part x)).0 (as_integer v) (as_integer y)) _ _ (λ z. sums-same part fine xs z (agree-right env other (names_in_sum_part (part x)) (joined_names (map names_in_sum_part (map part xs))) a)))

  products-same : (part : X → ProductPart) → ((x : X) → Fine (names_in_product_part (part x)) (product_part (part x)).1) → (xs : List X) (v : Value) → Agree env other (joined_names (map names_in_product_part (map part xs))) →
      products env v (map product_part (map part xs)) ≡ products other v (map product_part (map part xs))
  products-same part fine [] v a = refl
  products-same part fine (x ∷ xs) v a =
      both-then ((product_part (part x)).1 env) ((product_part (part x)).1 other) _ _ (fine x env other (agree-left env other (names_in_product_part (part x)) (joined_names (map names_in_product_part (map part xs))) a))
      (λ y. and-then (product (product_part (part x)).0 (as_integer v) (as_integer y)) _ _ (λ z. products-same part fine xs z (agree-right env other (names_in_product_part (part x)) (joined_names (map names_in_product_part (map part xs))) a)))

-- what a layer's parts are, as trees
abbrev layer : {A B C : Type 0} → (A → Expr) → (B → ProductPart) → (C → SumPart) → Expr-F A B C → Expr-F Expr ProductPart SumPart
layer {A} {B} {C} expr times plus = map-Expr A B C Expr ProductPart SumPart expr times plus

abbrev names_of_layer : Expr-F Expr ProductPart SumPart → Names
names_of_layer d = names_at (map-Expr Expr ProductPart SumPart Names Names Names names_in names_in_product_part names_in_sum_part d)

abbrev value_of_layer : Expr-F Expr ProductPart SumPart → Meaning
value_of_layer d = value_at (map-Expr Expr ProductPart SumPart Meaning (ProductSign × Meaning) (Bool × Meaning) value_of product_part sum_part d)

module _ {A B C : Type 0} (expr : A → Expr) (times : B → ProductPart) (plus : C → SumPart)
    (e : (a : A) → Fine (names_in (expr a)) (value_of (expr a)))
    (t : (b : B) → Fine (names_in_product_part (times b)) (product_part (times b)).1)
    (p : (c : C) → Fine (names_in_sum_part (plus c)) (sum_part (plus c)).1) where
  two-fine : {D : Type 0} (x y : A) (f : Value → Value → Result D FaultKind) (env other : Env) → Agree env other (names_in (expr x) ++ names_in (expr y)) →
      (value_of (expr x) env >>= λ v. value_of (expr y) env >>= λ w. f v w) ≡ (value_of (expr x) other >>= λ v. value_of (expr y) other >>= λ w. f v w)
  two-fine x y f env other a =
      both-then (value_of (expr x) env) (value_of (expr x) other) _ _ (e x env other (agree-left env other (names_in (expr x)) (names_in (expr y)) a))
      (λ v. both-then (value_of (expr y) env) (value_of (expr y) other) _ _ (e y env other (agree-right env other (names_in (expr x)) (names_in (expr y)) a)) (λ w. refl))

  -- one node, where its parts are fine
  node-fine : (y : Expr-F A B C) → Fine (names_of_layer (layer expr times plus y)) (value_of_layer (layer expr times plus y))
  node-fine (node.Number n) env other a = refl
  node-fine (node.Var x) env other a = ap (λ o. Ok (scalar o)) a.0
  node-fine (node.Item x i) env other a =
      both-then (value_of (expr i) env) (value_of (expr i) other) _ _ (e i env other a.1) (λ v. ap (λ o. item (items_of o) (as_integer v)) a.0)
  node-fine (node.Neg at x) env other a = both-then (value_of (expr x) env) (value_of (expr x) other) _ _ (e x env other a) (λ v. refl)
  node-fine (node.Same at x y) env other a = two-fine x y _ env other a
  node-fine (node.Older at x y) env other a = two-fine x y _ env other a
  node-fine (node.Compare x how y) env other a = two-fine x y _ env other a
  node-fine (node.Sum first rest) env other a =
      both-then (value_of (expr first) env) (value_of (expr first) other) _ _ (e first env other (agree-left env other (names_in (expr first)) (joined_names (map names_in_sum_part (map plus rest))) a))
      (λ v. sums-same env other plus p rest v (agree-right env other (names_in (expr first)) (joined_names (map names_in_sum_part (map plus rest))) a))
  node-fine (node.Product first rest) env other a =
      both-then (value_of (expr first) env) (value_of (expr first) other) _ _ (e first env other (agree-left env other (names_in (expr first)) (joined_names (map names_in_product_part (map times rest))) a))
      (λ v. products-same env other times t rest v (agree-right env other (names_in (expr first)) (joined_names (map names_in_product_part (map times rest))) a))

rolled : (d : Expr-F Expr ProductPart SumPart) → Fine (names_of_layer d) (value_of_layer d) → Fine (names_in (roll-Expr d)) (value_of (roll-Expr d))
rolled d fine env other a =
    let names : names_in (roll-Expr d) ≡ names_of_layer d = fold-roll-Expr Names Names Names names_at (λ p. p.operand) (λ p. p.operand) d in
    let value : value_of (roll-Expr d) ≡ value_of_layer d = fold-roll-Expr Meaning (ProductSign × Meaning) (Bool × Meaning) value_at product_at sum_at d in
    ap (λ (m : Meaning). m env) value ∙ fine env other (subst (Agree env other) names a) ∙ sym (ap (λ (m : Meaning). m other) value)

whole : (e : Expr) → Fine (names_in e) (value_of e)
whole =
    ind-Expr (λ e. Fine (names_in e) (value_of e)) (λ p. Fine (names_in_product_part p) (product_part p).1) (λ p. Fine (names_in_sum_part p) (sum_part p).1)
    (λ x y h. subst (λ (d : Expr-F Expr ProductPart SumPart). Fine (names_in (roll-Expr d)) (value_of (roll-Expr d))) h (rolled (layer (λ e. e.0) (λ e. e.0) (λ e. e.0) y) (node-fine (λ e. e.0) (λ e. e.0) (λ e. e.0) (λ e. e.1) (λ e. e.1) (λ e. e.1) y)))
    (λ x y h. times_fine (record { sign = x.sign; operand = x.operand }) y.operand.0 y.operand.1 (ap (λ p. p.operand) h))
    (λ x y h. plus_fine (record { minus = x.minus; operand = x.operand }) y.operand.0 y.operand.1 (ap (λ p. p.operand) h))
  where
    times_fine : (p : ProductPart) (e : Expr) → Fine (names_in e) (value_of e) → e ≡ p.operand → Fine (names_in_product_part p) (product_part p).1
    times_fine p e fine h = rw (product_part-is p, names_in_product_part-is p, ← h) fine

    plus_fine : (p : SumPart) (e : Expr) → Fine (names_in e) (value_of e) → e ≡ p.operand → Fine (names_in_sum_part p) (sum_part p).1
    plus_fine p e fine h = rw (sum_part-is p, names_in_sum_part-is p, ← h) fine

all-each : {X : Type 0} (T : X → Type 0) (xs : List X) → All T xs → Each T xs
all-each T [] a = tt
all-each T (x ∷ xs) a = (a 0 x (omega arith), all-each T xs (λ k d h. a (suc k) d (omega arith)))

pub values_depend_on_names : (e : Expr) (env other : Env) → All (λ name. content_of env name ≡ content_of other name) (names_in e) → value_of e env ≡ value_of e other
values_depend_on_names e env other a = whole e env other (all-each (λ name. content_of env name ≡ content_of other name) (names_in e) a)
