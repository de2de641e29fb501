-- What holds of each name in a part of a script holds of the list of these names.
use Rattle.std.proofs.Common.{◌≡◌, ℕ, Bool, true, false, ◌&&◌, List, [], ◌∷◌, ◌++◌, map, Option, Some, None, refl, sym, ap, subst, ◌∙◌}
use Rattle.std.proofs.lemmas.Bool.{and_parts}
use Rattle.script_grammar.specs.declared.tree.Name.{Name}
use Rattle.script_grammar.specs.declared.tree.Expr.{Expr, roll-Expr, map-Expr, ind-Expr, fold-roll-Expr}
use Rattle.script_grammar.specs.declared.tree.Expr.TheOpen as node
use Rattle.script_grammar.specs.declared.tree.Expr.TheOpen.{Expr-F}
use Rattle.script_grammar.specs.declared.tree.SumPart.{SumPart}
use Rattle.script_grammar.specs.declared.tree.ProductPart.{ProductPart}
use Rattle.script_grammar.specs.declared.tree.Stmt.{Stmt, fold-roll-Stmt}
use Rattle.script_grammar.specs.declared.tree.Act.{Act, roll-Act, map-Act, fold-roll-Act}
use Rattle.script_grammar.specs.declared.tree.Act.TheOpen.{Act-F}
use Rattle.script_check.specs.Slots.{joined, named_at, named_in, named_in_summand, named_in_factor, named_in_all, named_in_target, named_in_act, named_in_statement, all_true, every_at, every_in, every_in_summand, every_in_factor, every_in_all, every_in_target}
use Rattle.script_check.proofs.FoundSlots.Parts.{named_what, every-factor, every-summand, named-factor, named-summand}
use Rattle.script_check.proofs.FewerPending.Induction.{statement}

abbrev pub each_is : (Name → Bool) → List Name → Bool
each_is is xs = all_true (map is xs)

pub true-both : (a b : Bool) → a ≡ true → b ≡ true → (a && b) ≡ true
true-both true b h k = k
true-both false b h k = h

and-assoc : (a b c : Bool) → (a && (b && c)) ≡ ((a && b) && c)
and-assoc true b c = refl
and-assoc false b c = refl

and-true : (a : Bool) → (a && true) ≡ a
and-true true = refl
and-true false = refl

and-both : (a b c d : Bool) → a ≡ c → b ≡ d → (a && b) ≡ (c && d)
and-both a b c d e f = ap (λ x. x && b) e ∙ ap (λ x. c && x) f

-- What a statement names is what it does in the open names

pub named_open : (at : ℕ) (d : Act-F Act Stmt) → named_in_statement (statement at d) ≡ named_in_act (map-Act Act Stmt (List Name) (List Name) named_what named_in_statement d)
named_open at d =
    fold-roll-Stmt (List Name) (List Name) named_in_act (λ s. s.act) (record { at = at; act = roll-Act d })
    ∙ fold-roll-Act (List Name) (List Name) named_in_act (λ s. s.act) d

module _ (is : Name → Bool) where
  pub each-append : (xs ys : List Name) → each_is is (xs ++ ys) ≡ (each_is is xs && each_is is ys)
  each-append [] ys = refl
  each-append (x ∷ xs) ys = ap (λ b. is x && b) (each-append xs ys) ∙ and-assoc (is x) (each_is is xs) (each_is is ys)

  pub each-append-both : (xs ys : List Name) (b c : Bool) → each_is is xs ≡ b → each_is is ys ≡ c → each_is is (xs ++ ys) ≡ (b && c)
  each-append-both xs ys b c e f = each-append xs ys ∙ and-both (each_is is xs) (each_is is ys) b c e f

  pub each-true : (xs ys : List Name) → each_is is xs ≡ true → each_is is ys ≡ true → each_is is (xs ++ ys) ≡ true
  each-true xs ys h k = each-append xs ys ∙ true-both (each_is is xs) (each_is is ys) h k

  pub each-parts : (xs ys : List Name) → each_is is (xs ++ ys) ≡ true → (each_is is xs ≡ true) × (each_is is ys ≡ true)
  each-parts xs ys h = and_parts (each_is is xs) (each_is is ys) (sym (each-append xs ys) ∙ h)

  -- Expressions

  abbrev TreeSame : Expr → Type 0
  TreeSame e = each_is is (named_in e) ≡ every_in is e

  abbrev LayerSame : Expr-F Expr ProductPart SumPart → Type 0
  LayerSame d =
      each_is is (named_at (map-Expr Expr ProductPart SumPart (List Name) (List Name) (List Name) named_in named_in_factor named_in_summand d))
      ≡ every_at is (map-Expr Expr ProductPart SumPart Bool Bool Bool (every_in is) (every_in_factor is) (every_in_summand is) d)

  layer-same : (d : Expr-F Expr ProductPart SumPart) → LayerSame d → TreeSame (roll-Expr d)
  layer-same d h =
      ap (each_is is) (fold-roll-Expr (List Name) (List Name) (List Name) named_at (λ p. p.operand) (λ p. p.operand) d)
      ∙ h ∙ sym (fold-roll-Expr Bool Bool Bool (every_at is) (λ p. p.operand) (λ p. p.operand) d)

  module _ {A B C : Type 0} (expr : A → Expr) (times : B → ProductPart) (plus : C → SumPart)
      (e : (a : A) → each_is is (named_in (expr a)) ≡ every_in is (expr a))
      (t : (b : B) → each_is is (named_in_factor (times b)) ≡ every_in_factor is (times b))
      (s : (c : C) → each_is is (named_in_summand (plus c)) ≡ every_in_summand is (plus c)) where
    summands-same : (xs : List C) → each_is is (joined (map named_in_summand (map plus xs))) ≡ all_true (map (every_in_summand is) (map plus xs))
    summands-same [] = refl
    summands-same (x ∷ xs) =
        each-append-both (named_in_summand (plus x)) (joined (map named_in_summand (map plus xs))) (every_in_summand is (plus x)) (all_true (map (every_in_summand is) (map plus xs)))
        (s x) (summands-same xs)

    factors-same : (xs : List B) → each_is is (joined (map named_in_factor (map times xs))) ≡ all_true (map (every_in_factor is) (map times xs))
    factors-same [] = refl
    factors-same (x ∷ xs) =
        each-append-both (named_in_factor (times x)) (joined (map named_in_factor (map times xs))) (every_in_factor is (times x)) (all_true (map (every_in_factor is) (map times xs)))
        (t x) (factors-same xs)

    two-same : (x y : A) → each_is is (named_in (expr x) ++ named_in (expr y)) ≡ (every_in is (expr x) && every_in is (expr y))
    two-same x y = each-append-both (named_in (expr x)) (named_in (expr y)) (every_in is (expr x)) (every_in is (expr y)) (e x) (e y)

    node-same : (d : Expr-F A B C) → LayerSame (map-Expr A B C Expr ProductPart SumPart expr times plus d)
    node-same (node.Number n) = refl
    node-same (node.Var x) = and-true (is x)
    node-same (node.Item x i) = ap (λ b. is x && b) (e i)
    node-same (node.Neg at x) = e x
    node-same (node.Same at x y) = two-same x y
    node-same (node.Older at x y) = two-same x y
    node-same (node.Compare x how y) = two-same x y
    node-same (node.Sum first rest) =
        each-append-both (named_in (expr first)) (joined (map named_in_summand (map plus rest))) (every_in is (expr first)) (all_true (map (every_in_summand is) (map plus rest)))
        (e first) (summands-same rest)
    node-same (node.Product first rest) =
        each-append-both (named_in (expr first)) (joined (map named_in_factor (map times rest))) (every_in is (expr first)) (all_true (map (every_in_factor is) (map times rest)))
        (e first) (factors-same rest)

  pub expr-same : (e : Expr) → each_is is (named_in e) ≡ every_in is e
  expr-same =
      ind-Expr (λ e. each_is is (named_in e) ≡ every_in is e) (λ p. each_is is (named_in_factor p) ≡ every_in_factor is p) (λ p. each_is is (named_in_summand p) ≡ every_in_summand is p)
      (λ x y h. subst (λ (d : Expr-F Expr ProductPart SumPart). TreeSame (roll-Expr d)) h
      (layer-same (map-Expr _ _ _ Expr ProductPart SumPart (λ e. e.0) (λ e. e.0) (λ e. e.0) y) (node-same (λ e. e.0) (λ e. e.0) (λ e. e.0) (λ e. e.1) (λ e. e.1) (λ e. e.1) y)))
      (λ x y h. factor-from (record { sign = x.sign; operand = x.operand }) y.operand.0 y.operand.1 (ap (λ p. p.operand) h))
      (λ x y h. summand-from (record { minus = x.minus; operand = x.operand }) y.operand.0 y.operand.1 (ap (λ p. p.operand) h))
    where
      factor-from : (p : ProductPart) (e : Expr) → TreeSame e → e ≡ p.operand → each_is is (named_in_factor p) ≡ every_in_factor is p
      factor-from p e same h = rw (named-factor p, every-factor is p, ← h) same

      summand-from : (p : SumPart) (e : Expr) → TreeSame e → e ≡ p.operand → each_is is (named_in_summand p) ≡ every_in_summand is p
      summand-from p e same h = rw (named-summand p, every-summand is p, ← h) same

  pub all-same : (es : List Expr) → each_is is (named_in_all es) ≡ every_in_all is es
  all-same [] = refl
  all-same (e ∷ es) = each-append-both (named_in e) (named_in_all es) (every_in is e) (every_in_all is es) (expr-same e) (all-same es)

  pub target-same : (target : Option Name) → each_is is (named_in_target target) ≡ every_in_target is target
  target-same None = refl
  target-same (Some x) = and-true (is x)
