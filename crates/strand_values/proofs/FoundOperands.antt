-- Where each variable of an expression is such a one, those of its parts are.
use Rattle.std.proofs.Common.{◌≡◌, ℕ, zero, suc, ◌<◌, Bool, true, false, ◌&&◌, List, [], ◌∷◌, map, length, get_or, refl, sym, ap, ◌∙◌, arith, rules}
use Rattle.script_grammar.specs.declared.tree.Name.{Name}
use Rattle.script_grammar.specs.declared.tree.Comparison.{Comparison}
use Rattle.script_grammar.specs.declared.tree.Expr.{Expr, map-Expr, roll-Expr, fold-roll-Expr, the_lemmas}
use Rattle.script_grammar.specs.declared.tree.Expr.TheOpen as node
use Rattle.script_grammar.specs.declared.tree.Expr.TheOpen.{Expr-F}
use Rattle.script_grammar.specs.declared.tree.Expr.TheVariants as expr
use Rattle.script_grammar.specs.declared.tree.SumPart.{SumPart}
use Rattle.script_grammar.specs.declared.tree.ProductPart.{ProductPart}
use Rattle.script_check.specs.Slots.{all_true, every_at, every_in, every_in_all, every_in_factor, every_in_summand}

both : (a b : Bool) → (a && b) ≡ true → (a ≡ true) × (b ≡ true)
both true b h = (refl, h)
both false b h = absurd (cc)

-- of a list all are true
at_place : {A : Type 0} (f : A → Bool) (xs : List A) (i : ℕ) (x : A) → all_true (map f xs) ≡ true → i < length xs → x ≡ get_or xs i x → f x ≡ true
at_place f [] i x h k e = absurd (omega arith)
at_place f (y ∷ ys) zero x h k e = ap f e ∙ (both (f y) (all_true (map f ys)) h).0
at_place f (y ∷ ys) (suc i) x h k e = at_place f ys i x (both (f y) (all_true (map f ys)) h).1 (omega arith) e

module _ (is : Name → Bool) where
  rolled : (d : Expr-F Expr ProductPart SumPart) → every_in is (roll-Expr d) ≡ every_at is (map-Expr Expr ProductPart SumPart Bool Bool Bool (every_in is) (every_in_factor is) (every_in_summand is) d)
  rolled d = fold-roll-Expr Bool Bool Bool (every_at is) (λ p. p.operand) (λ p. p.operand) d

  layer : (e : Expr) (d : Expr-F Expr ProductPart SumPart) → e ≡ roll-Expr d → every_in is e ≡ true → every_at is (map-Expr Expr ProductPart SumPart Bool Bool Bool (every_in is) (every_in_factor is) (every_in_summand is) d) ≡ true
  layer e d same h = sym (rolled d) ∙ ap (every_in is) (sym same) ∙ h

  pub in_variable : (e : Expr) (x : Name) → e ≡ expr.Var x → every_in is e ≡ true → is x ≡ true
  in_variable e x same h = layer e (node.Var x) (same ∙ sym (expr.rolls-Var x)) h

  pub in_comparison : (e a : Expr) (how : Comparison) (b : Expr) → e ≡ expr.Compare a how b → every_in is e ≡ true → (every_in is a ≡ true) × (every_in is b ≡ true)
  in_comparison e a how b same h = both (every_in is a) (every_in is b) (layer e (node.Compare a how b) (same ∙ sym (expr.rolls-Compare a how b)) h)

  pub in_sum : (e first : Expr) (rest : List SumPart) → e ≡ expr.Sum first rest → every_in is e ≡ true → (every_in is first ≡ true) × (all_true (map (every_in_summand is) rest) ≡ true)
  in_sum e first rest same h = both (every_in is first) (all_true (map (every_in_summand is) rest)) (layer e (node.Sum first rest) (same ∙ sym (expr.rolls-Sum first rest)) h)

  pub in_product : (e first : Expr) (rest : List ProductPart) → e ≡ expr.Product first rest → every_in is e ≡ true → (every_in is first ≡ true) × (all_true (map (every_in_factor is) rest) ≡ true)
  in_product e first rest same h = both (every_in is first) (all_true (map (every_in_factor is) rest)) (layer e (node.Product first rest) (same ∙ sym (expr.rolls-Product first rest)) h)

  -- one operand of a list of them
  summand_is : (p : SumPart) → every_in_summand is p ≡ every_in is p.operand
  summand_is p = search (rules, the_lemmas)

  factor_is : (p : ProductPart) → every_in_factor is p ≡ every_in is p.operand
  factor_is p = search (rules, the_lemmas)

  pub at_summand : (rest : List SumPart) (i : ℕ) (p : SumPart) → all_true (map (every_in_summand is) rest) ≡ true → i < length rest → p ≡ get_or rest i p → every_in is p.operand ≡ true
  at_summand rest i p h k e = sym (summand_is p) ∙ at_place (every_in_summand is) rest i p h k e

  pub at_factor : (rest : List ProductPart) (i : ℕ) (p : ProductPart) → all_true (map (every_in_factor is) rest) ≡ true → i < length rest → p ≡ get_or rest i p → every_in is p.operand ≡ true
  at_factor rest i p h k e = sym (factor_is p) ∙ at_place (every_in_factor is) rest i p h k e

  pub at_argument : (args : List Expr) (i : ℕ) (e : Expr) → every_in_all is args ≡ true → i < length args → e ≡ get_or args i e → every_in is e ≡ true
  at_argument args i e h k same = at_place (every_in is) args i e h k same
