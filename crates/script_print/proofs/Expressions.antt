-- The canonical text of an expression is of the same tree.
use Rattle.std.proofs.Common.{◌≡◌, ℕ, zero, suc, ◌+◌, ◌<◌, ◌≤◌, List, [], ◌∷◌, ◌++◌, length, codes, map, flat_map, Option, Some, None, Bool, true, false, not, nat_lt, nat_eq, if◌then◌else◌, refl, sym, ap, ◌∙◌, subst, arith, append_assoc}
use Rattle.std.specs.Prelude.{ℤ, pos}
use Rattle.std.specs.Fmt as fmt
use Rattle.std.proofs.lemmas.Bool.Decides.{nat_tests}
use Rattle.script_tokens.specs.declared.token.Word.{Word}
use Rattle.script_tokens.specs.declared.token.Word.TheVariants as word
use Rattle.script_tokens.specs.Word.{word_of}
use Rattle.script_grammar.specs.declared.tree.Name.{Name}
use Rattle.script_grammar.specs.declared.tree.Number.{Number}
use Rattle.script_grammar.specs.declared.tree.Expr.{Expr}
use Rattle.script_grammar.specs.declared.tree.Expr.TheVariants as expr
use Rattle.script_grammar.specs.declared.tree.SumPart.{SumPart}
use Rattle.script_grammar.specs.declared.tree.ProductPart.{ProductPart}
use Rattle.script_grammar.specs.declared.tree.ProductSign.{ProductSign}
use Rattle.script_grammar.specs.declared.tree.ProductSign.TheVariants.{Times, Over, Modulo}
use Rattle.script_grammar.specs.declared.tree.Comparison.{Comparison}
use Rattle.script_grammar.specs.declared.tree.Comparison.TheVariants.{Eq, Ne, Lt, Le, Gt, Ge}
use Rattle.script_grammar.specs.Grammar.{Terminal, tok, name_at, number_at, decimal, sum_of, product_of, IsSumSign, a_plus, a_minus, IsProductSign, a_times, an_over, a_modulo, IsComparison, an_eq, a_ne, a_lt, a_le, a_gt, a_ge, IsFactor, a_neg, a_number, a_name, an_item, a_group, a_same, an_older, IsTerm, factors, IsFactors, no_factors, one_factor, IsSum, terms, IsTerms, no_terms, one_term, IsExpr, alone, compared}
use Rattle.script_grammar.specs.Nesting.{factor_nesting, term_nesting, factors_nesting, sum_nesting, terms_nesting, expr_nesting}
use Rattle.script_print.specs.Canonical.{Printed, at_precedence, operand, comparison_text, sum_sign_text, product_sign_text, spaced, printed, product_part_text, sum_part_text, expr_text}
use Rattle.script_print.specs.Unplaced.{unplaced_name, unplaced_number, unplaced_expr, unplaced_product_part, unplaced_sum_part}
use Rattle.script_print.proofs.Computing.{printed-number, printed-variable, printed-item, printed-negation, printed-same, printed-older, printed-comparison, printed-sum, printed-product, sum_part_text-part, product_part_text-part}
use Rattle.script_print.proofs.Placing.{same_item, same_number, same_variable, same_negation, same_same, same_older, same_comparison, same_sum_part, same_product_part, same_sum, same_product, cons_same}
use Rattle.script_print.proofs.Cutting.{IsModest, starts}
use Rattle.script_print.proofs.Forms.{Forms, Then, and_then, IsToken, a_token, IsNothing, nothing, then_, weaken, before, empty, any, anything, calm, no_arrow, calmly, symbol, word_before}
use Rattle.script_print.proofs.Pieces.{in_each, spaced_word, word_space, minus, name_form, number_read, number_form, number_starts, name_starts, nothing_after, nothing_before}
use Rattle.script_print.proofs.Eats.{Eats, eaten, one, factor_eats, term_eats, factors_eats, sum_eats, terms_eats, expr_eats}
use Rattle.script_tokens.specs.declared.version.Version.{Version}

-- the nestings are within the limit
abbrev pub Low : List ℕ → Type 0
Low [] = Unit {0}
Low (n ∷ ns) = (n ≤ 64) × Low ns

pub low_append : (xs ys : List ℕ) → Low xs → Low ys → Low (xs ++ ys)
low_append [] ys l m = m
low_append (x ∷ xs) ys l m = (l.0, low_append xs ys l.1 m)

pub low_front : (xs ys : List ℕ) → Low (xs ++ ys) → Low xs
low_front [] ys l = tt
low_front (x ∷ xs) ys l = (l.0, low_front xs ys l.1)

pub low_back : (xs ys : List ℕ) → Low (xs ++ ys) → Low ys
low_back [] ys l = l
low_back (x ∷ xs) ys l = low_back xs ys l.1

-- a token that was cut from a text, within the limits
pub record IsSound (version : Version) (t : Terminal) : Type 0 where
  pub word_is : word_of version t.text ≡ Some t.word
  pub modest : IsModest t

abbrev pub Sound : Version → List Terminal → Type 0
Sound version [] = Unit {0}
Sound version (t ∷ ts) = IsSound version t × Sound version ts

pub sound_after : (version : Version) {ts rest : List Terminal} → Eats ts rest → Sound version ts → Sound version rest
sound_after version eaten s = s
sound_after version (one h e) s = sound_after version e s.1

-- The tokens derive a tree that is x apart from offsets, and with up to n open round them their nestings are within the limit.
pub record ExprOf (x : Expr) (n : ℕ) (us ts : List Terminal) : Type 0 where
  pub tree : Expr
  pub derived : IsExpr us tree ts
  pub same : unplaced_expr tree ≡ unplaced_expr x
  pub low : (k : ℕ) → k ≤ n → Low (expr_nesting derived k)

pub record SumOf (x : Expr) (n : ℕ) (us ts : List Terminal) : Type 0 where
  pub tree : Expr
  pub derived : IsSum us tree ts
  pub same : unplaced_expr tree ≡ unplaced_expr x
  pub low : (k : ℕ) → k ≤ n → Low (sum_nesting derived k)

pub record TermOf (x : Expr) (n : ℕ) (us ts : List Terminal) : Type 0 where
  pub tree : Expr
  pub derived : IsTerm us tree ts
  pub same : unplaced_expr tree ≡ unplaced_expr x
  pub low : (k : ℕ) → k ≤ n → Low (term_nesting derived k)

pub record FactorOf (x : Expr) (n : ℕ) (us ts : List Terminal) : Type 0 where
  pub tree : Expr
  pub derived : IsFactor us tree ts
  pub same : unplaced_expr tree ≡ unplaced_expr x
  pub low : (k : ℕ) → k ≤ n → Low (factor_nesting derived k)

pub record TermsOf (xs : List SumPart) (n : ℕ) (us ts : List Terminal) : Type 0 where
  pub tree : List SumPart
  pub derived : IsTerms us tree ts
  pub same : map unplaced_sum_part tree ≡ map unplaced_sum_part xs
  pub low : (k : ℕ) → k ≤ n → Low (terms_nesting derived k)

pub record FactorsOf (xs : List ProductPart) (n : ℕ) (us ts : List Terminal) : Type 0 where
  pub tree : List ProductPart
  pub derived : IsFactors us tree ts
  pub same : map unplaced_product_part tree ≡ map unplaced_product_part xs
  pub low : (k : ℕ) → k ≤ n → Low (factors_nesting derived k)

as_term : (x : Expr) (n : ℕ) (us ts : List Terminal) → FactorOf x n us ts → TermOf x n us ts
as_term x n us ts d = record { tree = d.tree; derived = factors d.derived no_factors; same = d.same; low = λ k h. low_append (factor_nesting d.derived k) [] (d.low k h) tt }

as_sum : (x : Expr) (n : ℕ) (us ts : List Terminal) → TermOf x n us ts → SumOf x n us ts
as_sum x n us ts d = record { tree = d.tree; derived = terms d.derived no_terms; same = d.same; low = λ k h. low_append (term_nesting d.derived k) [] (d.low k h) tt }

as_expr : (x : Expr) (n : ℕ) (us ts : List Terminal) → SumOf x n us ts → ExprOf x n us ts
as_expr x n us ts d = record { tree = d.tree; derived = alone d.derived; same = d.same; low = d.low }

expr_lower : (x : Expr) (m n : ℕ) → m ≤ n → (us ts : List Terminal) → ExprOf x n us ts → ExprOf x m us ts
expr_lower x m n h us ts d = record { tree = d.tree; derived = d.derived; same = d.same; low = λ k l. d.low k (omega arith) }

sum_lower : (x : Expr) (m n : ℕ) → m ≤ n → (us ts : List Terminal) → SumOf x n us ts → SumOf x m us ts
sum_lower x m n h us ts d = record { tree = d.tree; derived = d.derived; same = d.same; low = λ k l. d.low k (omega arith) }

term_lower : (x : Expr) (m n : ℕ) → m ≤ n → (us ts : List Terminal) → TermOf x n us ts → TermOf x m us ts
term_lower x m n h us ts d = record { tree = d.tree; derived = d.derived; same = d.same; low = λ k l. d.low k (omega arith) }

factor_lower : (x : Expr) (m n : ℕ) → m ≤ n → (us ts : List Terminal) → FactorOf x n us ts → FactorOf x m us ts
factor_lower x m n h us ts d = record { tree = d.tree; derived = d.derived; same = d.same; low = λ k l. d.low k (omega arith) }

-- A printed text is of the expression x: as an expression always, and, by its precedence, as a sum, a term, a factor. There is room for n round it.
pub record Shown (version : Version) (p : Printed) (x : Expr) (n : ℕ) : Type 0 where
  pub low : n ≤ 64
  pub front : (rest : List ℕ) → starts no_arrow (p.text ++ rest) ≡ true
  pub expr : Forms version p.text calm (ExprOf x n)
  pub sum_too : nat_lt p.precedence 2 ≡ false → Forms version p.text calm (SumOf x n)
  pub term : nat_lt p.precedence 3 ≡ false → Forms version p.text calm (TermOf x n)
  pub factor : nat_lt p.precedence 4 ≡ false → Forms version p.text calm (FactorOf x n)

lower : {version : Version} (p : Printed) (x : Expr) (m n : ℕ) → m ≤ n → Shown version p x n → Shown version p x m
lower p x m n h s = record {
  low = omega (arith, s.low);
  front = s.front;
  expr = weaken s.expr (expr_lower x m n h);
  sum_too = λ e. weaken (s.sum_too e) (sum_lower x m n h);
  term = λ e. weaken (s.term e) (term_lower x m n h);
  factor = λ e. weaken (s.factor e) (factor_lower x m n h);
}

from_sum : {version : Version} (p : Printed) (x : Expr) (n : ℕ) → n ≤ 64 → ((rest : List ℕ) → starts no_arrow (p.text ++ rest) ≡ true) → nat_lt p.precedence 3 ≡ true → nat_lt p.precedence 4 ≡ true → Forms version p.text calm (SumOf x n) → Shown version p x n
from_sum p x n l front e f d = record {
  low = l;
  front = front;
  expr = weaken d (as_expr x n);
  sum_too = λ g. d;
  term = λ g. absurd cc;
  factor = λ g. absurd cc;
}

from_term : {version : Version} (p : Printed) (x : Expr) (n : ℕ) → n ≤ 64 → ((rest : List ℕ) → starts no_arrow (p.text ++ rest) ≡ true) → nat_lt p.precedence 4 ≡ true → Forms version p.text calm (TermOf x n) → Shown version p x n
from_term p x n l front e d = record {
  low = l;
  front = front;
  expr = weaken (weaken d (as_sum x n)) (as_expr x n);
  sum_too = λ g. weaken d (as_sum x n);
  term = λ g. d;
  factor = λ g. absurd cc;
}

from_factor : {version : Version} (p : Printed) (x : Expr) (n : ℕ) → n ≤ 64 → ((rest : List ℕ) → starts no_arrow (p.text ++ rest) ≡ true) → Forms version p.text calm (FactorOf x n) → Shown version p x n
from_factor p x n l front d = record {
  low = l;
  front = front;
  expr = weaken (weaken (weaken d (as_term x n)) (as_sum x n)) (as_expr x n);
  sum_too = λ g. weaken (weaken d (as_term x n)) (as_sum x n);
  term = λ g. weaken d (as_term x n);
  factor = λ g. d;
}

-- The expression's text stands there, and where its precedence is below the need there is room for parentheses.
pub record Room (version : Version) (need : ℕ) (x : Expr) (n : ℕ) : Type 0 where
  pub here : Shown version (printed x) x n
  pub room : nat_lt (printed x).precedence need ≡ true → Shown version (printed x) x (suc n)

settled : {version : Version} (need : ℕ) (p : Printed) (x : Expr) (n : ℕ) → printed x ≡ p → nat_lt p.precedence need ≡ false → Shown version p x n → Room version need x n
settled {version = version} need p x n e h s = record {
  here = subst (λ q. Shown version q x n) (sym e) s;
  room = λ g. let f = sym (ap (λ q. nat_lt q.precedence need) e) ∙ g in absurd cc;
}

looser : {version : Version} (k : ℕ) (x : Expr) (n : ℕ) → Room version (suc k) x n → Room version k x n
looser k x n r = record { here = r.here; room = λ e. r.room (more (printed x).precedence e) }
  where
    more : (l : ℕ) → nat_lt l k ≡ true → nat_lt l (suc k) ≡ true
    more l e = grind (arith, nat_tests)

-- Operands.

pub opened : {version : Version} → Forms version (codes "(") any (IsToken word.Open (codes "("))
opened = symbol word.Open (codes "(") refl refl (λ b. refl)

pub closed : {version : Version} → Forms version (codes ")") any (IsToken word.Close (codes ")"))
closed = symbol word.Close (codes ")") refl refl (λ b. refl)

group_made : (x : Expr) (n : ℕ) → suc n ≤ 64 → (us ts : List Terminal) → Then (Then (IsToken word.Open (codes "(")) (ExprOf x (suc n))) (IsToken word.Close (codes ")")) us ts → FactorOf x n us ts
group_made x n h us ts (and_then (and_then a_token d) a_token) =
    record {
      tree = d.tree;
      derived = a_group d.derived;
      same = d.same;
      low = λ k l. (omega arith, low_append (expr_nesting d.derived (suc k)) (k ∷ []) (d.low (suc k) (omega arith)) (omega arith, tt));
    }

grouped : {version : Version} (p : Printed) (x : Expr) (n : ℕ) → Shown version p x (suc n) → Forms version (codes "(" ++ p.text ++ codes ")") calm (FactorOf x n)
grouped p x n s = calmly (weaken (then_ (then_ opened s.expr (λ r h. anything (p.text ++ r))) closed (λ r h. refl)) (group_made x n s.low))

at_factor : {version : Version} (x : Expr) (n : ℕ) → Room version 4 x n → Forms version (operand 4 (printed x)) calm (FactorOf x n)
at_factor {version = version} x n r = go (nat_lt (printed x).precedence 4) refl
  where
    go : (b : Bool) → nat_lt (printed x).precedence 4 ≡ b → Forms version (if b then codes "(" ++ (printed x).text ++ codes ")" else (printed x).text) calm (FactorOf x n)
    go true e = grouped (printed x) x n (r.room e)
    go false e = r.here.factor e

at_term : {version : Version} (x : Expr) (n : ℕ) → Room version 3 x n → Forms version (operand 3 (printed x)) calm (TermOf x n)
at_term {version = version} x n r = go (nat_lt (printed x).precedence 3) refl
  where
    go : (b : Bool) → nat_lt (printed x).precedence 3 ≡ b → Forms version (if b then codes "(" ++ (printed x).text ++ codes ")" else (printed x).text) calm (TermOf x n)
    go true e = weaken (grouped (printed x) x n (r.room e)) (as_term x n)
    go false e = r.here.term e

at_sum : {version : Version} (x : Expr) (n : ℕ) → Room version 2 x n → Forms version (operand 2 (printed x)) calm (SumOf x n)
at_sum {version = version} x n r = go (nat_lt (printed x).precedence 2) refl
  where
    go : (b : Bool) → nat_lt (printed x).precedence 2 ≡ b → Forms version (if b then codes "(" ++ (printed x).text ++ codes ")" else (printed x).text) calm (SumOf x n)
    go true e = weaken (weaken (grouped (printed x) x n (r.room e)) (as_term x n)) (as_sum x n)
    go false e = r.here.sum_too e

operand_front : {version : Version} (need : ℕ) (x : Expr) (n : ℕ) → Shown version (printed x) x n → (rest : List ℕ) → starts no_arrow (operand need (printed x) ++ rest) ≡ true
operand_front need x n s rest = go (nat_lt (printed x).precedence need)
  where
    go : (b : Bool) → starts no_arrow ((if b then codes "(" ++ (printed x).text ++ codes ")" else (printed x).text) ++ rest) ≡ true
    go true = refl
    go false = s.front rest

-- a text before others begins as they do
front_first : (t u : List ℕ) → ((rest : List ℕ) → starts no_arrow (t ++ rest) ≡ true) → (rest : List ℕ) → starts no_arrow (t ++ u ++ rest) ≡ true
front_first t u h rest = ap (starts no_arrow) (append_assoc t u rest) ∙ h (u ++ rest)

-- Atoms and minuses.

number_made : (a : ℕ) (t : List ℕ) (n : ℕ) → n ≤ 64 → decimal 0 t ≤ 9223372036854775807 → (us ts : List Terminal) → IsToken word.Number (fmt.decimal (decimal 0 t)) us ts → FactorOf (expr.Number (number_at a t)) n us ts
number_made a t n h small us ts (a_token {a = b}) =
    record {
      tree = expr.Number (number_at b (fmt.decimal (decimal 0 t)));
      derived = a_number;
      same = same_number _ _ (ap (λ (m : ℕ). record { at = 0; value = pos m }) (number_read (decimal 0 t) small));
      low = λ k l. (omega arith, tt);
    }

variable_made : (a : ℕ) (t : List ℕ) (n : ℕ) → n ≤ 64 → (us ts : List Terminal) → IsToken word.Name t us ts → FactorOf (expr.Var (name_at a t)) n us ts
variable_made a t n h us ts (a_token {a = b}) =
    record { tree = expr.Var (name_at b t); derived = a_name; same = same_variable (name_at b t) (name_at a t) refl; low = λ k l. (omega arith, tt) }

pub open_item : {version : Version} → Forms version (codes "[") any (IsToken word.OpenItem (codes "["))
open_item = symbol word.OpenItem (codes "[") refl refl (λ b. refl)

pub close_item : {version : Version} → Forms version (codes "]") any (IsToken word.CloseItem (codes "]"))
close_item = symbol word.CloseItem (codes "]") refl refl (λ b. refl)

item_made : (a : ℕ) (t : List ℕ) (x : Expr) (n : ℕ) → suc n ≤ 64 → (us ts : List Terminal) →
    Then (Then (Then (IsToken word.Name t) (IsToken word.OpenItem (codes "["))) (ExprOf x (suc n))) (IsToken word.CloseItem (codes "]")) us ts → FactorOf (expr.Item (name_at a t) x) n us ts
item_made a t x n h us ts (and_then (and_then (and_then (a_token {a = b}) a_token) d) a_token) =
    record {
      tree = expr.Item (name_at b t) d.tree;
      derived = an_item d.derived;
      same = same_item (name_at b t) (name_at a t) d.tree x refl d.same;
      low = λ k l. (omega arith, (omega arith, low_append (expr_nesting d.derived (suc k)) (k ∷ []) (d.low (suc k) (omega arith)) (omega arith, tt)));
    }

neg_made : (a : ℕ) (x : Expr) (n : ℕ) → suc n ≤ 64 → (us ts : List Terminal) → Then (IsToken word.Minus (codes "-")) (FactorOf x (suc n)) us ts → FactorOf (expr.Neg a x) n us ts
neg_made a x n h us ts (and_then (a_token {a = b}) d) =
    record { tree = expr.Neg b d.tree; derived = a_neg d.derived; same = same_negation b a d.tree x d.same; low = λ k l. (omega arith, d.low (suc k) (omega arith)) }

pub comma : {version : Version} → Forms version (codes ", ") any (IsToken word.Comma (codes ","))
comma = word_space word.Comma (codes ",") refl refl refl

same_open : {version : Version} → Forms version (codes "same(") any (Then (IsToken word.Same (codes "same")) (IsToken word.Open (codes "(")))
same_open {version = version} = then_ (word_before 40 word.Same (codes "same") refl (in_each version word.Same (codes "same") refl refl) refl) opened (λ r h. refl)

older_open : {version : Version} → Forms version (codes "older(") any (Then (IsToken word.Older (codes "older")) (IsToken word.Open (codes "(")))
older_open {version = version} = then_ (word_before 40 word.Older (codes "older") refl (in_each version word.Older (codes "older") refl refl) refl) opened (λ r h. refl)

pair_low : (xs ys : List ℕ) (k n : ℕ) → suc n ≤ 64 → k ≤ n → Low xs → Low ys → Low (k ∷ suc k ∷ (xs ++ suc k ∷ (ys ++ k ∷ [])))
pair_low xs ys k n h l a b = (omega arith, (omega arith, low_append xs (suc k ∷ (ys ++ k ∷ [])) a (omega arith, low_append ys (k ∷ []) b (omega arith, tt))))

same_made : (a : ℕ) (x y : Expr) (n : ℕ) → suc n ≤ 64 → (us ts : List Terminal) →
    Then (Then (Then (Then (Then (IsToken word.Same (codes "same")) (IsToken word.Open (codes "("))) (ExprOf x (suc n))) (IsToken word.Comma (codes ","))) (ExprOf y (suc n))) (IsToken word.Close (codes ")")) us ts → FactorOf (expr.Same a x y) n us ts
same_made a x y n h us ts (and_then (and_then (and_then (and_then (and_then (a_token {a = b}) a_token) d) a_token) e) a_token) =
    record {
      tree = expr.Same b d.tree e.tree;
      derived = a_same d.derived e.derived;
      same = same_same b a d.tree x e.tree y d.same e.same;
      low = λ k l. pair_low (expr_nesting d.derived (suc k)) (expr_nesting e.derived (suc k)) k n h l (d.low (suc k) (omega arith)) (e.low (suc k) (omega arith));
    }

older_made : (a : ℕ) (x y : Expr) (n : ℕ) → suc n ≤ 64 → (us ts : List Terminal) →
    Then (Then (Then (Then (Then (IsToken word.Older (codes "older")) (IsToken word.Open (codes "("))) (ExprOf x (suc n))) (IsToken word.Comma (codes ","))) (ExprOf y (suc n))) (IsToken word.Close (codes ")")) us ts → FactorOf (expr.Older a x y) n us ts
older_made a x y n h us ts (and_then (and_then (and_then (and_then (and_then (a_token {a = b}) a_token) d) a_token) e) a_token) =
    record {
      tree = expr.Older b d.tree e.tree;
      derived = an_older d.derived e.derived;
      same = same_older b a d.tree x e.tree y d.same e.same;
      low = λ k l. pair_low (expr_nesting d.derived (suc k)) (expr_nesting e.derived (suc k)) k n h l (d.low (suc k) (omega arith)) (e.low (suc k) (omega arith));
    }

number_shown : {version : Version} (a : ℕ) (t : List ℕ) (n : ℕ) → n ≤ 64 → IsModest (tok a word.Number t) → Room version 4 (expr.Number (number_at a t)) n
number_shown a t n l m =
    let small : decimal 0 t ≤ 9223372036854775807 = m.number refl in
    let p : Printed = at_precedence 5 (fmt.decimal (decimal 0 t)) in
    settled 4 p (expr.Number (number_at a t)) n (printed-number (number_at a t)) refl
    (from_factor p (expr.Number (number_at a t)) n l (λ r. number_starts (decimal 0 t) r small) (weaken (number_form (decimal 0 t) small) (number_made a t n l small)))

variable_shown : {version : Version} (a : ℕ) (t : List ℕ) (n : ℕ) → n ≤ 64 → IsSound version (tok a word.Name t) → Room version 4 (expr.Var (name_at a t)) n
variable_shown {version = version} a t n l s =
    let p : Printed = at_precedence 5 t in
    settled 4 p (expr.Var (name_at a t)) n (printed-variable (name_at a t)) refl
    (from_factor p (expr.Var (name_at a t)) n l (λ r. name_starts version t r s.word_is) (weaken (name_form t s.word_is (s.modest.name refl)) (variable_made a t n l)))

item_shown : {version : Version} (a : ℕ) (t : List ℕ) (x : Expr) (n : ℕ) → IsSound version (tok a word.Name t) → Shown version (printed x) x (suc n) → Room version 4 (expr.Item (name_at a t) x) n
item_shown {version = version} a t x n s d =
    let p : Printed = at_precedence 5 (t ++ codes "[" ++ expr_text x ++ codes "]") in
    settled 4 p (expr.Item (name_at a t) x) n (printed-item (name_at a t) x) refl
    (from_factor p (expr.Item (name_at a t) x) n (omega (arith, d.low))
    (front_first (t ++ codes "[" ++ expr_text x) (codes "]") (front_first (t ++ codes "[") (expr_text x) (front_first t (codes "[") (λ r. name_starts version t r s.word_is))))
    (calmly (weaken (then_ (then_ (then_ (name_form t s.word_is (s.modest.name refl)) open_item (λ r h. refl)) d.expr (λ r h. anything (expr_text x ++ r))) close_item (λ r h. refl)) (item_made a t x n d.low))))

neg_shown : {version : Version} (a : ℕ) (x : Expr) (n : ℕ) → Room version 4 x (suc n) → Room version 4 (expr.Neg a x) n
neg_shown a x n d =
    let p : Printed = at_precedence 4 (codes "-" ++ operand 4 (printed x)) in
    settled 4 p (expr.Neg a x) n (printed-negation a x) refl
    (from_factor p (expr.Neg a x) n (omega (arith, d.here.low)) (λ r. refl)
    (weaken (then_ minus (at_factor x (suc n) d) (λ r h. operand_front 4 x (suc n) d.here r)) (neg_made a x n d.here.low)))

same_shown : {version : Version} (a : ℕ) (x y : Expr) (n : ℕ) → Shown version (printed x) x (suc n) → Shown version (printed y) y (suc n) → Room version 4 (expr.Same a x y) n
same_shown a x y n d e =
    let p : Printed = at_precedence 5 (codes "same(" ++ expr_text x ++ codes ", " ++ expr_text y ++ codes ")") in
    settled 4 p (expr.Same a x y) n (printed-same a x y) refl
    (from_factor p (expr.Same a x y) n (omega (arith, d.low)) (λ r. refl)
    (calmly (weaken (then_ (then_ (then_ (then_ same_open d.expr (λ r h. anything (expr_text x ++ r))) comma (λ r h. refl)) e.expr (λ r h. anything (expr_text y ++ r))) closed (λ r h. refl)) (same_made a x y n d.low))))

older_shown : {version : Version} (a : ℕ) (x y : Expr) (n : ℕ) → Shown version (printed x) x (suc n) → Shown version (printed y) y (suc n) → Room version 4 (expr.Older a x y) n
older_shown a x y n d e =
    let p : Printed = at_precedence 5 (codes "older(" ++ expr_text x ++ codes ", " ++ expr_text y ++ codes ")") in
    settled 4 p (expr.Older a x y) n (printed-older a x y) refl
    (from_factor p (expr.Older a x y) n (omega (arith, d.low)) (λ r. refl)
    (calmly (weaken (then_ (then_ (then_ (then_ older_open d.expr (λ r h. anything (expr_text x ++ r))) comma (λ r h. refl)) e.expr (λ r h. anything (expr_text y ++ r))) closed (λ r h. refl)) (older_made a x y n d.low))))

-- Operators.

pub data ProductSignOf (s : ProductSign) : List Terminal → List Terminal → Type 0 where
  a_product_sign : {a : ℕ} {k : Word} {t : List ℕ} {ts : List Terminal} → IsProductSign k s → ProductSignOf s (tok a k t ∷ ts) ts

pub data SumSignOf (s : Bool) : List Terminal → List Terminal → Type 0 where
  a_sum_sign : {a : ℕ} {k : Word} {t : List ℕ} {ts : List Terminal} → IsSumSign k s → SumSignOf s (tok a k t ∷ ts) ts

pub data ComparisonOf (s : Comparison) : List Terminal → List Terminal → Type 0 where
  a_comparison : {a : ℕ} {k : Word} {t : List ℕ} {ts : List Terminal} → IsComparison k s → ComparisonOf s (tok a k t ∷ ts) ts

product_signed : {k : Word} {s : ProductSign} {t : List ℕ} → IsProductSign k s → (us ts : List Terminal) → IsToken k t us ts → ProductSignOf s us ts
product_signed h us ts a_token = a_product_sign h

sum_signed : {k : Word} {s : Bool} {t : List ℕ} → IsSumSign k s → (us ts : List Terminal) → IsToken k t us ts → SumSignOf s us ts
sum_signed h us ts a_token = a_sum_sign h

comparison_signed : {k : Word} {s : Comparison} {t : List ℕ} → IsComparison k s → (us ts : List Terminal) → IsToken k t us ts → ComparisonOf s us ts
comparison_signed h us ts a_token = a_comparison h

product_sign_form : {version : Version} (s : ProductSign) → Forms version (spaced (product_sign_text s)) any (ProductSignOf s)
product_sign_form Times = weaken (spaced_word word.Times (codes "*") refl refl refl) (product_signed a_times)
product_sign_form Over = weaken (spaced_word word.Over (codes "/") refl refl refl) (product_signed an_over)
product_sign_form Modulo = weaken (spaced_word word.Modulo (codes "%") refl refl refl) (product_signed a_modulo)

sum_sign_form : {version : Version} (s : Bool) → Forms version (spaced (sum_sign_text s)) any (SumSignOf s)
sum_sign_form true = weaken (spaced_word word.Minus (codes "-") refl refl refl) (sum_signed a_minus)
sum_sign_form false = weaken (spaced_word word.Plus (codes "+") refl refl refl) (sum_signed a_plus)

comparison_form : {version : Version} (s : Comparison) → Forms version (spaced (comparison_text s)) any (ComparisonOf s)
comparison_form Eq = weaken (spaced_word word.Eq (codes "==") refl refl refl) (comparison_signed an_eq)
comparison_form Ne = weaken (spaced_word word.Ne (codes "!=") refl refl refl) (comparison_signed a_ne)
comparison_form Lt = weaken (spaced_word word.Lt (codes "<") refl refl refl) (comparison_signed a_lt)
comparison_form Le = weaken (spaced_word word.Le (codes "<=") refl refl refl) (comparison_signed a_le)
comparison_form Gt = weaken (spaced_word word.Gt (codes ">") refl refl refl) (comparison_signed a_gt)
comparison_form Ge = weaken (spaced_word word.Ge (codes ">=") refl refl refl) (comparison_signed a_ge)

-- A text after an operand, which ends no name and no number of it.
pub record Tail (version : Version) (text : List ℕ) (D : List Terminal → List Terminal → Type 0) : Type 0 where
  pub form : Forms version text calm D
  pub front : (rest : List ℕ) → starts calm rest ≡ true → starts calm (text ++ rest) ≡ true

no_factors_made : (n : ℕ) (us ts : List Terminal) → IsNothing us ts → FactorsOf [] n us ts
no_factors_made n us ts nothing = record { tree = []; derived = no_factors; same = refl; low = λ k l. tt }

no_terms_made : (n : ℕ) (us ts : List Terminal) → IsNothing us ts → TermsOf [] n us ts
no_terms_made n us ts nothing = record { tree = []; derived = no_terms; same = refl; low = λ k l. tt }

factors_made : (s : ProductSign) (x : Expr) (xs : List ProductPart) (n : ℕ) → n ≤ 64 → (us ts : List Terminal) → Then (Then (ProductSignOf s) (FactorOf x n)) (FactorsOf xs n) us ts →
    FactorsOf (record { sign = s; operand = x } ∷ xs) n us ts
factors_made s x xs n h us ts (and_then (and_then (a_product_sign k) d) e) =
    record {
      tree = record { sign = s; operand = d.tree } ∷ e.tree;
      derived = one_factor k d.derived e.derived;
      same = cons_same (same_product_part s d.tree x d.same) e.same;
      low = λ k l. (omega arith, low_append (factor_nesting d.derived k) (factors_nesting e.derived k) (d.low k l) (e.low k l));
    }

terms_made : (s : Bool) (x : Expr) (xs : List SumPart) (n : ℕ) → n ≤ 64 → (us ts : List Terminal) → Then (Then (SumSignOf s) (TermOf x n)) (TermsOf xs n) us ts →
    TermsOf (record { minus = s; operand = x } ∷ xs) n us ts
terms_made s x xs n h us ts (and_then (and_then (a_sum_sign k) d) e) =
    record {
      tree = record { minus = s; operand = d.tree } ∷ e.tree;
      derived = one_term k d.derived e.derived;
      same = cons_same (same_sum_part s d.tree x d.same) e.same;
      low = λ k l. (omega arith, low_append (term_nesting d.derived k) (terms_nesting e.derived k) (d.low k l) (e.low k l));
    }

factors_tail : {version : Version} (s : ProductSign) (x : Expr) (xs : List ProductPart) (n : ℕ) → Room version 4 x n → Tail version (flat_map product_part_text xs) (FactorsOf xs n) →
    Tail version (flat_map product_part_text (record { sign = s; operand = x } ∷ xs)) (FactorsOf (record { sign = s; operand = x } ∷ xs) n)
factors_tail {version = version} s x xs n r tail =
    let text : spaced (product_sign_text s) ++ operand 4 (printed x) ++ flat_map product_part_text xs ≡ flat_map product_part_text (record { sign = s; operand = x } ∷ xs) =
    ap (λ z. z ++ flat_map product_part_text xs) (sym (product_part_text-part s x)) in
    subst (λ z. Tail version z (FactorsOf (record { sign = s; operand = x } ∷ xs) n)) text (record {
      form = weaken (then_ (then_ (product_sign_form s) (at_factor x n r) (λ q h. anything (operand 4 (printed x) ++ q))) tail.form tail.front) (factors_made s x xs n r.here.low);
      front = λ q h. refl;
    })

terms_tail : {version : Version} (s : Bool) (x : Expr) (xs : List SumPart) (n : ℕ) → Room version 3 x n → Tail version (flat_map sum_part_text xs) (TermsOf xs n) →
    Tail version (flat_map sum_part_text (record { minus = s; operand = x } ∷ xs)) (TermsOf (record { minus = s; operand = x } ∷ xs) n)
terms_tail {version = version} s x xs n r tail =
    let text : spaced (sum_sign_text s) ++ operand 3 (printed x) ++ flat_map sum_part_text xs ≡ flat_map sum_part_text (record { minus = s; operand = x } ∷ xs) =
    ap (λ z. z ++ flat_map sum_part_text xs) (sym (sum_part_text-part s x)) in
    subst (λ z. Tail version z (TermsOf (record { minus = s; operand = x } ∷ xs) n)) text (record {
      form = weaken (then_ (then_ (sum_sign_form s) (at_term x n r) (λ q h. anything (operand 3 (printed x) ++ q))) tail.form tail.front) (terms_made s x xs n r.here.low);
      front = λ q h. refl;
    })

product_made : (x : Expr) (p : ProductPart) (ps : List ProductPart) (n : ℕ) (us ts : List Terminal) → Then (FactorOf x n) (FactorsOf (p ∷ ps) n) us ts → TermOf (expr.Product x (p ∷ ps)) n us ts
product_made x p ps n us ts (and_then d e) =
    record {
      tree = product_of d.tree e.tree;
      derived = factors d.derived e.derived;
      same = same_product d.tree x e.tree p ps d.same e.same;
      low = λ k l. low_append (factor_nesting d.derived k) (factors_nesting e.derived k) (d.low k l) (e.low k l);
    }

sum_made : (x : Expr) (p : SumPart) (ps : List SumPart) (n : ℕ) (us ts : List Terminal) → Then (TermOf x n) (TermsOf (p ∷ ps) n) us ts → SumOf (expr.Sum x (p ∷ ps)) n us ts
sum_made x p ps n us ts (and_then d e) =
    record {
      tree = sum_of d.tree e.tree;
      derived = terms d.derived e.derived;
      same = same_sum d.tree x e.tree p ps d.same e.same;
      low = λ k l. low_append (term_nesting d.derived k) (terms_nesting e.derived k) (d.low k l) (e.low k l);
    }

product_shown : {version : Version} (x : Expr) (p : ProductPart) (ps : List ProductPart) (n : ℕ) → Room version 4 x n → Tail version (flat_map product_part_text (p ∷ ps)) (FactorsOf (p ∷ ps) n) → Room version 3 (expr.Product x (p ∷ ps)) n
product_shown x p ps n r tail =
    let q : Printed = at_precedence 3 (operand 4 (printed x) ++ flat_map product_part_text (p ∷ ps)) in
    settled 3 q (expr.Product x (p ∷ ps)) n (printed-product x (p ∷ ps)) refl
    (from_term q (expr.Product x (p ∷ ps)) n r.here.low (front_first (operand 4 (printed x)) (flat_map product_part_text (p ∷ ps)) (operand_front 4 x n r.here)) refl
    (weaken (then_ (at_factor x n r) tail.form tail.front) (product_made x p ps n)))

sum_shown : {version : Version} (x : Expr) (p : SumPart) (ps : List SumPart) (n : ℕ) → Room version 3 x n → Tail version (flat_map sum_part_text (p ∷ ps)) (TermsOf (p ∷ ps) n) → Room version 2 (expr.Sum x (p ∷ ps)) n
sum_shown x p ps n r tail =
    let q : Printed = at_precedence 2 (operand 3 (printed x) ++ flat_map sum_part_text (p ∷ ps)) in
    settled 2 q (expr.Sum x (p ∷ ps)) n (printed-sum x (p ∷ ps)) refl
    (from_sum q (expr.Sum x (p ∷ ps)) n r.here.low (front_first (operand 3 (printed x)) (flat_map sum_part_text (p ∷ ps)) (operand_front 3 x n r.here)) refl refl
    (weaken (then_ (at_term x n r) tail.form tail.front) (sum_made x p ps n)))

comparison_made : (x : Expr) (s : Comparison) (y : Expr) (n : ℕ) → n ≤ 64 → (us ts : List Terminal) → Then (Then (SumOf x n) (ComparisonOf s)) (SumOf y n) us ts → ExprOf (expr.Compare x s y) n us ts
comparison_made x s y n h us ts (and_then (and_then d (a_comparison k)) e) =
    record {
      tree = expr.Compare d.tree s e.tree;
      derived = compared d.derived k e.derived;
      same = same_comparison s d.tree x e.tree y d.same e.same;
      low = λ k l. low_append (sum_nesting d.derived k) (k ∷ sum_nesting e.derived k) (d.low k l) (omega arith, e.low k l);
    }

comparison_shown : {version : Version} (x : Expr) (s : Comparison) (y : Expr) (n : ℕ) → Room version 2 x n → Room version 2 y n → Shown version (printed (expr.Compare x s y)) (expr.Compare x s y) n
comparison_shown {version = version} x s y n d e =
    let text : List ℕ = operand 2 (printed x) ++ spaced (comparison_text s) ++ operand 2 (printed y) in
    let made : Shown version (at_precedence 1 text) (expr.Compare x s y) n = record {
      low = d.here.low;
      front = front_first (operand 2 (printed x) ++ spaced (comparison_text s)) (operand 2 (printed y)) (front_first (operand 2 (printed x)) (spaced (comparison_text s)) (operand_front 2 x n d.here));
      expr = weaken (then_ (then_ (at_sum x n d) (comparison_form s) (λ r h. refl)) (at_sum y n e) (λ r h. anything (operand 2 (printed y) ++ r))) (comparison_made x s y n d.here.low);
      sum_too = λ g. absurd cc;
      term = λ g. absurd cc;
      factor = λ g. absurd cc;
    } in
    subst (λ p. Shown version p (expr.Compare x s y) n) (sym (printed-comparison x s y)) made

-- By the derivation from the tokens that were read.

mutual
  pub factor_shown : {version : Version} {ts rest : List Terminal} {x : Expr} (d : IsFactor ts x rest) (n : ℕ) → Low (factor_nesting d n) → Sound version ts → Room version 4 x n
  factor_shown (a_neg {a = a} {x = x} d) n l s = neg_shown a x n (factor_shown d (suc n) l.1 s.1)
  factor_shown (a_number {a = a} {t = t}) n l s = number_shown a t n l.0 s.0.modest
  factor_shown (a_name {a = a} {t = t}) n l s = variable_shown a t n l.0 s.0
  factor_shown (an_item {a = a} {t = t} {x = x} d) n l s =
      item_shown a t x n s.0 (expr_shown d (suc n) (low_front (expr_nesting d (suc n)) (n ∷ []) l.1.1) s.1.1)
  factor_shown {version = version} (a_group {x = x} d) n l s =
      let inner : Shown version (printed x) x (suc n) = expr_shown d (suc n) (low_front (expr_nesting d (suc n)) (n ∷ []) l.1) s.1 in
      record { here = lower (printed x) x n (suc n) (omega arith) inner; room = λ e. inner }
  factor_shown {version = version} (a_same {a = a} {x = x} {y = y} d e) n l s =
      let after = low_back (expr_nesting d (suc n)) (suc n ∷ (expr_nesting e (suc n) ++ n ∷ [])) l.1.1 in
      same_shown a x y n
      (expr_shown d (suc n) (low_front (expr_nesting d (suc n)) (suc n ∷ (expr_nesting e (suc n) ++ n ∷ [])) l.1.1) s.1.1)
      (expr_shown e (suc n) (low_front (expr_nesting e (suc n)) (n ∷ []) after.1) (sound_after version (expr_eats d) s.1.1).1)
  factor_shown {version = version} (an_older {a = a} {x = x} {y = y} d e) n l s =
      let after = low_back (expr_nesting d (suc n)) (suc n ∷ (expr_nesting e (suc n) ++ n ∷ [])) l.1.1 in
      older_shown a x y n
      (expr_shown d (suc n) (low_front (expr_nesting d (suc n)) (suc n ∷ (expr_nesting e (suc n) ++ n ∷ [])) l.1.1) s.1.1)
      (expr_shown e (suc n) (low_front (expr_nesting e (suc n)) (n ∷ []) after.1) (sound_after version (expr_eats d) s.1.1).1)

  pub term_shown : {version : Version} {ts rest : List Terminal} {x : Expr} (d : IsTerm ts x rest) (n : ℕ) → Low (term_nesting d n) → Sound version ts → Room version 3 x n
  term_shown (factors {x = x} d no_factors) n l s = looser 3 x n (factor_shown d n (low_front (factor_nesting d n) [] l) s)
  term_shown {version = version} (factors {x = x} d (one_factor {s = sign} {x = y} {xs = ys} k e f)) n l s =
      let after = low_back (factor_nesting d n) (n ∷ (factor_nesting e n ++ factors_nesting f n)) l in
      let others = (sound_after version (factor_eats d) s).1 in
      product_shown x (record { sign = sign; operand = y }) ys n
      (factor_shown d n (low_front (factor_nesting d n) (n ∷ (factor_nesting e n ++ factors_nesting f n)) l) s)
      (factors_tail sign y ys n (factor_shown e n (low_front (factor_nesting e n) (factors_nesting f n) after.1) others)
      (factors_shown f n (low_back (factor_nesting e n) (factors_nesting f n) after.1) (sound_after version (factor_eats e) others)))

  pub factors_shown : {version : Version} {ts rest : List Terminal} {xs : List ProductPart} (d : IsFactors ts xs rest) (n : ℕ) → Low (factors_nesting d n) → Sound version ts → Tail version (flat_map product_part_text xs) (FactorsOf xs n)
  factors_shown no_factors n l s = record { form = weaken empty (no_factors_made n); front = λ r h. h }
  factors_shown {version = version} (one_factor {s = sign} {x = y} {xs = ys} k e f) n l s =
      factors_tail sign y ys n (factor_shown e n (low_front (factor_nesting e n) (factors_nesting f n) l.1) s.1)
      (factors_shown f n (low_back (factor_nesting e n) (factors_nesting f n) l.1) (sound_after version (factor_eats e) s.1))

  pub sum_is_shown : {version : Version} {ts rest : List Terminal} {x : Expr} (d : IsSum ts x rest) (n : ℕ) → Low (sum_nesting d n) → Sound version ts → Room version 2 x n
  sum_is_shown (terms {x = x} d no_terms) n l s = looser 2 x n (term_shown d n (low_front (term_nesting d n) [] l) s)
  sum_is_shown {version = version} (terms {x = x} d (one_term {s = sign} {x = y} {xs = ys} k e f)) n l s =
      let after = low_back (term_nesting d n) (n ∷ (term_nesting e n ++ terms_nesting f n)) l in
      let others = (sound_after version (term_eats d) s).1 in
      sum_shown x (record { minus = sign; operand = y }) ys n
      (term_shown d n (low_front (term_nesting d n) (n ∷ (term_nesting e n ++ terms_nesting f n)) l) s)
      (terms_tail sign y ys n (term_shown e n (low_front (term_nesting e n) (terms_nesting f n) after.1) others)
      (terms_shown f n (low_back (term_nesting e n) (terms_nesting f n) after.1) (sound_after version (term_eats e) others)))

  pub terms_shown : {version : Version} {ts rest : List Terminal} {xs : List SumPart} (d : IsTerms ts xs rest) (n : ℕ) → Low (terms_nesting d n) → Sound version ts → Tail version (flat_map sum_part_text xs) (TermsOf xs n)
  terms_shown no_terms n l s = record { form = weaken empty (no_terms_made n); front = λ r h. h }
  terms_shown {version = version} (one_term {s = sign} {x = y} {xs = ys} k e f) n l s =
      terms_tail sign y ys n (term_shown e n (low_front (term_nesting e n) (terms_nesting f n) l.1) s.1)
      (terms_shown f n (low_back (term_nesting e n) (terms_nesting f n) l.1) (sound_after version (term_eats e) s.1))

  pub expr_shown : {version : Version} {ts rest : List Terminal} {x : Expr} (d : IsExpr ts x rest) (n : ℕ) → Low (expr_nesting d n) → Sound version ts → Shown version (printed x) x n
  expr_shown (alone d) n l s = (sum_is_shown d n l s).here
  expr_shown {version = version} (compared {s = how} {x = x} {y = y} d k e) n l s =
      comparison_shown x how y n
      (sum_is_shown d n (low_front (sum_nesting d n) (n ∷ sum_nesting e n) l) s)
      (sum_is_shown e n (low_back (sum_nesting d n) (n ∷ sum_nesting e n) l).1 (sound_after version (sum_eats d) s).1)
