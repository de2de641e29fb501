-- What the functions on expressions need.
use Rattle.std.proofs.Common.{◌≡◌, ℕ, suc, ◌+◌, ◌<◌, ◌≤◌, List, [], ◌∷◌, ◌++◌, length, Option, Some, None, Bool, true, Ok, Err, refl, sym, ap, ◌∙◌, subst, arith, append_assoc, append-nil}
use Rattle.script_tokens.specs.declared.token.Word.{Word}
use Rattle.script_tokens.specs.declared.token.Word.TheVariants as word
use Rattle.script_tokens.specs.declared.token.Lexeme.{Lexeme}
use Rattle.script_tokens.specs.Lexing.{text_of}
use Rattle.script_text.specs.declared.error.SyntaxError.{SyntaxError}
use Rattle.script_text.specs.declared.error.SyntaxError.TheVariants.{Bad, Memory}
use Rattle.script_text.specs.declared.parser.source.LexedText.{LexedText}
use Rattle.script_grammar.specs.declared.tree.Name.{Name}
use Rattle.script_grammar.specs.declared.tree.Number.{Number}
use Rattle.script_grammar.specs.declared.tree.Expr.{Expr}
use Rattle.script_grammar.specs.declared.tree.Expr.TheVariants as expr
use Rattle.script_grammar.specs.declared.tree.SumPart.{SumPart}
use Rattle.script_grammar.specs.declared.tree.ProductPart.{ProductPart}
use Rattle.script_grammar.specs.declared.tree.ProductSign.{ProductSign}
use Rattle.script_grammar.specs.declared.tree.Comparison.{Comparison}
use Rattle.script_grammar.specs.Grammar.{Terminal, tok, name_at, number_at, sum_of, product_of, IsSumSign, a_plus, a_minus, IsProductSign, a_times, an_over, a_modulo, IsComparison, an_eq, a_ne, a_lt, a_le, a_gt, a_ge, IsFactor, a_neg, a_number, a_name, an_item, a_group, a_same, an_older, IsTerm, factors, IsFactors, no_factors, one_factor, IsSum, terms, IsTerms, no_terms, one_term, IsExpr, alone, compared}
use Rattle.script_text.specs.Machine.{Sym, only, factor, index, pair, more_factors, more_terms, comparison, minus_end, sum_then, expr_then, consume, nesting, judge}
use Rattle.script_text.specs.Reads.{terminals_of, text_end, ReadsTo, Errs, NextIs, NextIsNot, is_unlimited, SignNext, Deepens, IsBracket, ReadsName, ReadsNumber, IsOperands, an_operands}
use Rattle.script_text.proofs.Nesting.Follows.{comparison_step, factors_step, terms_step}
use Rattle.script_text.proofs.Parsing.Steps.{taken, deep, name_taken, name_long, number_taken, number_big, HasNone, skipped, has_none, seen-next, err_after, Comes, Passed, Opened}

none_has : {X : Type 0} (a : Sym) (R : Word → X → Type 0) (source : LexedText) (ls : List Lexeme) → SignNext a R ls None → HasNone a ls source.bytes.now
none_has a R source [] h = tt
none_has a R source (l ∷ ls) h = h (text_of source.bytes.now l)

comparison_plain : {w : Word} {s : Comparison} → IsComparison w s → is_unlimited w ≡ true
comparison_plain an_eq = refl
comparison_plain a_ne = refl
comparison_plain a_lt = refl
comparison_plain a_le = refl
comparison_plain a_gt = refl
comparison_plain a_ge = refl

sum_plain : {w : Word} {s : Bool} → IsSumSign w s → is_unlimited w ≡ true
sum_plain a_plus = refl
sum_plain a_minus = refl

product_plain : {w : Word} {s : ProductSign} → IsProductSign w s → is_unlimited w ≡ true
product_plain a_times = refl
product_plain an_over = refl
product_plain a_modulo = refl

-- Comparisons

pub expr_alone : (source : LexedText) (d : ℕ) (old rest : List Lexeme) (x : Expr) → Comes IsSum (sum_then []) source d old x rest → SignNext comparison IsComparison rest None → Comes IsExpr (expr_then []) source d old x rest
expr_alone source d old rest x a k = (alone a.0, λ n s e. a.1 n (comparison ∷ s) e ∙ skipped source n comparison s rest refl (none_has comparison IsComparison source rest k))

pub compares : (source : LexedText) (d : ℕ) (old mid tail : List Lexeme) (x : Expr) (s : Comparison) (l : Lexeme) → d ≤ 64 → Comes IsSum (sum_then []) source d old x mid → mid ≡ l ∷ tail → IsComparison l.word s
    → ReadsTo (expr_then []) (sum_then []) source d old tail
compares source d old mid tail x c l h a e k = λ n s f.
    a.1 n (comparison ∷ s) f ∙ ap (λ z. judge (text_end source) n (comparison ∷ s) (terminals_of source z)) e
    ∙ taken (text_end source) n l.start l.word _ (comparison ∷ s) (sum_then s) (terminals_of source tail) (comparison_plain k) (omega arith) (comparison_step _ s k)

pub expr_compared : (source : LexedText) (d : ℕ) (old mid tail rest : List Lexeme) (x y z : Expr) (s : Comparison) → d ≤ 64 → Comes IsSum (sum_then []) source d old x mid
    → (l : Lexeme) × (mid ≡ l ∷ tail) × IsComparison l.word s → Comes IsSum (sum_then []) source d tail y rest → z ≡ expr.Compare x s y → Comes IsExpr (expr_then []) source d old z rest
expr_compared source d old mid tail rest x y z c h a k b e = (
  subst (λ w. IsExpr (terminals_of source old) w (terminals_of source rest)) (sym e) (compared (subst (IsSum (terminals_of source old) x) (ap (terminals_of source) k.1) a.0) k.2 b.0),
  λ n s f. compares source d old mid tail x c k.0 h a k.1 k.2 n s f ∙ b.1 n s f,
)

-- Sums and products

pub sum_reads : (source : LexedText) (d : ℕ) (old mid rest : List Lexeme) (x y : Expr) (xs : List SumPart) → Comes IsTerm (factor ∷ more_factors ∷ []) source d old x mid → Comes IsTerms (more_terms ∷ []) source d mid xs rest → y ≡ sum_of x xs
    → Comes IsSum (sum_then []) source d old y rest
sum_reads source d old mid rest x y xs a b e = (
  subst (λ w. IsSum (terminals_of source old) w (terminals_of source rest)) (sym e) (terms a.0 b.0),
  λ n s f. a.1 n (more_terms ∷ s) f ∙ b.1 n s f,
)

pub term_reads : (source : LexedText) (d : ℕ) (old mid rest : List Lexeme) (x y : Expr) (xs : List ProductPart) → Comes IsFactor (factor ∷ []) source d old x mid → Comes IsFactors (more_factors ∷ []) source d mid xs rest → y ≡ product_of x xs
    → Comes IsTerm (factor ∷ more_factors ∷ []) source d old y rest
term_reads source d old mid rest x y xs a b e = (
  subst (λ w. IsTerm (terminals_of source old) w (terminals_of source rest)) (sym e) (factors a.0 b.0),
  λ n s f. a.1 n (more_factors ∷ s) f ∙ b.1 n s f,
)

abbrev pub TermsSoFar : LexedText → ℕ → List Lexeme → List SumPart → List Lexeme → Type 0
TermsSoFar source d old xs left = record {
  so_far : (more : List SumPart) (rest : List Terminal) → IsTerms (terminals_of source left) more rest → IsTerms (terminals_of source old) (xs ++ more) rest;
  goes : ReadsTo (more_terms ∷ []) (more_terms ∷ []) source d old left;
}

abbrev pub FactorsSoFar : LexedText → ℕ → List Lexeme → List ProductPart → List Lexeme → Type 0
FactorsSoFar source d old xs left = record {
  so_far : (more : List ProductPart) (rest : List Terminal) → IsFactors (terminals_of source left) more rest → IsFactors (terminals_of source old) (xs ++ more) rest;
  goes : ReadsTo (more_factors ∷ []) (more_factors ∷ []) source d old left;
}

pub terms_end : (source : LexedText) (d : ℕ) (old left : List Lexeme) (xs : List SumPart) → TermsSoFar source d old xs left → SignNext more_terms IsSumSign left None → Comes IsTerms (more_terms ∷ []) source d old xs left
terms_end source d old left xs i k = (
  subst (λ z. IsTerms (terminals_of source old) z (terminals_of source left)) (append-nil xs) (i.so_far [] (terminals_of source left) no_terms),
  λ n s f. i.goes n s f ∙ skipped source n more_terms s left refl (none_has more_terms IsSumSign source left k),
)

pub factors_end : (source : LexedText) (d : ℕ) (old left : List Lexeme) (xs : List ProductPart) → FactorsSoFar source d old xs left → SignNext more_factors IsProductSign left None → Comes IsFactors (more_factors ∷ []) source d old xs left
factors_end source d old left xs i k = (
  subst (λ z. IsFactors (terminals_of source old) z (terminals_of source left)) (append-nil xs) (i.so_far [] (terminals_of source left) no_factors),
  λ n s f. i.goes n s f ∙ skipped source n more_factors s left refl (none_has more_factors IsProductSign source left k),
)

pub terms_enter : (source : LexedText) (d : ℕ) (old left inner : List Lexeme) (g : Bool) → d ≤ 64 → ReadsTo (more_terms ∷ []) (more_terms ∷ []) source d old left → (l : Lexeme) × (left ≡ l ∷ inner) × IsSumSign l.word g
    → ReadsTo (more_terms ∷ []) (factor ∷ more_factors ∷ more_terms ∷ []) source d old inner
terms_enter source d old left inner g h goes k = λ n s f.
    goes n s f ∙ ap (λ z. judge (text_end source) n (more_terms ∷ s) (terminals_of source z)) k.1
    ∙ taken (text_end source) n k.0.start k.0.word _ (more_terms ∷ s) (sum_then s) (terminals_of source inner) (sum_plain k.2) (omega arith) (terms_step _ s k.2)

pub factors_enter : (source : LexedText) (d : ℕ) (old left inner : List Lexeme) (g : ProductSign) → d ≤ 64 → ReadsTo (more_factors ∷ []) (more_factors ∷ []) source d old left → (l : Lexeme) × (left ≡ l ∷ inner) × IsProductSign l.word g
    → ReadsTo (more_factors ∷ []) (factor ∷ more_factors ∷ []) source d old inner
factors_enter source d old left inner g h goes k = λ n s f.
    goes n s f ∙ ap (λ z. judge (text_end source) n (more_factors ∷ s) (terminals_of source z)) k.1
    ∙ taken (text_end source) n k.0.start k.0.word _ (more_factors ∷ s) (factor ∷ more_factors ∷ s) (terminals_of source inner) (product_plain k.2) (omega arith) (factors_step _ s k.2)

pub one_more_term : (source : LexedText) (d : ℕ) (old left inner rest : List Lexeme) (xs ys : List SumPart) (g : Bool) (x : Expr) → ys ≡ xs ++ record { minus = g; operand = x } ∷ [] → d ≤ 64
    → TermsSoFar source d old xs left → (l : Lexeme) × (left ≡ l ∷ inner) × IsSumSign l.word g → Comes IsTerm (factor ∷ more_factors ∷ []) source d inner x rest → TermsSoFar source d old ys rest
one_more_term source d old left inner rest xs ys g x p h i k a = record {
  so_far = λ more to m.
      let one : IsTerms (terminals_of source left) (record { minus = g; operand = x } ∷ more) to = subst (λ z. IsTerms z (record { minus = g; operand = x } ∷ more) to) (sym (ap (terminals_of source) k.1)) (one_term k.2 a.0 m) in
      subst (λ z. IsTerms (terminals_of source old) z to) (sym (ap (λ z. z ++ more) p ∙ append_assoc xs (record { minus = g; operand = x } ∷ []) more)) (i.so_far (record { minus = g; operand = x } ∷ more) to one);
  goes = λ n s f. terms_enter source d old left inner g h i.goes k n s f ∙ a.1 n (more_terms ∷ s) f;
}

pub one_more_factor : (source : LexedText) (d : ℕ) (old left inner rest : List Lexeme) (xs ys : List ProductPart) (g : ProductSign) (x : Expr) → ys ≡ xs ++ record { sign = g; operand = x } ∷ [] → d ≤ 64
    → FactorsSoFar source d old xs left → (l : Lexeme) × (left ≡ l ∷ inner) × IsProductSign l.word g → Comes IsFactor (factor ∷ []) source d inner x rest → FactorsSoFar source d old ys rest
one_more_factor source d old left inner rest xs ys g x p h i k a = record {
  so_far = λ more to m.
      let one : IsFactors (terminals_of source left) (record { sign = g; operand = x } ∷ more) to = subst (λ z. IsFactors z (record { sign = g; operand = x } ∷ more) to) (sym (ap (terminals_of source) k.1)) (one_factor k.2 a.0 m) in
      subst (λ z. IsFactors (terminals_of source old) z to) (sym (ap (λ z. z ++ more) p ∙ append_assoc xs (record { sign = g; operand = x } ∷ []) more)) (i.so_far (record { sign = g; operand = x } ∷ more) to one);
  goes = λ n s f. factors_enter source d old left inner g h i.goes k n s f ∙ a.1 n (more_factors ∷ s) f;
}

-- Factors

-- the first lexeme, told by its word
abbrev pub first_is : {w : Word} (l : Lexeme) (old rest : List Lexeme) → old ≡ l ∷ rest → l.word ≡ w → NextIs w l.start old rest
first_is l old rest e f = (l, e, f, refl)

pub factor_number : (source : LexedText) (d : ℕ) (rest : List Lexeme) (l : Lexeme) (x : Number) → l.word ≡ word.Number → d ≤ 64 → ReadsNumber source l (Ok x) → Comes IsFactor (factor ∷ []) source d (l ∷ rest) (expr.Number x) rest
factor_number source d rest l x e h k =
    let t = seen-next word.Number source l.start (l ∷ rest) rest (first_is l (l ∷ rest) rest refl e) in (
      subst (λ z. IsFactor (terminals_of source (l ∷ rest)) (expr.Number z) (terminals_of source rest)) (sym k.0)
          (subst (λ q. IsFactor q (expr.Number (number_at l.start (text_of source.bytes.now l))) (terminals_of source rest)) (sym t) a_number),
      λ n s f. ap (judge (text_end source) n (factor ∷ s)) t ∙ number_taken (text_end source) n l.start (text_of source.bytes.now l) (factor ∷ s) s (terminals_of source rest) k.1 (omega arith) refl,
    )

pub factor_number_err : (source : LexedText) (d : ℕ) (rest : List Lexeme) (l : Lexeme) (e : SyntaxError) → l.word ≡ word.Number → ReadsNumber source l (Err e) → Errs (factor ∷ []) source d (l ∷ rest) e
factor_number_err source d rest l Memory e k = tt
factor_number_err source d rest l (Bad number at) e k = λ n s f.
    let t = seen-next word.Number source l.start (l ∷ rest) rest (first_is l (l ∷ rest) rest refl e) in
    let fault : ◌≡◌ {A = Option (ℕ × ℕ)} (Some (3, l.start)) (Some (number, at)) = cc in
    ap (judge (text_end source) n (factor ∷ s)) t ∙ number_big (text_end source) n l.start (text_of source.bytes.now l) (factor ∷ s) s (terminals_of source rest) k.0 refl ∙ fault

-- the machine after a factor's name
pub names : (source : LexedText) (d : ℕ) (rest : List Lexeme) (l : Lexeme) (x : Name) → l.word ≡ word.Name → d ≤ 64 → ReadsName source l (Ok x) → ReadsTo (factor ∷ []) (index ∷ []) source d (l ∷ rest) rest
names source d rest l x e h k = λ n s f.
    ap (judge (text_end source) n (factor ∷ s)) (seen-next word.Name source l.start (l ∷ rest) rest (first_is l (l ∷ rest) rest refl e))
    ∙ name_taken (text_end source) n l.start (text_of source.bytes.now l) (factor ∷ s) (index ∷ s) (terminals_of source rest) k.1 (omega arith) refl

pub factor_name : (source : LexedText) (d : ℕ) (rest : List Lexeme) (l : Lexeme) (x : Name) → l.word ≡ word.Name → d ≤ 64 → ReadsName source l (Ok x) → NextIsNot word.OpenItem rest → Comes IsFactor (factor ∷ []) source d (l ∷ rest) (expr.Var x) rest
factor_name source d rest l x e h k g =
    let t = seen-next word.Name source l.start (l ∷ rest) rest (first_is l (l ∷ rest) rest refl e) in (
      subst (λ z. IsFactor (terminals_of source (l ∷ rest)) (expr.Var z) (terminals_of source rest)) (sym k.0)
          (subst (λ q. IsFactor q (expr.Var (name_at l.start (text_of source.bytes.now l))) (terminals_of source rest)) (sym t) a_name),
      λ n s f. names source d rest l x e h k n s f ∙ skipped source n index s rest refl (has_none index word.OpenItem _ rest source.bytes.now refl g),
    )

pub factor_name_err : (source : LexedText) (d : ℕ) (rest : List Lexeme) (l : Lexeme) (e : SyntaxError) → l.word ≡ word.Name → ReadsName source l (Err e) → Errs (factor ∷ []) source d (l ∷ rest) e
factor_name_err source d rest l Memory e k = tt
factor_name_err source d rest l (Bad number at) e k = λ n s f.
    let t = seen-next word.Name source l.start (l ∷ rest) rest (first_is l (l ∷ rest) rest refl e) in
    let fault : ◌≡◌ {A = Option (ℕ × ℕ)} (Some (4, l.start)) (Some (number, at)) = cc in
    ap (judge (text_end source) n (factor ∷ s)) t ∙ name_long (text_end source) n l.start (text_of source.bytes.now l) (factor ∷ s) (index ∷ s) (terminals_of source rest) k.0 refl ∙ fault

-- the machine after the bracket of an item
pub item_enters : (source : LexedText) (d at : ℕ) (rest tail : List Lexeme) (l : Lexeme) (x : Name) → l.word ≡ word.Name → d < 64 → ReadsName source l (Ok x) → NextIs word.OpenItem at rest tail
    → ReadsTo (factor ∷ []) (expr_then (only word.CloseItem ∷ [])) source d (l ∷ rest) tail
item_enters source d at rest tail l x e h k g = λ n s f.
    names source d rest l x e (omega arith) k n s f ∙ ap (judge (text_end source) n (index ∷ s)) (seen-next word.OpenItem source at rest tail g)
    ∙ taken (text_end source) n at word.OpenItem (text_of source.bytes.now g.0) (index ∷ s) (expr_then (only word.CloseItem ∷ s)) (terminals_of source tail) refl (omega arith) refl

pub item_deep : (source : LexedText) (d at : ℕ) (rest tail : List Lexeme) (l : Lexeme) (x : Name) (e : SyntaxError) → l.word ≡ word.Name → d ≤ 64 → ReadsName source l (Ok x) → NextIs word.OpenItem at rest tail → Deepens d at (Err e)
    → Errs (factor ∷ []) source d (l ∷ rest) e
item_deep source d at rest tail l x Memory e h k g q = tt
item_deep source d at rest tail l x (Bad number place) e h k g q = λ n s f.
    let fault : ◌≡◌ {A = Option (ℕ × ℕ)} (Some (5, at)) (Some (number, place)) = cc in
    names source d rest l x e h k n s f ∙ ap (judge (text_end source) n (index ∷ s)) (seen-next word.OpenItem source at rest tail g)
    ∙ deep (text_end source) n at word.OpenItem (text_of source.bytes.now g.0) (index ∷ s) (expr_then (only word.CloseItem ∷ s)) (terminals_of source tail) refl (omega arith) refl ∙ fault

pub factor_item : (source : LexedText) (d inside at : ℕ) (rest tail mid last : List Lexeme) (l : Lexeme) (x : Name) (y z : Expr) → l.word ≡ word.Name → Deepens d at (Ok inside) → ReadsName source l (Ok x) → NextIs word.OpenItem at rest tail
    → Comes IsExpr (expr_then []) source inside tail y mid → Passed word.CloseItem source d mid last → z ≡ expr.Item x y → Comes IsFactor (factor ∷ []) source d (l ∷ rest) z last
factor_item source d inside at rest tail mid last l x y z e h k g a b p =
    let t = seen-next word.Name source l.start (l ∷ rest) rest (first_is l (l ∷ rest) rest refl e) in
    let u = seen-next word.OpenItem source at rest tail g in
    let v = seen-next word.CloseItem source b.0.0 mid last b.0.1 in
    let d' : IsFactor (tok l.start word.Name (text_of source.bytes.now l) ∷ tok at word.OpenItem (text_of source.bytes.now g.0) ∷ terminals_of source tail) (expr.Item (name_at l.start (text_of source.bytes.now l)) y) (terminals_of source last) =
    an_item (subst (IsExpr (terminals_of source tail) y) v a.0) in
    let there : terminals_of source (l ∷ rest) ≡ tok l.start word.Name (text_of source.bytes.now l) ∷ tok at word.OpenItem (text_of source.bytes.now g.0) ∷ terminals_of source tail = t ∙ ap (λ q. tok l.start word.Name (text_of source.bytes.now l) ∷ q) u in (
      subst (λ q. IsFactor (terminals_of source (l ∷ rest)) q (terminals_of source last)) (sym (p ∙ ap (λ q. expr.Item q y) k.0)) (subst (λ q. IsFactor q (expr.Item (name_at l.start (text_of source.bytes.now l)) y) (terminals_of source last)) (sym there) d'),
      λ n s f. item_enters source d at rest tail l x e h.1 k g n s f ∙ a.1 n (only word.CloseItem ∷ s) (omega (arith, h.0)) ∙ b.1 n s f,
    )

-- unary minus

pub minus_enters : (source : LexedText) (d : ℕ) (rest : List Lexeme) (l : Lexeme) → l.word ≡ word.Minus → d < 64 → ReadsTo (factor ∷ []) (factor ∷ minus_end ∷ []) source d (l ∷ rest) rest
minus_enters source d rest l e h = λ n s f.
    ap (judge (text_end source) n (factor ∷ s)) (seen-next word.Minus source l.start (l ∷ rest) rest (first_is l (l ∷ rest) rest refl e))
    ∙ taken (text_end source) n l.start word.Minus (text_of source.bytes.now l) (factor ∷ s) (factor ∷ minus_end ∷ s) (terminals_of source rest) refl (omega arith) refl

pub minus_deep : (source : LexedText) (d : ℕ) (rest : List Lexeme) (l : Lexeme) (e : SyntaxError) → l.word ≡ word.Minus → Deepens d l.start (Err e) → Errs (factor ∷ []) source d (l ∷ rest) e
minus_deep source d rest l Memory e q = tt
minus_deep source d rest l (Bad number at) e q = λ n s f.
    let fault : ◌≡◌ {A = Option (ℕ × ℕ)} (Some (5, l.start)) (Some (number, at)) = cc in
    ap (judge (text_end source) n (factor ∷ s)) (seen-next word.Minus source l.start (l ∷ rest) rest (first_is l (l ∷ rest) rest refl e))
    ∙ deep (text_end source) n l.start word.Minus (text_of source.bytes.now l) (factor ∷ s) (factor ∷ minus_end ∷ s) (terminals_of source rest) refl (omega arith) refl ∙ fault

skip_minus : (source : LexedText) (n : ℕ) (s : List Sym) (ls : List Lexeme) → judge (text_end source) n (minus_end ∷ s) (terminals_of source ls) ≡ judge (text_end source) n s (terminals_of source ls)
skip_minus source n s ls = skipped source n minus_end s ls refl (none ls)
  where
    none : (ls : List Lexeme) → HasNone minus_end ls source.bytes.now
    none [] = tt
    none (l ∷ ls) = refl

pub factor_minus : (source : LexedText) (d inside : ℕ) (rest last : List Lexeme) (l : Lexeme) (x z : Expr) → l.word ≡ word.Minus → Deepens d l.start (Ok inside) → Comes IsFactor (factor ∷ []) source inside rest x last → z ≡ expr.Neg l.start x
    → Comes IsFactor (factor ∷ []) source d (l ∷ rest) z last
factor_minus source d inside rest last l x z e h a p =
    let t = seen-next word.Minus source l.start (l ∷ rest) rest (first_is l (l ∷ rest) rest refl e) in (
      subst (λ q. IsFactor (terminals_of source (l ∷ rest)) q (terminals_of source last)) (sym p) (subst (λ q. IsFactor q (expr.Neg l.start x) (terminals_of source last)) (sym t) (a_neg a.0)),
      λ n s f. minus_enters source d rest l e h.1 n s f ∙ a.1 n (minus_end ∷ s) (omega (arith, h.0)) ∙ skip_minus source n s last,
    )

-- parentheses

pub group_enters : (source : LexedText) (d : ℕ) (rest : List Lexeme) (l : Lexeme) → l.word ≡ word.Open → d < 64 → ReadsTo (factor ∷ []) (expr_then (only word.Close ∷ [])) source d (l ∷ rest) rest
group_enters source d rest l e h = λ n s f.
    ap (judge (text_end source) n (factor ∷ s)) (seen-next word.Open source l.start (l ∷ rest) rest (first_is l (l ∷ rest) rest refl e))
    ∙ taken (text_end source) n l.start word.Open (text_of source.bytes.now l) (factor ∷ s) (expr_then (only word.Close ∷ s)) (terminals_of source rest) refl (omega arith) refl

pub group_deep : (source : LexedText) (d : ℕ) (rest : List Lexeme) (l : Lexeme) (e : SyntaxError) → l.word ≡ word.Open → Deepens d l.start (Err e) → Errs (factor ∷ []) source d (l ∷ rest) e
group_deep source d rest l Memory e q = tt
group_deep source d rest l (Bad number at) e q = λ n s f.
    let fault : ◌≡◌ {A = Option (ℕ × ℕ)} (Some (5, l.start)) (Some (number, at)) = cc in
    ap (judge (text_end source) n (factor ∷ s)) (seen-next word.Open source l.start (l ∷ rest) rest (first_is l (l ∷ rest) rest refl e))
    ∙ deep (text_end source) n l.start word.Open (text_of source.bytes.now l) (factor ∷ s) (expr_then (only word.Close ∷ s)) (terminals_of source rest) refl (omega arith) refl ∙ fault

pub factor_group : (source : LexedText) (d inside : ℕ) (rest mid last : List Lexeme) (l : Lexeme) (x : Expr) → l.word ≡ word.Open → Deepens d l.start (Ok inside) → Comes IsExpr (expr_then []) source inside rest x mid → Passed word.Close source d mid last
    → Comes IsFactor (factor ∷ []) source d (l ∷ rest) x last
factor_group source d inside rest mid last l x e h a b =
    let t = seen-next word.Open source l.start (l ∷ rest) rest (first_is l (l ∷ rest) rest refl e) in
    let v = seen-next word.Close source b.0.0 mid last b.0.1 in (
      subst (λ q. IsFactor q x (terminals_of source last)) (sym t) (a_group (subst (IsExpr (terminals_of source rest) x) v a.0)),
      λ n s f. group_enters source d rest l e h.1 n s f ∙ a.1 n (only word.Close ∷ s) (omega (arith, h.0)) ∙ b.1 n s f,
    )

-- same and older

pub word_enters : (source : LexedText) (d : ℕ) (rest : List Lexeme) (l : Lexeme) (w : Word) → l.word ≡ w → is_unlimited w ≡ true → ((text : List ℕ) (s : List Sym) → consume w text (factor ∷ s) ≡ Some (pair ∷ s)) → d ≤ 64
    → ReadsTo (factor ∷ []) (pair ∷ []) source d (l ∷ rest) rest
word_enters source d rest l w e p g h = λ n s f.
    ap (judge (text_end source) n (factor ∷ s)) (seen-next w source l.start (l ∷ rest) rest (first_is l (l ∷ rest) rest refl e))
    ∙ taken (text_end source) n l.start w _ (factor ∷ s) (pair ∷ s) (terminals_of source rest) p (omega arith) (g _ s)

pub factor_same : (source : LexedText) (d : ℕ) (rest last : List Lexeme) (l : Lexeme) (x y : Expr) → l.word ≡ word.Same → d ≤ 64 → IsOperands (terminals_of source rest) x y (terminals_of source last) → ReadsTo (pair ∷ []) [] source d rest last
    → Comes IsFactor (factor ∷ []) source d (l ∷ rest) (expr.Same l.start x y) last
factor_same source d rest last l x y e h a b = (
  subst (λ q. IsFactor q (expr.Same l.start x y) (terminals_of source last)) (sym (seen-next word.Same source l.start (l ∷ rest) rest (first_is l (l ∷ rest) rest refl e))) (made a),
  λ n s f. word_enters source d rest l word.Same e refl (λ t s. refl) h n s f ∙ b n s f,
)
  where
    made : {a : ℕ} {t : List ℕ} {ts to : List Terminal} {x y : Expr} → IsOperands ts x y to → IsFactor (tok a word.Same t ∷ ts) (expr.Same a x y) to
    made (an_operands p q) = a_same p q

pub factor_older : (source : LexedText) (d : ℕ) (rest last : List Lexeme) (l : Lexeme) (x y : Expr) → l.word ≡ word.Older → d ≤ 64 → IsOperands (terminals_of source rest) x y (terminals_of source last) → ReadsTo (pair ∷ []) [] source d rest last
    → Comes IsFactor (factor ∷ []) source d (l ∷ rest) (expr.Older l.start x y) last
factor_older source d rest last l x y e h a b = (
  subst (λ q. IsFactor q (expr.Older l.start x y) (terminals_of source last)) (sym (seen-next word.Older source l.start (l ∷ rest) rest (first_is l (l ∷ rest) rest refl e))) (made a),
  λ n s f. word_enters source d rest l word.Older e refl (λ t s. refl) h n s f ∙ b n s f,
)
  where
    made : {a : ℕ} {t : List ℕ} {ts to : List Terminal} {x y : Expr} → IsOperands ts x y to → IsFactor (tok a word.Older t ∷ ts) (expr.Older a x y) to
    made (an_operands p q) = an_older p q

pub pair_bracket : IsBracket pair word.Open (expr_then (only word.Comma ∷ expr_then (only word.Close ∷ [])))
pair_bracket = record { needed = refl; only_rule = refl; one_level = λ s. refl }

pub operands_read : (source : LexedText) (d : ℕ) (old t1 t2 t3 t4 last : List Lexeme) (x y : Expr) → Opened word.Open source d old t1 → Comes IsExpr (expr_then []) source (d + 1) t1 x t2 → Passed word.Comma source (d + 1) t2 t3
    → Comes IsExpr (expr_then []) source (d + 1) t3 y t4 → Passed word.Close source d t4 last → (x' y' : Expr) → x' ≡ x → y' ≡ y → IsOperands (terminals_of source old) x' y' (terminals_of source last) × ReadsTo (pair ∷ []) [] source d old last
operands_read source d old t1 t2 t3 t4 last x y o a c b k x' y' p q =
    let t = seen-next word.Open source o.0.0 old t1 o.0.1 in
    let u = seen-next word.Comma source c.0.0 t2 t3 c.0.1 in
    let v = seen-next word.Close source k.0.0 t4 last k.0.1 in
    let made : IsOperands (terminals_of source old) x y (terminals_of source last) =
    subst (λ z. IsOperands z x y (terminals_of source last)) (sym t) (an_operands (subst (IsExpr (terminals_of source t1) x) u a.0) (subst (IsExpr (terminals_of source t3) y) v b.0)) in (
      subst (λ z. IsOperands (terminals_of source old) z y' (terminals_of source last)) (sym p) (subst (λ z. IsOperands (terminals_of source old) x z (terminals_of source last)) (sym q) made),
      λ n s f. let g : suc (nesting s) ≡ d + 1 = omega (arith, f) in
          o.2 pair _ pair_bracket n s f ∙ a.1 n (only word.Comma ∷ expr_then (only word.Close ∷ s)) g ∙ c.1 n (expr_then (only word.Close ∷ s)) g ∙ b.1 n (only word.Close ∷ s) g ∙ k.1 n s f,
    )

-- What was read is shorter

mutual
  pub factor_shorter : {ts rest : List Terminal} {x : Expr} → IsFactor ts x rest → length rest < length ts
  factor_shorter (a_neg d) = omega (arith, factor_shorter d)
  factor_shorter a_number = omega arith
  factor_shorter a_name = omega arith
  factor_shorter (an_item d) = omega (arith, expr_shorter d)
  factor_shorter (a_group d) = omega (arith, expr_shorter d)
  factor_shorter (a_same d e) = omega (arith, expr_shorter d, expr_shorter e)
  factor_shorter (an_older d e) = omega (arith, expr_shorter d, expr_shorter e)

  pub term_shorter : {ts rest : List Terminal} {x : Expr} → IsTerm ts x rest → length rest < length ts
  term_shorter (factors d e) = omega (arith, factor_shorter d, factors_shorter e)

  factors_shorter : {ts rest : List Terminal} {xs : List ProductPart} → IsFactors ts xs rest → length rest ≤ length ts
  factors_shorter no_factors = omega arith
  factors_shorter (one_factor k d e) = omega (arith, factor_shorter d, factors_shorter e)

  sum_shorter : {ts rest : List Terminal} {x : Expr} → IsSum ts x rest → length rest < length ts
  sum_shorter (terms d e) = omega (arith, term_shorter d, terms_shorter e)

  terms_shorter : {ts rest : List Terminal} {xs : List SumPart} → IsTerms ts xs rest → length rest ≤ length ts
  terms_shorter no_terms = omega arith
  terms_shorter (one_term k d e) = omega (arith, term_shorter d, terms_shorter e)

  pub expr_shorter : {ts rest : List Terminal} {x : Expr} → IsExpr ts x rest → length rest < length ts
  expr_shorter (alone d) = sum_shorter d
  expr_shorter (compared d k e) = omega (arith, sum_shorter d, sum_shorter e)

pub length-seen : (source : LexedText) (ls : List Lexeme) → length (terminals_of source ls) ≡ length ls
length-seen source [] = refl
length-seen source (l ∷ ls) = ap suc (length-seen source ls)

pub term_turn : (source : LexedText) (left inner rest : List Lexeme) (x : Expr) (l : Lexeme) → left ≡ l ∷ inner → IsTerm (terminals_of source inner) x (terminals_of source rest) → length rest < length left
term_turn source left inner rest x l e a =
    let f : length left ≡ suc (length inner) = ap length e in
    omega (arith, f, term_shorter a, length-seen source inner, length-seen source rest)

pub factor_turn : (source : LexedText) (left inner rest : List Lexeme) (x : Expr) (l : Lexeme) → left ≡ l ∷ inner → IsFactor (terminals_of source inner) x (terminals_of source rest) → length rest < length left
factor_turn source left inner rest x l e a =
    let f : length left ≡ suc (length inner) = ap length e in
    omega (arith, f, factor_shorter a, length-seen source inner, length-seen source rest)

-- Faults inside

module _ (source : LexedText) (d : ℕ) where
  pub expr_err_left : (old : List Lexeme) (e : SyntaxError) → Errs (sum_then []) source d old e → Errs (expr_then []) source d old e
  expr_err_left old e f = err_after (expr_then []) (sum_then []) (comparison ∷ []) source d d old old e (λ n s h. refl) (λ s h. h) f

  pub expr_err_right : (old mid tail : List Lexeme) (x : Expr) (c : Comparison) (e : SyntaxError) → d ≤ 64 → Comes IsSum (sum_then []) source d old x mid → (l : Lexeme) × (mid ≡ l ∷ tail) × IsComparison l.word c → Errs (sum_then []) source d tail e
      → Errs (expr_then []) source d old e
  expr_err_right old mid tail x c e h a k f = err_after (expr_then []) (sum_then []) [] source d d old tail e (compares source d old mid tail x c k.0 h a k.1 k.2) (λ s h. h) f

  pub sum_err_first : (old : List Lexeme) (e : SyntaxError) → Errs (factor ∷ more_factors ∷ []) source d old e → Errs (sum_then []) source d old e
  sum_err_first old e f = err_after (sum_then []) (factor ∷ more_factors ∷ []) (more_terms ∷ []) source d d old old e (λ n s h. refl) (λ s h. h) f

  pub sum_err_others : (old mid : List Lexeme) (x : Expr) (e : SyntaxError) → Comes IsTerm (factor ∷ more_factors ∷ []) source d old x mid → Errs (more_terms ∷ []) source d mid e → Errs (sum_then []) source d old e
  sum_err_others old mid x e a f = err_after (sum_then []) (more_terms ∷ []) [] source d d old mid e (λ n s h. a.1 n (more_terms ∷ s) h) (λ s h. h) f

  pub term_err_first : (old : List Lexeme) (e : SyntaxError) → Errs (factor ∷ []) source d old e → Errs (factor ∷ more_factors ∷ []) source d old e
  term_err_first old e f = err_after (factor ∷ more_factors ∷ []) (factor ∷ []) (more_factors ∷ []) source d d old old e (λ n s h. refl) (λ s h. h) f

  pub term_err_others : (old mid : List Lexeme) (x : Expr) (e : SyntaxError) → Comes IsFactor (factor ∷ []) source d old x mid → Errs (more_factors ∷ []) source d mid e → Errs (factor ∷ more_factors ∷ []) source d old e
  term_err_others old mid x e a f = err_after (factor ∷ more_factors ∷ []) (more_factors ∷ []) [] source d d old mid e (λ n s h. a.1 n (more_factors ∷ s) h) (λ s h. h) f

  pub more_terms_err : (old left inner : List Lexeme) (xs : List SumPart) (g : Bool) (e : SyntaxError) → d ≤ 64 → TermsSoFar source d old xs left → (l : Lexeme) × (left ≡ l ∷ inner) × IsSumSign l.word g → Errs (factor ∷ more_factors ∷ []) source d inner e
      → Errs (more_terms ∷ []) source d old e
  more_terms_err old left inner xs g e h i k f = err_after (more_terms ∷ []) (factor ∷ more_factors ∷ []) (more_terms ∷ []) source d d old inner e (terms_enter source d old left inner g h i.goes k) (λ s h. h) f

  pub more_factors_err : (old left inner : List Lexeme) (xs : List ProductPart) (g : ProductSign) (e : SyntaxError) → d ≤ 64 → FactorsSoFar source d old xs left → (l : Lexeme) × (left ≡ l ∷ inner) × IsProductSign l.word g → Errs (factor ∷ []) source d inner e
      → Errs (more_factors ∷ []) source d old e
  more_factors_err old left inner xs g e h i k f = err_after (more_factors ∷ []) (factor ∷ []) (more_factors ∷ []) source d d old inner e (factors_enter source d old left inner g h i.goes k) (λ s h. h) f

  pub factor_err_pair : (rest : List Lexeme) (l : Lexeme) (w : Word) (e : SyntaxError) → l.word ≡ w → is_unlimited w ≡ true → ((text : List ℕ) (s : List Sym) → consume w text (factor ∷ s) ≡ Some (pair ∷ s)) → d ≤ 64 → Errs (pair ∷ []) source d rest e
      → Errs (factor ∷ []) source d (l ∷ rest) e
  factor_err_pair rest l w e q p g h f = err_after (factor ∷ []) (pair ∷ []) [] source d d (l ∷ rest) rest e (word_enters source d rest l w q p g h) (λ s h. h) f

  pub item_err_place : (inside at : ℕ) (rest tail : List Lexeme) (l : Lexeme) (x : Name) (e : SyntaxError) → l.word ≡ word.Name → Deepens d at (Ok inside) → ReadsName source l (Ok x) → NextIs word.OpenItem at rest tail
      → Errs (expr_then []) source inside tail e → Errs (factor ∷ []) source d (l ∷ rest) e
  item_err_place inside at rest tail l x e q h k g f =
      err_after (factor ∷ []) (expr_then []) (only word.CloseItem ∷ []) source d inside (l ∷ rest) tail e (item_enters source d at rest tail l x q h.1 k g) (λ s r. omega (arith, h.0, r)) f

  pub item_err_rest : (inside at : ℕ) (rest tail mid : List Lexeme) (l : Lexeme) (x : Name) (y : Expr) (e : SyntaxError) → l.word ≡ word.Name → Deepens d at (Ok inside) → ReadsName source l (Ok x) → NextIs word.OpenItem at rest tail
      → Comes IsExpr (expr_then []) source inside tail y mid → Errs (only word.CloseItem ∷ []) source d mid e → Errs (factor ∷ []) source d (l ∷ rest) e
  item_err_rest inside at rest tail mid l x y e q h k g a f =
      err_after (factor ∷ []) (only word.CloseItem ∷ []) [] source d d (l ∷ rest) mid e
      (λ n s r. item_enters source d at rest tail l x q h.1 k g n s r ∙ a.1 n (only word.CloseItem ∷ s) (omega (arith, h.0, r))) (λ s r. r) f

  pub minus_err : (inside : ℕ) (rest : List Lexeme) (l : Lexeme) (e : SyntaxError) → l.word ≡ word.Minus → Deepens d l.start (Ok inside) → Errs (factor ∷ []) source inside rest e → Errs (factor ∷ []) source d (l ∷ rest) e
  minus_err inside rest l e q h f = err_after (factor ∷ []) (factor ∷ []) (minus_end ∷ []) source d inside (l ∷ rest) rest e (minus_enters source d rest l q h.1) (λ s r. omega (arith, h.0, r)) f

  pub group_err_x : (inside : ℕ) (rest : List Lexeme) (l : Lexeme) (e : SyntaxError) → l.word ≡ word.Open → Deepens d l.start (Ok inside) → Errs (expr_then []) source inside rest e → Errs (factor ∷ []) source d (l ∷ rest) e
  group_err_x inside rest l e q h f = err_after (factor ∷ []) (expr_then []) (only word.Close ∷ []) source d inside (l ∷ rest) rest e (group_enters source d rest l q h.1) (λ s r. omega (arith, h.0, r)) f

  pub group_err_rest : (inside : ℕ) (rest mid : List Lexeme) (l : Lexeme) (x : Expr) (e : SyntaxError) → l.word ≡ word.Open → Deepens d l.start (Ok inside) → Comes IsExpr (expr_then []) source inside rest x mid → Errs (only word.Close ∷ []) source d mid e
      → Errs (factor ∷ []) source d (l ∷ rest) e
  group_err_rest inside rest mid l x e q h a f =
      err_after (factor ∷ []) (only word.Close ∷ []) [] source d d (l ∷ rest) mid e (λ n s r. group_enters source d rest l q h.1 n s r ∙ a.1 n (only word.Close ∷ s) (omega (arith, h.0, r))) (λ s r. r) f

  pub operands_err_x : (old t1 : List Lexeme) (e : SyntaxError) → Opened word.Open source d old t1 → Errs (expr_then []) source (d + 1) t1 e → Errs (pair ∷ []) source d old e
  operands_err_x old t1 e o f = err_after (pair ∷ []) (expr_then []) (only word.Comma ∷ expr_then (only word.Close ∷ [])) source d (d + 1) old t1 e (o.2 pair _ pair_bracket) (λ s r. omega (arith, r)) f

  pub operands_err_comma : (old t1 t2 : List Lexeme) (x : Expr) (e : SyntaxError) → Opened word.Open source d old t1 → Comes IsExpr (expr_then []) source (d + 1) t1 x t2 → Errs (only word.Comma ∷ []) source (d + 1) t2 e → Errs (pair ∷ []) source d old e
  operands_err_comma old t1 t2 x e o a f = err_after (pair ∷ []) (only word.Comma ∷ []) (expr_then (only word.Close ∷ [])) source d (d + 1) old t2 e
      (λ n s r. o.2 pair _ pair_bracket n s r ∙ a.1 n (only word.Comma ∷ expr_then (only word.Close ∷ s)) (omega (arith, r))) (λ s r. omega (arith, r)) f

  pub operands_err_y : (old t1 t2 t3 : List Lexeme) (x : Expr) (e : SyntaxError) → Opened word.Open source d old t1 → Comes IsExpr (expr_then []) source (d + 1) t1 x t2 → Passed word.Comma source (d + 1) t2 t3 → Errs (expr_then []) source (d + 1) t3 e
      → Errs (pair ∷ []) source d old e
  operands_err_y old t1 t2 t3 x e o a c f = err_after (pair ∷ []) (expr_then []) (only word.Close ∷ []) source d (d + 1) old t3 e
      (λ n s r. o.2 pair _ pair_bracket n s r ∙ a.1 n (only word.Comma ∷ expr_then (only word.Close ∷ s)) (omega (arith, r)) ∙ c.1 n (expr_then (only word.Close ∷ s)) (omega (arith, r))) (λ s r. omega (arith, r)) f

  pub operands_err_close : (old t1 t2 t3 t4 : List Lexeme) (x y : Expr) (e : SyntaxError) → Opened word.Open source d old t1 → Comes IsExpr (expr_then []) source (d + 1) t1 x t2 → Passed word.Comma source (d + 1) t2 t3
      → Comes IsExpr (expr_then []) source (d + 1) t3 y t4 → Errs (only word.Close ∷ []) source d t4 e → Errs (pair ∷ []) source d old e
  operands_err_close old t1 t2 t3 t4 x y e o a c b f = err_after (pair ∷ []) (only word.Close ∷ []) [] source d d old t4 e
      (λ n s r. o.2 pair _ pair_bracket n s r ∙ a.1 n (only word.Comma ∷ expr_then (only word.Close ∷ s)) (omega (arith, r)) ∙ c.1 n (expr_then (only word.Close ∷ s)) (omega (arith, r)) ∙ b.1 n (only word.Close ∷ s) (omega (arith, r))) (λ s r. r) f
