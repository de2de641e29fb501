-- At most one tree.
use Rattle.std.proofs.Common.{◌≡◌, ℕ, List, [], ◌∷◌, Option, Bool, true, false, ◌||◌, refl, sym, ap, ◌∙◌, subst}
use Rattle.script_grammar.specs.declared.tree.Right.TheVariants as right
use Rattle.script_grammar.specs.declared.tree.Act.TheVariants as act
use Rattle.script_tokens.specs.declared.token.Word.{Word}
use Rattle.script_tokens.specs.declared.token.Word.TheVariants as word
use Rattle.script_grammar.specs.declared.tree.Name.{Name}
use Rattle.script_grammar.specs.declared.tree.Kind.{Kind}
use Rattle.script_grammar.specs.declared.tree.Expr.{Expr}
use Rattle.script_grammar.specs.declared.tree.Expr.TheVariants as expr
use Rattle.script_grammar.specs.declared.tree.SumPart.{SumPart}
use Rattle.script_grammar.specs.declared.tree.ProductPart.{ProductPart}
use Rattle.script_grammar.specs.declared.tree.ProductSign.{ProductSign}
use Rattle.script_grammar.specs.declared.tree.Comparison.{Comparison}
use Rattle.script_grammar.specs.declared.tree.CallText.{CallText}
use Rattle.script_grammar.specs.declared.tree.Right.{Right}
use Rattle.script_grammar.specs.declared.tree.Stmt.{Stmt}
use Rattle.script_grammar.specs.declared.tree.Param.{Param}
use Rattle.script_grammar.specs.declared.tree.Function.{Function}
use Rattle.script_grammar.specs.Grammar.{Terminal, tok, name_at, sum_of, product_of, IsSumSign, a_plus, a_minus, IsProductSign, a_times, an_over, a_modulo, IsComparison, an_eq, a_ne, a_lt, a_le, a_gt, a_ge, IsFactor, a_neg, a_number, a_name, an_item, a_group, a_same, an_older, IsTerm, factors, IsFactors, no_factors, one_factor, IsSum, terms, IsTerms, no_terms, one_term, IsExpr, alone, compared, IsMoreArgs, no_more_args, one_more_arg, IsArgs, no_args, some_args, IsCall, a_call, IsRight, right_value, right_draw, right_new, right_call, right_spawn, IsInto, no_into, an_into, stmt_at, IsStmt, a_let, an_array, a_set, a_store, a_spawn, a_call_stmt, a_sync, a_print, an_if, a_while, a_pfor, a_scope, IsStmts, no_stmts, one_stmt, IsBlock, a_block, IsElse, no_else, an_else, IsParam, int_param, id_param, IsMoreParams, no_more_params, one_more_param, IsParams, no_params, some_params, IsAnswerKind, int_answer, id_answer, IsFunction, a_function, IsFunctions, no_functions, one_function}
use Rattle.script_text.specs.Machine.{same_word}
use Rattle.script_text.specs.Machine as machine
use Rattle.script_text.proofs.Parsing.Words.{same_words}
use Rattle.script_text.proofs.Nesting.Follows.{Skips, EndsFactor, EndsTerm, EndsSum, EndsExpr, EndsIf, EndsStmts, factor_ends, term_ends, sum_ends, sign_ends, block_starts, stmts_start}

-- one reading is the other
record Both {A : Type 0} (x y : A) (r q : List Terminal) : Type 0 where
  tree : x ≡ y
  rest : r ≡ q

cut : {t u : Terminal} {ts us : List Terminal} → ◌≡◌ {A = List Terminal} (t ∷ ts) (u ∷ us) → ts ≡ us
cut e = cc

same_first_word : {t u : Terminal} {ts us : List Terminal} → ◌≡◌ {A = List Terminal} (t ∷ ts) (u ∷ us) → t.word ≡ u.word
same_first_word {t = t} {u = u} e = let h : t ≡ u = cc in ap (λ z. z.word) h

from_factor : {ts us rest : List Terminal} {x : Expr} → ts ≡ us → IsFactor us x rest → IsFactor ts x rest
from_factor {rest = rest} {x = x} e d = subst (λ q. IsFactor q x rest) (sym e) d

from_factors : {ts us rest : List Terminal} {x : List ProductPart} → ts ≡ us → IsFactors us x rest → IsFactors ts x rest
from_factors {rest = rest} {x = x} e d = subst (λ q. IsFactors q x rest) (sym e) d

from_terms : {ts us rest : List Terminal} {x : List SumPart} → ts ≡ us → IsTerms us x rest → IsTerms ts x rest
from_terms {rest = rest} {x = x} e d = subst (λ q. IsTerms q x rest) (sym e) d

from_sum : {ts us rest : List Terminal} {x : Expr} → ts ≡ us → IsSum us x rest → IsSum ts x rest
from_sum {rest = rest} {x = x} e d = subst (λ q. IsSum q x rest) (sym e) d

from_expr : {ts us rest : List Terminal} {x : Expr} → ts ≡ us → IsExpr us x rest → IsExpr ts x rest
from_expr {rest = rest} {x = x} e d = subst (λ q. IsExpr q x rest) (sym e) d

from_more_args : {ts us rest : List Terminal} {x : List Expr} → ts ≡ us → IsMoreArgs us x rest → IsMoreArgs ts x rest
from_more_args {rest = rest} {x = x} e d = subst (λ q. IsMoreArgs q x rest) (sym e) d

from_stmts : {ts us rest : List Terminal} {x : List Stmt} → ts ≡ us → IsStmts us x rest → IsStmts ts x rest
from_stmts {rest = rest} {x = x} e d = subst (λ q. IsStmts q x rest) (sym e) d

from_block : {ts us rest : List Terminal} {x : List Stmt} → ts ≡ us → IsBlock us x rest → IsBlock ts x rest
from_block {rest = rest} {x = x} e d = subst (λ q. IsBlock q x rest) (sym e) d

from_else : {ts us rest : List Terminal} {x : List Stmt} → ts ≡ us → IsElse us x rest → IsElse ts x rest
from_else {rest = rest} {x = x} e d = subst (λ q. IsElse q x rest) (sym e) d

from_into : {ts us rest : List Terminal} {x : Option Name} → ts ≡ us → IsInto us x rest → IsInto ts x rest
from_into {rest = rest} {x = x} e d = subst (λ q. IsInto q x rest) (sym e) d

from_more_params : {ts us rest : List Terminal} {x : List Param} → ts ≡ us → IsMoreParams us x rest → IsMoreParams ts x rest
from_more_params {rest = rest} {x = x} e d = subst (λ q. IsMoreParams q x rest) (sym e) d

from_answer : {ts us rest : List Terminal} {x : Kind} → ts ≡ us → IsAnswerKind us x rest → IsAnswerKind ts x rest
from_answer {rest = rest} {x = x} e d = subst (λ q. IsAnswerKind q x rest) (sym e) d

from_functions : {ts us rest : List Terminal} {x : List Function} → ts ≡ us → IsFunctions us x rest → IsFunctions ts x rest
from_functions {rest = rest} {x = x} e d = subst (λ q. IsFunctions q x rest) (sym e) d

times_sign : {k : Word} {g : ProductSign} (a : ℕ) (t : List ℕ) → IsProductSign k g → Skips machine.more_factors (tok a k t) → ⊥
times_sign a t a_times e = cc
times_sign a t an_over e = cc
times_sign a t a_modulo e = cc

plus_sign : {k : Word} {g : Bool} (a : ℕ) (t : List ℕ) → IsSumSign k g → Skips machine.more_terms (tok a k t) → ⊥
plus_sign a t a_plus e = cc
plus_sign a t a_minus e = cc

less_sign : {k : Word} {g : Comparison} (a : ℕ) (t : List ℕ) → IsComparison k g → Skips machine.comparison (tok a k t) → ⊥
less_sign a t an_eq e = cc
less_sign a t a_ne e = cc
less_sign a t a_lt e = cc
less_sign a t a_le e = cc
less_sign a t a_gt e = cc
less_sign a t a_ge e = cc

same_times : {k : Word} {g h : ProductSign} → IsProductSign k g → IsProductSign k h → g ≡ h
same_times a_times a_times = refl
same_times an_over an_over = refl
same_times a_modulo a_modulo = refl

same_plus : {k : Word} {g h : Bool} → IsSumSign k g → IsSumSign k h → g ≡ h
same_plus a_plus a_plus = refl
same_plus a_minus a_minus = refl

same_less : {k j : Word} {g h : Comparison} → IsComparison k g → IsComparison j h → k ≡ j → g ≡ h
same_less {g = g} {h = h} c d e = go c (subst (λ z. IsComparison z h) (sym e) d)
  where
    go : {k : Word} {g h : Comparison} → IsComparison k g → IsComparison k h → g ≡ h
    go an_eq an_eq = refl
    go a_ne a_ne = refl
    go a_lt a_lt = refl
    go a_le a_le = refl
    go a_gt a_gt = refl
    go a_ge a_ge = refl

clash : {A : Type 0} {rest us : List Terminal} {a : ℕ} {k : Word} {t : List ℕ} {g : Comparison} → rest ≡ tok a k t ∷ us → IsComparison k g → EndsExpr rest → A
clash {a = a} {k = k} {t = t} e c f = let g = subst EndsExpr e f in absurd (less_sign a t c g.3)

mutual
  same_factor : {ts rest : List Terminal} {x : Expr} → IsFactor ts x rest → {rest' : List Terminal} {y : Expr} → IsFactor ts y rest' → EndsFactor rest → EndsFactor rest' → Both x y rest rest'
  same_factor (a_neg {a = a} d) (a_neg d') e f = let r = same_factor d d' e f in record { tree = ap (expr.Neg a) r.tree; rest = r.rest }
  same_factor a_number a_number e f = record { tree = refl; rest = refl }
  same_factor a_name a_name e f = record { tree = refl; rest = refl }
  same_factor a_name (an_item d) e f = cc
  same_factor (an_item d) a_name e f = cc
  same_factor (an_item {a = a} {t = t} d) (an_item d') e f = let r = same_expr d d' (refl, refl, refl, refl) (refl, refl, refl, refl) in record { tree = ap (expr.Item (name_at a t)) r.tree; rest = cut r.rest }
  same_factor (a_group d) (a_group d') e f = let r = same_expr d d' (refl, refl, refl, refl) (refl, refl, refl, refl) in record { tree = r.tree; rest = cut r.rest }
  same_factor (a_same {a = a} {y = y} d g) (a_same {x = x'} d' g') e f =
      let r = same_expr d d' (refl, refl, refl, refl) (refl, refl, refl, refl) in
      let q = same_expr g (from_expr (cut r.rest) g') (refl, refl, refl, refl) (refl, refl, refl, refl) in
      record { tree = ap (λ z. expr.Same a z y) r.tree ∙ ap (expr.Same a x') q.tree; rest = cut q.rest }
  same_factor (an_older {a = a} {y = y} d g) (an_older {x = x'} d' g') e f =
      let r = same_expr d d' (refl, refl, refl, refl) (refl, refl, refl, refl) in
      let q = same_expr g (from_expr (cut r.rest) g') (refl, refl, refl, refl) (refl, refl, refl, refl) in
      record { tree = ap (λ z. expr.Older a z y) r.tree ∙ ap (expr.Older a x') q.tree; rest = cut q.rest }

  same_term : {ts rest : List Terminal} {x : Expr} → IsTerm ts x rest → {rest' : List Terminal} {y : Expr} → IsTerm ts y rest' → EndsTerm rest → EndsTerm rest' → Both x y rest rest'
  same_term (factors {xs = xs} d g) (factors {x = x'} d' g') e f =
      let r = same_factor d d' (factor_ends g e) (factor_ends g' f) in
      let q = same_factors g (from_factors r.rest g') e f in
      record { tree = ap (λ z. product_of z xs) r.tree ∙ ap (product_of x') q.tree; rest = q.rest }

  same_factors : {ts rest : List Terminal} {xs : List ProductPart} → IsFactors ts xs rest → {rest' : List Terminal} {ys : List ProductPart} → IsFactors ts ys rest' → EndsTerm rest → EndsTerm rest' → Both xs ys rest rest'
  same_factors no_factors no_factors e f = record { tree = refl; rest = refl }
  same_factors no_factors (one_factor {a = a} {t = t} k d g) e f = absurd (times_sign a t k e.1)
  same_factors (one_factor {a = a} {t = t} k d g) no_factors e f = absurd (times_sign a t k f.1)
  same_factors (one_factor {s = h} {x = x} {xs = xs} j d g) (one_factor {s = h'} {x = x'} j' d' g') e f =
      let r = same_factor d d' (factor_ends g e) (factor_ends g' f) in
      let q = same_factors g (from_factors r.rest g') e f in
      let mk : ProductSign → Expr → List ProductPart → List ProductPart = λ g y ys. record { sign = g; operand = y } ∷ ys in
      record { tree = ap (λ z. mk z x xs) (same_times j j') ∙ ap (λ z. mk h' z xs) r.tree ∙ ap (mk h' x') q.tree; rest = q.rest }

  same_sum : {ts rest : List Terminal} {x : Expr} → IsSum ts x rest → {rest' : List Terminal} {y : Expr} → IsSum ts y rest' → EndsSum rest → EndsSum rest' → Both x y rest rest'
  same_sum (terms {xs = xs} d g) (terms {x = x'} d' g') e f =
      let r = same_term d d' (term_ends g e) (term_ends g' f) in
      let q = same_terms g (from_terms r.rest g') e f in
      record { tree = ap (λ z. sum_of z xs) r.tree ∙ ap (sum_of x') q.tree; rest = q.rest }

  same_terms : {ts rest : List Terminal} {xs : List SumPart} → IsTerms ts xs rest → {rest' : List Terminal} {ys : List SumPart} → IsTerms ts ys rest' → EndsSum rest → EndsSum rest' → Both xs ys rest rest'
  same_terms no_terms no_terms e f = record { tree = refl; rest = refl }
  same_terms no_terms (one_term {a = a} {t = t} k d g) e f = absurd (plus_sign a t k e.2)
  same_terms (one_term {a = a} {t = t} k d g) no_terms e f = absurd (plus_sign a t k f.2)
  same_terms (one_term {s = h} {x = x} {xs = xs} j d g) (one_term {s = h'} {x = x'} j' d' g') e f =
      let r = same_term d d' (term_ends g e) (term_ends g' f) in
      let q = same_terms g (from_terms r.rest g') e f in
      let mk : Bool → Expr → List SumPart → List SumPart = λ g y ys. record { minus = g; operand = y } ∷ ys in
      record { tree = ap (λ z. mk z x xs) (same_plus j j') ∙ ap (λ z. mk h' z xs) r.tree ∙ ap (mk h' x') q.tree; rest = q.rest }

  same_expr : {ts rest : List Terminal} {x : Expr} → IsExpr ts x rest → {rest' : List Terminal} {y : Expr} → IsExpr ts y rest' → EndsExpr rest → EndsExpr rest' → Both x y rest rest'
  same_expr {rest = rest} (alone d) {rest' = rest'} (alone d') e f = same_sum d d' (sum_ends rest e) (sum_ends rest' f)
  same_expr {rest = rest} (alone d) (compared {a = a} {t = t} {us = us} d' k g') e f = clash (same_sum d d' (sum_ends rest e) (sign_ends a t us k)).rest k e
  same_expr (compared {a = a} {t = t} {us = us} d k g) {rest' = rest'} (alone d') e f = clash (sym (same_sum d d' (sign_ends a t us k) (sum_ends rest' f)).rest) k f
  same_expr (compared {a = a} {t = t} {s = s} {us = us} {rest = rest} {y = y} d c g) {rest' = rest'} (compared {a = a'} {t = t'} {s = s'} {us = us'} {x = x'} {y = y'} d' c' g') e f =
      let r = same_sum d d' (sign_ends a t us c) (sign_ends a' t' us' c') in
      let q = same_sum g (from_sum (cut r.rest) g') (sum_ends rest e) (sum_ends rest' f) in
      record { tree = ap (λ z. expr.Compare z s y) r.tree ∙ ap (λ z. expr.Compare x' z y) (same_less c c' (same_first_word r.rest)) ∙ ap (expr.Compare x' s') q.tree; rest = q.rest }

-- no expression begins with these
abbrev NoExpr : Word → Bool
NoExpr k = same_word k word.Draw || (same_word k word.New || (same_word k word.Call || (same_word k word.Spawn || same_word k word.Close)))

abbrev Starts : List Terminal → Type 0
Starts [] = ⊥
Starts (t ∷ ts) = NoExpr t.word ≡ false

factor_starts : {ts rest : List Terminal} {x : Expr} → IsFactor ts x rest → Starts ts
factor_starts (a_neg d) = refl
factor_starts a_number = refl
factor_starts a_name = refl
factor_starts (an_item d) = refl
factor_starts (a_group d) = refl
factor_starts (a_same d f) = refl
factor_starts (an_older d f) = refl

expr_starts : {ts rest : List Terminal} {x : Expr} → IsExpr ts x rest → Starts ts
expr_starts (alone (terms (factors d f) g)) = factor_starts d
expr_starts (compared (terms (factors d f) g) c e) = factor_starts d

-- arguments end at a parenthesis
abbrev EndsArgs : List Terminal → Type 0
EndsArgs [] = ⊥
EndsArgs (t ∷ ts) = same_word t.word word.Close ≡ true

args_end : {mid rest : List Terminal} {xs : List Expr} → IsMoreArgs mid xs rest → EndsArgs rest → EndsExpr mid
args_end {mid = []} no_more_args e = absurd e
args_end {mid = t ∷ ts} no_more_args e = subst (λ k. EndsExpr (tok t.at k t.text ∷ ts)) (sym (same_words t.word word.Close e)) (refl, refl, refl, refl)
args_end (one_more_arg d m) e = (refl, refl, refl, refl)

same_more_args : {ts rest : List Terminal} {xs : List Expr} → IsMoreArgs ts xs rest → {rest' : List Terminal} {ys : List Expr} → IsMoreArgs ts ys rest' → EndsArgs rest → EndsArgs rest' → Both xs ys rest rest'
same_more_args no_more_args no_more_args e f = record { tree = refl; rest = refl }
same_more_args no_more_args (one_more_arg d m) e f = cc
same_more_args (one_more_arg d m) no_more_args e f = cc
same_more_args (one_more_arg {xs = xs} d m) (one_more_arg {x = x'} d' m') e f =
    let r = same_expr d d' (args_end m e) (args_end m' f) in
    let q = same_more_args m (from_more_args r.rest m') e f in
    record { tree = ap (λ z. z ∷ xs) r.tree ∙ ap (λ z. x' ∷ z) q.tree; rest = q.rest }

never : (k : Word) → same_word k word.Close ≡ true → NoExpr k ≡ false → ⊥
never k e f = let g : NoExpr word.Close ≡ false = ap NoExpr (sym (same_words k word.Close e)) ∙ f in cc

same_args : {ts rest : List Terminal} {xs : List Expr} → IsArgs ts xs rest → {rest' : List Terminal} {ys : List Expr} → IsArgs ts ys rest' → EndsArgs rest → EndsArgs rest' → Both xs ys rest rest'
same_args no_args no_args e f = record { tree = refl; rest = refl }
same_args {ts = []} no_args (some_args d m) e f = absurd e
same_args {ts = t ∷ ts} no_args (some_args d m) e f = absurd (never t.word e (expr_starts d))
same_args {ts = []} (some_args d m) no_args e f = absurd f
same_args {ts = t ∷ ts} (some_args d m) no_args e f = absurd (never t.word f (expr_starts d))
same_args (some_args {xs = xs} d m) (some_args {x = x'} d' m') e f =
    let r = same_expr d d' (args_end m e) (args_end m' f) in
    let q = same_more_args m (from_more_args r.rest m') e f in
    record { tree = ap (λ z. z ∷ xs) r.tree ∙ ap (λ z. x' ∷ z) q.tree; rest = q.rest }

same_call : {ts rest rest' : List Terminal} {c d : CallText} → IsCall ts c rest → IsCall ts d rest' → Both c d rest rest'
same_call (a_call {a = a} {t = t} d) (a_call d') =
    let r = same_args d d' refl refl in record { tree = ap (λ z. record { name = name_at a t; args = z }) r.tree; rest = cut r.rest }

same_right : {ts rest rest' : List Terminal} {r q : Right} → IsRight ts r rest → IsRight ts q rest' → EndsExpr rest → EndsExpr rest' → Both r q rest rest'
same_right (right_value d) (right_value d') e f = let r = same_expr d d' e f in record { tree = ap right.Value r.tree; rest = r.rest }
same_right (right_value d) right_draw e f = let g = expr_starts d in cc
same_right (right_value d) right_new e f = let g = expr_starts d in cc
same_right (right_value d) (right_call c) e f = let g = expr_starts d in cc
same_right (right_value d) (right_spawn c) e f = let g = expr_starts d in cc
same_right right_draw (right_value d) e f = let g = expr_starts d in cc
same_right right_new (right_value d) e f = let g = expr_starts d in cc
same_right (right_call c) (right_value d) e f = let g = expr_starts d in cc
same_right (right_spawn c) (right_value d) e f = let g = expr_starts d in cc
same_right right_draw right_draw e f = record { tree = refl; rest = refl }
same_right right_new right_new e f = record { tree = refl; rest = refl }
same_right (right_call {a = a} c) (right_call d) e f = let r = same_call c d in record { tree = ap (right.Call a) r.tree; rest = r.rest }
same_right (right_spawn {a = a} c) (right_spawn d) e f = let r = same_call c d in record { tree = ap (right.Spawn a) r.tree; rest = r.rest }

abbrev EndsInto : List Terminal → Type 0
EndsInto [] = ⊥
EndsInto (t ∷ ts) = same_word t.word word.Call ≡ true

into_ends : {ts rest : List Terminal} {o : Option Name} → IsInto ts o rest → EndsInto rest → EndsExpr ts
into_ends {ts = []} no_into e = absurd e
into_ends {ts = t ∷ ts} no_into e = subst (λ k. EndsExpr (tok t.at k t.text ∷ ts)) (sym (same_words t.word word.Call e)) (refl, refl, refl, refl)
into_ends an_into e = (refl, refl, refl, refl)

same_into : {ts rest rest' : List Terminal} {o p : Option Name} → IsInto ts o rest → IsInto ts p rest' → EndsInto rest → EndsInto rest' → Both o p rest rest'
same_into no_into no_into e f = record { tree = refl; rest = refl }
same_into no_into an_into e f = cc
same_into an_into no_into e f = cc
same_into an_into an_into e f = record { tree = refl; rest = refl }

-- a word that begins a statement
stmt_word : {t : Terminal} {ts rest : List Terminal} {x : Stmt} → IsStmt (t ∷ ts) x rest → Skips machine.stmts t → ⊥
stmt_word (a_let d) e = cc
stmt_word an_array e = cc
stmt_word (a_set d) e = cc
stmt_word (a_store d f) e = cc
stmt_word (a_spawn d) e = cc
stmt_word (a_call_stmt d) e = cc
stmt_word a_sync e = cc
stmt_word (a_print d) e = cc
stmt_word (an_if d f g) e = cc
stmt_word (a_while d f) e = cc
stmt_word (a_pfor d f g h) e = cc
stmt_word (a_scope d) e = cc

stmt_taken : {A : Type 0} {ts rest : List Terminal} {x : Stmt} → IsStmt ts x rest → EndsStmts ts → A
stmt_taken {ts = []} d e = absurd e
stmt_taken {ts = t ∷ ts} d e = absurd (stmt_word d e.0)

-- what stands after two tokens that are one
cut2 : {t u v w : Terminal} {ts us : List Terminal} → ◌≡◌ {A = List Terminal} (t ∷ u ∷ ts) (v ∷ w ∷ us) → ts ≡ us
cut2 e = cut (cut e)

second : {t u v w : Terminal} {ts us : List Terminal} → ◌≡◌ {A = List Terminal} (t ∷ u ∷ ts) (v ∷ w ∷ us) → u ≡ w
second e = cc

first : {t u : Terminal} {ts us : List Terminal} → ◌≡◌ {A = List Terminal} (t ∷ ts) (u ∷ us) → t ≡ u
first e = cc

abbrev name_of : Terminal → Name
name_of t = name_at t.at t.text

mutual
  same_stmt : {ts rest : List Terminal} {x : Stmt} → IsStmt ts x rest → {rest' : List Terminal} {y : Stmt} → IsStmt ts y rest' → EndsIf rest → EndsIf rest' → Both x y rest rest'
  same_stmt (a_let {a = a} {b = b} {u = u} d) (a_let d') e f = let r = same_right d d' (refl, refl, refl, refl) (refl, refl, refl, refl) in record { tree = ap (λ z. stmt_at a (act.Let (name_at b u) z)) r.tree; rest = cut r.rest }
  same_stmt an_array an_array e f = record { tree = refl; rest = refl }
  same_stmt (a_set {a = a} {t = t} d) (a_set d') e f = let r = same_right d d' (refl, refl, refl, refl) (refl, refl, refl, refl) in record { tree = ap (λ z. stmt_at a (act.Set (name_at a t) z)) r.tree; rest = cut r.rest }
  same_stmt (a_store {a = a} {t = t} {y = y} d g) (a_store {x = x'} d' g') e f =
      let r = same_expr d d' (refl, refl, refl, refl) (refl, refl, refl, refl) in
      let q = same_expr g (from_expr (cut2 r.rest) g') (refl, refl, refl, refl) (refl, refl, refl, refl) in
      record { tree = ap (λ z. stmt_at a (act.Store (name_at a t) z y)) r.tree ∙ ap (λ z. stmt_at a (act.Store (name_at a t) x' z)) q.tree; rest = cut q.rest }
  same_stmt (a_spawn {a = a} d) (a_spawn d') e f = let r = same_call d d' in record { tree = ap (λ z. stmt_at a (act.Spawn z)) r.tree; rest = cut r.rest }
  same_stmt (a_call_stmt {a = a} d) (a_call_stmt d') e f = let r = same_call d d' in record { tree = ap (λ z. stmt_at a (act.Call z)) r.tree; rest = cut r.rest }
  same_stmt a_sync a_sync e f = record { tree = refl; rest = refl }
  same_stmt (a_print {a = a} d) (a_print d') e f = let r = same_expr d d' (refl, refl, refl, refl) (refl, refl, refl, refl) in record { tree = ap (λ z. stmt_at a (act.Print z)) r.tree; rest = cut r.rest }
  same_stmt (an_if {a = a} {p = p} {q = q} d g h) (an_if {x = x'} {p = p'} d' g' h') e f =
      let r = same_expr d d' (block_starts g) (block_starts g') in
      let b = same_block g (from_block r.rest g') in
      let c = same_else h (from_else b.rest h') e f in
      record { tree = ap (λ z. stmt_at a (act.If z p q)) r.tree ∙ ap (λ z. stmt_at a (act.If x' z q)) b.tree ∙ ap (λ z. stmt_at a (act.If x' p' z)) c.tree; rest = c.rest }
  same_stmt (a_while {a = a} {p = p} d g) (a_while {x = x'} d' g') e f =
      let r = same_expr d d' (block_starts g) (block_starts g') in
      let b = same_block g (from_block r.rest g') in
      record { tree = ap (λ z. stmt_at a (act.While z p)) r.tree ∙ ap (λ z. stmt_at a (act.While x' z)) b.tree; rest = b.rest }
  same_stmt (a_pfor {a = a} {b = b} {f = c} {n = n} {f' = t} {lo = lo} {hi = hi} {into = o} {xs = xs} d g h m) (a_pfor {f = c'} {f' = t'} {lo = lo'} {hi = hi'} {into = o'} {xs = xs'} d' g' h' m') e f =
      let r = same_expr d d' (refl, refl, refl, refl) (refl, refl, refl, refl) in
      let q = same_expr g (from_expr (cut r.rest) g') (into_ends h refl) (into_ends h' refl) in
      let i = same_into h (from_into q.rest h') refl refl in
      let k = same_more_args m (from_more_args (cut2 (cut2 i.rest)) m') refl refl in
      let mk : Expr → Expr → Option Name → Name → List Expr → Stmt = λ l j p z ys. stmt_at a (act.Pfor (name_at b n) l j p (record { name = z; args = ys })) in
      record {
        tree = ap (λ z. mk z hi o (name_at c t) xs) r.tree ∙ ap (λ z. mk lo' z o (name_at c t) xs) q.tree ∙ ap (λ z. mk lo' hi' z (name_at c t) xs) i.tree
            ∙ ap (λ z. mk lo' hi' o' (name_of z) xs) (second i.rest) ∙ ap (λ z. mk lo' hi' o' (name_at c' t') z) k.tree;
        rest = cut2 k.rest;
      }
  same_stmt (a_scope {a = a} d) (a_scope d') e f = let b = same_block d d' in record { tree = ap (λ z. stmt_at a (act.Scope z)) b.tree; rest = b.rest }

  same_stmts : {ts rest : List Terminal} {xs : List Stmt} → IsStmts ts xs rest → {rest' : List Terminal} {ys : List Stmt} → IsStmts ts ys rest' → EndsStmts rest → EndsStmts rest' → Both xs ys rest rest'
  same_stmts no_stmts no_stmts e f = record { tree = refl; rest = refl }
  same_stmts no_stmts (one_stmt d g) e f = stmt_taken d e
  same_stmts (one_stmt d g) no_stmts e f = stmt_taken d f
  same_stmts (one_stmt {xs = xs} d g) (one_stmt {x = x'} d' g') e f =
      let r = same_stmt d d' (stmts_start g e) (stmts_start g' f) in
      let q = same_stmts g (from_stmts r.rest g') e f in
      record { tree = ap (λ z. z ∷ xs) r.tree ∙ ap (λ z. x' ∷ z) q.tree; rest = q.rest }

  same_block : {ts rest : List Terminal} {xs : List Stmt} → IsBlock ts xs rest → {rest' : List Terminal} {ys : List Stmt} → IsBlock ts ys rest' → Both xs ys rest rest'
  same_block (a_block d) (a_block d') = let r = same_stmts d d' (refl, refl) (refl, refl) in record { tree = r.tree; rest = cut r.rest }

  same_else : {ts rest : List Terminal} {xs : List Stmt} → IsElse ts xs rest → {rest' : List Terminal} {ys : List Stmt} → IsElse ts ys rest' → EndsIf rest → EndsIf rest' → Both xs ys rest rest'
  same_else no_else no_else e f = record { tree = refl; rest = refl }
  same_else no_else (an_else d) e f = cc
  same_else (an_else d) no_else e f = cc
  same_else (an_else d) (an_else d') e f = same_block d d'

same_param : {ts rest rest' : List Terminal} {x y : Param} → IsParam ts x rest → IsParam ts y rest' → Both x y rest rest'
same_param int_param int_param = record { tree = refl; rest = refl }
same_param id_param id_param = record { tree = refl; rest = refl }

same_more_params : {ts rest : List Terminal} {xs : List Param} → IsMoreParams ts xs rest → {rest' : List Terminal} {ys : List Param} → IsMoreParams ts ys rest' → EndsArgs rest → EndsArgs rest' → Both xs ys rest rest'
same_more_params no_more_params no_more_params e f = record { tree = refl; rest = refl }
same_more_params no_more_params (one_more_param d m) e f = cc
same_more_params (one_more_param d m) no_more_params e f = cc
same_more_params (one_more_param {xs = xs} d m) (one_more_param {x = x'} d' m') e f =
    let r = same_param d d' in
    let q = same_more_params m (from_more_params r.rest m') e f in
    record { tree = ap (λ z. z ∷ xs) r.tree ∙ ap (λ z. x' ∷ z) q.tree; rest = q.rest }

same_params : {ts rest rest' : List Terminal} {xs ys : List Param} → IsParams ts xs rest → IsParams ts ys rest' → EndsArgs rest → EndsArgs rest' → Both xs ys rest rest'
same_params no_params no_params e f = record { tree = refl; rest = refl }
same_params no_params (some_params int_param m) e f = cc
same_params no_params (some_params id_param m) e f = cc
same_params (some_params int_param m) no_params e f = cc
same_params (some_params id_param m) no_params e f = cc
same_params (some_params {xs = xs} d m) (some_params {x = x'} d' m') e f =
    let r = same_param d d' in
    let q = same_more_params m (from_more_params r.rest m') e f in
    record { tree = ap (λ z. z ∷ xs) r.tree ∙ ap (λ z. x' ∷ z) q.tree; rest = q.rest }

abbrev EndsAnswer : List Terminal → Type 0
EndsAnswer [] = ⊥
EndsAnswer (t ∷ ts) = same_word t.word word.OpenBlock ≡ true

same_answer : {ts rest rest' : List Terminal} {k j : Kind} → IsAnswerKind ts k rest → IsAnswerKind ts j rest' → EndsAnswer rest → EndsAnswer rest' → Both k j rest rest'
same_answer int_answer int_answer e f = record { tree = refl; rest = refl }
same_answer int_answer id_answer e f = cc
same_answer id_answer int_answer e f = cc
same_answer id_answer id_answer e f = record { tree = refl; rest = refl }

same_function : {ts rest rest' : List Terminal} {x y : Function} → IsFunction ts x rest → IsFunction ts y rest' → Both x y rest rest'
same_function (a_function {b = b} {f = c} {n = n} {ps = ps} {k = i} {body = m} {r = z} p k d g) (a_function {f = c'} {ps = ps'} {k = i'} {body = m'} {r = z'} p' k' d' g') =
    let q = same_params p p' refl refl in
    let r = same_answer k (from_answer (cut q.rest) k') refl refl in
    let t = same_stmts d (from_stmts (cut r.rest) d') (refl, refl) (refl, refl) in
    let w = same_expr g (from_expr (cut t.rest) g') (refl, refl, refl, refl) (refl, refl, refl, refl) in
    let mk : List Param → Kind → List Stmt → ℕ → Expr → Function = λ l j s at e. record { name = name_at b n; params = l; answer = j; body = s; return_at = at; result = e } in
    record {
      tree = ap (λ x. mk x i m c z) q.tree ∙ ap (λ x. mk ps' x m c z) r.tree ∙ ap (λ x. mk ps' i' x c z) t.tree ∙ ap (λ x. mk ps' i' m' x.at z) (first t.rest) ∙ ap (λ x. mk ps' i' m' c' x) w.tree;
      rest = cut2 w.rest;
    }

pub same_functions : {ts rest rest' : List Terminal} {fs gs : List Function} → IsFunctions ts fs rest → IsFunctions ts gs rest' → rest ≡ [] → rest' ≡ [] → fs ≡ gs
same_functions no_functions no_functions e f = refl
same_functions no_functions (one_function (a_function p k d g) h) e f = cc
same_functions (one_function (a_function p k d g) h) no_functions e f = cc
same_functions (one_function d h) (one_function d' h') e f =
    let r = same_function d d' in
    let q = same_functions h (from_functions r.rest h') e f in
    let t = r.tree in
    cc
