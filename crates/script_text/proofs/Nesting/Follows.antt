-- The machine follows each derivation, and its nesting after each token is the nesting there.
use Rattle.std.proofs.Common.{◌≡◌, ℕ, List, [], ◌∷◌, ◌++◌, Option, Some, None, Bool, true, false, ◌&&◌, cond, option_and_then, refl, sym, ap, ◌∙◌, subst, append_assoc, append-nil}
use Rattle.std.proofs.lemmas.Bool.{eq-eqb}
use Rattle.script_tokens.specs.declared.token.Word.{Word}
use Rattle.script_tokens.specs.declared.token.Word.TheVariants as word
use Rattle.script_grammar.specs.declared.tree.Name.{Name}
use Rattle.script_grammar.specs.declared.tree.Kind.{Kind}
use Rattle.script_grammar.specs.declared.tree.Expr.{Expr}
use Rattle.script_grammar.specs.declared.tree.SumPart.{SumPart}
use Rattle.script_grammar.specs.declared.tree.ProductPart.{ProductPart}
use Rattle.script_grammar.specs.declared.tree.ProductSign.{ProductSign}
use Rattle.script_grammar.specs.declared.tree.Comparison.{Comparison}
use Rattle.script_grammar.specs.declared.tree.CallText.{CallText}
use Rattle.script_grammar.specs.declared.tree.Right.{Right}
use Rattle.script_grammar.specs.declared.tree.Stmt.{Stmt}
use Rattle.script_grammar.specs.declared.tree.Param.{Param}
use Rattle.script_grammar.specs.declared.tree.Function.{Function}
use Rattle.script_grammar.specs.Grammar.{Terminal, tok, IsSumSign, a_plus, a_minus, IsProductSign, a_times, an_over, a_modulo, IsComparison, an_eq, a_ne, a_lt, a_le, a_gt, a_ge, IsFactor, a_neg, a_number, a_name, an_item, a_group, a_same, an_older, IsTerm, factors, IsFactors, no_factors, one_factor, IsSum, terms, IsTerms, no_terms, one_term, IsExpr, alone, compared, IsMoreArgs, no_more_args, one_more_arg, IsArgs, no_args, some_args, IsCall, a_call, IsRight, right_value, right_draw, right_new, right_call, right_spawn, IsInto, no_into, an_into, IsStmt, a_let, an_array, a_set, a_store, a_spawn, a_call_stmt, a_sync, a_print, an_if, a_while, a_pfor, a_scope, IsStmts, no_stmts, one_stmt, IsBlock, a_block, IsElse, no_else, an_else, IsParam, int_param, id_param, IsMoreParams, no_more_params, one_more_param, IsParams, no_params, some_params, IsAnswerKind, int_answer, id_answer, IsFunction, a_function, IsFunctions, no_functions, one_function, IsScript}
use Rattle.script_grammar.specs.Nesting.{factor_nesting, term_nesting, factors_nesting, sum_nesting, terms_nesting, expr_nesting, more_args_nesting, args_nesting, call_nesting, right_nesting, into_nesting, stmt_nesting, stmts_nesting, block_nesting, else_nesting, param_nesting, more_params_nesting, params_nesting, answer_nesting, function_nesting, functions_nesting}
use Rattle.script_text.specs.Machine.{Sym, only, exactly, factor, index, more_factors, more_terms, comparison, minus_end, args, more_args, call_args, right, into, stmts, block, otherwise, functions, params, more_params, param, answer, body, same_bytes, sum_then, expr_then, rules, is_empty, find_rule, choose, consume, consume_all, nesting, Nestings, onward, nestings}

-- the symbol is skipped at that token
abbrev pub Skips : Sym → Terminal → Type 0
Skips a t = find_rule t.word t.text (rules a) ≡ None

-- a token comes at which a factor, a term, a sum, an expression ends
abbrev pub EndsFactor : List Terminal → Type 0
EndsFactor [] = ⊥
EndsFactor (t ∷ ts) = Skips index t

abbrev pub EndsTerm : List Terminal → Type 0
EndsTerm [] = ⊥
EndsTerm (t ∷ ts) = Skips index t × Skips more_factors t

abbrev pub EndsSum : List Terminal → Type 0
EndsSum [] = ⊥
EndsSum (t ∷ ts) = Skips index t × Skips more_factors t × Skips more_terms t

abbrev pub EndsExpr : List Terminal → Type 0
EndsExpr [] = ⊥
EndsExpr (t ∷ ts) = Skips index t × Skips more_factors t × Skips more_terms t × Skips comparison t

-- with these before
abbrev pub tail : List ℕ → Nestings → Nestings
tail ns o = option_and_then (λ p. Some (ns ++ p.0, p.1)) o

-- from one stack the machine comes to the other, by tokens nested so
pub record Goes (ts : List Terminal) (s : List Sym) (ns : List ℕ) (rest : List Terminal) (s' : List Sym) : Type 0 where
  pub traced : nestings ts s ≡ tail ns (nestings rest s')

after-append : (ms ns : List ℕ) (o : Nestings) → tail (ms ++ ns) o ≡ tail ms (tail ns o)
after-append ms ns None = refl
after-append ms ns (Some p) = ap (λ q. Some (q, p.1)) (append_assoc ms ns p.0)

after_none : (o : Nestings) → o ≡ tail [] o
after_none None = refl
after_none (Some p) = refl

onward-after : (o : Option (List Sym)) (go : List Sym → Nestings) (s : List Sym) (ns : List ℕ) (r : Nestings) → o ≡ Some s → go s ≡ tail ns r → onward o go ≡ tail (nesting s ∷ ns) r
onward-after o go s ns r e f = ap (λ z. onward z go) e ∙ ap (λ z. option_and_then (λ p. Some (nesting s ∷ p.0, p.1)) z) f ∙ sym (after-append (nesting s ∷ []) ns r)

-- one token, and then these
take : {t : Terminal} {ts rest : List Terminal} {s s' s'' : List Sym} {ns : List ℕ} → consume t.word t.text s ≡ Some s' → Goes ts s' ns rest s'' → Goes (t ∷ ts) s (nesting s' ∷ ns) rest s''
take {t = t} {ts = ts} {rest = rest} {s = s} {s' = s'} {s'' = s''} {ns = ns} e g = record { traced = onward-after (consume t.word t.text s) (nestings ts) s' ns (nestings rest s'') e g.traced }

next : {ts mid rest : List Terminal} {s s' s'' : List Sym} {ms ns : List ℕ} → Goes ts s ms mid s' → Goes mid s' ns rest s'' → Goes ts s (ms ++ ns) rest s''
next {rest = rest} {s'' = s''} {ms = ms} {ns = ns} g h = record { traced = g.traced ∙ ap (tail ms) h.traced ∙ sym (after-append ms ns (nestings rest s'')) }

-- no token, and the same stack apart from symbols that may be left out
stay : {rest : List Terminal} {s s' : List Sym} → nestings rest s ≡ nestings rest s' → Goes rest s [] rest s'
stay {rest = rest} {s' = s'} e = record { traced = e ∙ after_none (nestings rest s') }

then_stay : {ts rest : List Terminal} {s s' s'' : List Sym} {ns : List ℕ} → Goes ts s ns rest s' → nestings rest s' ≡ nestings rest s'' → Goes ts s ns rest s''
then_stay {ns = ns} g e = record { traced = g.traced ∙ ap (tail ns) e }

stay_then : {ts rest : List Terminal} {s s' s'' : List Sym} {ns : List ℕ} → nestings ts s ≡ nestings ts s' → Goes ts s' ns rest s'' → Goes ts s ns rest s''
stay_then e g = record { traced = e ∙ g.traced }

skip : (a : Sym) (t : Terminal) (ts : List Terminal) (s : List Sym) → is_empty a ≡ true → Skips a t → nestings (t ∷ ts) (a ∷ s) ≡ nestings (t ∷ ts) s
skip a t ts s e h =
    ap (λ o. onward (choose o (is_empty a) s (consume t.word t.text s)) (nestings ts)) h
    ∙ ap (λ b. onward (choose None b s (consume t.word t.text s)) (nestings ts)) e

skip_index : (rest : List Terminal) (s : List Sym) → EndsFactor rest → nestings rest (index ∷ s) ≡ nestings rest s
skip_index [] s e = absurd e
skip_index (t ∷ ts) s e = skip index t ts s refl e

skip_minus : (rest : List Terminal) (s : List Sym) → EndsFactor rest → nestings rest (minus_end ∷ s) ≡ nestings rest s
skip_minus [] s e = absurd e
skip_minus (t ∷ ts) s e = refl

skip_factors : (rest : List Terminal) (s : List Sym) → EndsTerm rest → nestings rest (more_factors ∷ s) ≡ nestings rest s
skip_factors [] s e = absurd e
skip_factors (t ∷ ts) s e = skip more_factors t ts s refl e.1

skip_terms : (rest : List Terminal) (s : List Sym) → EndsSum rest → nestings rest (more_terms ∷ s) ≡ nestings rest s
skip_terms [] s e = absurd e
skip_terms (t ∷ ts) s e = skip more_terms t ts s refl e.2

skip_comparison : (rest : List Terminal) (s : List Sym) → EndsExpr rest → nestings rest (comparison ∷ s) ≡ nestings rest s
skip_comparison [] s e = absurd e
skip_comparison (t ∷ ts) s e = skip comparison t ts s refl e.3

pub factor_ends : {mid rest : List Terminal} {xs : List ProductPart} → IsFactors mid xs rest → EndsTerm rest → EndsFactor mid
factor_ends {mid = []} no_factors e = absurd e
factor_ends {mid = t ∷ ts} no_factors e = e.0
factor_ends (one_factor a_times d f) e = refl
factor_ends (one_factor an_over d f) e = refl
factor_ends (one_factor a_modulo d f) e = refl

pub term_ends : {mid rest : List Terminal} {xs : List SumPart} → IsTerms mid xs rest → EndsSum rest → EndsTerm mid
term_ends {mid = []} no_terms e = absurd e
term_ends {mid = t ∷ ts} no_terms e = (e.0, e.1)
term_ends (one_term a_plus d f) e = (refl, refl)
term_ends (one_term a_minus d f) e = (refl, refl)

pub sum_ends : (rest : List Terminal) → EndsExpr rest → EndsSum rest
sum_ends [] e = absurd e
sum_ends (t ∷ ts) e = (e.0, e.1, e.2)

pub sign_ends : (a : ℕ) (t : List ℕ) (us : List Terminal) {k : Word} {s : Comparison} → IsComparison k s → EndsSum (tok a k t ∷ us)
sign_ends a t us an_eq = (refl, refl, refl)
sign_ends a t us a_ne = (refl, refl, refl)
sign_ends a t us a_lt = (refl, refl, refl)
sign_ends a t us a_le = (refl, refl, refl)
sign_ends a t us a_gt = (refl, refl, refl)
sign_ends a t us a_ge = (refl, refl, refl)

-- what a sign does to the machine
pub comparison_step : {k : Word} {s : Comparison} (t : List ℕ) (r : List Sym) → IsComparison k s → consume k t (comparison ∷ r) ≡ Some (sum_then r)
comparison_step t r an_eq = refl
comparison_step t r a_ne = refl
comparison_step t r a_lt = refl
comparison_step t r a_le = refl
comparison_step t r a_gt = refl
comparison_step t r a_ge = refl

pub factors_step : {k : Word} {s : ProductSign} (t : List ℕ) (r : List Sym) → IsProductSign k s → consume k t (more_factors ∷ r) ≡ Some (factor ∷ more_factors ∷ r)
factors_step t r a_times = refl
factors_step t r an_over = refl
factors_step t r a_modulo = refl

pub terms_step : {k : Word} {s : Bool} (t : List ℕ) (r : List Sym) → IsSumSign k s → consume k t (more_terms ∷ r) ≡ Some (sum_then r)
terms_step t r a_plus = refl
terms_step t r a_minus = refl

mutual
  pub factor_goes : {ts rest : List Terminal} {x : Expr} (d : IsFactor ts x rest) → EndsFactor rest → (s : List Sym) → Goes ts (factor ∷ s) (factor_nesting d (nesting s)) rest s
  factor_goes {rest = rest} (a_neg d) e s = take refl (then_stay (factor_goes d e (minus_end ∷ s)) (skip_minus rest s e))
  factor_goes {rest = rest} a_number e s = take refl (stay refl)
  factor_goes {rest = rest} a_name e s = take refl (stay (skip_index rest s e))
  factor_goes (an_item d) e s = take refl (take refl (next (expr_goes d (refl, refl, refl, refl) (only word.CloseItem ∷ s)) (take refl (stay refl))))
  factor_goes (a_group d) e s = take refl (next (expr_goes d (refl, refl, refl, refl) (only word.Close ∷ s)) (take refl (stay refl)))
  factor_goes (a_same d f) e s =
      take refl (take refl (next (expr_goes d (refl, refl, refl, refl) (only word.Comma ∷ expr_then (only word.Close ∷ s)))
      (take refl (next (expr_goes f (refl, refl, refl, refl) (only word.Close ∷ s)) (take refl (stay refl))))))
  factor_goes (an_older d f) e s =
      take refl (take refl (next (expr_goes d (refl, refl, refl, refl) (only word.Comma ∷ expr_then (only word.Close ∷ s)))
      (take refl (next (expr_goes f (refl, refl, refl, refl) (only word.Close ∷ s)) (take refl (stay refl))))))

  pub term_goes : {ts rest : List Terminal} {x : Expr} (d : IsTerm ts x rest) → EndsTerm rest → (s : List Sym) → Goes ts (factor ∷ more_factors ∷ s) (term_nesting d (nesting s)) rest s
  term_goes (factors d f) e s = next (factor_goes d (factor_ends f e) (more_factors ∷ s)) (factors_go f e s)

  pub factors_go : {ts rest : List Terminal} {xs : List ProductPart} (d : IsFactors ts xs rest) → EndsTerm rest → (s : List Sym) → Goes ts (more_factors ∷ s) (factors_nesting d (nesting s)) rest s
  factors_go {rest = rest} no_factors e s = stay (skip_factors rest s e)
  factors_go (one_factor {t = t} k d f) e s = take (factors_step t s k) (next (factor_goes d (factor_ends f e) (more_factors ∷ s)) (factors_go f e s))

  pub sum_goes : {ts rest : List Terminal} {x : Expr} (d : IsSum ts x rest) → EndsSum rest → (s : List Sym) → Goes ts (sum_then s) (sum_nesting d (nesting s)) rest s
  sum_goes (terms d f) e s = next (term_goes d (term_ends f e) (more_terms ∷ s)) (terms_go f e s)

  pub terms_go : {ts rest : List Terminal} {xs : List SumPart} (d : IsTerms ts xs rest) → EndsSum rest → (s : List Sym) → Goes ts (more_terms ∷ s) (terms_nesting d (nesting s)) rest s
  terms_go {rest = rest} no_terms e s = stay (skip_terms rest s e)
  terms_go (one_term {t = t} k d f) e s = take (terms_step t s k) (next (term_goes d (term_ends f e) (more_terms ∷ s)) (terms_go f e s))

  pub expr_goes : {ts rest : List Terminal} {x : Expr} (d : IsExpr ts x rest) → EndsExpr rest → (s : List Sym) → Goes ts (expr_then s) (expr_nesting d (nesting s)) rest s
  expr_goes {rest = rest} (alone d) e s = then_stay (sum_goes d (sum_ends rest e) (comparison ∷ s)) (skip_comparison rest s e)
  expr_goes {rest = rest} (compared {a = a} {t = t} {us = us} d k f) e s = next (sum_goes d (sign_ends a t us k) (comparison ∷ s)) (take (comparison_step t s k) (sum_goes f (sum_ends rest e) s))

-- an expression's first token, where arguments or a right side may come
factor_in_args : {ts rest : List Terminal} {x : Expr} → IsFactor ts x rest → (s : List Sym) → nestings ts (args ∷ s) ≡ nestings ts (expr_then (more_args ∷ s))
factor_in_args (a_neg d) s = refl
factor_in_args a_number s = refl
factor_in_args a_name s = refl
factor_in_args (an_item d) s = refl
factor_in_args (a_group d) s = refl
factor_in_args (a_same d f) s = refl
factor_in_args (an_older d f) s = refl

factor_in_right : {ts rest : List Terminal} {x : Expr} → IsFactor ts x rest → (s : List Sym) → nestings ts (right ∷ s) ≡ nestings ts (expr_then s)
factor_in_right (a_neg d) s = refl
factor_in_right a_number s = refl
factor_in_right a_name s = refl
factor_in_right (an_item d) s = refl
factor_in_right (a_group d) s = refl
factor_in_right (a_same d f) s = refl
factor_in_right (an_older d f) s = refl

expr_in_args : {ts rest : List Terminal} {x : Expr} → IsExpr ts x rest → (s : List Sym) → nestings ts (args ∷ s) ≡ nestings ts (expr_then (more_args ∷ s))
expr_in_args (alone (terms (factors d f) g)) s = factor_in_args d s
expr_in_args (compared (terms (factors d f) g) c e) s = factor_in_args d s

expr_in_right : {ts rest : List Terminal} {x : Expr} → IsExpr ts x rest → (s : List Sym) → nestings ts (right ∷ s) ≡ nestings ts (expr_then s)
expr_in_right (alone (terms (factors d f) g)) s = factor_in_right d s
expr_in_right (compared (terms (factors d f) g) c e) s = factor_in_right d s

more_ends : {mid rest : List Terminal} {xs : List Expr} (t : Terminal) (us : List Terminal) → IsMoreArgs mid xs rest → rest ≡ t ∷ us → EndsExpr (t ∷ us) → EndsExpr mid
more_ends t us no_more_args e f = subst EndsExpr (sym e) f
more_ends t us (one_more_arg d m) e f = (refl, refl, refl, refl)

-- arguments, up to their closing parenthesis
abbrev IsClosed : List Terminal → Type 0
IsClosed [] = ⊥
IsClosed (t ∷ ts) = (Skips more_args t × Skips args t) × EndsExpr (t ∷ ts)

more_args_end : {mid rest : List Terminal} {xs : List Expr} → IsMoreArgs mid xs rest → IsClosed rest → EndsExpr mid
more_args_end {mid = []} no_more_args e = absurd e
more_args_end {mid = t ∷ ts} no_more_args e = e.1
more_args_end (one_more_arg d m) e = (refl, refl, refl, refl)

skip_more_args : (rest : List Terminal) (s : List Sym) → IsClosed rest → nestings rest (more_args ∷ s) ≡ nestings rest s
skip_more_args [] s e = absurd e
skip_more_args (t ∷ ts) s e = skip more_args t ts s refl e.0.0

skip_args : (rest : List Terminal) (s : List Sym) → IsClosed rest → nestings rest (args ∷ s) ≡ nestings rest s
skip_args [] s e = absurd e
skip_args (t ∷ ts) s e = skip args t ts s refl e.0.1

more_args_go : {ts rest : List Terminal} {xs : List Expr} (d : IsMoreArgs ts xs rest) → IsClosed rest → (s : List Sym) → Goes ts (more_args ∷ s) (more_args_nesting d (nesting s)) rest s
more_args_go {rest = rest} no_more_args e s = stay (skip_more_args rest s e)
more_args_go (one_more_arg d m) e s = take refl (next (expr_goes d (more_args_end m e) (more_args ∷ s)) (more_args_go m e s))

args_go : {ts rest : List Terminal} {xs : List Expr} (d : IsArgs ts xs rest) → IsClosed rest → (s : List Sym) → Goes ts (args ∷ s) (args_nesting d (nesting s)) rest s
args_go {rest = rest} no_args e s = stay (skip_args rest s e)
args_go (some_args d m) e s = stay_then (expr_in_args d s) (next (expr_goes d (more_args_end m e) (more_args ∷ s)) (more_args_go m e s))

call_goes : {ts rest : List Terminal} {c : CallText} (d : IsCall ts c rest) → (s : List Sym) → Goes ts (only word.Name ∷ call_args ∷ s) (call_nesting d (nesting s)) rest s
call_goes (a_call d) s = take refl (take refl (next (args_go d ((refl, refl), (refl, refl, refl, refl)) (only word.Close ∷ s)) (take refl (stay refl))))

right_goes : {ts rest : List Terminal} {r : Right} (d : IsRight ts r rest) → EndsExpr rest → (s : List Sym) → Goes ts (right ∷ s) (right_nesting d (nesting s)) rest s
right_goes (right_value d) e s = stay_then (expr_in_right d s) (expr_goes d e s)
right_goes right_draw e s = take refl (stay refl)
right_goes right_new e s = take refl (stay refl)
right_goes (right_call d) e s = take refl (call_goes d s)
right_goes (right_spawn d) e s = take refl (call_goes d s)

-- the word call comes
abbrev IsCalled : List Terminal → Type 0
IsCalled [] = ⊥
IsCalled (t ∷ ts) = Skips into t × EndsExpr (t ∷ ts)

into_ends : {ts rest : List Terminal} {o : Option Name} → IsInto ts o rest → IsCalled rest → EndsExpr ts
into_ends {ts = []} no_into e = absurd e
into_ends {ts = t ∷ ts} no_into e = e.1
into_ends an_into e = (refl, refl, refl, refl)

skip_into : (rest : List Terminal) (s : List Sym) → IsCalled rest → nestings rest (into ∷ s) ≡ nestings rest s
skip_into [] s e = absurd e
skip_into (t ∷ ts) s e = skip into t ts s refl e.0

into_goes : {ts rest : List Terminal} {o : Option Name} (d : IsInto ts o rest) → IsCalled rest → (s : List Sym) → Goes ts (into ∷ s) (into_nesting d (nesting s)) rest s
into_goes {rest = rest} no_into e s = stay (skip_into rest s e)
into_goes an_into e s = take refl (take refl (stay refl))

same_bytes-refl : (n : List ℕ) → same_bytes n n ≡ true
same_bytes-refl [] = refl
same_bytes-refl (b ∷ bs) = ap (λ c. c && same_bytes bs bs) (eq-eqb b b refl) ∙ same_bytes-refl bs

-- the loop's name again
pub exact_step : (n : List ℕ) (s : List Sym) → consume word.Name n (exactly n ∷ s) ≡ Some s
exact_step n s = ap (λ b. choose (cond b (Some []) None) false s (consume word.Name n s)) (same_bytes-refl n)

-- a token comes at which an if ends
abbrev pub EndsIf : List Terminal → Type 0
EndsIf [] = ⊥
EndsIf (t ∷ ts) = Skips otherwise t

pub block_starts : {ts rest : List Terminal} {p : List Stmt} → IsBlock ts p rest → EndsExpr ts
block_starts (a_block d) = (refl, refl, refl, refl)

-- none of the words that begin a statement is else
stmt_starts : {ts rest : List Terminal} {x : Stmt} → IsStmt ts x rest → EndsIf ts
stmt_starts (a_let d) = refl
stmt_starts an_array = refl
stmt_starts (a_set d) = refl
stmt_starts (a_store d e) = refl
stmt_starts (a_spawn d) = refl
stmt_starts (a_call_stmt d) = refl
stmt_starts a_sync = refl
stmt_starts (a_print d) = refl
stmt_starts (an_if d e f) = refl
stmt_starts (a_while d e) = refl
stmt_starts (a_pfor d e f g) = refl
stmt_starts (a_scope d) = refl

-- statements end at a token that begins none, and isn't else
abbrev pub EndsStmts : List Terminal → Type 0
EndsStmts [] = ⊥
EndsStmts (t ∷ ts) = Skips stmts t × Skips otherwise t

pub stmts_start : {ts rest : List Terminal} {xs : List Stmt} → IsStmts ts xs rest → EndsStmts rest → EndsIf ts
stmts_start {ts = []} no_stmts e = absurd e
stmts_start {ts = t ∷ ts} no_stmts e = e.1
stmts_start (one_stmt d f) e = stmt_starts d

skip_stmts : (rest : List Terminal) (s : List Sym) → EndsStmts rest → nestings rest (stmts ∷ s) ≡ nestings rest s
skip_stmts [] s e = absurd e
skip_stmts (t ∷ ts) s e = skip stmts t ts s refl e.0

skip_otherwise : (rest : List Terminal) (s : List Sym) → EndsIf rest → nestings rest (otherwise ∷ s) ≡ nestings rest s
skip_otherwise [] s e = absurd e
skip_otherwise (t ∷ ts) s e = skip otherwise t ts s refl e

mutual
  pub stmt_goes : {ts rest : List Terminal} {x : Stmt} (d : IsStmt ts x rest) → EndsIf rest → (s : List Sym) → Goes ts (stmts ∷ s) (stmt_nesting d (nesting s)) rest (stmts ∷ s)
  stmt_goes (a_let d) e s = take refl (take refl (take refl (next (right_goes d (refl, refl, refl, refl) (only word.Semicolon ∷ stmts ∷ s)) (take refl (stay refl)))))
  stmt_goes an_array e s = take refl (take refl (take refl (take refl (take refl (take refl (stay refl))))))
  stmt_goes (a_set d) e s = take refl (take refl (next (right_goes d (refl, refl, refl, refl) (only word.Semicolon ∷ stmts ∷ s)) (take refl (stay refl))))
  stmt_goes (a_store d f) e s =
      take refl (take refl (next (expr_goes d (refl, refl, refl, refl) (only word.CloseItem ∷ only word.Assign ∷ expr_then (only word.Semicolon ∷ stmts ∷ s)))
      (take refl (take refl (next (expr_goes f (refl, refl, refl, refl) (only word.Semicolon ∷ stmts ∷ s)) (take refl (stay refl)))))))
  stmt_goes (a_spawn d) e s = take refl (next (call_goes d (only word.Semicolon ∷ stmts ∷ s)) (take refl (stay refl)))
  stmt_goes (a_call_stmt d) e s = take refl (next (call_goes d (only word.Semicolon ∷ stmts ∷ s)) (take refl (stay refl)))
  stmt_goes a_sync e s = take refl (take refl (stay refl))
  stmt_goes (a_print d) e s = take refl (next (expr_goes d (refl, refl, refl, refl) (only word.Semicolon ∷ stmts ∷ s)) (take refl (stay refl)))
  stmt_goes (an_if d f g) e s = take refl (next (expr_goes d (block_starts f) (block ∷ otherwise ∷ stmts ∷ s)) (next (block_goes f (otherwise ∷ stmts ∷ s)) (else_goes g e (stmts ∷ s))))
  stmt_goes (a_while d f) e s = take refl (next (expr_goes d (block_starts f) (block ∷ stmts ∷ s)) (block_goes f (stmts ∷ s)))
  stmt_goes (a_pfor {n = n} d f i m) e s =
      take refl (take refl (take refl (next (expr_goes d (refl, refl, refl, refl) _)
      (take refl (next (expr_goes f (into_ends i (refl, (refl, refl, refl, refl))) _) (next (into_goes i (refl, (refl, refl, refl, refl)) _)
      (take refl (take refl (take refl (take (exact_step n _) (next (more_args_go m ((refl, refl), (refl, refl, refl, refl)) (only word.Close ∷ only word.Semicolon ∷ stmts ∷ s)) (take refl (take refl (stay refl))))))))))))))
  stmt_goes (a_scope d) e s = take refl (block_goes d (stmts ∷ s))

  pub stmts_go : {ts rest : List Terminal} {xs : List Stmt} (d : IsStmts ts xs rest) → EndsStmts rest → (s : List Sym) → Goes ts (stmts ∷ s) (stmts_nesting d (nesting s)) rest s
  stmts_go {rest = rest} no_stmts e s = stay (skip_stmts rest s e)
  stmts_go (one_stmt d f) e s = next (stmt_goes d (stmts_start f e) s) (stmts_go f e s)

  pub block_goes : {ts rest : List Terminal} {p : List Stmt} (d : IsBlock ts p rest) → (s : List Sym) → Goes ts (block ∷ s) (block_nesting d (nesting s)) rest s
  block_goes (a_block d) s = take refl (next (stmts_go d (refl, refl) (only word.CloseBlock ∷ s)) (take refl (stay refl)))

  pub else_goes : {ts rest : List Terminal} {q : List Stmt} (d : IsElse ts q rest) → EndsIf rest → (s : List Sym) → Goes ts (otherwise ∷ s) (else_nesting d (nesting s)) rest s
  else_goes {rest = rest} no_else e s = stay (skip_otherwise rest s e)
  else_goes (an_else d) e s = take refl (block_goes d s)

param_goes : {ts rest : List Terminal} {x : Param} (d : IsParam ts x rest) → (s : List Sym) → Goes ts (param ∷ s) (param_nesting d (nesting s)) rest s
param_goes int_param s = take refl (stay refl)
param_goes id_param s = take refl (take refl (stay refl))

first_param : {ts rest : List Terminal} {x : Param} (d : IsParam ts x rest) → (s : List Sym) → Goes ts (params ∷ s) (param_nesting d (nesting s)) rest (more_params ∷ s)
first_param int_param s = take refl (stay refl)
first_param id_param s = take refl (take refl (stay refl))

-- the parenthesis after parameters comes
abbrev IsParamsEnd : List Terminal → Type 0
IsParamsEnd [] = ⊥
IsParamsEnd (t ∷ ts) = Skips more_params t × Skips params t

skip_more_params : (rest : List Terminal) (s : List Sym) → IsParamsEnd rest → nestings rest (more_params ∷ s) ≡ nestings rest s
skip_more_params [] s e = absurd e
skip_more_params (t ∷ ts) s e = skip more_params t ts s refl e.0

skip_params : (rest : List Terminal) (s : List Sym) → IsParamsEnd rest → nestings rest (params ∷ s) ≡ nestings rest s
skip_params [] s e = absurd e
skip_params (t ∷ ts) s e = skip params t ts s refl e.1

more_params_go : {ts rest : List Terminal} {xs : List Param} (d : IsMoreParams ts xs rest) → IsParamsEnd rest → (s : List Sym) → Goes ts (more_params ∷ s) (more_params_nesting d (nesting s)) rest s
more_params_go {rest = rest} no_more_params e s = stay (skip_more_params rest s e)
more_params_go (one_more_param d m) e s = take refl (next (param_goes d (more_params ∷ s)) (more_params_go m e s))

params_go : {ts rest : List Terminal} {xs : List Param} (d : IsParams ts xs rest) → IsParamsEnd rest → (s : List Sym) → Goes ts (params ∷ s) (params_nesting d (nesting s)) rest s
params_go {rest = rest} no_params e s = stay (skip_params rest s e)
params_go (some_params d m) e s = next (first_param d s) (more_params_go m e s)

-- the brace of a body comes
abbrev IsBodyStart : List Terminal → Type 0
IsBodyStart [] = ⊥
IsBodyStart (t ∷ ts) = Skips answer t

skip_answer : (rest : List Terminal) (s : List Sym) → IsBodyStart rest → nestings rest (answer ∷ s) ≡ nestings rest s
skip_answer [] s e = absurd e
skip_answer (t ∷ ts) s e = skip answer t ts s refl e

answer_goes : {ts rest : List Terminal} {k : Kind} (d : IsAnswerKind ts k rest) → IsBodyStart rest → (s : List Sym) → Goes ts (answer ∷ s) (answer_nesting d (nesting s)) rest s
answer_goes {rest = rest} int_answer e s = stay (skip_answer rest s e)
answer_goes id_answer e s = take refl (take refl (stay refl))

function_goes : {ts rest : List Terminal} {f : Function} (d : IsFunction ts f rest) → (s : List Sym) → Goes ts (functions ∷ s) (function_nesting d (nesting s)) rest (functions ∷ s)
function_goes (a_function p k d f) s =
    take refl (take refl (take refl (next (params_go p (refl, refl) (only word.Close ∷ answer ∷ body ∷ functions ∷ s))
    (take refl (next (answer_goes k refl (body ∷ functions ∷ s))
    (take refl (next (stmts_go d (refl, refl) (only word.Return ∷ expr_then (only word.Semicolon ∷ only word.CloseBlock ∷ functions ∷ s)))
    (take refl (next (expr_goes f (refl, refl, refl, refl) (only word.Semicolon ∷ only word.CloseBlock ∷ functions ∷ s)) (take refl (take refl (stay refl))))))))))))

pub functions_go : {ts rest : List Terminal} {fs : List Function} (d : IsFunctions ts fs rest) → (s : List Sym) → Goes ts (functions ∷ s) (functions_nesting d (nesting s)) rest (functions ∷ s)
functions_go no_functions s = stay refl
functions_go (one_function f fs) s = next (function_goes f s) (functions_go fs s)

pub ending_of : Nestings → Option (List Sym)
ending_of None = None
ending_of (Some p) = Some p.1

-- the stack in the end is that of the plain run
pub run_of_trace : (ts : List Terminal) (s : List Sym) → ending_of (nestings ts s) ≡ consume_all ts s
unfolding ending_of
run_of_trace [] s = refl
run_of_trace (t ∷ ts) s = go (consume t.word t.text s) (λ x. run_of_trace ts x)
  where
    last : (n : ℕ) (o : Nestings) → ending_of (option_and_then (λ p. Some (n ∷ p.0, p.1)) o) ≡ ending_of o
    last n None = refl
    last n (Some p) = refl

    go : (o : Option (List Sym)) → ((x : List Sym) → ending_of (nestings ts x) ≡ consume_all ts x) → ending_of (onward o (nestings ts)) ≡ option_and_then (consume_all ts) o
    go None ih = refl
    go (Some x) ih = last (nesting x) (nestings ts x) ∙ ih x

pub script_traced : {ts : List Terminal} {fs : List Function} (d : IsScript ts fs) → nestings ts (functions ∷ []) ≡ Some (functions_nesting d 0, functions ∷ [])
script_traced d = (functions_go d []).traced ∙ ap (λ ns. Some (ns, functions ∷ [])) (append-nil (functions_nesting d 0))

pub script_runs : {ts : List Terminal} {fs : List Function} → IsScript ts fs → consume_all ts (functions ∷ []) ≡ Some (functions ∷ [])
unfolding ending_of
script_runs {ts = ts} d = sym (run_of_trace ts (functions ∷ [])) ∙ ap (ending_of) (script_traced d)
