-- The nesting at each token, told from the tokens before it alone.
use Rattle.std.proofs.Common.{◌≡◌, ℕ, zero, suc, ◌+◌, List, [], ◌∷◌, ◌++◌, Option, Bool, true, false, refl, sym, ap, ◌∙◌, append_assoc, append-nil}
use Rattle.script_tokens.specs.declared.token.Word.{Word}
use Rattle.script_tokens.specs.declared.token.Word.TheVariants as word
use Rattle.script_grammar.specs.declared.tree.Name.{Name}
use Rattle.script_grammar.specs.declared.tree.Expr.{Expr}
use Rattle.script_grammar.specs.declared.tree.SumPart.{SumPart}
use Rattle.script_grammar.specs.declared.tree.ProductPart.{ProductPart}
use Rattle.script_grammar.specs.declared.tree.ProductSign.{ProductSign}
use Rattle.script_grammar.specs.declared.tree.Comparison.{Comparison}
use Rattle.script_grammar.specs.declared.tree.CallText.{CallText}
use Rattle.script_grammar.specs.declared.tree.Right.{Right}
use Rattle.script_grammar.specs.declared.tree.Stmt.{Stmt}
use Rattle.script_grammar.specs.declared.tree.Kind.{Kind}
use Rattle.script_grammar.specs.declared.tree.Param.{Param}
use Rattle.script_grammar.specs.declared.tree.Function.{Function}
use Rattle.script_grammar.specs.Grammar.{Terminal, tok, IsSumSign, a_plus, a_minus, IsProductSign, a_times, an_over, a_modulo, IsComparison, an_eq, a_ne, a_lt, a_le, a_gt, a_ge, IsFactor, a_neg, a_number, a_name, an_item, a_group, a_same, an_older, IsTerm, factors, IsFactors, no_factors, one_factor, IsSum, terms, IsTerms, no_terms, one_term, IsExpr, alone, compared, IsMoreArgs, no_more_args, one_more_arg, IsArgs, no_args, some_args, IsCall, a_call, IsRight, right_value, right_draw, right_new, right_call, right_spawn, IsInto, no_into, an_into, IsStmt, a_let, an_array, a_set, a_store, a_spawn, a_call_stmt, a_sync, a_print, an_if, a_while, a_pfor, a_scope, IsStmts, no_stmts, one_stmt, IsBlock, a_block, IsElse, no_else, an_else, IsParam, int_param, id_param, IsMoreParams, no_more_params, one_more_param, IsParams, no_params, some_params, IsAnswerKind, int_answer, id_answer, IsFunction, a_function, IsFunctions, no_functions, one_function}
use Rattle.script_grammar.specs.Nesting.{factor_nesting, term_nesting, factors_nesting, sum_nesting, terms_nesting, expr_nesting, more_args_nesting, args_nesting, call_nesting, right_nesting, into_nesting, stmt_nesting, stmts_nesting, block_nesting, else_nesting, param_nesting, more_params_nesting, params_nesting, answer_nesting, function_nesting, functions_nesting}

-- what a word does to the nesting
pub data Effect : Type 0 where
  opens : Effect
  opens_item : Effect
  opens_block : Effect
  closes : Effect
  negates : Effect
  names : Effect
  ends : Effect
  leads : Effect

abbrev pub effect : Word → Effect
effect word.Open = opens
effect word.OpenItem = opens_item
effect word.OpenBlock = opens_block
effect word.Close = closes
effect word.CloseItem = closes
effect word.CloseBlock = closes
effect word.Minus = negates
effect word.Name = names
effect word.Number = ends
effect word.Draw = ends
effect word.New = ends
effect word.Semicolon = ends
effect _ = leads

-- whether an operand is due, a name was read that may be an array's, or neither
pub data Mode : Type 0 where
  due : Mode
  named : Mode
  done : Mode

-- how many brackets and minuses are open here, and without the minuses after the last bracket; and both before each open bracket
pub record ScanState : Type 0 where
  pub mode : Mode
  pub depth : ℕ
  pub inside : ℕ
  pub outer : List (ℕ × ℕ)

abbrev pub at : Mode → ℕ → ℕ → List (ℕ × ℕ) → ScanState
at q m b o = record { mode = q; depth = m; inside = b; outer = o }

-- after a name, the minuses before it have ended, unless a bracket follows
abbrev pub settled : Mode → ℕ → ℕ → ℕ
settled due m b = m
settled named m b = b
settled done m b = m

abbrev pub before_closer : List (ℕ × ℕ) → ℕ
before_closer [] = 0
before_closer (p ∷ o) = p.0

abbrev pub after_closer : List (ℕ × ℕ) → ScanState
after_closer [] = at done 0 0 []
after_closer (p ∷ o) = at done p.1 p.1 o

abbrev pub minus_nested : Mode → ℕ → ℕ → ℕ
minus_nested due m b = suc m
minus_nested named m b = b
minus_nested done m b = m

-- the nesting at the token
abbrev pub nested : Effect → ScanState → ℕ
nested opens s = suc (settled s.mode s.depth s.inside)
nested opens_item s = suc s.depth
nested opens_block s = suc (settled s.mode s.depth s.inside)
nested closes s = before_closer s.outer
nested negates s = minus_nested s.mode s.depth s.inside
nested names s = settled s.mode s.depth s.inside
nested ends s = settled s.mode s.depth s.inside
nested leads s = settled s.mode s.depth s.inside

abbrev pub step : Effect → ScanState → ScanState
step opens s = at due (suc (settled s.mode s.depth s.inside)) (suc (settled s.mode s.depth s.inside)) ((settled s.mode s.depth s.inside, s.inside) ∷ s.outer)
step opens_item s = at due (suc s.depth) (suc s.depth) ((s.depth, s.inside) ∷ s.outer)
step opens_block s = at done (suc (settled s.mode s.depth s.inside)) (suc (settled s.mode s.depth s.inside)) ((settled s.mode s.depth s.inside, s.inside) ∷ s.outer)
step closes s = after_closer s.outer
step negates s = at due (minus_nested s.mode s.depth s.inside) s.inside s.outer
step names s = at named (settled s.mode s.depth s.inside) s.inside s.outer
step ends s = at done s.inside s.inside s.outer
step leads s = at due (settled s.mode s.depth s.inside) s.inside s.outer

abbrev pub scan : ScanState → List Terminal → List ℕ
scan s [] = []
scan s (t ∷ ts) = nested (effect t.word) s ∷ scan (step (effect t.word) s) ts

-- from one state the scan comes to the other, by tokens nested so
pub record Goes (ts : List Terminal) (s : ScanState) (ns : List ℕ) (rest : List Terminal) (s' : ScanState) : Type 0 where
  pub scanned : scan s ts ≡ ns ++ scan s' rest

stay : {rest : List Terminal} {s : ScanState} → Goes rest s [] rest s
stay = record { scanned = refl }

next : {ts mid rest : List Terminal} {s s' s'' : ScanState} {ms ns : List ℕ} → Goes ts s ms mid s' → Goes mid s' ns rest s'' → Goes ts s (ms ++ ns) rest s''
next {rest = rest} {s'' = s''} {ms = ms} {ns = ns} g h = record { scanned = g.scanned ∙ ap (λ z. ms ++ z) h.scanned ∙ sym (append_assoc ms ns (scan s'' rest)) }

take : {t : Terminal} {ts rest : List Terminal} {s s' : ScanState} {ns : List ℕ} → Goes ts (step (effect t.word) s) ns rest s' → Goes (t ∷ ts) s (nested (effect t.word) s ∷ ns) rest s'
take {t = t} {s = s} g = record { scanned = ap (λ z. nested (effect t.word) s ∷ z) g.scanned }

-- no bracket of an item comes
abbrev pub is_item : Effect → Bool
is_item opens_item = true
is_item _ = false

abbrev pub NoItem : List Terminal → Type 0
NoItem [] = Unit {0}
NoItem (t ∷ ts) = is_item (effect t.word) ≡ false

name_ends : (m b : ℕ) (o : List (ℕ × ℕ)) (rest : List Terminal) → NoItem rest → scan (at named m b o) rest ≡ scan (at done b b o) rest
name_ends m b o [] h = refl
name_ends m b o (t ∷ ts) h = go (effect t.word) h
  where
    go : (e : Effect) → is_item e ≡ false → ◌≡◌ {A = List ℕ} (nested e (at named m b o) ∷ scan (step e (at named m b o)) ts) (nested e (at done b b o) ∷ scan (step e (at done b b o)) ts)
    go opens h = refl
    go opens_item h = absurd cc
    go opens_block h = refl
    go closes h = refl
    go negates h = refl
    go names h = refl
    go ends h = refl
    go leads h = refl

name_done : (m b : ℕ) (o : List (ℕ × ℕ)) (rest : List Terminal) → NoItem rest → Goes rest (at named m b o) [] rest (at done b b o)
name_done m b o rest h = record { scanned = name_ends m b o rest h }

product_sign_leads : {k : Word} {s : ProductSign} → IsProductSign k s → effect k ≡ leads
product_sign_leads a_times = refl
product_sign_leads an_over = refl
product_sign_leads a_modulo = refl

comparison_leads : {k : Word} {s : Comparison} → IsComparison k s → effect k ≡ leads
comparison_leads an_eq = refl
comparison_leads a_ne = refl
comparison_leads a_lt = refl
comparison_leads a_le = refl
comparison_leads a_gt = refl
comparison_leads a_ge = refl

factors_no_item : {mid rest : List Terminal} {xs : List ProductPart} → IsFactors mid xs rest → NoItem rest → NoItem mid
factors_no_item no_factors h = h
factors_no_item (one_factor a_times d e) h = refl
factors_no_item (one_factor an_over d e) h = refl
factors_no_item (one_factor a_modulo d e) h = refl

terms_no_item : {mid rest : List Terminal} {xs : List SumPart} → IsTerms mid xs rest → NoItem rest → NoItem mid
terms_no_item no_terms h = h
terms_no_item (one_term a_plus d e) h = refl
terms_no_item (one_term a_minus d e) h = refl

more_args_no_item : {mid rest : List Terminal} {xs : List Expr} → IsMoreArgs mid xs rest → NoItem rest → NoItem mid
more_args_no_item no_more_args h = h
more_args_no_item (one_more_arg d e) h = refl

more_params_no_item : {mid rest : List Terminal} {xs : List Param} → IsMoreParams mid xs rest → NoItem rest → NoItem mid
more_params_no_item no_more_params h = h
more_params_no_item (one_more_param d e) h = refl

into_no_item : {mid rest : List Terminal} {o : Option Name} → IsInto mid o rest → NoItem rest → NoItem mid
into_no_item no_into h = h
into_no_item an_into h = refl

block_no_item : {mid rest : List Terminal} {p : List Stmt} → IsBlock mid p rest → NoItem mid
block_no_item (a_block d) = refl

mutual
  factor_scanned : {ts rest : List Terminal} {x : Expr} (d : IsFactor ts x rest) (m b : ℕ) (o : List (ℕ × ℕ)) → NoItem rest → Goes ts (at due m b o) (factor_nesting d m) rest (at done b b o)
  factor_scanned (a_neg d) m b o h = take (factor_scanned d (suc m) b o h)
  factor_scanned a_number m b o h = take stay
  factor_scanned (a_name {rest = rest}) m b o h = take (name_done m b o rest h)
  factor_scanned (an_item d) m b o h = take (take (next (expr_scanned d (suc m) ((m, b) ∷ o) refl) (take stay)))
  factor_scanned (a_group d) m b o h = take (next (expr_scanned d (suc m) ((m, b) ∷ o) refl) (take stay))
  factor_scanned (a_same d e) m b o h = take (take (next (expr_scanned d (suc m) ((m, b) ∷ o) refl) (take (next (expr_scanned e (suc m) ((m, b) ∷ o) refl) (take stay)))))
  factor_scanned (an_older d e) m b o h = take (take (next (expr_scanned d (suc m) ((m, b) ∷ o) refl) (take (next (expr_scanned e (suc m) ((m, b) ∷ o) refl) (take stay)))))

  term_scanned : {ts rest : List Terminal} {x : Expr} (d : IsTerm ts x rest) (b : ℕ) (o : List (ℕ × ℕ)) → NoItem rest → Goes ts (at due b b o) (term_nesting d b) rest (at done b b o)
  term_scanned (factors d e) b o h = next (factor_scanned d b b o (factors_no_item e h)) (factors_scanned e b o h)

  factors_scanned : {ts rest : List Terminal} {xs : List ProductPart} (d : IsFactors ts xs rest) (b : ℕ) (o : List (ℕ × ℕ)) → NoItem rest → Goes ts (at done b b o) (factors_nesting d b) rest (at done b b o)
  factors_scanned no_factors b o h = stay
  factors_scanned (one_factor a_times d e) b o h = take (next (factor_scanned d b b o (factors_no_item e h)) (factors_scanned e b o h))
  factors_scanned (one_factor an_over d e) b o h = take (next (factor_scanned d b b o (factors_no_item e h)) (factors_scanned e b o h))
  factors_scanned (one_factor a_modulo d e) b o h = take (next (factor_scanned d b b o (factors_no_item e h)) (factors_scanned e b o h))

  sum_scanned : {ts rest : List Terminal} {x : Expr} (d : IsSum ts x rest) (b : ℕ) (o : List (ℕ × ℕ)) → NoItem rest → Goes ts (at due b b o) (sum_nesting d b) rest (at done b b o)
  sum_scanned (terms d e) b o h = next (term_scanned d b o (terms_no_item e h)) (terms_scanned e b o h)

  terms_scanned : {ts rest : List Terminal} {xs : List SumPart} (d : IsTerms ts xs rest) (b : ℕ) (o : List (ℕ × ℕ)) → NoItem rest → Goes ts (at done b b o) (terms_nesting d b) rest (at done b b o)
  terms_scanned no_terms b o h = stay
  terms_scanned (one_term a_plus d e) b o h = take (next (term_scanned d b o (terms_no_item e h)) (terms_scanned e b o h))
  terms_scanned (one_term a_minus d e) b o h = take (next (term_scanned d b o (terms_no_item e h)) (terms_scanned e b o h))

  expr_scanned : {ts rest : List Terminal} {x : Expr} (d : IsExpr ts x rest) (b : ℕ) (o : List (ℕ × ℕ)) → NoItem rest → Goes ts (at due b b o) (expr_nesting d b) rest (at done b b o)
  expr_scanned (alone d) b o h = sum_scanned d b o h
  expr_scanned (compared d an_eq e) b o h = next (sum_scanned d b o refl) (take (sum_scanned e b o h))
  expr_scanned (compared d a_ne e) b o h = next (sum_scanned d b o refl) (take (sum_scanned e b o h))
  expr_scanned (compared d a_lt e) b o h = next (sum_scanned d b o refl) (take (sum_scanned e b o h))
  expr_scanned (compared d a_le e) b o h = next (sum_scanned d b o refl) (take (sum_scanned e b o h))
  expr_scanned (compared d a_gt e) b o h = next (sum_scanned d b o refl) (take (sum_scanned e b o h))
  expr_scanned (compared d a_ge e) b o h = next (sum_scanned d b o refl) (take (sum_scanned e b o h))

more_args_scanned : {ts rest : List Terminal} {xs : List Expr} (d : IsMoreArgs ts xs rest) (b : ℕ) (o : List (ℕ × ℕ)) → NoItem rest → Goes ts (at done b b o) (more_args_nesting d b) rest (at done b b o)
more_args_scanned no_more_args b o h = stay
more_args_scanned (one_more_arg d e) b o h = take (next (expr_scanned d b o (more_args_no_item e h)) (more_args_scanned e b o h))

-- `(`, arguments, `)`
args_scanned : {ts rest : List Terminal} {xs : List Expr} {c : ℕ} {v : List ℕ} (d : IsArgs ts xs (tok c word.Close v ∷ rest)) (b : ℕ) (p : ℕ × ℕ) (o : List (ℕ × ℕ)) →
    Goes ts (at due b b (p ∷ o)) (args_nesting d b ++ p.0 ∷ []) rest (at done p.1 p.1 o)
args_scanned no_args b p o = take stay
args_scanned (some_args d e) b p o = next (next (expr_scanned d b (p ∷ o) (more_args_no_item e refl)) (more_args_scanned e b (p ∷ o) refl)) (take stay)

call_scanned : {ts rest : List Terminal} {c : CallText} (d : IsCall ts c rest) (b : ℕ) (o : List (ℕ × ℕ)) → Goes ts (at due b b o) (call_nesting d b) rest (at done b b o)
call_scanned (a_call d) b o = take (take (args_scanned d (suc b) (b, b) o))

right_scanned : {ts rest : List Terminal} {r : Right} (d : IsRight ts r rest) (b : ℕ) (o : List (ℕ × ℕ)) → NoItem rest → Goes ts (at due b b o) (right_nesting d b) rest (at done b b o)
right_scanned (right_value d) b o h = expr_scanned d b o h
right_scanned right_draw b o h = take stay
right_scanned right_new b o h = take stay
right_scanned (right_call d) b o h = take (call_scanned d b o)
right_scanned (right_spawn d) b o h = take (call_scanned d b o)

into_scanned : {ts rest : List Terminal} {x : Option Name} (d : IsInto ts x rest) (b : ℕ) (o : List (ℕ × ℕ)) → NoItem rest → Goes ts (at done b b o) (into_nesting d b) rest (at done b b o)
into_scanned no_into b o h = stay
into_scanned (an_into {rest = rest}) b o h = take (take (name_done b b o rest h))

mutual
  stmt_scanned : {ts rest : List Terminal} {x : Stmt} (d : IsStmt ts x rest) (b : ℕ) (o : List (ℕ × ℕ)) → Goes ts (at done b b o) (stmt_nesting d b) rest (at done b b o)
  stmt_scanned (a_let d) b o = take (take (take (next (right_scanned d b o refl) (take stay))))
  stmt_scanned an_array b o = take (take (take (take (take (take stay)))))
  stmt_scanned (a_set d) b o = take (take (next (right_scanned d b o refl) (take stay)))
  stmt_scanned (a_store d e) b o = take (take (next (expr_scanned d (suc b) ((b, b) ∷ o) refl) (take (take (next (expr_scanned e b o refl) (take stay))))))
  stmt_scanned (a_spawn d) b o = take (next (call_scanned d b o) (take stay))
  stmt_scanned (a_call_stmt d) b o = take (next (call_scanned d b o) (take stay))
  stmt_scanned a_sync b o = take (take stay)
  stmt_scanned (a_print d) b o = take (next (expr_scanned d b o refl) (take stay))
  stmt_scanned (an_if d e f) b o = take (next (expr_scanned d b o (block_no_item e)) (next (block_scanned e b o) (else_scanned f b o)))
  stmt_scanned (a_while d e) b o = take (next (expr_scanned d b o (block_no_item e)) (block_scanned e b o))
  stmt_scanned (a_scope d) b o = take (else_block d b o)
  stmt_scanned (a_pfor {ws = ws} d e f g) b o =
      take (take (take (next (expr_scanned d b o refl) (take (next (expr_scanned e b o (into_no_item f refl)) (next (into_scanned f b o refl)
      (take (take (take (take (next (next (name_done (suc b) (suc b) ((b, b) ∷ o) ws (more_args_no_item g refl)) (more_args_scanned g (suc b) ((b, b) ∷ o) refl)) (take (take stay)))))))))))))

  stmts_scanned : {ts rest : List Terminal} {xs : List Stmt} (d : IsStmts ts xs rest) (b : ℕ) (o : List (ℕ × ℕ)) → Goes ts (at done b b o) (stmts_nesting d b) rest (at done b b o)
  stmts_scanned no_stmts b o = stay
  stmts_scanned (one_stmt d e) b o = next (stmt_scanned d b o) (stmts_scanned e b o)

  block_scanned : {ts rest : List Terminal} {xs : List Stmt} (d : IsBlock ts xs rest) (b : ℕ) (o : List (ℕ × ℕ)) → Goes ts (at done b b o) (block_nesting d b) rest (at done b b o)
  block_scanned (a_block d) b o = take (next (stmts_scanned d (suc b) ((b, b) ∷ o)) (take stay))

  else_scanned : {ts rest : List Terminal} {xs : List Stmt} (d : IsElse ts xs rest) (b : ℕ) (o : List (ℕ × ℕ)) → Goes ts (at done b b o) (else_nesting d b) rest (at done b b o)
  else_scanned no_else b o = stay
  else_scanned (an_else d) b o = take (else_block d b o)

  -- after `else`
  else_block : {ts rest : List Terminal} {xs : List Stmt} (d : IsBlock ts xs rest) (b : ℕ) (o : List (ℕ × ℕ)) → Goes ts (at due b b o) (block_nesting d b) rest (at done b b o)
  else_block (a_block d) b o = take (next (stmts_scanned d (suc b) ((b, b) ∷ o)) (take stay))

param_scanned : {ts rest : List Terminal} {x : Param} (d : IsParam ts x rest) (b : ℕ) (o : List (ℕ × ℕ)) → NoItem rest → Goes ts (at due b b o) (param_nesting d b) rest (at done b b o)
param_scanned (int_param {rest = rest}) b o h = take (name_done b b o rest h)
param_scanned (id_param {rest = rest}) b o h = take (take (name_done b b o rest h))

more_params_scanned : {ts rest : List Terminal} {xs : List Param} (d : IsMoreParams ts xs rest) (b : ℕ) (o : List (ℕ × ℕ)) → NoItem rest → Goes ts (at done b b o) (more_params_nesting d b) rest (at done b b o)
more_params_scanned no_more_params b o h = stay
more_params_scanned (one_more_param d e) b o h = take (next (param_scanned d b o (more_params_no_item e h)) (more_params_scanned e b o h))

-- parameters and `)`
params_scanned : {ts rest : List Terminal} {xs : List Param} {c : ℕ} {v : List ℕ} (d : IsParams ts xs (tok c word.Close v ∷ rest)) (b : ℕ) (p : ℕ × ℕ) (o : List (ℕ × ℕ)) →
    Goes ts (at due b b (p ∷ o)) (params_nesting d b ++ p.0 ∷ []) rest (at done p.1 p.1 o)
params_scanned no_params b p o = take stay
params_scanned (some_params d e) b p o = next (next (param_scanned d b (p ∷ o) (more_params_no_item e refl)) (more_params_scanned e b (p ∷ o) refl)) (take stay)

-- the answer and `{`
answer_scanned : {ts rest : List Terminal} {k : Kind} {c : ℕ} {v : List ℕ} (d : IsAnswerKind ts k (tok c word.OpenBlock v ∷ rest)) (b : ℕ) (o : List (ℕ × ℕ)) →
    Goes ts (at done b b o) (answer_nesting d b ++ suc b ∷ []) rest (at done (suc b) (suc b) ((b, b) ∷ o))
answer_scanned int_answer b o = take stay
answer_scanned id_answer b o = take (take (take stay))

renested : {ts rest : List Terminal} {s s' : ScanState} {ms ns : List ℕ} → ms ≡ ns → Goes ts s ms rest s' → Goes ts s ns rest s'
renested {rest = rest} {s' = s'} e g = record { scanned = g.scanned ∙ ap (λ z. z ++ scan s' rest) e }

function_scanned : {ts rest : List Terminal} {f : Function} (d : IsFunction ts f rest) (b : ℕ) (o : List (ℕ × ℕ)) → Goes ts (at done b b o) (function_nesting d b) rest (at done b b o)
function_scanned (a_function p k d e) b o =
    let result = expr_nesting e (suc b) ++ suc b ∷ b ∷ [] in
    let body = stmts_nesting d (suc b) ++ suc b ∷ result in
    take (take (take (renested (append_assoc (params_nesting p (suc b)) (b ∷ []) (answer_nesting k b ++ suc b ∷ body)) (next (params_scanned p (suc b) (b, b) o)
    (renested (append_assoc (answer_nesting k b) (suc b ∷ []) body) (next (answer_scanned k b o)
    (next (stmts_scanned d (suc b) ((b, b) ∷ o)) (take (next (expr_scanned e (suc b) ((b, b) ∷ o) refl) (take (take stay)))))))))))

functions_scanned : {ts rest : List Terminal} {fs : List Function} (d : IsFunctions ts fs rest) (b : ℕ) (o : List (ℕ × ℕ)) → Goes ts (at done b b o) (functions_nesting d b) rest (at done b b o)
functions_scanned no_functions b o = stay
functions_scanned (one_function d e) b o = next (function_scanned d b o) (functions_scanned e b o)

abbrev pub start : ScanState
start = at done 0 0 []

-- of a script the nestings are those of the scan
pub script_scanned : {ts : List Terminal} {fs : List Function} (d : IsFunctions ts fs []) → functions_nesting d 0 ≡ scan start ts
script_scanned d = sym (append-nil (functions_nesting d 0)) ∙ sym (functions_scanned d 0 []).scanned
