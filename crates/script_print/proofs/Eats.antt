-- A derivation reads the tokens before its rest, and no `fn` among them but where a function begins.
use Rattle.std.proofs.Common.{◌≡◌, ℕ, suc, ◌+◌, List, [], ◌∷◌, length, Bool, true, false, Option, if◌then◌else◌, refl, sym, ap, ◌∙◌, arith}
use Rattle.script_tokens.specs.declared.token.Word.{Word}
use Rattle.script_tokens.specs.declared.token.Word.TheVariants as word
use Rattle.script_grammar.specs.declared.tree.Name.{Name}
use Rattle.script_grammar.specs.declared.tree.Expr.{Expr}
use Rattle.script_grammar.specs.declared.tree.SumPart.{SumPart}
use Rattle.script_grammar.specs.declared.tree.ProductPart.{ProductPart}
use Rattle.script_grammar.specs.declared.tree.ProductSign.{ProductSign}
use Rattle.script_grammar.specs.declared.tree.Comparison.{Comparison}
use Rattle.script_grammar.specs.declared.tree.CallText.{CallText}
use Rattle.script_grammar.specs.declared.tree.Right.{Right}
use Rattle.script_grammar.specs.declared.tree.Stmt.{Stmt}
use Rattle.script_grammar.specs.declared.tree.Kind.{Kind}
use Rattle.script_grammar.specs.declared.tree.Param.{Param}
use Rattle.script_grammar.specs.declared.tree.Function.{Function}
use Rattle.script_grammar.specs.Grammar.{Terminal, tok, IsSumSign, a_plus, a_minus, IsProductSign, a_times, an_over, a_modulo, IsComparison, an_eq, a_ne, a_lt, a_le, a_gt, a_ge, IsFactor, a_neg, a_number, a_name, an_item, a_group, a_same, an_older, IsTerm, factors, IsFactors, no_factors, one_factor, IsSum, terms, IsTerms, no_terms, one_term, IsExpr, alone, compared, IsMoreArgs, no_more_args, one_more_arg, IsArgs, no_args, some_args, IsCall, a_call, IsRight, right_value, right_draw, right_new, right_call, right_spawn, IsInto, no_into, an_into, IsStmt, a_let, an_array, a_set, a_store, a_spawn, a_call_stmt, a_sync, a_print, an_if, a_while, a_pfor, a_scope, IsStmts, no_stmts, one_stmt, IsBlock, a_block, IsElse, no_else, an_else, IsParam, int_param, id_param, IsMoreParams, no_more_params, one_more_param, IsParams, no_params, some_params, IsAnswerKind, int_answer, id_answer, IsFunction, a_function, IsFunctions, no_functions, one_function}
use Rattle.script_grammar.specs.Fault.{is_fn, functions_begun}

-- the tokens before the rest, among which there is no `fn`
pub data Eats : List Terminal → List Terminal → Type 0 where
  eaten : {ts : List Terminal} → Eats ts ts
  one : {t : Terminal} {ts rest : List Terminal} → is_fn t.word ≡ false → Eats ts rest → Eats (t ∷ ts) rest

pub also : {ts mid rest : List Terminal} → Eats ts mid → Eats mid rest → Eats ts rest
also eaten e = e
also (one h d) e = one h (also d e)

product_sign_eats : {k : Word} {s : ProductSign} → IsProductSign k s → is_fn k ≡ false
product_sign_eats a_times = refl
product_sign_eats an_over = refl
product_sign_eats a_modulo = refl

sum_sign_eats : {k : Word} {s : Bool} → IsSumSign k s → is_fn k ≡ false
sum_sign_eats a_plus = refl
sum_sign_eats a_minus = refl

comparison_eats : {k : Word} {s : Comparison} → IsComparison k s → is_fn k ≡ false
comparison_eats an_eq = refl
comparison_eats a_ne = refl
comparison_eats a_lt = refl
comparison_eats a_le = refl
comparison_eats a_gt = refl
comparison_eats a_ge = refl

mutual
  pub factor_eats : {ts rest : List Terminal} {x : Expr} → IsFactor ts x rest → Eats ts rest
  factor_eats (a_neg d) = one refl (factor_eats d)
  factor_eats a_number = one refl eaten
  factor_eats a_name = one refl eaten
  factor_eats (an_item d) = one refl (one refl (also (expr_eats d) (one refl eaten)))
  factor_eats (a_group d) = one refl (also (expr_eats d) (one refl eaten))
  factor_eats (a_same d e) = one refl (one refl (also (expr_eats d) (one refl (also (expr_eats e) (one refl eaten)))))
  factor_eats (an_older d e) = one refl (one refl (also (expr_eats d) (one refl (also (expr_eats e) (one refl eaten)))))

  pub term_eats : {ts rest : List Terminal} {x : Expr} → IsTerm ts x rest → Eats ts rest
  term_eats (factors d e) = also (factor_eats d) (factors_eats e)

  pub factors_eats : {ts rest : List Terminal} {xs : List ProductPart} → IsFactors ts xs rest → Eats ts rest
  factors_eats no_factors = eaten
  factors_eats (one_factor k d e) = one (product_sign_eats k) (also (factor_eats d) (factors_eats e))

  pub sum_eats : {ts rest : List Terminal} {x : Expr} → IsSum ts x rest → Eats ts rest
  sum_eats (terms d e) = also (term_eats d) (terms_eats e)

  pub terms_eats : {ts rest : List Terminal} {xs : List SumPart} → IsTerms ts xs rest → Eats ts rest
  terms_eats no_terms = eaten
  terms_eats (one_term k d e) = one (sum_sign_eats k) (also (term_eats d) (terms_eats e))

  pub expr_eats : {ts rest : List Terminal} {x : Expr} → IsExpr ts x rest → Eats ts rest
  expr_eats (alone d) = sum_eats d
  expr_eats (compared d k e) = also (sum_eats d) (one (comparison_eats k) (sum_eats e))

pub more_args_eats : {ts rest : List Terminal} {xs : List Expr} → IsMoreArgs ts xs rest → Eats ts rest
more_args_eats no_more_args = eaten
more_args_eats (one_more_arg d e) = one refl (also (expr_eats d) (more_args_eats e))

pub args_eats : {ts rest : List Terminal} {xs : List Expr} → IsArgs ts xs rest → Eats ts rest
args_eats no_args = eaten
args_eats (some_args d e) = also (expr_eats d) (more_args_eats e)

pub call_eats : {ts rest : List Terminal} {c : CallText} → IsCall ts c rest → Eats ts rest
call_eats (a_call d) = one refl (one refl (also (args_eats d) (one refl eaten)))

pub right_eats : {ts rest : List Terminal} {r : Right} → IsRight ts r rest → Eats ts rest
right_eats (right_value d) = expr_eats d
right_eats right_draw = one refl eaten
right_eats right_new = one refl eaten
right_eats (right_call d) = one refl (call_eats d)
right_eats (right_spawn d) = one refl (call_eats d)

pub into_eats : {ts rest : List Terminal} {o : Option Name} → IsInto ts o rest → Eats ts rest
into_eats no_into = eaten
into_eats an_into = one refl (one refl eaten)

mutual
  pub stmt_eats : {ts rest : List Terminal} {x : Stmt} → IsStmt ts x rest → Eats ts rest
  stmt_eats (a_let d) = one refl (one refl (one refl (also (right_eats d) (one refl eaten))))
  stmt_eats an_array = one refl (one refl (one refl (one refl (one refl (one refl eaten)))))
  stmt_eats (a_set d) = one refl (one refl (also (right_eats d) (one refl eaten)))
  stmt_eats (a_store d e) = one refl (one refl (also (expr_eats d) (one refl (one refl (also (expr_eats e) (one refl eaten))))))
  stmt_eats (a_spawn d) = one refl (also (call_eats d) (one refl eaten))
  stmt_eats (a_call_stmt d) = one refl (also (call_eats d) (one refl eaten))
  stmt_eats a_sync = one refl (one refl eaten)
  stmt_eats (a_print d) = one refl (also (expr_eats d) (one refl eaten))
  stmt_eats (an_if d e f) = one refl (also (expr_eats d) (also (block_eats e) (else_eats f)))
  stmt_eats (a_while d e) = one refl (also (expr_eats d) (block_eats e))
  stmt_eats (a_scope d) = one refl (block_eats d)
  stmt_eats (a_pfor d e f g) =
      one refl (one refl (one refl (also (expr_eats d) (one refl (also (expr_eats e) (also (into_eats f)
      (one refl (one refl (one refl (one refl (also (more_args_eats g) (one refl (one refl eaten)))))))))))))

  pub stmts_eats : {ts rest : List Terminal} {xs : List Stmt} → IsStmts ts xs rest → Eats ts rest
  stmts_eats no_stmts = eaten
  stmts_eats (one_stmt d e) = also (stmt_eats d) (stmts_eats e)

  pub block_eats : {ts rest : List Terminal} {xs : List Stmt} → IsBlock ts xs rest → Eats ts rest
  block_eats (a_block d) = one refl (also (stmts_eats d) (one refl eaten))

  pub else_eats : {ts rest : List Terminal} {xs : List Stmt} → IsElse ts xs rest → Eats ts rest
  else_eats no_else = eaten
  else_eats (an_else d) = one refl (block_eats d)

pub param_eats : {ts rest : List Terminal} {x : Param} → IsParam ts x rest → Eats ts rest
param_eats int_param = one refl eaten
param_eats id_param = one refl (one refl eaten)

pub more_params_eats : {ts rest : List Terminal} {xs : List Param} → IsMoreParams ts xs rest → Eats ts rest
more_params_eats no_more_params = eaten
more_params_eats (one_more_param d e) = one refl (also (param_eats d) (more_params_eats e))

pub params_eats : {ts rest : List Terminal} {xs : List Param} → IsParams ts xs rest → Eats ts rest
params_eats no_params = eaten
params_eats (some_params d e) = also (param_eats d) (more_params_eats e)

pub answer_eats : {ts rest : List Terminal} {k : Kind} → IsAnswerKind ts k rest → Eats ts rest
answer_eats int_answer = eaten
answer_eats id_answer = one refl (one refl eaten)

-- `fn`, and then these
pub function_eats : {ts rest : List Terminal} {f : Function} → IsFunction ts f rest → (t : Terminal) × (us : List Terminal) × (ts ≡ t ∷ us) × (is_fn t.word ≡ true) × Eats us rest
function_eats (a_function {a} {b} {c} {d} {e} {f} {g} {h} {t} {n} {u} {v} {w} {x} {y} {z} {ts} p k body r) = (
  tok a word.Fn t,
  tok b word.Name n ∷ tok c word.Open u ∷ ts,
  refl,
  refl,
  one refl (one refl (also (params_eats p) (one refl (also (answer_eats k) (one refl (also (stmts_eats body) (one refl (also (expr_eats r) (one refl (one refl eaten)))))))))),
)

begun_after : {ts rest : List Terminal} → Eats ts rest → functions_begun ts ≡ functions_begun rest
begun_after eaten = refl
begun_after (one {t = t} {ts = ts} h e) = ap (λ b. if b then suc (functions_begun ts) else functions_begun ts) h ∙ begun_after e

-- a script begins as many functions as it has
pub functions_counted : {ts rest : List Terminal} {fs : List Function} → IsFunctions ts fs rest → functions_begun ts ≡ length fs + functions_begun rest
functions_counted no_functions = omega arith
functions_counted (one_function {ts = ts} d e) =
    let h = function_eats d in
    let here : functions_begun (h.0 ∷ h.1) ≡ suc (functions_begun h.1) = ap (λ b. if b then suc (functions_begun h.1) else functions_begun h.1) h.3 in
    let all : functions_begun ts ≡ suc (functions_begun h.1) = ap functions_begun h.2 ∙ here in
    omega (arith, all, begun_after h.4, functions_counted e)
