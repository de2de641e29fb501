-- The nesting at each token of a derivation inside of n open brackets and minuses: how many brackets are open there, the token itself
-- included, and how many unary minuses whose operand hasn't ended.
use Rattle.std.specs.Prelude.{ℕ, suc, List, [], ◌∷◌, ◌++◌, Option}
use Rattle.script_grammar.specs.declared.tree.Name.{Name}
use Rattle.script_grammar.specs.declared.tree.Expr.{Expr}
use Rattle.script_grammar.specs.declared.tree.SumPart.{SumPart}
use Rattle.script_grammar.specs.declared.tree.ProductPart.{ProductPart}
use Rattle.script_grammar.specs.declared.tree.CallText.{CallText}
use Rattle.script_grammar.specs.declared.tree.Right.{Right}
use Rattle.script_grammar.specs.declared.tree.Stmt.{Stmt}
use Rattle.script_grammar.specs.declared.tree.Kind.{Kind}
use Rattle.script_grammar.specs.declared.tree.Param.{Param}
use Rattle.script_grammar.specs.declared.tree.Function.{Function}
use Rattle.script_grammar.specs.Grammar.{Terminal, IsFactor, a_neg, a_number, a_name, an_item, a_group, a_same, an_older, IsTerm, factors, IsFactors, no_factors, one_factor, IsSum, terms, IsTerms, no_terms, one_term, IsExpr, alone, compared, IsMoreArgs, no_more_args, one_more_arg, IsArgs, no_args, some_args, IsCall, a_call, IsRight, right_value, right_draw, right_new, right_call, right_spawn, IsInto, no_into, an_into, IsStmt, a_let, an_array, a_set, a_store, a_spawn, a_call_stmt, a_sync, a_print, an_if, a_while, a_pfor, a_scope, IsStmts, no_stmts, one_stmt, IsBlock, a_block, IsElse, no_else, an_else, IsParam, int_param, id_param, IsMoreParams, no_more_params, one_more_param, IsParams, no_params, some_params, IsAnswerKind, int_answer, id_answer, IsFunction, a_function, IsFunctions, no_functions, one_function}

abbrev mutual
  pub factor_nesting : {ts rest : List Terminal} {x : Expr} → IsFactor ts x rest → ℕ → List ℕ
  factor_nesting (a_neg d) n = suc n ∷ factor_nesting d (suc n)
  factor_nesting a_number n = n ∷ []
  factor_nesting a_name n = n ∷ []
  factor_nesting (an_item d) n = n ∷ suc n ∷ (expr_nesting d (suc n) ++ n ∷ [])
  factor_nesting (a_group d) n = suc n ∷ (expr_nesting d (suc n) ++ n ∷ [])
  factor_nesting (a_same d e) n = n ∷ suc n ∷ (expr_nesting d (suc n) ++ suc n ∷ (expr_nesting e (suc n) ++ n ∷ []))
  factor_nesting (an_older d e) n = n ∷ suc n ∷ (expr_nesting d (suc n) ++ suc n ∷ (expr_nesting e (suc n) ++ n ∷ []))

  pub term_nesting : {ts rest : List Terminal} {x : Expr} → IsTerm ts x rest → ℕ → List ℕ
  term_nesting (factors d e) n = factor_nesting d n ++ factors_nesting e n

  pub factors_nesting : {ts rest : List Terminal} {xs : List ProductPart} → IsFactors ts xs rest → ℕ → List ℕ
  factors_nesting no_factors n = []
  factors_nesting (one_factor k d e) n = n ∷ (factor_nesting d n ++ factors_nesting e n)

  pub sum_nesting : {ts rest : List Terminal} {x : Expr} → IsSum ts x rest → ℕ → List ℕ
  sum_nesting (terms d e) n = term_nesting d n ++ terms_nesting e n

  pub terms_nesting : {ts rest : List Terminal} {xs : List SumPart} → IsTerms ts xs rest → ℕ → List ℕ
  terms_nesting no_terms n = []
  terms_nesting (one_term k d e) n = n ∷ (term_nesting d n ++ terms_nesting e n)

  pub expr_nesting : {ts rest : List Terminal} {x : Expr} → IsExpr ts x rest → ℕ → List ℕ
  expr_nesting (alone d) n = sum_nesting d n
  expr_nesting (compared d k e) n = sum_nesting d n ++ n ∷ sum_nesting e n

abbrev pub more_args_nesting : {ts rest : List Terminal} {xs : List Expr} → IsMoreArgs ts xs rest → ℕ → List ℕ
more_args_nesting no_more_args n = []
more_args_nesting (one_more_arg d e) n = n ∷ (expr_nesting d n ++ more_args_nesting e n)

abbrev pub args_nesting : {ts rest : List Terminal} {xs : List Expr} → IsArgs ts xs rest → ℕ → List ℕ
args_nesting no_args n = []
args_nesting (some_args d e) n = expr_nesting d n ++ more_args_nesting e n

abbrev pub call_nesting : {ts rest : List Terminal} {c : CallText} → IsCall ts c rest → ℕ → List ℕ
call_nesting (a_call d) n = n ∷ suc n ∷ (args_nesting d (suc n) ++ n ∷ [])

abbrev pub right_nesting : {ts rest : List Terminal} {r : Right} → IsRight ts r rest → ℕ → List ℕ
right_nesting (right_value d) n = expr_nesting d n
right_nesting right_draw n = n ∷ []
right_nesting right_new n = n ∷ []
right_nesting (right_call d) n = n ∷ call_nesting d n
right_nesting (right_spawn d) n = n ∷ call_nesting d n

abbrev pub into_nesting : {ts rest : List Terminal} {o : Option Name} → IsInto ts o rest → ℕ → List ℕ
into_nesting no_into n = []
into_nesting an_into n = n ∷ n ∷ []

abbrev mutual
  pub stmt_nesting : {ts rest : List Terminal} {x : Stmt} → IsStmt ts x rest → ℕ → List ℕ
  stmt_nesting (a_let d) n = n ∷ n ∷ n ∷ (right_nesting d n ++ n ∷ [])
  stmt_nesting an_array n = n ∷ n ∷ suc n ∷ suc n ∷ n ∷ n ∷ []
  stmt_nesting (a_set d) n = n ∷ n ∷ (right_nesting d n ++ n ∷ [])
  stmt_nesting (a_store d e) n = n ∷ suc n ∷ (expr_nesting d (suc n) ++ n ∷ n ∷ (expr_nesting e n ++ n ∷ []))
  stmt_nesting (a_spawn d) n = n ∷ (call_nesting d n ++ n ∷ [])
  stmt_nesting (a_call_stmt d) n = n ∷ (call_nesting d n ++ n ∷ [])
  stmt_nesting a_sync n = n ∷ n ∷ []
  stmt_nesting (a_print d) n = n ∷ (expr_nesting d n ++ n ∷ [])
  stmt_nesting (an_if d e f) n = n ∷ (expr_nesting d n ++ (block_nesting e n ++ else_nesting f n))
  stmt_nesting (a_while d e) n = n ∷ (expr_nesting d n ++ block_nesting e n)
  stmt_nesting (a_pfor d e f g) n =
      n ∷ n ∷ n ∷ (expr_nesting d n ++ n ∷ (expr_nesting e n ++ (into_nesting f n ++ n ∷ n ∷ suc n ∷ suc n ∷ (more_args_nesting g (suc n) ++ n ∷ n ∷ []))))
  stmt_nesting (a_scope d) n = n ∷ block_nesting d n

  pub stmts_nesting : {ts rest : List Terminal} {xs : List Stmt} → IsStmts ts xs rest → ℕ → List ℕ
  stmts_nesting no_stmts n = []
  stmts_nesting (one_stmt d e) n = stmt_nesting d n ++ stmts_nesting e n

  pub block_nesting : {ts rest : List Terminal} {xs : List Stmt} → IsBlock ts xs rest → ℕ → List ℕ
  block_nesting (a_block d) n = suc n ∷ (stmts_nesting d (suc n) ++ n ∷ [])

  pub else_nesting : {ts rest : List Terminal} {xs : List Stmt} → IsElse ts xs rest → ℕ → List ℕ
  else_nesting no_else n = []
  else_nesting (an_else d) n = n ∷ block_nesting d n

abbrev pub param_nesting : {ts rest : List Terminal} {x : Param} → IsParam ts x rest → ℕ → List ℕ
param_nesting int_param n = n ∷ []
param_nesting id_param n = n ∷ n ∷ []

abbrev pub more_params_nesting : {ts rest : List Terminal} {xs : List Param} → IsMoreParams ts xs rest → ℕ → List ℕ
more_params_nesting no_more_params n = []
more_params_nesting (one_more_param d e) n = n ∷ (param_nesting d n ++ more_params_nesting e n)

abbrev pub params_nesting : {ts rest : List Terminal} {xs : List Param} → IsParams ts xs rest → ℕ → List ℕ
params_nesting no_params n = []
params_nesting (some_params d e) n = param_nesting d n ++ more_params_nesting e n

abbrev pub answer_nesting : {ts rest : List Terminal} {k : Kind} → IsAnswerKind ts k rest → ℕ → List ℕ
answer_nesting int_answer n = []
answer_nesting id_answer n = n ∷ n ∷ []

abbrev pub function_nesting : {ts rest : List Terminal} {f : Function} → IsFunction ts f rest → ℕ → List ℕ
function_nesting (a_function p k d e) n =
    n ∷ n ∷ suc n ∷ (params_nesting p (suc n) ++ n ∷ (answer_nesting k n ++ suc n ∷ (stmts_nesting d (suc n) ++ suc n ∷ (expr_nesting e (suc n) ++ suc n ∷ n ∷ []))))

abbrev pub functions_nesting : {ts rest : List Terminal} {fs : List Function} → IsFunctions ts fs rest → ℕ → List ℕ
functions_nesting no_functions n = []
functions_nesting (one_function d e) n = function_nesting d n ++ functions_nesting e n
