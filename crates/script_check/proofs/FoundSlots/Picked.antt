-- The variables that a script names are tokens of its text, in their order.
use Rattle.std.proofs.Common.{◌≡◌, ℕ, List, [], ◌∷◌, ◌++◌, map, Option, sym, subst, ◌∙◌, append-nil}
use Rattle.script_tokens.specs.declared.token.Word.{Word}
use Rattle.script_grammar.specs.declared.tree.Name.{Name}
use Rattle.script_grammar.specs.declared.tree.Expr.{Expr}
use Rattle.script_grammar.specs.declared.tree.SumPart.{SumPart}
use Rattle.script_grammar.specs.declared.tree.ProductPart.{ProductPart}
use Rattle.script_grammar.specs.declared.tree.CallText.{CallText}
use Rattle.script_grammar.specs.declared.tree.Right.{Right}
use Rattle.script_grammar.specs.declared.tree.Stmt.{Stmt}
use Rattle.script_grammar.specs.declared.tree.Act.{Act}
use Rattle.script_grammar.specs.declared.tree.Kind.{Kind}
use Rattle.script_grammar.specs.declared.tree.Param.{Param}
use Rattle.script_grammar.specs.declared.tree.Function.{Function}
use Rattle.script_grammar.specs.Grammar.{Terminal, tok, name_at, stmt_at, sum_of, product_of}
use Rattle.script_grammar.specs.Grammar.{IsFactor, a_neg, a_number, a_name, an_item, a_group, a_same, an_older, IsTerm, factors, IsFactors, no_factors, one_factor, IsSum, terms, IsTerms, no_terms, one_term, IsExpr, alone, compared}
use Rattle.script_grammar.specs.Grammar.{IsMoreArgs, no_more_args, one_more_arg, IsArgs, no_args, some_args, IsCall, a_call, IsRight, right_value, right_draw, right_new, right_call, right_spawn, IsInto, no_into, an_into}
use Rattle.script_grammar.specs.Grammar.{IsStmt, a_let, an_array, a_set, a_store, a_spawn, a_call_stmt, a_sync, a_print, an_if, a_while, a_pfor, a_scope, IsStmts, no_stmts, one_stmt, IsBlock, a_block, IsElse, no_else, an_else}
use Rattle.script_grammar.specs.Grammar.{IsParam, int_param, id_param, IsMoreParams, no_more_params, one_more_param, IsParams, no_params, some_params, IsAnswerKind, int_answer, id_answer, IsFunction, a_function, IsFunctions, no_functions, one_function}
use Rattle.script_check.specs.Slots.{joined, named_in, named_in_summand, named_in_factor, named_in_all, named_in_right, named_in_target, named_in_statement, named_in_block, named_in_function}
use Rattle.script_check.proofs.FoundSlots.Parts.{named_what, named-is, named-array, named-call, named-compare, named-factor, named-if, named-item, named-let, named-neg, named-number, named-older, named-pfor, named-print, named-product, named-same, named-scope, named-set, named-spawn, named-store, named-sum, named-summand, named-sync, named-var, named-while}

-- each of these names stands among the tokens before the rest, in their order
pub data Picked : List Name → List Terminal → List Terminal → Type 0 where
  no_more : {rest : List Terminal} → Picked [] rest rest
  passed : {xs : List Name} {t : Terminal} {ts rest : List Terminal} → Picked xs ts rest → Picked xs (t ∷ ts) rest
  picked : {a : ℕ} {w : Word} {text : List ℕ} {xs : List Name} {ts rest : List Terminal} → Picked xs ts rest → Picked (name_at a text ∷ xs) (tok a w text ∷ ts) rest

pub append : {xs ys : List Name} {ts mid rest : List Terminal} → Picked xs ts mid → Picked ys mid rest → Picked (xs ++ ys) ts rest
append no_more e = e
append (passed d) e = passed (append d e)
append (picked d) e = picked (append d e)

-- one token more is passed at the end
pub after : {xs : List Name} {t : Terminal} {ts rest : List Terminal} → Picked xs ts (t ∷ rest) → Picked xs ts rest
after {xs} {t} {ts} {rest} d = subst (λ l. Picked l ts rest) (append-nil xs) (append d (passed no_more))

-- what is picked may be passed
pub unpicked : {xs : List Name} {ts rest : List Terminal} → Picked xs ts rest → Picked [] ts rest
unpicked no_more = no_more
unpicked (passed d) = passed (unpicked d)
unpicked (picked d) = passed (unpicked d)

pub told : {xs ys : List Name} {ts rest : List Terminal} → xs ≡ ys → Picked ys ts rest → Picked xs ts rest
told {xs} {ys} {ts} {rest} e d = subst (λ l. Picked l ts rest) (sym e) d

named-sum_of : (e : Expr) (ps : List SumPart) → named_in (sum_of e ps) ≡ named_in e ++ joined (map named_in_summand ps)
named-sum_of e [] = sym (append-nil (named_in e))
named-sum_of e (p ∷ ps) = named-sum e (p ∷ ps)

named-product_of : (e : Expr) (ps : List ProductPart) → named_in (product_of e ps) ≡ named_in e ++ joined (map named_in_factor ps)
named-product_of e [] = sym (append-nil (named_in e))
named-product_of e (p ∷ ps) = named-product e (p ∷ ps)

mutual
  in_factor : {ts rest : List Terminal} {x : Expr} → IsFactor ts x rest → Picked (named_in x) ts rest
  in_factor (a_neg d) = told (named-neg _ _) (passed (in_factor d))
  in_factor a_number = told (named-number _) (passed no_more)
  in_factor a_name = told (named-var _) (picked no_more)
  in_factor (an_item d) = told (named-item _ _) (picked (passed (after (in_expr d))))
  in_factor (a_group d) = passed (after (in_expr d))
  in_factor (a_same d e) = told (named-same _ _ _) (passed (passed (append (after (in_expr d)) (after (in_expr e)))))
  in_factor (an_older d e) = told (named-older _ _ _) (passed (passed (append (after (in_expr d)) (after (in_expr e)))))

  in_term : {ts rest : List Terminal} {x : Expr} → IsTerm ts x rest → Picked (named_in x) ts rest
  in_term (factors d e) = told (named-product_of _ _) (append (in_factor d) (in_factors e))

  in_factors : {ts rest : List Terminal} {xs : List ProductPart} → IsFactors ts xs rest → Picked (joined (map named_in_factor xs)) ts rest
  in_factors no_factors = no_more
  in_factors (one_factor k d e) = passed (append (told (named-factor _) (in_factor d)) (in_factors e))

  in_sum : {ts rest : List Terminal} {x : Expr} → IsSum ts x rest → Picked (named_in x) ts rest
  in_sum (terms d e) = told (named-sum_of _ _) (append (in_term d) (in_terms e))

  in_terms : {ts rest : List Terminal} {xs : List SumPart} → IsTerms ts xs rest → Picked (joined (map named_in_summand xs)) ts rest
  in_terms no_terms = no_more
  in_terms (one_term k d e) = passed (append (told (named-summand _) (in_term d)) (in_terms e))

  pub in_expr : {ts rest : List Terminal} {x : Expr} → IsExpr ts x rest → Picked (named_in x) ts rest
  in_expr (alone d) = in_sum d
  in_expr (compared d k e) = told (named-compare _ _ _) (append (after (in_sum d)) (in_sum e))

pub in_more_args : {ts rest : List Terminal} {xs : List Expr} → IsMoreArgs ts xs rest → Picked (named_in_all xs) ts rest
in_more_args no_more_args = no_more
in_more_args (one_more_arg d e) = passed (append (in_expr d) (in_more_args e))

pub in_args : {ts rest : List Terminal} {xs : List Expr} → IsArgs ts xs rest → Picked (named_in_all xs) ts rest
in_args no_args = no_more
in_args (some_args d e) = append (in_expr d) (in_more_args e)

in_call : {ts rest : List Terminal} {c : CallText} → IsCall ts c rest → Picked (named_in_all c.args) ts rest
in_call (a_call d) = passed (passed (after (in_args d)))

in_right : {ts rest : List Terminal} {r : Right} → IsRight ts r rest → Picked (named_in_right r) ts rest
in_right (right_value d) = in_expr d
in_right right_draw = passed no_more
in_right right_new = passed no_more
in_right (right_call d) = passed (in_call d)
in_right (right_spawn d) = passed (in_call d)

pub in_into : {ts rest : List Terminal} {target : Option Name} → IsInto ts target rest → Picked (named_in_target target) ts rest
in_into no_into = no_more
in_into an_into = passed (picked no_more)

-- what a statement at an offset does
acted : {xs : List Name} {ts rest : List Terminal} (at : ℕ) (what : Act) → named_what what ≡ xs → Picked xs ts rest → Picked (named_in_statement (stmt_at at what)) ts rest
acted at what e d = told (named-is (stmt_at at what) ∙ e) d

mutual
  in_stmt : {ts rest : List Terminal} {x : Stmt} → IsStmt ts x rest → Picked (named_in_statement x) ts rest
  in_stmt (a_let d) = acted _ _ (named-let _ _) (passed (picked (passed (after (in_right d)))))
  in_stmt an_array = acted _ _ (named-array _ _) (passed (picked (passed (passed (passed (passed no_more))))))
  in_stmt (a_set d) = acted _ _ (named-set _ _) (picked (passed (after (in_right d))))
  in_stmt (a_store d e) = acted _ _ (named-store _ _ _) (picked (passed (append (after (after (in_expr d))) (after (in_expr e)))))
  in_stmt (a_spawn d) = acted _ _ (named-spawn _) (passed (after (in_call d)))
  in_stmt (a_call_stmt d) = acted _ _ (named-call _) (passed (after (in_call d)))
  in_stmt a_sync = acted _ _ named-sync (passed (passed no_more))
  in_stmt (a_print d) = acted _ _ (named-print _) (passed (after (in_expr d)))
  in_stmt (an_if d e f) = acted _ _ (named-if _ _ _) (passed (append (in_expr d) (append (in_block e) (in_else f))))
  in_stmt (a_while d e) = acted _ _ (named-while _ _) (passed (append (in_expr d) (in_block e)))
  in_stmt (a_pfor d e f g) =
      acted _ _ (named-pfor _ _ _ _ _)
      (passed (passed (passed (append (after (in_expr d)) (append (in_expr e) (append (after (after (after (after (in_into f))))) (after (after (in_more_args g)))))))))
  in_stmt (a_scope d) = acted _ _ (named-scope _) (passed (in_block d))

  in_stmts : {ts rest : List Terminal} {xs : List Stmt} → IsStmts ts xs rest → Picked (named_in_block xs) ts rest
  in_stmts no_stmts = no_more
  in_stmts (one_stmt d e) = append (in_stmt d) (in_stmts e)

  in_block : {ts rest : List Terminal} {xs : List Stmt} → IsBlock ts xs rest → Picked (named_in_block xs) ts rest
  in_block (a_block d) = passed (after (in_stmts d))

  in_else : {ts rest : List Terminal} {xs : List Stmt} → IsElse ts xs rest → Picked (named_in_block xs) ts rest
  in_else no_else = no_more
  in_else (an_else d) = passed (in_block d)

in_param : {ts rest : List Terminal} {x : Param} → IsParam ts x rest → Picked [] ts rest
in_param int_param = passed no_more
in_param id_param = passed (passed no_more)

in_more_params : {ts rest : List Terminal} {xs : List Param} → IsMoreParams ts xs rest → Picked [] ts rest
in_more_params no_more_params = no_more
in_more_params (one_more_param d e) = passed (append (in_param d) (in_more_params e))

pub in_params : {ts rest : List Terminal} {xs : List Param} → IsParams ts xs rest → Picked [] ts rest
in_params no_params = no_more
in_params (some_params d e) = append (in_param d) (in_more_params e)

pub in_answer : {ts rest : List Terminal} {k : Kind} → IsAnswerKind ts k rest → Picked [] ts rest
in_answer int_answer = no_more
in_answer id_answer = passed (passed no_more)

in_function : {ts rest : List Terminal} {f : Function} → IsFunction ts f rest → Picked (named_in_function f) ts rest
in_function (a_function p k d e) =
    passed (passed (passed (append (after (in_params p)) (append (after (in_answer k)) (append (after (in_stmts d)) (after (after (in_expr e))))))))

pub in_functions : {ts rest : List Terminal} {fs : List Function} → IsFunctions ts fs rest → Picked (joined (map named_in_function fs)) ts rest
in_functions no_functions = no_more
in_functions (one_function d e) = append (in_function d) (in_functions e)
