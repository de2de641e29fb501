-- The names by which a script calls functions are tokens of its text, in their order.
use Rattle.std.proofs.Common.{◌≡◌, ℕ, List, [], ◌∷◌, ◌++◌, Option, sym, ◌∙◌, append-nil, rules}
use Rattle.script_grammar.specs.declared.tree.Name.{Name}
use Rattle.script_grammar.specs.declared.tree.Number.{Number}
use Rattle.script_grammar.specs.declared.tree.Expr.{Expr}
use Rattle.script_grammar.specs.declared.tree.CallText.{CallText}
use Rattle.script_grammar.specs.declared.tree.Right.{Right}
use Rattle.script_grammar.specs.declared.tree.Stmt.{Stmt, fold-roll-Stmt}
use Rattle.script_grammar.specs.declared.tree.Act.{Act, roll-Act, map-Act, fold-roll-Act, the_lemmas}
use Rattle.script_grammar.specs.declared.tree.Act.TheVariants as act
use Rattle.script_grammar.specs.declared.tree.Act.TheOpen.{Act-F}
use Rattle.script_grammar.specs.declared.tree.Act.TheFolds.{fold-Act}
use Rattle.script_grammar.specs.declared.tree.Function.{Function}
use Rattle.script_grammar.specs.Grammar.{Terminal, stmt_at}
use Rattle.script_grammar.specs.Grammar.{IsCall, a_call, IsRight, right_value, right_draw, right_new, right_call, right_spawn}
use Rattle.script_grammar.specs.Grammar.{IsStmt, a_let, an_array, a_set, a_store, a_spawn, a_call_stmt, a_sync, a_print, an_if, a_while, a_pfor, a_scope, IsStmts, no_stmts, one_stmt, IsBlock, a_block, IsElse, no_else, an_else}
use Rattle.script_grammar.specs.Grammar.{IsFunction, a_function, IsFunctions, no_functions, one_function}
use Rattle.script_check.specs.Slots.{called_in, called_in_act, called_in_block, called_in_right, called_in_statement}
use Rattle.script_check.proofs.FewerPending.Induction.{statement}
use Rattle.script_check.proofs.FoundSlots.Picked.{Picked, no_more, passed, picked, append, after, told, unpicked, in_answer, in_args, in_expr, in_into, in_more_args, in_params}

-- What a statement calls, told of each kind

abbrev pub called_what : Act → List Name
called_what = fold-Act (List Name) (List Name) called_in_act (λ s. s.act)

pub called_open : (at : ℕ) (d : Act-F Act Stmt) → called_in_statement (statement at d) ≡ called_in_act (map-Act Act Stmt (List Name) (List Name) called_what called_in_statement d)
called_open at d =
    fold-roll-Stmt (List Name) (List Name) called_in_act (λ s. s.act) (record { at = at; act = roll-Act d })
    ∙ fold-roll-Act (List Name) (List Name) called_in_act (λ s. s.act) d

called-is : (s : Stmt) → called_in_statement s ≡ called_what s.act
called-is s = search (rules, the_lemmas)

called-let : (x : Name) (r : Right) → called_what (act.Let x r) ≡ called_in_right r
called-let x r = search (rules, the_lemmas)

called-array : (x : Name) (n : Number) → called_what (act.Array x n) ≡ []
called-array x n = search (rules, the_lemmas)

called-set : (x : Name) (r : Right) → called_what (act.Set x r) ≡ called_in_right r
called-set x r = search (rules, the_lemmas)

called-store : (x : Name) (i e : Expr) → called_what (act.Store x i e) ≡ []
called-store x i e = search (rules, the_lemmas)

called-spawn : (c : CallText) → called_what (act.Spawn c) ≡ c.name ∷ []
called-spawn c = search (rules, the_lemmas)

called-call : (c : CallText) → called_what (act.Call c) ≡ c.name ∷ []
called-call c = search (rules, the_lemmas)

called-sync : called_what act.Sync ≡ []
called-sync = search (rules, the_lemmas)

called-print : (e : Expr) → called_what (act.Print e) ≡ []
called-print e = search (rules, the_lemmas)

called-if : (e : Expr) (a b : List Stmt) → called_what (act.If e a b) ≡ called_in_block a ++ called_in_block b
called-if e a b = search (rules, the_lemmas)

called-while : (e : Expr) (a : List Stmt) → called_what (act.While e a) ≡ called_in_block a
called-while e a = search (rules, the_lemmas)

called-pfor : (x : Name) (lo hi : Expr) (target : Option Name) (c : CallText) → called_what (act.Pfor x lo hi target c) ≡ c.name ∷ []
called-pfor x lo hi target c = search (rules, the_lemmas)

called-scope : (a : List Stmt) → called_what (act.Scope a) ≡ called_in_block a
called-scope a = search (rules, the_lemmas)

-- The tokens

call-picked : {ts rest : List Terminal} {c : CallText} → IsCall ts c rest → Picked (c.name ∷ []) ts rest
call-picked (a_call d) = picked (passed (after (unpicked (in_args d))))

right-picked : {ts rest : List Terminal} {r : Right} → IsRight ts r rest → Picked (called_in_right r) ts rest
right-picked (right_value d) = unpicked (in_expr d)
right-picked right_draw = passed no_more
right-picked right_new = passed no_more
right-picked (right_call d) = passed (call-picked d)
right-picked (right_spawn d) = passed (call-picked d)

-- what a statement at an offset does
acted : {xs : List Name} {ts rest : List Terminal} (at : ℕ) (what : Act) → called_what what ≡ xs → Picked xs ts rest → Picked (called_in_statement (stmt_at at what)) ts rest
acted at what e d = told (called-is (stmt_at at what) ∙ e) d

mutual
  stmt-picked : {ts rest : List Terminal} {x : Stmt} → IsStmt ts x rest → Picked (called_in_statement x) ts rest
  stmt-picked (a_let d) = acted _ _ (called-let _ _) (passed (passed (passed (after (right-picked d)))))
  stmt-picked an_array = acted _ _ (called-array _ _) (passed (passed (passed (passed (passed (passed no_more))))))
  stmt-picked (a_set d) = acted _ _ (called-set _ _) (passed (passed (after (right-picked d))))
  stmt-picked (a_store d e) = acted _ _ (called-store _ _ _) (passed (passed (append (unpicked (after (after (in_expr d)))) (unpicked (after (in_expr e))))))
  stmt-picked (a_spawn d) = acted _ _ (called-spawn _) (passed (after (call-picked d)))
  stmt-picked (a_call_stmt d) = acted _ _ (called-call _) (passed (after (call-picked d)))
  stmt-picked a_sync = acted _ _ called-sync (passed (passed no_more))
  stmt-picked (a_print d) = acted _ _ (called-print _) (passed (unpicked (after (in_expr d))))
  stmt-picked (an_if d e f) = acted _ _ (called-if _ _ _) (passed (append (unpicked (in_expr d)) (append (block-picked e) (else-picked f))))
  stmt-picked (a_while d e) = acted _ _ (called-while _ _) (passed (append (unpicked (in_expr d)) (block-picked e)))
  stmt-picked (a_pfor d e f g) =
      acted _ _ (called-pfor _ _ _ _ _)
      (passed (passed (passed (append (unpicked (after (in_expr d))) (append (unpicked (in_expr e)) (append (unpicked (after (in_into f))) (picked (passed (passed (unpicked (after (after (in_more_args g)))))))))))))
  stmt-picked (a_scope d) = acted _ _ (called-scope _) (passed (block-picked d))

  stmts-picked : {ts rest : List Terminal} {xs : List Stmt} → IsStmts ts xs rest → Picked (called_in_block xs) ts rest
  stmts-picked no_stmts = no_more
  stmts-picked (one_stmt d e) = append (stmt-picked d) (stmts-picked e)

  block-picked : {ts rest : List Terminal} {xs : List Stmt} → IsBlock ts xs rest → Picked (called_in_block xs) ts rest
  block-picked (a_block d) = passed (after (stmts-picked d))

  else-picked : {ts rest : List Terminal} {xs : List Stmt} → IsElse ts xs rest → Picked (called_in_block xs) ts rest
  else-picked no_else = no_more
  else-picked (an_else d) = passed (block-picked d)

function-picked : {ts rest : List Terminal} {f : Function} → IsFunction ts f rest → Picked (called_in_block f.body) ts rest
function-picked (a_function p k d e) =
    told (sym (append-nil _))
    (passed (passed (passed (append (after (in_params p)) (append (after (in_answer k)) (append (after (stmts-picked d)) (unpicked (after (after (in_expr e))))))))))

pub functions-picked : {ts rest : List Terminal} {fs : List Function} → IsFunctions ts fs rest → Picked (called_in fs) ts rest
functions-picked no_functions = no_more
functions-picked (one_function d e) = append (function-picked d) (functions-picked e)
