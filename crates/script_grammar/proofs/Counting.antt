-- Each function of a script begins with an `fn` of its own, so that there are no more functions than the limit.
use Rattle.std.proofs.Common.{◌≡◌, ℕ, suc, ◌+◌, ◌<◌, ◌≤◌, Bool, true, false, if◌then◌else◌, List, [], ◌∷◌, ◌++◌, length, Option, refl, ap, arith}
use Rattle.std.proofs.Math.Nat.{lt_of_not-le}
use Rattle.script_tokens.specs.declared.version.Version.{Version}
use Rattle.script_tokens.specs.declared.token.Word.{Word}
use Rattle.script_tokens.specs.declared.token.Word.TheVariants as word
use Rattle.script_grammar.specs.declared.tree.Name.{Name}
use Rattle.script_grammar.specs.declared.tree.Expr.{Expr}
use Rattle.script_grammar.specs.declared.tree.SumPart.{SumPart}
use Rattle.script_grammar.specs.declared.tree.ProductPart.{ProductPart}
use Rattle.script_grammar.specs.declared.tree.ProductSign.{ProductSign}
use Rattle.script_grammar.specs.declared.tree.Comparison.{Comparison}
use Rattle.script_grammar.specs.declared.tree.CallText.{CallText}
use Rattle.script_grammar.specs.declared.tree.Right.{Right}
use Rattle.script_grammar.specs.declared.tree.Stmt.{Stmt}
use Rattle.script_grammar.specs.declared.tree.Kind.{Kind}
use Rattle.script_grammar.specs.declared.tree.Param.{Param}
use Rattle.script_grammar.specs.declared.tree.Function.{Function}
use Rattle.script_grammar.specs.Grammar.{Terminal, tok, IsSumSign, a_plus, a_minus, IsProductSign, a_times, an_over, a_modulo, IsComparison, an_eq, a_ne, a_lt, a_le, a_gt, a_ge}
use Rattle.script_grammar.specs.Grammar.{IsFactor, a_neg, a_number, a_name, an_item, a_group, a_same, an_older, IsTerm, factors, IsFactors, no_factors, one_factor, IsSum, terms, IsTerms, no_terms, one_term, IsExpr, alone, compared}
use Rattle.script_grammar.specs.Grammar.{IsMoreArgs, no_more_args, one_more_arg, IsArgs, no_args, some_args, IsCall, a_call, IsRight, right_value, right_draw, right_new, right_call, right_spawn, IsInto, no_into, an_into}
use Rattle.script_grammar.specs.Grammar.{IsStmt, a_let, an_array, a_set, a_store, a_spawn, a_call_stmt, a_sync, a_print, an_if, a_while, a_pfor, a_scope, IsStmts, no_stmts, one_stmt, IsBlock, a_block, IsElse, no_else, an_else}
use Rattle.script_grammar.specs.Grammar.{IsParam, int_param, id_param, IsMoreParams, no_more_params, one_more_param, IsParams, no_params, some_params, IsAnswerKind, int_answer, id_answer, IsFunction, a_function, IsFunctions, no_functions, one_function}
use Rattle.script_grammar.specs.Fault.{is_fn, functions_begun, too_many_functions, WithinAfter}
use Rattle.script_grammar.specs.Text.{FunctionsAreFew}

-- what is after a part has no more of them

sum_sign : (a : ℕ) (k : Word) (t : List ℕ) (s : Bool) (ts : List Terminal) → IsSumSign k s → functions_begun (tok a k t ∷ ts) ≡ functions_begun ts
sum_sign a k t s ts a_plus = refl
sum_sign a k t s ts a_minus = refl

product_sign : (a : ℕ) (k : Word) (t : List ℕ) (s : ProductSign) (ts : List Terminal) → IsProductSign k s → functions_begun (tok a k t ∷ ts) ≡ functions_begun ts
product_sign a k t s ts a_times = refl
product_sign a k t s ts an_over = refl
product_sign a k t s ts a_modulo = refl

comparison : (a : ℕ) (k : Word) (t : List ℕ) (s : Comparison) (ts : List Terminal) → IsComparison k s → functions_begun (tok a k t ∷ ts) ≡ functions_begun ts
comparison a k t s ts an_eq = refl
comparison a k t s ts a_ne = refl
comparison a k t s ts a_lt = refl
comparison a k t s ts a_le = refl
comparison a k t s ts a_gt = refl
comparison a k t s ts a_ge = refl

mutual
  in_factor : {ts rest : List Terminal} {x : Expr} → IsFactor ts x rest → functions_begun rest ≤ functions_begun ts
  in_factor (a_neg d) = in_factor d
  in_factor a_number = omega arith
  in_factor a_name = omega arith
  in_factor (an_item d) = in_expr d
  in_factor (a_group d) = in_expr d
  in_factor (a_same d e) = omega (arith, in_expr d, in_expr e)
  in_factor (an_older d e) = omega (arith, in_expr d, in_expr e)

  in_term : {ts rest : List Terminal} {x : Expr} → IsTerm ts x rest → functions_begun rest ≤ functions_begun ts
  in_term (factors d e) = omega (arith, in_factor d, in_factors e)

  in_factors : {ts rest : List Terminal} {xs : List ProductPart} → IsFactors ts xs rest → functions_begun rest ≤ functions_begun ts
  in_factors no_factors = omega arith
  in_factors (one_factor {a} {k} {t} {s} {ts} k' d e) = omega (arith, product_sign a k t s ts k', in_factor d, in_factors e)

  in_sum : {ts rest : List Terminal} {x : Expr} → IsSum ts x rest → functions_begun rest ≤ functions_begun ts
  in_sum (terms d e) = omega (arith, in_term d, in_terms e)

  in_terms : {ts rest : List Terminal} {xs : List SumPart} → IsTerms ts xs rest → functions_begun rest ≤ functions_begun ts
  in_terms no_terms = omega arith
  in_terms (one_term {a} {k} {t} {s} {ts} k' d e) = omega (arith, sum_sign a k t s ts k', in_term d, in_terms e)

  in_expr : {ts rest : List Terminal} {x : Expr} → IsExpr ts x rest → functions_begun rest ≤ functions_begun ts
  in_expr (alone d) = in_sum d
  in_expr (compared {a} {k} {t} {s} {ts} {us} d k' e) = omega (arith, in_sum d, comparison a k t s us k', in_sum e)

in_more_args : {ts rest : List Terminal} {xs : List Expr} → IsMoreArgs ts xs rest → functions_begun rest ≤ functions_begun ts
in_more_args no_more_args = omega arith
in_more_args (one_more_arg d e) = omega (arith, in_expr d, in_more_args e)

in_args : {ts rest : List Terminal} {xs : List Expr} → IsArgs ts xs rest → functions_begun rest ≤ functions_begun ts
in_args no_args = omega arith
in_args (some_args d e) = omega (arith, in_expr d, in_more_args e)

in_call : {ts rest : List Terminal} {c : CallText} → IsCall ts c rest → functions_begun rest ≤ functions_begun ts
in_call (a_call d) = in_args d

in_right : {ts rest : List Terminal} {r : Right} → IsRight ts r rest → functions_begun rest ≤ functions_begun ts
in_right (right_value d) = in_expr d
in_right right_draw = omega arith
in_right right_new = omega arith
in_right (right_call d) = in_call d
in_right (right_spawn d) = in_call d

in_into : {ts rest : List Terminal} {target : Option Name} → IsInto ts target rest → functions_begun rest ≤ functions_begun ts
in_into no_into = omega arith
in_into an_into = omega arith

mutual
  in_stmt : {ts rest : List Terminal} {x : Stmt} → IsStmt ts x rest → functions_begun rest ≤ functions_begun ts
  in_stmt (a_let d) = in_right d
  in_stmt an_array = omega arith
  in_stmt (a_set d) = in_right d
  in_stmt (a_store d e) = omega (arith, in_expr d, in_expr e)
  in_stmt (a_spawn d) = in_call d
  in_stmt (a_call_stmt d) = in_call d
  in_stmt a_sync = omega arith
  in_stmt (a_print d) = in_expr d
  in_stmt (an_if d e f) = omega (arith, in_expr d, in_block e, in_else f)
  in_stmt (a_while d e) = omega (arith, in_expr d, in_block e)
  in_stmt (a_pfor d e f g) = omega (arith, in_expr d, in_expr e, in_into f, in_more_args g)
  in_stmt (a_scope d) = in_block d

  in_stmts : {ts rest : List Terminal} {xs : List Stmt} → IsStmts ts xs rest → functions_begun rest ≤ functions_begun ts
  in_stmts no_stmts = omega arith
  in_stmts (one_stmt d e) = omega (arith, in_stmt d, in_stmts e)

  in_block : {ts rest : List Terminal} {xs : List Stmt} → IsBlock ts xs rest → functions_begun rest ≤ functions_begun ts
  in_block (a_block d) = in_stmts d

  in_else : {ts rest : List Terminal} {xs : List Stmt} → IsElse ts xs rest → functions_begun rest ≤ functions_begun ts
  in_else no_else = omega arith
  in_else (an_else d) = in_block d

in_param : {ts rest : List Terminal} {x : Param} → IsParam ts x rest → functions_begun rest ≤ functions_begun ts
in_param int_param = omega arith
in_param id_param = omega arith

in_more_params : {ts rest : List Terminal} {xs : List Param} → IsMoreParams ts xs rest → functions_begun rest ≤ functions_begun ts
in_more_params no_more_params = omega arith
in_more_params (one_more_param d e) = omega (arith, in_param d, in_more_params e)

in_params : {ts rest : List Terminal} {xs : List Param} → IsParams ts xs rest → functions_begun rest ≤ functions_begun ts
in_params no_params = omega arith
in_params (some_params d e) = omega (arith, in_param d, in_more_params e)

in_answer : {ts rest : List Terminal} {k : Kind} → IsAnswerKind ts k rest → functions_begun rest ≤ functions_begun ts
in_answer int_answer = omega arith
in_answer id_answer = omega arith

-- a function begins with one of them
in_function : {ts rest : List Terminal} {f : Function} → IsFunction ts f rest → functions_begun rest < functions_begun ts
in_function (a_function p k d e) = omega (arith, in_params p, in_answer k, in_stmts d, in_expr e)

in_functions : {ts rest : List Terminal} {fs : List Function} → IsFunctions ts fs rest → length fs + functions_begun rest ≤ functions_begun ts
in_functions no_functions = omega arith
in_functions (one_function d e) = omega (arith, in_function d, in_functions e)

counted : (is : Bool) (all some one : ℕ) → all ≡ some + one → (if is then suc all else all) ≡ (if is then suc some else some) + one
counted true all some one e = omega (arith, e)
counted false all some one e = e

begun_with : (before : List Terminal) (t : Terminal) → functions_begun (before ++ t ∷ []) ≡ functions_begun before + functions_begun (t ∷ [])
begun_with [] t = omega arith
begun_with (u ∷ us) t = counted (is_fn u.word) (functions_begun (us ++ t ∷ [])) (functions_begun us) (functions_begun (t ∷ [])) (begun_with us t)

is_fn_word : (k : Word) → is_fn k ≡ true → k ≡ word.Fn
is_fn_word word.Name e = absurd (cc)
is_fn_word word.Number e = absurd (cc)
is_fn_word word.Fn e = refl
is_fn_word word.Id e = absurd (cc)
is_fn_word word.Let e = absurd (cc)
is_fn_word word.Spawn e = absurd (cc)
is_fn_word word.Call e = absurd (cc)
is_fn_word word.Sync e = absurd (cc)
is_fn_word word.Print e = absurd (cc)
is_fn_word word.If e = absurd (cc)
is_fn_word word.Else e = absurd (cc)
is_fn_word word.While e = absurd (cc)
is_fn_word word.Pfor e = absurd (cc)
is_fn_word word.In e = absurd (cc)
is_fn_word word.Into e = absurd (cc)
is_fn_word word.Draw e = absurd (cc)
is_fn_word word.New e = absurd (cc)
is_fn_word word.Return e = absurd (cc)
is_fn_word word.Same e = absurd (cc)
is_fn_word word.Older e = absurd (cc)
is_fn_word word.Open e = absurd (cc)
is_fn_word word.Close e = absurd (cc)
is_fn_word word.OpenBlock e = absurd (cc)
is_fn_word word.CloseBlock e = absurd (cc)
is_fn_word word.OpenItem e = absurd (cc)
is_fn_word word.CloseItem e = absurd (cc)
is_fn_word word.Comma e = absurd (cc)
is_fn_word word.Semicolon e = absurd (cc)
is_fn_word word.Assign e = absurd (cc)
is_fn_word word.Plus e = absurd (cc)
is_fn_word word.Minus e = absurd (cc)
is_fn_word word.Times e = absurd (cc)
is_fn_word word.Over e = absurd (cc)
is_fn_word word.Modulo e = absurd (cc)
is_fn_word word.Eq e = absurd (cc)
is_fn_word word.Ne e = absurd (cc)
is_fn_word word.Lt e = absurd (cc)
is_fn_word word.Le e = absurd (cc)
is_fn_word word.Gt e = absurd (cc)
is_fn_word word.Ge e = absurd (cc)
is_fn_word word.Arrow e = absurd (cc)
is_fn_word word.Range e = absurd (cc)
is_fn_word word.Scope e = absurd (cc)

-- no more of them than the limit, where no token breaks it
abbrev IsFew : List Terminal → List Terminal → Type 0
IsFew before ts = functions_begun before ≤ 1024 → functions_begun before + functions_begun ts ≤ 1024

few_with : (version : Version) (is : Bool) (before : List Terminal) (t : Terminal) (ts : List Terminal) → is_fn t.word ≡ is → WithinAfter version before (t ∷ ts) → IsFew (before ++ t ∷ []) ts →
    functions_begun before ≤ 1024 → functions_begun before + (if is then suc (functions_begun ts) else functions_begun ts) ≤ 1024
few_with version true before t ts e w after few =
    let one : functions_begun (t ∷ []) ≡ 1 = ap (λ is. if is then 1 else 0) e in
    let sum = begun_with before t in
    let less : functions_begun before < 1024 = lt_of_not-le (λ h. w.0 7 (too_many_functions (is_fn_word t.word e) h)) in
    let more = after (omega (arith, sum, one, less)) in
    omega (arith, sum, one, more)
few_with version false before t ts e w after few =
    let none : functions_begun (t ∷ []) ≡ 0 = ap (λ is. if is then 1 else 0) e in
    let sum = begun_with before t in
    let more = after (omega (arith, sum, none, few)) in
    omega (arith, sum, none, more)

few_after : (version : Version) (before ts : List Terminal) → WithinAfter version before ts → IsFew before ts
few_after version before [] w few = omega (arith, few)
few_after version before (t ∷ ts) w few = few_with version (is_fn t.word) before t ts refl w (few_after version (before ++ t ∷ []) ts w.1) few

pub functions_are_few : FunctionsAreFew
functions_are_few script is =
    let all = in_functions is.text.program.derives in
    let few = few_after script.version [] _ is.text.program.within (omega arith) in
    omega (arith, all, few)
