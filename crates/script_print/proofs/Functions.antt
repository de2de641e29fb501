-- The canonical text of a function is of the same tree.
use Rattle.std.proofs.Common.{◌≡◌, ℕ, zero, suc, ◌+◌, ◌<◌, ◌≤◌, List, [], ◌∷◌, ◌++◌, length, codes, map, flat_map, Option, Some, None, Bool, true, false, refl, sym, ap, ◌∙◌, subst, arith}
use Rattle.script_tokens.specs.declared.token.Word.{Word}
use Rattle.script_tokens.specs.declared.token.Word.TheVariants as word
use Rattle.script_grammar.specs.declared.tree.Name.{Name}
use Rattle.script_grammar.specs.declared.tree.Expr.{Expr}
use Rattle.script_grammar.specs.declared.tree.Stmt.{Stmt}
use Rattle.script_grammar.specs.declared.tree.Kind.{Kind}
use Rattle.script_grammar.specs.declared.tree.Kind.TheVariants.{Int, Id}
use Rattle.script_grammar.specs.declared.tree.Param.{Param}
use Rattle.script_grammar.specs.declared.tree.Function.{Function}
use Rattle.script_grammar.specs.Grammar.{Terminal, tok, name_at, IsExpr, IsStmts, IsParam, int_param, id_param, IsMoreParams, no_more_params, one_more_param, IsParams, no_params, some_params, IsAnswerKind, int_answer, id_answer, IsFunction, a_function, IsFunctions, no_functions, one_function}
use Rattle.script_grammar.specs.Nesting.{expr_nesting, stmts_nesting, param_nesting, more_params_nesting, params_nesting, answer_nesting, function_nesting, functions_nesting}
use Rattle.script_print.specs.Canonical.{expr_text, after_commas, listed, stmts_text, param_text, answer_kind_text, head_text, function_text}
use Rattle.script_print.specs.Unplaced.{unplaced_name, unplaced_expr, unplaced_stmt, unplaced_param, unplaced_function}
use Rattle.script_print.proofs.Placing.{cons_same}
use Rattle.script_print.proofs.Cutting.{starts}
use Rattle.script_print.proofs.Forms.{Forms, Then, and_then, IsToken, a_token, IsNothing, nothing, then_, weaken, empty, any, anything, calm, calmly, symbol, a_blank}
use Rattle.script_print.proofs.Pieces.{in_each, spaced_word, word_space, keyword, name_form, nothing_after, nothing_before}
use Rattle.script_print.proofs.Eats.{Eats, also, one, expr_eats, stmts_eats, param_eats, more_params_eats, params_eats, answer_eats, function_eats}
use Rattle.script_print.proofs.Expressions.{Low, low_append, low_front, low_back, IsSound, Sound, sound_after, ExprOf, Tail, opened, closed, comma, expr_shown}
use Rattle.script_print.proofs.Statements.{StmtsOf, semicolon, open_block, close_block, two_spaces, stmts_shown}
use Rattle.script_tokens.specs.declared.version.Version.{Version}

-- Parameters.

pub record ParamOf (p : Param) (n : ℕ) (us ts : List Terminal) : Type 0 where
  pub tree : Param
  pub derived : IsParam us tree ts
  pub same : unplaced_param tree ≡ unplaced_param p
  pub low : Low (param_nesting derived n)

pub record MoreParamsOf (ps : List Param) (n : ℕ) (us ts : List Terminal) : Type 0 where
  pub tree : List Param
  pub derived : IsMoreParams us tree ts
  pub same : map unplaced_param tree ≡ map unplaced_param ps
  pub low : Low (more_params_nesting derived n)

pub record ParamsOf (ps : List Param) (n : ℕ) (us ts : List Terminal) : Type 0 where
  pub tree : List Param
  pub derived : IsParams us tree ts
  pub same : map unplaced_param tree ≡ map unplaced_param ps
  pub low : Low (params_nesting derived n)

pub record AnswerOf (k : Kind) (n : ℕ) (us ts : List Terminal) : Type 0 where
  pub derived : IsAnswerKind us k ts
  pub low : Low (answer_nesting derived n)

int_param_made : (a : ℕ) (t : List ℕ) (n : ℕ) → n ≤ 64 → (us ts : List Terminal) → IsToken word.Name t us ts → ParamOf (record { kind = Int; name = name_at a t }) n us ts
int_param_made a t n h us ts (a_token {a = b}) = record { tree = record { kind = Int; name = name_at b t }; derived = int_param; same = refl; low = (h, tt) }

id_param_made : (a : ℕ) (t : List ℕ) (n : ℕ) → n ≤ 64 → (us ts : List Terminal) → Then (IsToken word.Id (codes "id")) (IsToken word.Name t) us ts → ParamOf (record { kind = Id; name = name_at a t }) n us ts
id_param_made a t n h us ts (and_then a_token (a_token {a = b})) = record { tree = record { kind = Id; name = name_at b t }; derived = id_param; same = refl; low = (h, (h, tt)) }

param_shown : {version : Version} {ts rest : List Terminal} {p : Param} (d : IsParam ts p rest) (n : ℕ) → Low (param_nesting d n) → Sound version ts → Forms version (param_text p) calm (ParamOf p n)
param_shown (int_param {a = a} {t = t}) n l s = weaken (name_form t s.0.word_is (s.0.modest.name refl)) (int_param_made a t n l.0)
param_shown {version = version} (id_param {b = b} {u = u}) n l s =
    let name = s.1.0 in
    weaken (then_ (word_space word.Id (codes "id") refl (in_each version word.Id (codes "id") refl refl) refl) (name_form u name.word_is (name.modest.name refl)) (λ r h. anything (u ++ r))) (id_param_made b u n l.0)

no_more_params_made : (n : ℕ) (us ts : List Terminal) → IsNothing us ts → MoreParamsOf [] n us ts
no_more_params_made n us ts nothing = record { tree = []; derived = no_more_params; same = refl; low = tt }

more_params_made : (x : Param) (xs : List Param) (n : ℕ) → n ≤ 64 → (us ts : List Terminal) → Then (Then (IsToken word.Comma (codes ",")) (ParamOf x n)) (MoreParamsOf xs n) us ts → MoreParamsOf (x ∷ xs) n us ts
more_params_made x xs n h us ts (and_then (and_then a_token d) e) =
    record {
      tree = d.tree ∷ e.tree;
      derived = one_more_param d.derived e.derived;
      same = cons_same d.same e.same;
      low = (h, low_append (param_nesting d.derived n) (more_params_nesting e.derived n) d.low e.low);
    }

more_params_shown : {version : Version} {ts rest : List Terminal} {xs : List Param} (d : IsMoreParams ts xs rest) (n : ℕ) → Low (more_params_nesting d n) → Sound version ts → Tail version (after_commas param_text xs) (MoreParamsOf xs n)
more_params_shown no_more_params n l s = record { form = weaken empty (no_more_params_made n); front = λ r h. h }
more_params_shown {version = version} (one_more_param {x = x} {xs = xs} d e) n l s =
    let first = param_shown d n (low_front (param_nesting d n) (more_params_nesting e n) l.1) s.1 in
    let others = more_params_shown e n (low_back (param_nesting d n) (more_params_nesting e n) l.1) (sound_after version (param_eats d) s.1) in
    record {
      form = weaken (then_ (then_ comma first (λ r h. anything (param_text x ++ r))) others.form others.front) (more_params_made x xs n l.0);
      front = λ r h. refl;
    }

no_params_made : (n : ℕ) (us ts : List Terminal) → IsNothing us ts → ParamsOf [] n us ts
no_params_made n us ts nothing = record { tree = []; derived = no_params; same = refl; low = tt }

params_made : (x : Param) (xs : List Param) (n : ℕ) (us ts : List Terminal) → Then (ParamOf x n) (MoreParamsOf xs n) us ts → ParamsOf (x ∷ xs) n us ts
params_made x xs n us ts (and_then d e) =
    record {
      tree = d.tree ∷ e.tree;
      derived = some_params d.derived e.derived;
      same = cons_same d.same e.same;
      low = low_append (param_nesting d.derived n) (more_params_nesting e.derived n) d.low e.low;
    }

params_shown : {version : Version} {ts rest : List Terminal} {xs : List Param} (d : IsParams ts xs rest) (n : ℕ) → Low (params_nesting d n) → Sound version ts → Forms version (listed param_text xs) calm (ParamsOf xs n)
params_shown no_params n l s = weaken empty (no_params_made n)
params_shown {version = version} (some_params {x = x} {xs = xs} d e) n l s =
    let first = param_shown d n (low_front (param_nesting d n) (more_params_nesting e n) l) s in
    let others = more_params_shown e n (low_back (param_nesting d n) (more_params_nesting e n) l) (sound_after version (param_eats d) s) in
    weaken (then_ first others.form others.front) (params_made x xs n)

int_answer_made : (n : ℕ) (us ts : List Terminal) → IsNothing us ts → AnswerOf Int n us ts
int_answer_made n us ts nothing = record { derived = int_answer; low = tt }

id_answer_made : (n : ℕ) → n ≤ 64 → (us ts : List Terminal) → Then (IsToken word.Arrow (codes "->")) (IsToken word.Id (codes "id")) us ts → AnswerOf Id n us ts
id_answer_made n h us ts (and_then a_token a_token) = record { derived = id_answer; low = (h, (h, tt)) }

answer_shown : {version : Version} {ts rest : List Terminal} {k : Kind} (d : IsAnswerKind ts k rest) (n : ℕ) → Low (answer_nesting d n) → Tail version (answer_kind_text k) (AnswerOf k n)
answer_shown int_answer n l = record { form = weaken empty (int_answer_made n); front = λ r h. h }
answer_shown {version = version} id_answer n l = record {
  form = weaken (then_ (spaced_word word.Arrow (codes "->") refl refl refl) (keyword word.Id (codes "id") refl (in_each version word.Id (codes "id") refl refl) refl) (λ r h. refl)) (id_answer_made n l.0);
  front = λ r h. refl;
}

-- Functions.

pub record FunctionOf (f : Function) (n : ℕ) (us ts : List Terminal) : Type 0 where
  pub tree : Function
  pub derived : IsFunction us tree ts
  pub same : unplaced_function tree ≡ unplaced_function f
  pub low : Low (function_nesting derived n)

pub record FunctionsOf (fs : List Function) (n : ℕ) (us ts : List Terminal) : Type 0 where
  pub tree : List Function
  pub derived : IsFunctions us tree ts
  pub same : map unplaced_function tree ≡ map unplaced_function fs
  pub low : Low (functions_nesting derived n)

abbrev HeadOf : (t : List ℕ) (ps : List Param) (k : Kind) (n : ℕ) → List Terminal → List Terminal → Type 0
HeadOf t ps k n =
    Then (Then (Then (Then (Then (Then (IsToken word.Fn (codes "fn")) (IsToken word.Name t)) (IsToken word.Open (codes "("))) (ParamsOf ps (suc n))) (IsToken word.Close (codes ")"))) (AnswerOf k n)) (IsToken word.OpenBlock (codes "{"))

abbrev EndOf : List Terminal → List Terminal → Type 0
EndOf = Then (IsToken word.Semicolon (codes ";")) (IsToken word.CloseBlock (codes "}"))

abbrev with_parts : List ℕ → List Param → Kind → List Stmt → Expr → Function
with_parts t ps k body x = record { name = name_at 0 t; params = ps; answer = k; body = body; return_at = 0; result = x }

function_made : (a b : ℕ) (t : List ℕ) (ps : List Param) (k : Kind) (body : List Stmt) (x : Expr) (n : ℕ) → n ≤ 64 → suc n ≤ 64 → (us ts : List Terminal) →
    Then (Then (Then (Then (HeadOf t ps k n) (StmtsOf body (suc n))) (IsToken word.Return (codes "return"))) (ExprOf x (suc n))) EndOf us ts →
    FunctionOf (record { name = name_at a t; params = ps; answer = k; body = body; return_at = b; result = x }) n us ts
function_made a b t ps k body x n h j us ts
    (and_then (and_then (and_then (and_then
    (and_then (and_then (and_then (and_then (and_then (and_then a_token (a_token {a = c})) a_token) p) a_token) q) a_token)
    d) (a_token {a = e})) f) (and_then a_token a_token)) =
    record {
      tree = record { name = name_at c t; params = p.tree; answer = k; body = d.tree; return_at = e; result = f.tree };
      derived = a_function p.derived q.derived d.derived f.derived;
      same =
          ap (λ z. with_parts t z k (map unplaced_stmt d.tree) (unplaced_expr f.tree)) p.same
          ∙ ap (λ z. with_parts t (map unplaced_param ps) k z (unplaced_expr f.tree)) d.same
          ∙ ap (with_parts t (map unplaced_param ps) k (map unplaced_stmt body)) f.same;
      low = (
        h,
        (
          h,
          (
            j,
            low_append (params_nesting p.derived (suc n)) _ p.low (
              h,
              low_append (answer_nesting q.derived n) _ q.low (
                j,
                low_append (stmts_nesting d.derived (suc n)) _ d.low
                    (j, low_append (expr_nesting f.derived (suc n)) (suc n ∷ n ∷ []) (f.low (suc n) (omega arith)) (j, (h, tt))),
              ),
            ),
          ),
        ),
      );
    }

head_form : {version : Version} (t : List ℕ) (ps : List Param) (k : Kind) (n : ℕ) → Forms version t calm (IsToken word.Name t) → Forms version (listed param_text ps) calm (ParamsOf ps (suc n)) → Tail version (answer_kind_text k) (AnswerOf k n) →
    Forms version (codes "fn " ++ t ++ codes "(" ++ listed param_text ps ++ codes ")" ++ answer_kind_text k ++ codes " {\n") any (HeadOf t ps k n)
head_form {version = version} t ps k n name params answer =
    then_ (then_ (then_ (then_ (then_ (then_ (word_space word.Fn (codes "fn") refl (in_each version word.Fn (codes "fn") refl refl) refl) name (λ r h. anything (t ++ r))) opened (λ r h. refl)) params (λ r h. anything (listed param_text ps ++ r)))
    closed (λ r h. refl)) answer.form (λ r h. anything (answer_kind_text k ++ r)))
    (weaken (then_ (a_blank 32 refl) open_block (λ r h. refl)) nothing_before) (λ r h. refl)

return_word : {version : Version} → Forms version (codes "  return ") any (IsToken word.Return (codes "return"))
return_word {version = version} = weaken (then_ two_spaces (word_space word.Return (codes "return") refl (in_each version word.Return (codes "return") refl refl) refl) (λ r h. refl)) nothing_before

end_form : {version : Version} → Forms version (codes ";\n}\n") any EndOf
end_form =
    then_ (weaken (then_ semicolon (a_blank 10 refl) (λ r h. refl)) nothing_after) (weaken (then_ close_block (a_blank 10 refl) (λ r h. refl)) nothing_after) (λ r h. refl)

pub function_shown : {version : Version} {ts rest : List Terminal} {f : Function} (d : IsFunction ts f rest) (n : ℕ) → Low (function_nesting d n) → Sound version ts → Forms version (function_text f) any (FunctionOf f n)
function_shown {version = version} (a_function {b = b} {f = at} {n = t} {ps = ps} {k = k} {body = body} {r = x} p q d e) n l s =
    let after_params = low_back (params_nesting p (suc n)) _ l.1.1.1 in
    let after_answer = low_back (answer_nesting q n) _ after_params.1 in
    let after_body = low_back (stmts_nesting d (suc n)) _ after_answer.1 in
    let at_params = s.1.1.1 in
    let at_answer = (sound_after version (params_eats p) at_params).1 in
    let at_body = (sound_after version (answer_eats q) at_answer).1 in
    let at_result = (sound_after version (stmts_eats d) at_body).1 in
    let name = name_form t s.1.0.word_is (s.1.0.modest.name refl) in
    let params = params_shown p (suc n) (low_front (params_nesting p (suc n)) _ l.1.1.1) at_params in
    let answer = answer_shown q n (low_front (answer_nesting q n) _ after_params.1) in
    let stmts = stmts_shown d (suc n) (low_front (stmts_nesting d (suc n)) _ after_answer.1) at_body (codes "  ") two_spaces in
    let result = expr_shown e (suc n) (low_front (expr_nesting e (suc n)) _ after_body.1) at_result in
    weaken (then_ (then_ (then_ (then_ (head_form t ps k n name params answer) stmts (λ r h. anything (stmts_text body (codes "  ") ++ r))) return_word (λ r h. anything (codes "  return " ++ r)))
    result.expr (λ r h. anything (expr_text x ++ r))) end_form (λ r h. refl))
    (function_made b at t ps k body x n l.0 l.1.1.0)

no_functions_made : (n : ℕ) (us ts : List Terminal) → IsNothing us ts → FunctionsOf [] n us ts
no_functions_made n us ts nothing = record { tree = []; derived = no_functions; same = refl; low = tt }

functions_made : (x : Function) (xs : List Function) (n : ℕ) (us ts : List Terminal) → Then (FunctionOf x n) (FunctionsOf xs n) us ts → FunctionsOf (x ∷ xs) n us ts
functions_made x xs n us ts (and_then d e) =
    record {
      tree = d.tree ∷ e.tree;
      derived = one_function d.derived e.derived;
      same = cons_same d.same e.same;
      low = low_append (function_nesting d.derived n) (functions_nesting e.derived n) d.low e.low;
    }

function_sound : (version : Version) {ts rest : List Terminal} {f : Function} → IsFunction ts f rest → Sound version ts → Sound version rest
function_sound version (a_function p q d e) s = (sound_after version (expr_eats e) (sound_after version (stmts_eats d) (sound_after version (answer_eats q) (sound_after version (params_eats p) s.1.1.1).1).1).1).1.1

pub functions_shown : {version : Version} {ts rest : List Terminal} {fs : List Function} (d : IsFunctions ts fs rest) (n : ℕ) → Low (functions_nesting d n) → Sound version ts → Forms version (flat_map function_text fs) any (FunctionsOf fs n)
functions_shown no_functions n l s = weaken empty (no_functions_made n)
functions_shown {version = version} (one_function {f = f} {fs = fs} d e) n l s =
    let first = function_shown d n (low_front (function_nesting d n) (functions_nesting e n) l) s in
    let others = functions_shown e n (low_back (function_nesting d n) (functions_nesting e n) l) (function_sound version d s) in
    weaken (then_ first others (λ r h. anything (flat_map function_text fs ++ r))) (functions_made f fs n)
