-- What the machine takes can be derived, and each list of symbols has some tokens: so it takes exactly what is viable.
use Rattle.std.proofs.Common.{◌≡◌, ℕ, List, [], ◌∷◌, ◌++◌, Option, Some, None, Bool, true, false, not, ◌&&◌, nat_eq, cond, if◌then◌else◌, option_and_then, refl, sym, ap, ◌∙◌, subst}
use Rattle.std.proofs.lemmas.Bool.{eqb-true}
use Rattle.std.proofs.lemmas.Option.{none-some, same_Some, option_and_then_some}
use Rattle.script_tokens.specs.declared.version.Version.{Version}
use Rattle.script_tokens.specs.declared.version.Version.TheVariants.{One, Two}
use Rattle.std.specs.List.{list_all}
use Rattle.script_tokens.specs.Word.{is_scope}
use Rattle.script_tokens.specs.declared.token.Word.{Word}
use Rattle.script_tokens.specs.declared.token.Word.TheVariants as word
use Rattle.script_grammar.specs.declared.tree.Name.{Name}
use Rattle.script_grammar.specs.declared.tree.Kind.{Kind}
use Rattle.script_grammar.specs.declared.tree.Expr.{Expr}
use Rattle.script_grammar.specs.declared.tree.Expr.TheVariants as expr
use Rattle.script_grammar.specs.declared.tree.SumPart.{SumPart}
use Rattle.script_grammar.specs.declared.tree.ProductPart.{ProductPart}
use Rattle.script_grammar.specs.declared.tree.ProductSign.{ProductSign}
use Rattle.script_grammar.specs.declared.tree.Comparison.{Comparison}
use Rattle.script_grammar.specs.declared.tree.CallText.{CallText}
use Rattle.script_grammar.specs.declared.tree.Right.{Right}
use Rattle.script_grammar.specs.declared.tree.Stmt.{Stmt}
use Rattle.script_grammar.specs.declared.tree.Param.{Param}
use Rattle.script_grammar.specs.declared.tree.Function.{Function}
use Rattle.script_grammar.specs.Grammar.{Terminal, tok, number_at, IsSumSign, a_plus, a_minus, IsProductSign, a_times, an_over, a_modulo, IsComparison, an_eq, a_ne, a_lt, a_le, a_gt, a_ge, IsFactor, a_neg, a_number, a_name, an_item, a_group, a_same, an_older, factors, IsFactors, no_factors, one_factor, IsSum, terms, IsTerms, no_terms, one_term, IsExpr, alone, compared, IsMoreArgs, no_more_args, one_more_arg, IsArgs, no_args, some_args, IsCall, a_call, IsRight, right_value, right_draw, right_new, right_call, right_spawn, IsInto, no_into, an_into, IsStmt, a_let, an_array, a_set, a_store, a_spawn, a_call_stmt, a_sync, a_print, an_if, a_while, a_pfor, a_scope, IsStmts, no_stmts, one_stmt, IsBlock, a_block, IsElse, no_else, an_else, IsParam, int_param, id_param, IsMoreParams, no_more_params, one_more_param, IsParams, no_params, some_params, IsAnswerKind, int_answer, id_answer, a_function, IsFunctions, no_functions, one_function, IsScript, has_scope, AreOf, IsViable}
use Rattle.script_text.specs.Machine.{Sym, only, exactly, factor, index, pair, more_factors, more_terms, comparison, minus_end, args, more_args, call_args, right, into, loop_name, loop_args, stmts, after_let, after_name, block, otherwise, functions, param_list, params, more_params, param, answer, body, same_word, same_bytes, Production, factor_rules, expr_then, rules, is_empty, find_rule, choose, consume, consume_all}
use Rattle.script_text.proofs.Parsing.Words.{same_words}
use Rattle.script_text.proofs.Nesting.Follows.{script_runs}

pub data IsKind : Word → List Terminal → List Terminal → Type 0 where
  is_kind : {a : ℕ} {k : Word} {t : List ℕ} {rest : List Terminal} → IsKind k (tok a k t ∷ rest) rest

pub data IsNamed : List ℕ → List Terminal → List Terminal → Type 0 where
  is_named : {a : ℕ} {n : List ℕ} {rest : List Terminal} → IsNamed n (tok a word.Name n ∷ rest) rest

pub data IsNothing : List Terminal → List Terminal → Type 0 where
  nothing : {rest : List Terminal} → IsNothing rest rest

-- ( expr , expr )
pub data IsPair : List Terminal → List Terminal → Type 0 where
  a_pair : {b c d : ℕ} {u v w : List ℕ} {ts us rest : List Terminal} {x y : Expr} → IsExpr ts x (tok c word.Comma v ∷ us) → IsExpr us y (tok d word.Close w ∷ rest) → IsPair (tok b word.Open u ∷ ts) rest

pub data IsCompared : List Terminal → List Terminal → Type 0 where
  not_compared : {rest : List Terminal} → IsCompared rest rest
  is_compared : {a : ℕ} {k : Word} {t : List ℕ} {g : Comparison} {us rest : List Terminal} {y : Expr} → IsComparison k g → IsSum us y rest → IsCompared (tok a k t ∷ us) rest

pub data IsCallArgs : List Terminal → List Terminal → Type 0 where
  call_args_of : {b c : ℕ} {u v : List ℕ} {ts rest : List Terminal} {xs : List Expr} → IsArgs ts xs (tok c word.Close v ∷ rest) → IsCallArgs (tok b word.Open u ∷ ts) rest

pub data IsLoopArgs : List ℕ → List Terminal → List Terminal → Type 0 where
  loop_args_of : {g h i : ℕ} {y n z : List ℕ} {ws rest : List Terminal} {xs : List Expr} → IsMoreArgs ws xs (tok i word.Close z ∷ rest) → IsLoopArgs n (tok g word.Open y ∷ tok h word.Name n ∷ ws) rest

pub data IsParamList : List Terminal → List Terminal → Type 0 where
  param_list_of : {b c : ℕ} {u v : List ℕ} {ts rest : List Terminal} {xs : List Param} → IsParams ts xs (tok c word.Close v ∷ rest) → IsParamList (tok b word.Open u ∷ ts) rest

pub data IsBody : List Terminal → List Terminal → Type 0 where
  body_of : {e f g h : ℕ} {w x y z : List ℕ} {vs ws rest : List Terminal} {p : List Stmt} {r : Expr} → IsStmts vs p (tok f word.Return x ∷ ws) → IsExpr ws r (tok g word.Semicolon y ∷ tok h word.CloseBlock z ∷ rest) → IsBody (tok e word.OpenBlock w ∷ vs) rest

-- the tokens of ts before rest derive from the symbol
abbrev pub From : Sym → List Terminal → List Terminal → Type 0
From (only k) ts rest = IsKind k ts rest
From (exactly n) ts rest = IsNamed n ts rest
From factor ts rest = (x : Expr) × IsFactor ts x rest
From index ts rest = (a : ℕ) (t : List ℕ) → (x : Expr) × IsFactor (tok a word.Name t ∷ ts) x rest
From pair ts rest = IsPair ts rest
From more_factors ts rest = (xs : List ProductPart) × IsFactors ts xs rest
From more_terms ts rest = (xs : List SumPart) × IsTerms ts xs rest
From comparison ts rest = IsCompared ts rest
From minus_end ts rest = IsNothing ts rest
From args ts rest = (xs : List Expr) × IsArgs ts xs rest
From more_args ts rest = (xs : List Expr) × IsMoreArgs ts xs rest
From call_args ts rest = IsCallArgs ts rest
From right ts rest = (r : Right) × IsRight ts r rest
From into ts rest = (o : Option Name) × IsInto ts o rest
From loop_name ts rest = (a : ℕ) (t : List ℕ) → (x : Stmt) × IsStmt (tok a word.Pfor t ∷ ts) x rest
From (loop_args n) ts rest = IsLoopArgs n ts rest
From stmts ts rest = (xs : List Stmt) × IsStmts ts xs rest
From after_let ts rest = (a b : ℕ) (t u : List ℕ) → (x : Stmt) × IsStmt (tok a word.Let t ∷ tok b word.Name u ∷ ts) x rest
From after_name ts rest = (a : ℕ) (t : List ℕ) → (x : Stmt) × IsStmt (tok a word.Name t ∷ ts) x rest
From block ts rest = (xs : List Stmt) × IsBlock ts xs rest
From otherwise ts rest = (xs : List Stmt) × IsElse ts xs rest
From functions ts rest = (fs : List Function) × IsFunctions ts fs rest
From param_list ts rest = IsParamList ts rest
From params ts rest = (xs : List Param) × IsParams ts xs rest
From more_params ts rest = (xs : List Param) × IsMoreParams ts xs rest
From param ts rest = (x : Param) × IsParam ts x rest
From answer ts rest = (k : Kind) × IsAnswerKind ts k rest
From body ts rest = IsBody ts rest

-- all of ts derives from the symbols
abbrev pub Derives : List Sym → List Terminal → Type 0
Derives [] ts = ts ≡ []
Derives (a ∷ s) ts = (mid : List Terminal) × From a ts mid × Derives s mid

pub same_name : (m n : List ℕ) → same_bytes m n ≡ true → m ≡ n
same_name [] [] e = refl
same_name [] (b ∷ bs) e = cc
same_name (a ∷ xs) [] e = cc
same_name (a ∷ xs) (b ∷ ys) e = go (nat_eq a b) refl e (same_name xs ys)
  where
    go : (c : Bool) → nat_eq a b ≡ c → (c && same_bytes xs ys) ≡ true → (same_bytes xs ys ≡ true → xs ≡ ys) → ◌≡◌ {A = List ℕ} (a ∷ xs) (b ∷ ys)
    go true f g h = let p = eqb-true a b f in let q = h g in cc
    go false f g h = cc

-- a rule may be used
abbrev pub Holds : Sym → Production → Type 0
Holds a r = (at : ℕ) (text : List ℕ) (s : List Sym) (ts : List Terminal) → r.fits text ≡ true → Derives (r.rest text ++ s) ts → Derives (a ∷ s) (tok at r.first text ∷ ts)

abbrev pub AllRules : (Production → Type 0) → List Production → Type 0
AllRules P [] = Unit {0}
AllRules P (r ∷ rs) = P r × AllRules P rs

abbrev An : List Terminal → List Terminal → Type 0
An ts rest = (x : Expr) × IsExpr ts x rest

expr_from : {ts m1 m2 m3 rest : List Terminal} → From factor ts m1 → From more_factors m1 m2 → From more_terms m2 m3 → IsCompared m3 rest → An ts rest
expr_from f g h not_compared = (_, alone (terms (factors f.1 g.1) h.1))
expr_from f g h (is_compared c e) = (_, compared (terms (factors f.1 g.1) h.1) c e)

-- an expression before
cut : (s : List Sym) (ts : List Terminal) → Derives (expr_then s) ts → (mid : List Terminal) × An ts mid × Derives s mid
cut s ts d = (_, expr_from d.1 d.2.1 d.2.2.1 d.2.2.2.1, d.2.2.2.2)

group : {a : ℕ} {t : List ℕ} {ts m rest : List Terminal} → An ts m → IsKind word.Close m rest → From factor (tok a word.Open t ∷ ts) rest
group e is_kind = (_, a_group e.1)

item : {ts m rest : List Terminal} → An ts m → IsKind word.CloseItem m rest → {b : ℕ} {u : List ℕ} → From index (tok b word.OpenItem u ∷ ts) rest
item e is_kind = λ a t. (_, an_item e.1)

paired : {b : ℕ} {u : List ℕ} {ts m us n rest : List Terminal} → An ts m → IsKind word.Comma m us → An us n → IsKind word.Close n rest → IsPair (tok b word.Open u ∷ ts) rest
paired e is_kind f is_kind = a_pair e.1 f.1

same_from : {a : ℕ} {t : List ℕ} {ts rest : List Terminal} → IsPair ts rest → From factor (tok a word.Same t ∷ ts) rest
same_from (a_pair e f) = (_, a_same e f)

older_from : {a : ℕ} {t : List ℕ} {ts rest : List Terminal} → IsPair ts rest → From factor (tok a word.Older t ∷ ts) rest
older_from (a_pair e f) = (_, an_older e f)

neg_from : {a : ℕ} {t : List ℕ} {ts m rest : List Terminal} → From factor ts m → IsNothing m rest → From factor (tok a word.Minus t ∷ ts) rest
neg_from f nothing = (_, a_neg f.1)

factor_hold : AllRules (Holds factor) (factor_rules [])
factor_hold = (
  (λ a t s ts f d. (_, d.1 a t, d.2)),
  (
    (λ a t s ts f d. (ts, (_, a_number), d)),
    (
      (λ a t s ts f d. (_, neg_from d.1 d.2.1, d.2.2)),
      (
        (λ a t s ts f d. let q = cut (only word.Close ∷ s) ts d in (_, group q.1 q.2.1, q.2.2)),
        (
          (λ a t s ts f d. (_, same_from d.1, d.2)),
          ((λ a t s ts f d. (_, older_from d.1, d.2)), tt),
        ),
      ),
    ),
  ),
)

to_args : (s : List Sym) (ts : List Terminal) → Derives (expr_then (more_args ∷ s)) ts → Derives (args ∷ s) ts
to_args s ts d = let q = cut (more_args ∷ s) ts d in (_, (_, some_args q.1.1 q.2.1.1), q.2.2)

to_right : (s : List Sym) (ts : List Terminal) → Derives (expr_then s) ts → Derives (right ∷ s) ts
to_right s ts d = let q = cut s ts d in (_, (_, right_value q.1.1), q.2)

called : {ts m rest : List Terminal} → IsKind word.Name ts m → IsCallArgs m rest → (c : CallText) × IsCall ts c rest
called is_kind (call_args_of d) = (_, a_call d)

looped : {b : ℕ} {n : List ℕ} {m0 ts m1 us vs m3 m4 m5 m6 rest : List Terminal} → IsKind word.In m0 ts → An ts m1 → IsKind word.Range m1 us → An us vs → From into vs m3 → IsKind word.Call m3 m4 → IsKind word.Name m4 m5 → IsLoopArgs n m5 m6 → IsKind word.Semicolon m6 rest
    → From loop_name (tok b word.Name n ∷ m0) rest
looped is_kind e is_kind f i is_kind is_kind (loop_args_of m) is_kind = λ a t. (_, a_pfor e.1 f.1 i.1 m)

loop_args_from : {a : ℕ} {t n : List ℕ} {ts m1 m2 rest : List Terminal} → IsNamed n ts m1 → From more_args m1 m2 → IsKind word.Close m2 rest → IsLoopArgs n (tok a word.Open t ∷ ts) rest
loop_args_from is_named m is_kind = loop_args_of m.1

let_word : {ts m rest : List Terminal} → IsKind word.Name ts m → From after_let m rest → (a : ℕ) (t : List ℕ) → (x : Stmt) × IsStmt (tok a word.Let t ∷ ts) x rest
let_word (is_kind {a = b} {t = u}) g = λ a t. g a b t u

let_right : {c : ℕ} {v : List ℕ} {ts m rest : List Terminal} → From right ts m → IsKind word.Semicolon m rest → From after_let (tok c word.Assign v ∷ ts) rest
let_right r is_kind = λ a b t u. (_, a_let r.1)

let_array : {c : ℕ} {v : List ℕ} {m0 m1 m2 rest : List Terminal} → IsKind word.Number m0 m1 → IsKind word.CloseItem m1 m2 → IsKind word.Semicolon m2 rest → From after_let (tok c word.OpenItem v ∷ m0) rest
let_array is_kind is_kind is_kind = λ a b t u. (_, an_array)

name_right : {c : ℕ} {v : List ℕ} {ts m rest : List Terminal} → From right ts m → IsKind word.Semicolon m rest → From after_name (tok c word.Assign v ∷ ts) rest
name_right r is_kind = λ a t. (_, a_set r.1)

name_store : {c : ℕ} {v : List ℕ} {ts m1 m2 us m3 rest : List Terminal} → An ts m1 → IsKind word.CloseItem m1 m2 → IsKind word.Assign m2 us → An us m3 → IsKind word.Semicolon m3 rest → From after_name (tok c word.OpenItem v ∷ ts) rest
name_store e is_kind is_kind f is_kind = λ a t. (_, a_store e.1 f.1)

spawn_from : {a : ℕ} {t : List ℕ} {ts m1 m2 rest : List Terminal} → IsKind word.Name ts m1 → IsCallArgs m1 m2 → IsKind word.Semicolon m2 rest → (x : Stmt) × IsStmt (tok a word.Spawn t ∷ ts) x rest
spawn_from n c is_kind = (_, a_spawn (called n c).1)

call_from : {a : ℕ} {t : List ℕ} {ts m1 m2 rest : List Terminal} → IsKind word.Name ts m1 → IsCallArgs m1 m2 → IsKind word.Semicolon m2 rest → (x : Stmt) × IsStmt (tok a word.Call t ∷ ts) x rest
call_from n c is_kind = (_, a_call_stmt (called n c).1)

sync_from : {a : ℕ} {t : List ℕ} {ts rest : List Terminal} → IsKind word.Semicolon ts rest → (x : Stmt) × IsStmt (tok a word.Sync t ∷ ts) x rest
sync_from is_kind = (_, a_sync)

print_from : {a : ℕ} {t : List ℕ} {ts m rest : List Terminal} → An ts m → IsKind word.Semicolon m rest → (x : Stmt) × IsStmt (tok a word.Print t ∷ ts) x rest
print_from e is_kind = (_, a_print e.1)

block_from : {a : ℕ} {t : List ℕ} {ts m rest : List Terminal} → From stmts ts m → IsKind word.CloseBlock m rest → From block (tok a word.OpenBlock t ∷ ts) rest
block_from d is_kind = (_, a_block d.1)

then_more : {ts m rest : List Terminal} → (x : Stmt) × IsStmt ts x m → From stmts m rest → From stmts ts rest
then_more x d = (_, one_stmt x.1 d.1)

params_from : {a : ℕ} {t : List ℕ} {ts m rest : List Terminal} → From params ts m → IsKind word.Close m rest → IsParamList (tok a word.Open t ∷ ts) rest
params_from d is_kind = param_list_of d.1

args_from : {a : ℕ} {t : List ℕ} {ts m rest : List Terminal} → From args ts m → IsKind word.Close m rest → IsCallArgs (tok a word.Open t ∷ ts) rest
args_from d is_kind = call_args_of d.1

id_from : {a : ℕ} {t : List ℕ} {ts rest : List Terminal} → IsKind word.Name ts rest → From param (tok a word.Id t ∷ ts) rest
id_from is_kind = (_, id_param)

into_from : {a : ℕ} {t : List ℕ} {ts rest : List Terminal} → IsKind word.Name ts rest → From into (tok a word.Into t ∷ ts) rest
into_from is_kind = (_, an_into)

answer_from : {a : ℕ} {t : List ℕ} {ts rest : List Terminal} → IsKind word.Id ts rest → From answer (tok a word.Arrow t ∷ ts) rest
answer_from is_kind = (_, id_answer)

body_from : {e : ℕ} {w : List ℕ} {vs m0 ws m1 m2 rest : List Terminal} → From stmts vs m0 → IsKind word.Return m0 ws → An ws m1 → IsKind word.Semicolon m1 m2 → IsKind word.CloseBlock m2 rest → IsBody (tok e word.OpenBlock w ∷ vs) rest
body_from d is_kind r is_kind is_kind = body_of d.1 r.1

function_from : {a : ℕ} {t : List ℕ} {ts m0 us m2 rest last : List Terminal} → IsKind word.Name ts m0 → IsParamList m0 us → From answer us m2 → IsBody m2 rest → From functions rest last → From functions (tok a word.Fn t ∷ ts) last
function_from is_kind (param_list_of p) k (body_of d r) f = (_, one_function (a_function p k.1 d r) f.1)

factor_part : {a : ℕ} {k : Word} {t : List ℕ} {g : ProductSign} {ts m rest : List Terminal} → IsProductSign k g → From factor ts m → From more_factors m rest → From more_factors (tok a k t ∷ ts) rest
factor_part k x xs = (_, one_factor k x.1 xs.1)

term_part : {a : ℕ} {k : Word} {t : List ℕ} {g : Bool} {ts m n rest : List Terminal} → IsSumSign k g → From factor ts m → From more_factors m n → From more_terms n rest → From more_terms (tok a k t ∷ ts) rest
term_part k x xs ys = (_, one_term k (factors x.1 xs.1) ys.1)

compare_part : {a : ℕ} {k : Word} {t : List ℕ} {g : Comparison} {ts m n rest : List Terminal} → IsComparison k g → From factor ts m → From more_factors m n → From more_terms n rest → IsCompared (tok a k t ∷ ts) rest
compare_part k x xs ys = is_compared k (terms (factors x.1 xs.1) ys.1)

pub rules_hold : (a : Sym) → AllRules (Holds a) (rules a)
rules_hold (only k) = ((λ a t s ts f d. (ts, is_kind, d)), tt)
rules_hold (exactly n) = ((λ a t s ts f d. (ts, subst (λ z. IsNamed n (tok a word.Name z ∷ ts) ts) (same_name n t f) is_named, d)), tt)
rules_hold factor = factor_hold
rules_hold index = ((λ a t s ts f d. let q = cut (only word.CloseItem ∷ s) ts d in (_, item q.1 q.2.1, q.2.2)), tt)
rules_hold pair = ((λ a t s ts f d. let q = cut (only word.Comma ∷ expr_then (only word.Close ∷ s)) ts d in let p = cut (only word.Close ∷ s) q.2.0 q.2.2 in (_, paired q.1 q.2.1 p.1 p.2.1, p.2.2)), tt)
rules_hold more_factors = ((λ a t s ts f d. (_, factor_part a_times d.1 d.2.1, d.2.2)), ((λ a t s ts f d. (_, factor_part an_over d.1 d.2.1, d.2.2)), ((λ a t s ts f d. (_, factor_part a_modulo d.1 d.2.1, d.2.2)), tt)))
rules_hold more_terms = ((λ a t s ts f d. (_, term_part a_plus d.1 d.2.1 d.2.2.1, d.2.2.2)), ((λ a t s ts f d. (_, term_part a_minus d.1 d.2.1 d.2.2.1, d.2.2.2)), tt))
rules_hold comparison = (
  (λ a t s ts f d. (_, compare_part an_eq d.1 d.2.1 d.2.2.1, d.2.2.2)),
  (
    (λ a t s ts f d. (_, compare_part a_ne d.1 d.2.1 d.2.2.1, d.2.2.2)),
    (
      (λ a t s ts f d. (_, compare_part a_lt d.1 d.2.1 d.2.2.1, d.2.2.2)),
      ((λ a t s ts f d. (_, compare_part a_le d.1 d.2.1 d.2.2.1, d.2.2.2)), ((λ a t s ts f d. (_, compare_part a_gt d.1 d.2.1 d.2.2.1, d.2.2.2)), ((λ a t s ts f d. (_, compare_part a_ge d.1 d.2.1 d.2.2.1, d.2.2.2)), tt))),
    ),
  ),
)
rules_hold minus_end = tt
rules_hold args =
    let h = factor_hold in let more = λ (s : List Sym). more_factors ∷ more_terms ∷ comparison ∷ more_args ∷ s in (
      (λ a t s ts f d. to_args s _ (h.0 a t (more s) ts f d)),
      (
        (λ a t s ts f d. to_args s _ (h.1.0 a t (more s) ts f d)),
        (
          (λ a t s ts f d. to_args s _ (h.1.1.0 a t (more s) ts f d)),
          (
            (λ a t s ts f d. to_args s _ (h.1.1.1.0 a t (more s) ts f d)),
            ((λ a t s ts f d. to_args s _ (h.1.1.1.1.0 a t (more s) ts f d)), ((λ a t s ts f d. to_args s _ (h.1.1.1.1.1.0 a t (more s) ts f d)), tt)),
          ),
        ),
      ),
    )
rules_hold more_args = ((λ a t s ts f d. let q = cut (more_args ∷ s) ts d in (_, (_, one_more_arg q.1.1 q.2.1.1), q.2.2)), tt)
rules_hold call_args = ((λ a t s ts f d. (_, args_from d.1 d.2.1, d.2.2)), tt)
rules_hold right =
    let h = factor_hold in let more = λ (s : List Sym). more_factors ∷ more_terms ∷ comparison ∷ s in (
      (λ a t s ts f d. (ts, (_, right_draw), d)),
      (
        (λ a t s ts f d. (ts, (_, right_new), d)),
        (
          (λ a t s ts f d. (_, (_, right_call (called d.1 d.2.1).1), d.2.2)),
          (
            (λ a t s ts f d. (_, (_, right_spawn (called d.1 d.2.1).1), d.2.2)),
            (
              (λ a t s ts f d. to_right s _ (h.0 a t (more s) ts f d)),
              (
                (λ a t s ts f d. to_right s _ (h.1.0 a t (more s) ts f d)),
                (
                  (λ a t s ts f d. to_right s _ (h.1.1.0 a t (more s) ts f d)),
                  (
                    (λ a t s ts f d. to_right s _ (h.1.1.1.0 a t (more s) ts f d)),
                    ((λ a t s ts f d. to_right s _ (h.1.1.1.1.0 a t (more s) ts f d)), ((λ a t s ts f d. to_right s _ (h.1.1.1.1.1.0 a t (more s) ts f d)), tt)),
                  ),
                ),
              ),
            ),
          ),
        ),
      ),
    )
rules_hold into = ((λ a t s ts f d. (_, into_from d.1, d.2)), tt)
rules_hold loop_name = (
  (λ a t s ts f d.
      let q = cut (only word.Range ∷ expr_then (into ∷ only word.Call ∷ only word.Name ∷ loop_args t ∷ only word.Semicolon ∷ s)) d.0 d.2 in
      let p = cut (into ∷ only word.Call ∷ only word.Name ∷ loop_args t ∷ only word.Semicolon ∷ s) q.2.0 q.2.2 in
      let w = p.2 in
      (_, looped d.1 q.1 q.2.1 p.1 w.1 w.2.1 w.2.2.1 w.2.2.2.1 w.2.2.2.2.1, w.2.2.2.2.2)),
  tt,
)
rules_hold (loop_args n) = ((λ a t s ts f d. (_, loop_args_from d.1 d.2.1 d.2.2.1, d.2.2.2)), tt)
rules_hold stmts = (
  (λ a t s ts f d. (_, then_more (let_word d.1 d.2.1 a t) d.2.2.1, d.2.2.2)),
  (
    (λ a t s ts f d. (_, then_more (d.1 a t) d.2.1, d.2.2)),
    (
      (λ a t s ts f d. (_, then_more (spawn_from d.1 d.2.1 d.2.2.1) d.2.2.2.1, d.2.2.2.2)),
      (
        (λ a t s ts f d. (_, then_more (call_from d.1 d.2.1 d.2.2.1) d.2.2.2.1, d.2.2.2.2)),
        (
          (λ a t s ts f d. (_, then_more (sync_from d.1) d.2.1, d.2.2)),
          (
            (λ a t s ts f d. let q = cut (only word.Semicolon ∷ stmts ∷ s) ts d in (_, then_more (print_from q.1 q.2.1) q.2.2.1, q.2.2.2)),
            (
              (λ a t s ts f d. let q = cut (block ∷ otherwise ∷ stmts ∷ s) ts d in (_, then_more (_, an_if q.1.1 q.2.1.1 q.2.2.1.1) q.2.2.2.1, q.2.2.2.2)),
              (
                (λ a t s ts f d. let q = cut (block ∷ stmts ∷ s) ts d in (_, then_more (_, a_while q.1.1 q.2.1.1) q.2.2.1, q.2.2.2)),
                (
                  (λ a t s ts f d. (_, then_more (d.1 a t) d.2.1, d.2.2)),
                  ((λ a t s ts f d. (_, then_more (_, a_scope d.1.1) d.2.1, d.2.2)), tt),
                ),
              ),
            ),
          ),
        ),
      ),
    ),
  ),
)
rules_hold after_let = ((λ a t s ts f d. (_, let_right d.1 d.2.1, d.2.2)), ((λ a t s ts f d. (_, let_array d.1 d.2.1 d.2.2.1, d.2.2.2)), tt))
rules_hold after_name = (
  (λ a t s ts f d. (_, name_right d.1 d.2.1, d.2.2)),
  (
    (λ a t s ts f d.
        let q = cut (only word.CloseItem ∷ only word.Assign ∷ expr_then (only word.Semicolon ∷ s)) ts d in let p = cut (only word.Semicolon ∷ s) q.2.2.0 q.2.2.2 in (_, name_store q.1 q.2.1 q.2.2.1 p.1 p.2.1, p.2.2)),
    tt,
  ),
)
rules_hold block = ((λ a t s ts f d. (_, block_from d.1 d.2.1, d.2.2)), tt)
rules_hold otherwise = ((λ a t s ts f d. (_, (_, an_else d.1.1), d.2)), tt)
rules_hold functions = ((λ a t s ts f d. (_, function_from d.1 d.2.1 d.2.2.1 d.2.2.2.1 d.2.2.2.2.1, d.2.2.2.2.2)), tt)
rules_hold param_list = ((λ a t s ts f d. (_, params_from d.1 d.2.1, d.2.2)), tt)
rules_hold params = ((λ a t s ts f d. (_, (_, some_params int_param d.1.1), d.2)), ((λ a t s ts f d. (_, (_, some_params (id_from d.1).1 d.2.1.1), d.2.2)), tt))
rules_hold more_params = ((λ a t s ts f d. (_, (_, one_more_param d.1.1 d.2.1.1), d.2.2)), tt)
rules_hold param = ((λ a t s ts f d. (ts, (_, int_param), d)), ((λ a t s ts f d. (_, id_from d.1, d.2)), tt))
rules_hold answer = ((λ a t s ts f d. (_, answer_from d.1, d.2)), tt)
rules_hold body = ((λ a t s ts f d. let q = cut (only word.Semicolon ∷ only word.CloseBlock ∷ s) d.2.0 d.2.2 in (_, body_from d.1 d.2.1 q.1 q.2.1 q.2.2.1, q.2.2.2)), tt)

-- what holds of each rule holds of the one that is found
of_found : (a : Sym) (k : Word) (text : List ℕ) (rs : List Production) → AllRules (Holds a) rs → (r : List Sym) → find_rule k text rs ≡ Some r
    → (at : ℕ) (s : List Sym) (ts : List Terminal) → Derives (r ++ s) ts → Derives (a ∷ s) (tok at k text ∷ ts)
of_found a k text [] h r e at s ts d = absurd (none-some _ e)
of_found a k text (q ∷ qs) h r e at s ts d = go (same_word k q.first) (q.fits text) refl refl (λ f. of_found a k text qs h.1 r f at s ts d)
  where
    go : (b c : Bool) → same_word k q.first ≡ b → q.fits text ≡ c → (find_rule k text qs ≡ Some r → Derives (a ∷ s) (tok at k text ∷ ts)) → Derives (a ∷ s) (tok at k text ∷ ts)
    go true true f g ih =
        let same : k ≡ q.first = same_words k q.first f in
        let e' : q.rest text ≡ r = same_Some _ _ (sym (ap (λ b. cond (b && q.fits text) (Some (q.rest text)) (find_rule k text qs)) f ∙ ap (λ b. cond (true && b) (Some (q.rest text)) (find_rule k text qs)) g) ∙ e) in
        subst (λ j. Derives (a ∷ s) (tok at j text ∷ ts)) (sym same) (h.0 at text s ts g (subst (λ x. Derives (x ++ s) ts) (sym e') d))
    go true false f g ih = ih (sym (ap (λ b. cond (b && q.fits text) (Some (q.rest text)) (find_rule k text qs)) f ∙ ap (λ b. cond (true && b) (Some (q.rest text)) (find_rule k text qs)) g) ∙ e)
    go false c f g ih = ih (sym (ap (λ b. cond (b && q.fits text) (Some (q.rest text)) (find_rule k text qs)) f) ∙ e)

pub left_out : (a : Sym) → is_empty a ≡ true → (ts : List Terminal) → From a ts ts
left_out index e ts = λ a t. (_, a_name)
left_out more_factors e ts = (_, no_factors)
left_out more_terms e ts = (_, no_terms)
left_out comparison e ts = not_compared
left_out minus_end e ts = nothing
left_out args e ts = (_, no_args)
left_out more_args e ts = (_, no_more_args)
left_out into e ts = (_, no_into)
left_out stmts e ts = (_, no_stmts)
left_out otherwise e ts = (_, no_else)
left_out functions e ts = (_, no_functions)
left_out params e ts = (_, no_params)
left_out more_params e ts = (_, no_more_params)
left_out answer e ts = (_, int_answer)
left_out _ e ts = cc

step_sound : (k : Word) (at : ℕ) (text : List ℕ) (s s' : List Sym) (ts : List Terminal) → consume k text s ≡ Some s' → Derives s' ts → Derives s (tok at k text ∷ ts)
step_sound k at text [] s' ts e d = absurd (none-some _ e)
step_sound k at text (a ∷ s) s' ts e d = go (find_rule k text (rules a)) (is_empty a) refl refl e (λ f. step_sound k at text s s' ts f d)
  where
    go : (o : Option (List Sym)) (b : Bool) → find_rule k text (rules a) ≡ o → is_empty a ≡ b → choose o b s (consume k text s) ≡ Some s' → (consume k text s ≡ Some s' → Derives s (tok at k text ∷ ts)) → Derives (a ∷ s) (tok at k text ∷ ts)
    go (Some r) b f g h ih = of_found a k text (rules a) (rules_hold a) r f at s ts (subst (λ x. Derives x ts) (sym (same_Some _ _ h)) d)
    go None true f g h ih = (_, left_out a g _, ih h)
    go None false f g h ih = absurd (none-some _ h)

pub run_sound : (ts : List Terminal) (s s' : List Sym) (us : List Terminal) → consume_all ts s ≡ Some s' → Derives s' us → Derives s (ts ++ us)
run_sound [] s s' us e d = subst (λ x. Derives x us) (sym (same_Some _ _ e)) d
run_sound (t ∷ ts) s s' us e d =
    option_and_then_some (consume_all ts) (consume t.word t.text s) s' e (λ x f g. step_sound t.word t.at t.text s x (ts ++ us) f (run_sound ts x s' us g d))

one : (rest : List Terminal) → IsExpr (tok 0 word.Number [] ∷ rest) (expr.Number (number_at 0 [])) rest
one rest = alone (terms (factors a_number no_factors) no_terms)

word_of : (k : Word) (rest : List Terminal) → IsKind k (tok 0 k [] ∷ rest) rest
word_of k rest = is_kind

-- some tokens of a symbol
abbrev sample : (a : Sym) (ts : List Terminal) → (us : List Terminal) × From a us ts
sample (only k) ts = (_, word_of k ts)
sample (exactly n) ts = (_, is_named {a = 0})
sample factor ts = (_, (_, a_number {a = 0} {t = []}))
sample index ts = (_, λ a t. (_, a_name))
sample pair ts = (_, a_pair {b = 0} {c = 0} {d = 0} {u = []} {v = []} {w = []} (one _) (one _))
sample more_factors ts = (_, (_, no_factors))
sample more_terms ts = (_, (_, no_terms))
sample comparison ts = (_, not_compared)
sample minus_end ts = (_, nothing)
sample args ts = (_, (_, no_args))
sample more_args ts = (_, (_, no_more_args))
sample call_args ts = (_, call_args_of {b = 0} {c = 0} {u = []} {v = []} no_args)
sample right ts = (_, (_, right_draw {a = 0} {t = []}))
sample into ts = (_, (_, no_into))
sample loop_name ts = (_, λ a t. (_, a_pfor {b = 0} {c = 0} {d = 0} {e = 0} {f = 0} {g = 0} {h = 0} {i = 0} {j = 0} {n = []} {u = []} {v = []} {w = []} {f' = []} {y = []} {z = []} {o = []} (one _) (one _) no_into no_more_args))
sample (loop_args n) ts = (_, loop_args_of {g = 0} {h = 0} {i = 0} {y = []} {z = []} no_more_args)
sample stmts ts = (_, (_, no_stmts))
sample after_let ts = (_, λ a b t u. (_, a_let {c = 0} {d = 0} {v = []} {w = []} (right_draw {a = 0} {t = []})))
sample after_name ts = (_, λ a t. (_, a_set {b = 0} {c = 0} {u = []} {v = []} (right_draw {a = 0} {t = []})))
sample block ts = (_, (_, a_block {a = 0} {b = 0} {t = []} {u = []} no_stmts))
sample otherwise ts = (_, (_, no_else))
sample functions ts = (_, (_, no_functions))
sample param_list ts = (_, param_list_of {b = 0} {c = 0} {u = []} {v = []} no_params)
sample params ts = (_, (_, no_params))
sample more_params ts = (_, (_, no_more_params))
sample param ts = (_, (_, int_param {a = 0} {t = []}))
sample answer ts = (_, (_, int_answer))
sample body ts = (_, body_of {e = 0} {f = 0} {g = 0} {h = 0} {w = []} {x = []} {y = []} {z = []} no_stmts (one _))

abbrev goes_on : (s : List Sym) → (ts : List Terminal) × Derives s ts
goes_on [] = ([], refl)
goes_on (a ∷ s) = let r = goes_on s in let q = sample a r.0 in (q.0, (r.0, q.1, r.1))

pub whole : (ts : List Terminal) → Derives (functions ∷ []) ts → (fs : List Function) × IsScript ts fs
whole ts d = (d.1.0, subst (λ q. IsFunctions ts d.1.0 q) d.2 d.1.1)

-- No symbol that the machine comes to has to be the word `scope`, so what it goes on with is of both versions.

abbrev sym_plain : Sym → Bool
sym_plain (only k) = not (is_scope k)
sym_plain _ = true

abbrev all_plain : List Sym → Bool
all_plain [] = true
all_plain (a ∷ s) = sym_plain a && all_plain s

abbrev rules_plain_at : List ℕ → List Production → Bool
rules_plain_at text rs = list_all (λ r. all_plain (r.rest text)) rs

rules_plain : (a : Sym) (text : List ℕ) → rules_plain_at text (rules a) ≡ true
rules_plain (only k) text = refl
rules_plain (exactly n) text = refl
rules_plain factor text = refl
rules_plain index text = refl
rules_plain pair text = refl
rules_plain more_factors text = refl
rules_plain more_terms text = refl
rules_plain comparison text = refl
rules_plain minus_end text = refl
rules_plain args text = refl
rules_plain more_args text = refl
rules_plain call_args text = refl
rules_plain right text = refl
rules_plain into text = refl
rules_plain loop_name text = refl
rules_plain (loop_args n) text = refl
rules_plain stmts text = refl
rules_plain after_let text = refl
rules_plain after_name text = refl
rules_plain block text = refl
rules_plain otherwise text = refl
rules_plain functions text = refl
rules_plain param_list text = refl
rules_plain params text = refl
rules_plain more_params text = refl
rules_plain param text = refl
rules_plain answer text = refl
rules_plain body text = refl

two_true : (a b : Bool) → (a && b) ≡ true → (a ≡ true) × (b ≡ true)
two_true true b e = (refl, e)
two_true false b e = cc

plain-append : (r s : List Sym) → all_plain r ≡ true → all_plain s ≡ true → all_plain (r ++ s) ≡ true
plain-append [] s e f = f
plain-append (a ∷ r) s e f = let p = two_true (sym_plain a) (all_plain r) e in ap (λ b. b && all_plain (r ++ s)) p.0 ∙ plain-append r s p.1 f

found_plain : (k : Word) (text : List ℕ) (rs : List Production) (r : List Sym) → rules_plain_at text rs ≡ true → find_rule k text rs ≡ Some r → all_plain r ≡ true
found_plain k text [] r h e = absurd (none-some _ e)
found_plain k text (q ∷ qs) r h e = go (same_word k q.first && q.fits text) e (λ f. found_plain k text qs r p.1 f)
  where
    p : (all_plain (q.rest text) ≡ true) × (rules_plain_at text qs ≡ true)
    p = two_true _ _ h

    go : (b : Bool) → cond b (Some (q.rest text)) (find_rule k text qs) ≡ Some r → (find_rule k text qs ≡ Some r → all_plain r ≡ true) → all_plain r ≡ true
    go true f tail = subst (λ z. all_plain z ≡ true) (same_Some _ _ f) p.0
    go false f tail = tail f

step_plain : (k : Word) (text : List ℕ) (s s' : List Sym) → all_plain s ≡ true → consume k text s ≡ Some s' → all_plain s' ≡ true
step_plain k text [] s' h e = absurd (none-some _ e)
step_plain k text (a ∷ s) s' h e = go (find_rule k text (rules a)) (is_empty a) refl e (λ f. step_plain k text s s' p.1 f)
  where
    p : (sym_plain a ≡ true) × (all_plain s ≡ true)
    p = two_true _ _ h

    go : (o : Option (List Sym)) (b : Bool) → find_rule k text (rules a) ≡ o → choose o b s (consume k text s) ≡ Some s' → (consume k text s ≡ Some s' → all_plain s' ≡ true) → all_plain s' ≡ true
    go (Some r) b f g tail = subst (λ z. all_plain z ≡ true) (same_Some _ _ g) (plain-append r s (found_plain k text (rules a) r (rules_plain a text) f) p.1)
    go None true f g tail = tail g
    go None false f g tail = absurd (none-some _ g)

run_plain : (ts : List Terminal) (s s' : List Sym) → all_plain s ≡ true → consume_all ts s ≡ Some s' → all_plain s' ≡ true
run_plain [] s s' h e = subst (λ z. all_plain z ≡ true) (same_Some _ _ e) h
run_plain (t ∷ ts) s s' h e = option_and_then_some (consume_all ts) (consume t.word t.text s) s' e (λ x f g. run_plain ts x s' (step_plain t.word t.text s x h f) g)

sample_plain : (a : Sym) (ts : List Terminal) → sym_plain a ≡ true → has_scope ts ≡ false → has_scope (sample a ts).0 ≡ false
sample_plain (only k) ts h e = go (is_scope k) h
  where
    go : (b : Bool) → not b ≡ true → (if b then true else has_scope ts) ≡ false
    go true f = cc
    go false f = e
sample_plain (exactly n) ts h e = e
sample_plain factor ts h e = e
sample_plain index ts h e = e
sample_plain pair ts h e = e
sample_plain more_factors ts h e = e
sample_plain more_terms ts h e = e
sample_plain comparison ts h e = e
sample_plain minus_end ts h e = e
sample_plain args ts h e = e
sample_plain more_args ts h e = e
sample_plain call_args ts h e = e
sample_plain right ts h e = e
sample_plain into ts h e = e
sample_plain loop_name ts h e = e
sample_plain (loop_args n) ts h e = e
sample_plain stmts ts h e = e
sample_plain after_let ts h e = e
sample_plain after_name ts h e = e
sample_plain block ts h e = e
sample_plain otherwise ts h e = e
sample_plain functions ts h e = e
sample_plain param_list ts h e = e
sample_plain params ts h e = e
sample_plain more_params ts h e = e
sample_plain param ts h e = e
sample_plain answer ts h e = e
sample_plain body ts h e = e

goes_on_plain : (s : List Sym) → all_plain s ≡ true → has_scope (goes_on s).0 ≡ false
goes_on_plain [] h = refl
goes_on_plain (a ∷ s) h = let p = two_true (sym_plain a) (all_plain s) h in sample_plain a (goes_on s).0 p.0 (goes_on_plain s p.1)

of_any : (version : Version) (ts : List Terminal) → has_scope ts ≡ false → AreOf version ts
of_any One ts e = e
of_any Two ts e = tt

has_scope-append : (ts us : List Terminal) → has_scope ts ≡ false → has_scope us ≡ false → has_scope (ts ++ us) ≡ false
has_scope-append [] us e f = f
has_scope-append (t ∷ ts) us e f = go (is_scope t.word) e (λ g. has_scope-append ts us g f)
  where
    go : (b : Bool) → (if b then true else has_scope ts) ≡ false → (has_scope ts ≡ false → has_scope (ts ++ us) ≡ false) → (if b then true else has_scope (ts ++ us)) ≡ false
    go true g tail = cc
    go false g tail = tail g

pub are-append : (version : Version) (ts us : List Terminal) → AreOf version ts → AreOf version us → AreOf version (ts ++ us)
are-append One ts us e f = has_scope-append ts us e f
are-append Two ts us e f = tt

pub are-first : (version : Version) (t : Terminal) (ts : List Terminal) → AreOf version (t ∷ ts) → AreOf version (t ∷ []) × AreOf version ts
are-first One t ts e = go (is_scope t.word) refl e
  where
    go : (b : Bool) → is_scope t.word ≡ b → (if b then true else has_scope ts) ≡ false → (has_scope (t ∷ []) ≡ false) × (has_scope ts ≡ false)
    go true f g = cc
    go false f g = (ap (λ b. if b then true else false) f, g)
are-first Two t ts e = (tt, tt)

-- what the machine takes is viable, in the version of the tokens
pub viable : (version : Version) (ts : List Terminal) (s : List Sym) → AreOf version ts → consume_all ts (functions ∷ []) ≡ Some s → IsViable version ts
viable version ts s of e =
    let more' = goes_on s in
    let r = whole _ (run_sound ts (functions ∷ []) s more'.0 e more'.1) in
    let plain = goes_on_plain s (run_plain ts (functions ∷ []) s refl e) in
    (more'.0, r.0, (are-append version ts more'.0 of (of_any version more'.0 plain), r.1))

pub run-append : (ts us : List Terminal) (s : List Sym) → consume_all (ts ++ us) s ≡ option_and_then (consume_all us) (consume_all ts s)
run-append [] us s = refl
run-append (t ∷ ts) us s = go (consume t.word t.text s) (run-append ts us)
  where
    go : (o : Option (List Sym)) → ((x : List Sym) → consume_all (ts ++ us) x ≡ option_and_then (consume_all us) (consume_all ts x)) → option_and_then (consume_all (ts ++ us)) o ≡ option_and_then (consume_all us) (option_and_then (consume_all ts) o)
    go None ih = refl
    go (Some x) ih = ih x

-- and what is viable is taken
pub taken : (version : Version) (ts : List Terminal) → IsViable version ts → (s : List Sym) × (consume_all ts (functions ∷ []) ≡ Some s)
taken version ts v = go (consume_all ts (functions ∷ [])) refl
  where
    go : (o : Option (List Sym)) → consume_all ts (functions ∷ []) ≡ o → (s : List Sym) × (consume_all ts (functions ∷ []) ≡ Some s)
    go (Some s) e = (s, e)
    go None e = absurd (none-some _ (sym (run-append ts v.0 (functions ∷ []) ∙ ap (option_and_then (consume_all v.0)) e) ∙ script_runs v.2.1))
