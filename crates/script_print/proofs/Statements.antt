-- The canonical text of a statement is of the same tree.
use Rattle.std.proofs.Common.{◌≡◌, ℕ, zero, suc, ◌+◌, ◌<◌, ◌≤◌, List, [], ◌∷◌, ◌++◌, length, codes, map, flat_map, Option, Some, None, Bool, true, false, not, refl, sym, ap, ◌∙◌, subst, arith}
use Rattle.std.specs.Prelude.{ℤ, pos}
use Rattle.std.specs.Fmt as fmt
use Rattle.script_tokens.specs.declared.token.Word.{Word}
use Rattle.script_tokens.specs.declared.token.Word.TheVariants as word
use Rattle.script_tokens.specs.Word.{word_of, is_scope}
use Rattle.script_grammar.specs.declared.tree.Name.{Name}
use Rattle.script_grammar.specs.declared.tree.Number.{Number}
use Rattle.script_grammar.specs.declared.tree.Expr.{Expr}
use Rattle.script_grammar.specs.declared.tree.CallText.{CallText}
use Rattle.script_grammar.specs.declared.tree.Right.{Right}
use Rattle.script_grammar.specs.declared.tree.Right.TheVariants as right
use Rattle.script_grammar.specs.declared.tree.Stmt.{Stmt}
use Rattle.script_grammar.specs.declared.tree.Act.{Act}
use Rattle.script_grammar.specs.declared.tree.Act.TheVariants as act
use Rattle.script_grammar.specs.Grammar.{Terminal, tok, name_at, number_at, decimal, stmt_at, IsExpr, IsMoreArgs, no_more_args, one_more_arg, IsArgs, no_args, some_args, IsCall, a_call, IsRight, right_value, right_draw, right_new, right_call, right_spawn, IsInto, no_into, an_into, IsStmt, a_let, an_array, a_set, a_store, a_spawn, a_call_stmt, a_sync, a_print, an_if, a_while, a_pfor, a_scope, IsStmts, no_stmts, one_stmt, IsBlock, a_block, IsElse, no_else, an_else}
use Rattle.script_grammar.specs.Nesting.{expr_nesting, more_args_nesting, args_nesting, call_nesting, right_nesting, into_nesting, stmt_nesting, stmts_nesting, block_nesting, else_nesting}
use Rattle.script_print.specs.Canonical.{Printed, printed, expr_text, after_commas, listed, call_text, right_text, range_text, loop_call_text, into_text, block_text, else_text, act_text, stmt_text, stmts_text}
use Rattle.script_print.specs.Unplaced.{unplaced_name, unplaced_number, unplaced_expr, unplaced_call, unplaced_right, unplaced_target, unplaced_act, unplaced_stmt}
use Rattle.script_print.proofs.Computing.{act_text-let, act_text-array, act_text-set, act_text-store, act_text-spawn, act_text-call, act_text-sync, act_text-print, act_text-if, act_text-while, act_text-pfor, act_text-scope, stmt_text-line, block_text-stmts}
use Rattle.script_print.proofs.Placing.{cons_same, same_stmt, same_let, same_set, same_array, same_store, same_spawn, same_call, same_print, same_if, same_while, same_pfor, same_scope}
use Rattle.script_print.proofs.Cutting.{IsModest, starts}
use Rattle.script_print.proofs.Forms.{Forms, Then, and_then, IsToken, a_token, IsNothing, nothing, then_, weaken, before, empty, any, anything, calm, calmly, symbol, word_before, a_blank}
use Rattle.script_print.proofs.Pieces.{in_each, spaced_word, word_space, keyword, name_form, number_read, number_form, nothing_after, nothing_before}
use Rattle.script_print.proofs.Eats.{expr_eats, more_args_eats, args_eats, call_eats, right_eats, into_eats, stmt_eats, stmts_eats, block_eats}
use Rattle.script_print.proofs.Expressions.{Low, low_append, low_front, low_back, IsSound, Sound, sound_after, ExprOf, Shown, Tail, opened, closed, comma, open_item, close_item, expr_shown}
use Rattle.script_tokens.specs.declared.version.Version.{Version}
use Rattle.script_tokens.specs.declared.version.Version.TheVariants.{One, Two}
use Rattle.script_tokens.proofs.Versions.{token_other}

-- Arguments and calls.

pub record MoreArgsOf (xs : List Expr) (n : ℕ) (us ts : List Terminal) : Type 0 where
  pub tree : List Expr
  pub derived : IsMoreArgs us tree ts
  pub same : map unplaced_expr tree ≡ map unplaced_expr xs
  pub low : Low (more_args_nesting derived n)

pub record ArgsOf (xs : List Expr) (n : ℕ) (us ts : List Terminal) : Type 0 where
  pub tree : List Expr
  pub derived : IsArgs us tree ts
  pub same : map unplaced_expr tree ≡ map unplaced_expr xs
  pub low : Low (args_nesting derived n)

pub record CallOf (c : CallText) (n : ℕ) (us ts : List Terminal) : Type 0 where
  pub tree : CallText
  pub derived : IsCall us tree ts
  pub same : unplaced_call tree ≡ unplaced_call c
  pub low : Low (call_nesting derived n)

no_more_args_made : (n : ℕ) (us ts : List Terminal) → IsNothing us ts → MoreArgsOf [] n us ts
no_more_args_made n us ts nothing = record { tree = []; derived = no_more_args; same = refl; low = tt }

more_args_made : (x : Expr) (xs : List Expr) (n : ℕ) → n ≤ 64 → (us ts : List Terminal) → Then (Then (IsToken word.Comma (codes ",")) (ExprOf x n)) (MoreArgsOf xs n) us ts → MoreArgsOf (x ∷ xs) n us ts
more_args_made x xs n h us ts (and_then (and_then a_token d) e) =
    record {
      tree = d.tree ∷ e.tree;
      derived = one_more_arg d.derived e.derived;
      same = cons_same d.same e.same;
      low = (h, low_append (expr_nesting d.derived n) (more_args_nesting e.derived n) (d.low n (omega arith)) e.low);
    }

pub more_args_shown : {version : Version} {ts rest : List Terminal} {xs : List Expr} (d : IsMoreArgs ts xs rest) (n : ℕ) → Low (more_args_nesting d n) → Sound version ts → Tail version (after_commas expr_text xs) (MoreArgsOf xs n)
more_args_shown no_more_args n l s = record { form = weaken empty (no_more_args_made n); front = λ r h. h }
more_args_shown {version = version} (one_more_arg {x = x} {xs = xs} d e) n l s =
    let first = expr_shown d n (low_front (expr_nesting d n) (more_args_nesting e n) l.1) s.1 in
    let others = more_args_shown e n (low_back (expr_nesting d n) (more_args_nesting e n) l.1) (sound_after version (expr_eats d) s.1) in
    record {
      form = weaken (then_ (then_ comma first.expr (λ r h. anything (expr_text x ++ r))) others.form others.front) (more_args_made x xs n l.0);
      front = λ r h. refl;
    }

no_args_made : (n : ℕ) (us ts : List Terminal) → IsNothing us ts → ArgsOf [] n us ts
no_args_made n us ts nothing = record { tree = []; derived = no_args; same = refl; low = tt }

args_made : (x : Expr) (xs : List Expr) (n : ℕ) (us ts : List Terminal) → Then (ExprOf x n) (MoreArgsOf xs n) us ts → ArgsOf (x ∷ xs) n us ts
args_made x xs n us ts (and_then d e) =
    record {
      tree = d.tree ∷ e.tree;
      derived = some_args d.derived e.derived;
      same = cons_same d.same e.same;
      low = low_append (expr_nesting d.derived n) (more_args_nesting e.derived n) (d.low n (omega arith)) e.low;
    }

args_shown : {version : Version} {ts rest : List Terminal} {xs : List Expr} (d : IsArgs ts xs rest) (n : ℕ) → Low (args_nesting d n) → Sound version ts → Forms version (listed expr_text xs) calm (ArgsOf xs n)
args_shown no_args n l s = weaken empty (no_args_made n)
args_shown {version = version} (some_args {x = x} {xs = xs} d e) n l s =
    let first = expr_shown d n (low_front (expr_nesting d n) (more_args_nesting e n) l) s in
    let others = more_args_shown e n (low_back (expr_nesting d n) (more_args_nesting e n) l) (sound_after version (expr_eats d) s) in
    weaken (then_ first.expr others.form others.front) (args_made x xs n)

call_made : (a : ℕ) (t : List ℕ) (xs : List Expr) (n : ℕ) → n ≤ 64 → suc n ≤ 64 → (us ts : List Terminal) →
    Then (Then (Then (IsToken word.Name t) (IsToken word.Open (codes "("))) (ArgsOf xs (suc n))) (IsToken word.Close (codes ")")) us ts →
    CallOf (record { name = name_at a t; args = xs }) n us ts
call_made a t xs n h k us ts (and_then (and_then (and_then (a_token {a = b}) a_token) d) a_token) =
    record {
      tree = record { name = name_at b t; args = d.tree };
      derived = a_call d.derived;
      same = ap (λ (z : List Expr). record { name = name_at 0 t; args = z }) d.same;
      low = (h, (k, low_append (args_nesting d.derived (suc n)) (n ∷ []) d.low (h, tt)));
    }

pub call_shown : {version : Version} {ts rest : List Terminal} {c : CallText} (d : IsCall ts c rest) (n : ℕ) → Low (call_nesting d n) → Sound version ts → Forms version (call_text c) any (CallOf c n)
call_shown (a_call {a = a} {t = t} {xs = xs} d) n l s =
    let args = args_shown d (suc n) (low_front (args_nesting d (suc n)) (n ∷ []) l.1.1) s.1.1 in
    weaken (then_ (then_ (then_ (name_form t s.0.word_is (s.0.modest.name refl)) opened (λ r h. refl)) args (λ r h. anything (listed expr_text xs ++ r))) closed (λ r h. refl))
    (call_made a t xs n l.0 l.1.0)

-- Right sides.

pub record RightOf (r : Right) (n : ℕ) (us ts : List Terminal) : Type 0 where
  pub tree : Right
  pub derived : IsRight us tree ts
  pub same : unplaced_right tree ≡ unplaced_right r
  pub low : Low (right_nesting derived n)

value_made : (x : Expr) (n : ℕ) (us ts : List Terminal) → ExprOf x n us ts → RightOf (right.Value x) n us ts
value_made x n us ts d = record { tree = right.Value d.tree; derived = right_value d.derived; same = ap right.Value d.same; low = d.low n (omega arith) }

draw_made : (a n : ℕ) → n ≤ 64 → (us ts : List Terminal) → IsToken word.Draw (codes "draw") us ts → RightOf (right.Draw a) n us ts
draw_made a n h us ts (a_token {a = b}) = record { tree = right.Draw b; derived = right_draw; same = refl; low = (h, tt) }

new_made : (a n : ℕ) → n ≤ 64 → (us ts : List Terminal) → IsToken word.New (codes "new") us ts → RightOf (right.New a) n us ts
new_made a n h us ts (a_token {a = b}) = record { tree = right.New b; derived = right_new; same = refl; low = (h, tt) }

right_call_made : (a : ℕ) (c : CallText) (n : ℕ) → n ≤ 64 → (us ts : List Terminal) → Then (IsToken word.Call (codes "call")) (CallOf c n) us ts → RightOf (right.Call a c) n us ts
right_call_made a c n h us ts (and_then (a_token {a = b}) d) = record { tree = right.Call b d.tree; derived = right_call d.derived; same = ap (right.Call 0) d.same; low = (h, d.low) }

right_spawn_made : (a : ℕ) (c : CallText) (n : ℕ) → n ≤ 64 → (us ts : List Terminal) → Then (IsToken word.Spawn (codes "spawn")) (CallOf c n) us ts → RightOf (right.Spawn a c) n us ts
right_spawn_made a c n h us ts (and_then (a_token {a = b}) d) = record { tree = right.Spawn b d.tree; derived = right_spawn d.derived; same = ap (right.Spawn 0) d.same; low = (h, d.low) }

call_word : {version : Version} → Forms version (codes "call ") any (IsToken word.Call (codes "call"))
call_word {version = version} = word_space word.Call (codes "call") refl (in_each version word.Call (codes "call") refl refl) refl

spawn_word : {version : Version} → Forms version (codes "spawn ") any (IsToken word.Spawn (codes "spawn"))
spawn_word {version = version} = word_space word.Spawn (codes "spawn") refl (in_each version word.Spawn (codes "spawn") refl refl) refl

right_shown : {version : Version} {ts rest : List Terminal} {r : Right} (d : IsRight ts r rest) (n : ℕ) → Low (right_nesting d n) → Sound version ts → Forms version (right_text r) calm (RightOf r n)
right_shown (right_value {x = x} d) n l s = weaken (expr_shown d n l s).expr (value_made x n)
right_shown {version = version} (right_draw {a = a}) n l s = weaken (keyword word.Draw (codes "draw") refl (in_each version word.Draw (codes "draw") refl refl) refl) (draw_made a n l.0)
right_shown {version = version} (right_new {a = a}) n l s = weaken (keyword word.New (codes "new") refl (in_each version word.New (codes "new") refl refl) refl) (new_made a n l.0)
right_shown (right_call {a = a} {c = c} d) n l s = calmly (weaken (then_ call_word (call_shown d n l.1 s.1) (λ r h. anything (call_text c ++ r))) (right_call_made a c n l.0))
right_shown (right_spawn {a = a} {c = c} d) n l s = calmly (weaken (then_ spawn_word (call_shown d n l.1 s.1) (λ r h. anything (call_text c ++ r))) (right_spawn_made a c n l.0))

-- Targets.

pub record IntoOf (o : Option Name) (n : ℕ) (us ts : List Terminal) : Type 0 where
  pub tree : Option Name
  pub derived : IsInto us tree ts
  pub same : unplaced_target tree ≡ unplaced_target o
  pub low : Low (into_nesting derived n)

no_into_made : (n : ℕ) (us ts : List Terminal) → IsNothing us ts → IntoOf None n us ts
no_into_made n us ts nothing = record { tree = None; derived = no_into; same = refl; low = tt }

into_made : (a : ℕ) (t : List ℕ) (n : ℕ) → n ≤ 64 → (us ts : List Terminal) → Then (IsToken word.Into (codes "into")) (IsToken word.Name t) us ts → IntoOf (Some (name_at a t)) n us ts
into_made a t n h us ts (and_then a_token (a_token {a = b})) = record { tree = Some (name_at b t); derived = an_into; same = refl; low = (h, (h, tt)) }

into_shown : {version : Version} {ts rest : List Terminal} {o : Option Name} (d : IsInto ts o rest) (n : ℕ) → Low (into_nesting d n) → Sound version ts → Tail version (into_text o) (IntoOf o n)
into_shown no_into n l s = record { form = weaken empty (no_into_made n); front = λ r h. h }
into_shown {version = version} (an_into {b = b} {u = u}) n l s =
    let name = s.1.0 in
    record {
      form = weaken (then_ (spaced_word word.Into (codes "into") refl (in_each version word.Into (codes "into") refl refl) refl) (name_form u name.word_is (name.modest.name refl)) (λ r h. anything (u ++ r))) (into_made b u n l.0);
      front = λ r h. refl;
    }

-- Statements.

pub record StmtOf (x : Stmt) (n : ℕ) (us ts : List Terminal) : Type 0 where
  pub tree : Stmt
  pub derived : IsStmt us tree ts
  pub same : unplaced_stmt tree ≡ unplaced_stmt x
  pub low : Low (stmt_nesting derived n)

pub record StmtsOf (xs : List Stmt) (n : ℕ) (us ts : List Terminal) : Type 0 where
  pub tree : List Stmt
  pub derived : IsStmts us tree ts
  pub same : map unplaced_stmt tree ≡ map unplaced_stmt xs
  pub low : Low (stmts_nesting derived n)

pub record BlockOf (xs : List Stmt) (n : ℕ) (us ts : List Terminal) : Type 0 where
  pub tree : List Stmt
  pub derived : IsBlock us tree ts
  pub same : map unplaced_stmt tree ≡ map unplaced_stmt xs
  pub low : Low (block_nesting derived n)

pub record ElseOf (xs : List Stmt) (n : ℕ) (us ts : List Terminal) : Type 0 where
  pub tree : List Stmt
  pub derived : IsElse us tree ts
  pub same : map unplaced_stmt tree ≡ map unplaced_stmt xs
  pub low : Low (else_nesting derived n)

pub semicolon : {version : Version} → Forms version (codes ";") any (IsToken word.Semicolon (codes ";"))
semicolon = symbol word.Semicolon (codes ";") refl refl (λ b. refl)

assign : {version : Version} → Forms version (codes " = ") any (IsToken word.Assign (codes "="))
assign = spaced_word word.Assign (codes "=") refl refl refl

let_word : {version : Version} → Forms version (codes "let ") any (IsToken word.Let (codes "let"))
let_word {version = version} = word_space word.Let (codes "let") refl (in_each version word.Let (codes "let") refl refl) refl

let_made : (a b : ℕ) (t : List ℕ) (r : Right) (n : ℕ) → n ≤ 64 → (us ts : List Terminal) →
    Then (Then (Then (Then (IsToken word.Let (codes "let")) (IsToken word.Name t)) (IsToken word.Assign (codes "="))) (RightOf r n)) (IsToken word.Semicolon (codes ";")) us ts →
    StmtOf (stmt_at a (act.Let (name_at b t) r)) n us ts
let_made a b t r n h us ts (and_then (and_then (and_then (and_then (a_token {a = c}) (a_token {a = e})) a_token) d) a_token) =
    record {
      tree = stmt_at c (act.Let (name_at e t) d.tree);
      derived = a_let d.derived;
      same = same_stmt c a _ _ (same_let (name_at e t) (name_at b t) d.tree r refl d.same);
      low = (h, (h, (h, low_append (right_nesting d.derived n) (n ∷ []) d.low (h, tt))));
    }

set_made : (a : ℕ) (t : List ℕ) (r : Right) (n : ℕ) → n ≤ 64 → (us ts : List Terminal) →
    Then (Then (Then (IsToken word.Name t) (IsToken word.Assign (codes "="))) (RightOf r n)) (IsToken word.Semicolon (codes ";")) us ts →
    StmtOf (stmt_at a (act.Set (name_at a t) r)) n us ts
set_made a t r n h us ts (and_then (and_then (and_then (a_token {a = c}) a_token) d) a_token) =
    record {
      tree = stmt_at c (act.Set (name_at c t) d.tree);
      derived = a_set d.derived;
      same = same_stmt c a _ _ (same_set (name_at c t) (name_at a t) d.tree r refl d.same);
      low = (h, (h, low_append (right_nesting d.derived n) (n ∷ []) d.low (h, tt)));
    }

array_made : (a b c : ℕ) (t w : List ℕ) (n : ℕ) → n ≤ 64 → suc n ≤ 64 → decimal 0 w ≤ 9223372036854775807 → (us ts : List Terminal) →
    Then (Then (Then (Then (IsToken word.Let (codes "let")) (IsToken word.Name t)) (IsToken word.OpenItem (codes "["))) (IsToken word.Number (fmt.decimal (decimal 0 w))))
    (Then (IsToken word.CloseItem (codes "]")) (IsToken word.Semicolon (codes ";"))) us ts →
    StmtOf (stmt_at a (act.Array (name_at b t) (number_at c w))) n us ts
array_made a b c t w n h k small us ts (and_then (and_then (and_then (and_then (a_token {a = d}) (a_token {a = e})) a_token) (a_token {a = f})) (and_then a_token a_token)) =
    record {
      tree = stmt_at d (act.Array (name_at e t) (number_at f (fmt.decimal (decimal 0 w))));
      derived = an_array;
      same = same_stmt d a _ _ (same_array (name_at e t) (name_at b t) (number_at f (fmt.decimal (decimal 0 w))) (number_at c w) refl
          (ap (λ (m : ℕ). record { at = 0; value = pos m }) (number_read (decimal 0 w) small)));
      low = (h, (h, (k, (k, (h, (h, tt))))));
    }

store_made : (a : ℕ) (t : List ℕ) (x y : Expr) (n : ℕ) → n ≤ 64 → suc n ≤ 64 → (us ts : List Terminal) →
    Then (Then (Then (Then (Then (IsToken word.Name t) (IsToken word.OpenItem (codes "["))) (ExprOf x (suc n))) (Then (IsToken word.CloseItem (codes "]")) (IsToken word.Assign (codes "=")))) (ExprOf y n)) (IsToken word.Semicolon (codes ";")) us ts →
    StmtOf (stmt_at a (act.Store (name_at a t) x y)) n us ts
store_made a t x y n h k us ts (and_then (and_then (and_then (and_then (and_then (a_token {a = c}) a_token) d) (and_then a_token a_token)) e) a_token) =
    record {
      tree = stmt_at c (act.Store (name_at c t) d.tree e.tree);
      derived = a_store d.derived e.derived;
      same = same_stmt c a _ _ (same_store (name_at c t) (name_at a t) d.tree x e.tree y refl d.same e.same);
      low = (
        h,
        (
          k,
          low_append (expr_nesting d.derived (suc n)) (n ∷ n ∷ (expr_nesting e.derived n ++ n ∷ [])) (d.low (suc n) (omega arith))
              (h, (h, low_append (expr_nesting e.derived n) (n ∷ []) (e.low n (omega arith)) (h, tt))),
        ),
      );
    }

spawn_made : (a : ℕ) (c : CallText) (n : ℕ) → n ≤ 64 → (us ts : List Terminal) → Then (Then (IsToken word.Spawn (codes "spawn")) (CallOf c n)) (IsToken word.Semicolon (codes ";")) us ts → StmtOf (stmt_at a (act.Spawn c)) n us ts
spawn_made a c n h us ts (and_then (and_then (a_token {a = b}) d) a_token) =
    record {
      tree = stmt_at b (act.Spawn d.tree);
      derived = a_spawn d.derived;
      same = same_stmt b a _ _ (same_spawn d.tree c d.same);
      low = (h, low_append (call_nesting d.derived n) (n ∷ []) d.low (h, tt));
    }

call_stmt_made : (a : ℕ) (c : CallText) (n : ℕ) → n ≤ 64 → (us ts : List Terminal) → Then (Then (IsToken word.Call (codes "call")) (CallOf c n)) (IsToken word.Semicolon (codes ";")) us ts → StmtOf (stmt_at a (act.Call c)) n us ts
call_stmt_made a c n h us ts (and_then (and_then (a_token {a = b}) d) a_token) =
    record {
      tree = stmt_at b (act.Call d.tree);
      derived = a_call_stmt d.derived;
      same = same_stmt b a _ _ (same_call d.tree c d.same);
      low = (h, low_append (call_nesting d.derived n) (n ∷ []) d.low (h, tt));
    }

sync_made : (a n : ℕ) → n ≤ 64 → (us ts : List Terminal) → Then (IsToken word.Sync (codes "sync")) (IsToken word.Semicolon (codes ";")) us ts → StmtOf (stmt_at a act.Sync) n us ts
sync_made a n h us ts (and_then (a_token {a = b}) a_token) = record { tree = stmt_at b act.Sync; derived = a_sync; same = same_stmt b a act.Sync act.Sync refl; low = (h, (h, tt)) }

print_made : (a : ℕ) (x : Expr) (n : ℕ) → n ≤ 64 → (us ts : List Terminal) → Then (Then (IsToken word.Print (codes "print")) (ExprOf x n)) (IsToken word.Semicolon (codes ";")) us ts → StmtOf (stmt_at a (act.Print x)) n us ts
print_made a x n h us ts (and_then (and_then (a_token {a = b}) d) a_token) =
    record {
      tree = stmt_at b (act.Print d.tree);
      derived = a_print d.derived;
      same = same_stmt b a _ _ (same_print d.tree x d.same);
      low = (h, low_append (expr_nesting d.derived n) (n ∷ []) (d.low n (omega arith)) (h, tt));
    }

if_made : (a : ℕ) (x : Expr) (p q : List Stmt) (n : ℕ) → n ≤ 64 → (us ts : List Terminal) → Then (Then (Then (Then (IsToken word.If (codes "if")) (ExprOf x n)) IsNothing) (BlockOf p n)) (ElseOf q n) us ts → StmtOf (stmt_at a (act.If x p q)) n us ts
if_made a x p q n h us ts (and_then (and_then (and_then (and_then (a_token {a = b}) d) nothing) e) f) =
    record {
      tree = stmt_at b (act.If d.tree e.tree f.tree);
      derived = an_if d.derived e.derived f.derived;
      same = same_stmt b a _ _ (same_if d.tree x e.tree p f.tree q d.same e.same f.same);
      low = (h, low_append (expr_nesting d.derived n) (block_nesting e.derived n ++ else_nesting f.derived n) (d.low n (omega arith)) (low_append (block_nesting e.derived n) (else_nesting f.derived n) e.low f.low));
    }

while_made : (a : ℕ) (x : Expr) (p : List Stmt) (n : ℕ) → n ≤ 64 → (us ts : List Terminal) → Then (Then (Then (IsToken word.While (codes "while")) (ExprOf x n)) IsNothing) (BlockOf p n) us ts → StmtOf (stmt_at a (act.While x p)) n us ts
while_made a x p n h us ts (and_then (and_then (and_then (a_token {a = b}) d) nothing) e) =
    record {
      tree = stmt_at b (act.While d.tree e.tree);
      derived = a_while d.derived e.derived;
      same = same_stmt b a _ _ (same_while d.tree x e.tree p d.same e.same);
      low = (h, low_append (expr_nesting d.derived n) (block_nesting e.derived n) (d.low n (omega arith)) e.low);
    }

-- where a text is cut into the word `scope`, the version has it
scope_is : (version : Version) (text : List ℕ) → word_of version text ≡ Some word.Scope → word_of version (codes "scope") ≡ Some word.Scope
scope_is One text e = let other : not (is_scope word.Scope) ≡ true = token_other text word.Scope e in absurd cc
scope_is Two text e = refl

scope_made : (a : ℕ) (p : List Stmt) (n : ℕ) → n ≤ 64 → (us ts : List Terminal) → Then (IsToken word.Scope (codes "scope")) (BlockOf p n) us ts → StmtOf (stmt_at a (act.Scope p)) n us ts
scope_made a p n h us ts (and_then (a_token {a = b}) d) =
    record {
      tree = stmt_at b (act.Scope d.tree);
      derived = a_scope d.derived;
      same = same_stmt b a _ _ (same_scope d.tree p d.same);
      low = (h, d.low);
    }

-- `pfor i in E..E`, and ` call f(i, ..);`
abbrev RangeOf : (t : List ℕ) (x y : Expr) (n : ℕ) → List Terminal → List Terminal → Type 0
RangeOf t x y n = Then (Then (Then (Then (Then (IsToken word.Pfor (codes "pfor")) (IsToken word.Name t)) (IsToken word.In (codes "in"))) (ExprOf x n)) (IsToken word.Range (codes ".."))) (ExprOf y n)

abbrev LoopCallOf : (t f : List ℕ) (xs : List Expr) (n : ℕ) → List Terminal → List Terminal → Type 0
LoopCallOf t f xs n =
    Then (Then (Then (Then (Then (IsToken word.Call (codes "call")) (IsToken word.Name f)) (IsToken word.Open (codes "("))) (IsToken word.Name t)) (MoreArgsOf xs (suc n)))
    (Then (IsToken word.Close (codes ")")) (IsToken word.Semicolon (codes ";")))

pfor_made : (a b c : ℕ) (t f : List ℕ) (x y : Expr) (o : Option Name) (xs : List Expr) (n : ℕ) → n ≤ 64 → suc n ≤ 64 → (us ts : List Terminal) →
    Then (Then (RangeOf t x y n) (IntoOf o n)) (LoopCallOf t f xs n) us ts → StmtOf (stmt_at a (act.Pfor (name_at b t) x y o (record { name = name_at c f; args = xs }))) n us ts
pfor_made a b c t f x y o xs n h k us ts
    (and_then (and_then (and_then (and_then (and_then (and_then (and_then (a_token {a = i}) (a_token {a = j})) a_token) d) a_token) e) g)
    (and_then (and_then (and_then (and_then (and_then a_token (a_token {a = m})) a_token) a_token) p) (and_then a_token a_token))) =
    let after : Low (n ∷ n ∷ suc n ∷ suc n ∷ (more_args_nesting p.derived (suc n) ++ n ∷ n ∷ [])) =
    (h, (h, (k, (k, low_append (more_args_nesting p.derived (suc n)) (n ∷ n ∷ []) p.low (h, (h, tt)))))) in
    record {
      tree = stmt_at i (act.Pfor (name_at j t) d.tree e.tree g.tree (record { name = name_at m f; args = p.tree }));
      derived = a_pfor d.derived e.derived g.derived p.derived;
      same = same_stmt i a _ _ (same_pfor (name_at j t) (name_at b t) d.tree x e.tree y g.tree o (record { name = name_at m f; args = p.tree }) (record { name = name_at c f; args = xs })
          refl d.same e.same g.same (ap (λ (z : List Expr). record { name = name_at 0 f; args = z }) p.same));
      low = (
        h,
        (
          h,
          (
            h,
            low_append (expr_nesting d.derived n) _ (d.low n (omega arith))
                (h, low_append (expr_nesting e.derived n) _ (e.low n (omega arith)) (low_append (into_nesting g.derived n) _ g.low after)),
          ),
        ),
      );
    }

pub open_block : {version : Version} → Forms version (codes "{\n") any (IsToken word.OpenBlock (codes "{"))
open_block = weaken (then_ (symbol word.OpenBlock (codes "{") refl refl (λ b. refl)) (a_blank 10 refl) (λ r h. refl)) nothing_after

pub close_block : {version : Version} → Forms version (codes "}") any (IsToken word.CloseBlock (codes "}"))
close_block = symbol word.CloseBlock (codes "}") refl refl (λ b. refl)

pub blanks_after : (us ts : List Terminal) → Then IsNothing IsNothing us ts → IsNothing us ts
blanks_after us ts (and_then nothing nothing) = nothing

pub two_spaces : {version : Version} → Forms version (codes "  ") any IsNothing
two_spaces = weaken (then_ (a_blank 32 refl) (a_blank 32 refl) (λ r h. refl)) blanks_after

line_made : (x : Stmt) (n : ℕ) (us ts : List Terminal) → Then (Then IsNothing (StmtOf x n)) IsNothing us ts → StmtOf x n us ts
line_made x n us ts (and_then (and_then nothing d) nothing) = d

-- a line of a statement
line : {version : Version} (place : ℕ) (x : Act) (n : ℕ) (margin : List ℕ) → Forms version margin any IsNothing → Forms version (act_text x margin) any (StmtOf (stmt_at place x) n) → Forms version (stmt_text (stmt_at place x) margin) any (StmtOf (stmt_at place x) n)
line {version = version} place x n margin m d =
    subst (λ z. Forms version z any (StmtOf (stmt_at place x) n)) (sym (stmt_text-line place x margin))
    (weaken (then_ (then_ m d (λ r h. anything (act_text x margin ++ r))) (a_blank 10 refl) (λ r h. refl)) (line_made (stmt_at place x) n))

-- a form of the text that a statement's is
lined : {version : Version} (place : ℕ) (x : Act) (n : ℕ) (margin text : List ℕ) → Forms version margin any IsNothing → act_text x margin ≡ text → Forms version text any (StmtOf (stmt_at place x) n) → Forms version (stmt_text (stmt_at place x) margin) any (StmtOf (stmt_at place x) n)
lined {version = version} place x n margin text m e d = line place x n margin m (subst (λ z. Forms version z any (StmtOf (stmt_at place x) n)) (sym e) d)

no_stmts_made : (n : ℕ) (us ts : List Terminal) → IsNothing us ts → StmtsOf [] n us ts
no_stmts_made n us ts nothing = record { tree = []; derived = no_stmts; same = refl; low = tt }

stmts_made : (x : Stmt) (xs : List Stmt) (n : ℕ) (us ts : List Terminal) → Then (StmtOf x n) (StmtsOf xs n) us ts → StmtsOf (x ∷ xs) n us ts
stmts_made x xs n us ts (and_then d e) =
    record {
      tree = d.tree ∷ e.tree;
      derived = one_stmt d.derived e.derived;
      same = cons_same d.same e.same;
      low = low_append (stmt_nesting d.derived n) (stmts_nesting e.derived n) d.low e.low;
    }

block_made : (xs : List Stmt) (n : ℕ) → n ≤ 64 → suc n ≤ 64 → (us ts : List Terminal) → Then (Then (Then (IsToken word.OpenBlock (codes "{")) (StmtsOf xs (suc n))) IsNothing) (IsToken word.CloseBlock (codes "}")) us ts → BlockOf xs n us ts
block_made xs n h k us ts (and_then (and_then (and_then a_token d) nothing) a_token) =
    record {
      tree = d.tree;
      derived = a_block d.derived;
      same = d.same;
      low = (k, low_append (stmts_nesting d.derived (suc n)) (n ∷ []) d.low (h, tt));
    }

no_else_made : (n : ℕ) (us ts : List Terminal) → IsNothing us ts → ElseOf [] n us ts
no_else_made n us ts nothing = record { tree = []; derived = no_else; same = refl; low = tt }

else_made : (xs : List Stmt) (n : ℕ) → n ≤ 64 → (us ts : List Terminal) → Then (IsToken word.Else (codes "else")) (BlockOf xs n) us ts → ElseOf xs n us ts
else_made xs n h us ts (and_then a_token d) = record { tree = d.tree; derived = an_else d.derived; same = d.same; low = (h, d.low) }

-- an empty second block isn't written
else_of_block : {version : Version} (xs : List Stmt) (n : ℕ) (margin : List ℕ) → n ≤ 64 → Forms version (block_text (map stmt_text xs) margin) any (BlockOf xs n) → Forms version (else_text (map stmt_text xs) margin) any (ElseOf xs n)
else_of_block [] n margin h d = weaken empty (no_else_made n)
else_of_block {version = version} (x ∷ xs) n margin h d =
    weaken (then_ (spaced_word word.Else (codes "else") refl (in_each version word.Else (codes "else") refl refl) refl) d (λ r h. anything (block_text (map stmt_text (x ∷ xs)) margin ++ r))) (else_made (x ∷ xs) n h)

range_form : {version : Version} (t : List ℕ) (x y : Expr) (n : ℕ) → Forms version t calm (IsToken word.Name t) → Shown version (printed x) x n → Shown version (printed y) y n → Forms version (codes "pfor " ++ t ++ codes " in " ++ expr_text x ++ codes ".." ++ expr_text y) calm (RangeOf t x y n)
range_form {version = version} t x y n name d e =
    then_ (then_ (then_ (then_ (then_ (word_space word.Pfor (codes "pfor") refl (in_each version word.Pfor (codes "pfor") refl refl) refl) name (λ r h. anything (t ++ r))) (spaced_word word.In (codes "in") refl (in_each version word.In (codes "in") refl refl) refl) (λ r h. refl))
    d.expr (λ r h. anything (expr_text x ++ r))) (symbol word.Range (codes "..") refl refl (λ b. refl)) (λ r h. refl)) e.expr (λ r h. anything (expr_text y ++ r))

loop_call_form : {version : Version} (t f : List ℕ) (xs : List Expr) (n : ℕ) → Forms version t calm (IsToken word.Name t) → Forms version f calm (IsToken word.Name f) → Tail version (after_commas expr_text xs) (MoreArgsOf xs (suc n)) →
    Forms version (codes " call " ++ f ++ codes "(" ++ t ++ after_commas expr_text xs ++ codes ");") any (LoopCallOf t f xs n)
loop_call_form {version = version} t f xs n name called args =
    then_ (then_ (then_ (then_ (then_ (spaced_word word.Call (codes "call") refl (in_each version word.Call (codes "call") refl refl) refl) called (λ r h. anything (f ++ r))) opened (λ r h. refl)) name (λ r h. anything (t ++ r)))
    args.form args.front) (then_ closed semicolon (λ r h. refl)) (λ r h. refl)

mutual
  pub stmt_shown : {version : Version} {ts rest : List Terminal} {x : Stmt} (d : IsStmt ts x rest) (n : ℕ) → Low (stmt_nesting d n) → Sound version ts → (margin : List ℕ) → Forms version margin any IsNothing → Forms version (stmt_text x margin) any (StmtOf x n)
  stmt_shown (a_let {a = a} {b = b} {u = u} {r = r} d) n l s margin m =
      let name = s.1.0 in
      let value = right_shown d n (low_front (right_nesting d n) (n ∷ []) l.1.1.1) s.1.1.1 in
      lined a (act.Let (name_at b u) r) n margin _ m (act_text-let (name_at b u) r margin)
      (weaken (then_ (then_ (then_ (then_ let_word (name_form u name.word_is (name.modest.name refl)) (λ q h. anything (u ++ q))) assign (λ q h. refl)) value (λ q h. anything (right_text r ++ q))) semicolon (λ q h. refl))
      (let_made a b u r n l.0))
  stmt_shown (an_array {a = a} {b = b} {d = d} {u = u} {w = w}) n l s margin m =
      let name = s.1.0 in
      let small : decimal 0 w ≤ 9223372036854775807 = s.1.1.1.0.modest.number refl in
      lined a (act.Array (name_at b u) (number_at d w)) n margin _ m (act_text-array (name_at b u) (number_at d w) margin)
      (weaken (then_ (then_ (then_ (then_ let_word (name_form u name.word_is (name.modest.name refl)) (λ q h. anything (u ++ q))) open_item (λ q h. refl)) (number_form (decimal 0 w) small) (λ q h. anything (fmt.decimal (decimal 0 w) ++ q)))
      (then_ close_item semicolon (λ q h. refl)) (λ q h. refl))
      (array_made a b d u w n l.0 l.1.1.0 small))
  stmt_shown (a_set {a = a} {t = t} {r = r} d) n l s margin m =
      let value = right_shown d n (low_front (right_nesting d n) (n ∷ []) l.1.1) s.1.1 in
      lined a (act.Set (name_at a t) r) n margin _ m (act_text-set (name_at a t) r margin)
      (weaken (then_ (then_ (then_ (name_form t s.0.word_is (s.0.modest.name refl)) assign (λ q h. refl)) value (λ q h. anything (right_text r ++ q))) semicolon (λ q h. refl))
      (set_made a t r n l.0))
  stmt_shown {version = version} (a_store {a = a} {t = t} {x = x} {y = y} d e) n l s margin m =
      let after = low_back (expr_nesting d (suc n)) (n ∷ n ∷ (expr_nesting e n ++ n ∷ [])) l.1.1 in
      let index = expr_shown d (suc n) (low_front (expr_nesting d (suc n)) (n ∷ n ∷ (expr_nesting e n ++ n ∷ [])) l.1.1) s.1.1 in
      let value = expr_shown e n (low_front (expr_nesting e n) (n ∷ []) after.1.1) (sound_after version (expr_eats d) s.1.1).1.1 in
      lined a (act.Store (name_at a t) x y) n margin _ m (act_text-store (name_at a t) x y margin)
      (weaken (then_ (then_ (then_ (then_ (then_ (name_form t s.0.word_is (s.0.modest.name refl)) open_item (λ q h. refl)) index.expr (λ q h. anything (expr_text x ++ q)))
      (then_ close_item assign (λ q h. refl)) (λ q h. refl)) value.expr (λ q h. anything (expr_text y ++ q))) semicolon (λ q h. refl))
      (store_made a t x y n l.0 l.1.0))
  stmt_shown (a_spawn {a = a} {c = c} d) n l s margin m =
      let call = call_shown d n (low_front (call_nesting d n) (n ∷ []) l.1) s.1 in
      lined a (act.Spawn c) n margin _ m (act_text-spawn c margin)
      (weaken (then_ (then_ spawn_word call (λ q h. anything (call_text c ++ q))) semicolon (λ q h. refl)) (spawn_made a c n l.0))
  stmt_shown (a_call_stmt {a = a} {c = c} d) n l s margin m =
      let call = call_shown d n (low_front (call_nesting d n) (n ∷ []) l.1) s.1 in
      lined a (act.Call c) n margin _ m (act_text-call c margin)
      (weaken (then_ (then_ call_word call (λ q h. anything (call_text c ++ q))) semicolon (λ q h. refl)) (call_stmt_made a c n l.0))
  stmt_shown {version = version} (a_sync {a = a}) n l s margin m =
      lined a act.Sync n margin _ m (act_text-sync margin)
      (weaken (then_ (keyword word.Sync (codes "sync") refl (in_each version word.Sync (codes "sync") refl refl) refl) semicolon (λ q h. refl)) (sync_made a n l.0))
  stmt_shown {version = version} (a_print {a = a} {x = x} d) n l s margin m =
      let value = expr_shown d n (low_front (expr_nesting d n) (n ∷ []) l.1) s.1 in
      lined a (act.Print x) n margin _ m (act_text-print x margin)
      (weaken (then_ (then_ (word_space word.Print (codes "print") refl (in_each version word.Print (codes "print") refl refl) refl) value.expr (λ q h. anything (expr_text x ++ q))) semicolon (λ q h. refl)) (print_made a x n l.0))
  stmt_shown {version = version} (an_if {a = a} {x = x} {p = p} {q = q} d e f) n l s margin m =
      let after = low_back (expr_nesting d n) (block_nesting e n ++ else_nesting f n) l.1 in
      let guard = expr_shown d n (low_front (expr_nesting d n) (block_nesting e n ++ else_nesting f n) l.1) s.1 in
      let in_block = sound_after version (expr_eats d) s.1 in
      let block = block_shown e n (low_front (block_nesting e n) (else_nesting f n) after) in_block margin m in
      let otherwise = else_shown f n (low_back (block_nesting e n) (else_nesting f n) after) (sound_after version (block_eats e) in_block) margin m in
      lined a (act.If x p q) n margin _ m (act_text-if x p q margin)
      (weaken (then_ (then_ (then_ (then_ (word_space word.If (codes "if") refl (in_each version word.If (codes "if") refl refl) refl) guard.expr (λ r h. anything (expr_text x ++ r))) (a_blank 32 refl) (λ r h. refl))
      block (λ r h. anything (block_text (map stmt_text p) margin ++ r))) otherwise (λ r h. anything (else_text (map stmt_text q) margin ++ r)))
      (if_made a x p q n l.0))
  stmt_shown {version = version} (a_while {a = a} {x = x} {p = p} d e) n l s margin m =
      let guard = expr_shown d n (low_front (expr_nesting d n) (block_nesting e n) l.1) s.1 in
      let block = block_shown e n (low_back (expr_nesting d n) (block_nesting e n) l.1) (sound_after version (expr_eats d) s.1) margin m in
      lined a (act.While x p) n margin _ m (act_text-while x p margin)
      (weaken (then_ (then_ (then_ (word_space word.While (codes "while") refl (in_each version word.While (codes "while") refl refl) refl) guard.expr (λ r h. anything (expr_text x ++ r))) (a_blank 32 refl) (λ r h. refl))
      block (λ r h. anything (block_text (map stmt_text p) margin ++ r)))
      (while_made a x p n l.0))
  stmt_shown {version = version} (a_scope {a = a} {t = t} {p = p} d) n l s margin m =
      let block = block_shown d n l.1 s.1 margin m in
      lined a (act.Scope p) n margin _ m (act_text-scope p margin)
      (weaken (then_ (word_space word.Scope (codes "scope") refl (scope_is version t s.0.word_is) refl) block (λ r h. anything (block_text (map stmt_text p) margin ++ r))) (scope_made a p n l.0))
  stmt_shown {version = version} (a_pfor {a = a} {b = b} {f = f} {n = t} {f' = f'} {lo = lo} {hi = hi} {into = o} {xs = xs} d e i g) n l s margin m =
      let after_lo = low_back (expr_nesting d n) _ l.1.1.1 in
      let after_hi = low_back (expr_nesting e n) _ after_lo.1 in
      let after_into = low_back (into_nesting i n) _ after_hi in
      let at_lo = s.1.1.1 in
      let at_hi = (sound_after version (expr_eats d) at_lo).1 in
      let at_into = sound_after version (expr_eats e) at_hi in
      let at_call = sound_after version (into_eats i) at_into in
      let name = name_form t s.1.0.word_is (s.1.0.modest.name refl) in
      let called = name_form f' at_call.1.0.word_is (at_call.1.0.modest.name refl) in
      let first = expr_shown d n (low_front (expr_nesting d n) _ l.1.1.1) at_lo in
      let end = expr_shown e n (low_front (expr_nesting e n) _ after_lo.1) at_hi in
      let target = into_shown i n (low_front (into_nesting i n) _ after_hi) at_into in
      let args = more_args_shown g (suc n) (low_front (more_args_nesting g (suc n)) (n ∷ n ∷ []) after_into.1.1.1.1) at_call.1.1.1.1 in
      lined a (act.Pfor (name_at b t) lo hi o (record { name = name_at f f'; args = xs })) n margin _ m (act_text-pfor (name_at b t) lo hi o (record { name = name_at f f'; args = xs }) margin)
      (weaken (then_ (then_ (range_form t lo hi n name first end) target.form target.front) (loop_call_form t f' xs n name called args) (λ r h. refl))
      (pfor_made a b f t f' lo hi o xs n l.0 after_into.1.1.0))

  pub stmts_shown : {version : Version} {ts rest : List Terminal} {xs : List Stmt} (d : IsStmts ts xs rest) (n : ℕ) → Low (stmts_nesting d n) → Sound version ts → (margin : List ℕ) → Forms version margin any IsNothing → Forms version (stmts_text xs margin) any (StmtsOf xs n)
  stmts_shown no_stmts n l s margin m = weaken empty (no_stmts_made n)
  stmts_shown {version = version} (one_stmt {x = x} {xs = xs} d e) n l s margin m =
      let first = stmt_shown d n (low_front (stmt_nesting d n) (stmts_nesting e n) l) s margin m in
      let others = stmts_shown e n (low_back (stmt_nesting d n) (stmts_nesting e n) l) (sound_after version (stmt_eats d) s) margin m in
      weaken (then_ first others (λ r h. anything (stmts_text xs margin ++ r))) (stmts_made x xs n)

  pub block_shown : {version : Version} {ts rest : List Terminal} {xs : List Stmt} (d : IsBlock ts xs rest) (n : ℕ) → Low (block_nesting d n) → Sound version ts → (margin : List ℕ) → Forms version margin any IsNothing → Forms version (block_text (map stmt_text xs) margin) any (BlockOf xs n)
  block_shown {version = version} (a_block {xs = xs} d) n l s margin m =
      let deeper : Forms version (margin ++ codes "  ") any IsNothing = weaken (then_ m two_spaces (λ r h. anything (codes "  " ++ r))) blanks_after in
      let stmts = stmts_shown d (suc n) (low_front (stmts_nesting d (suc n)) (n ∷ []) l.1) s.1 (margin ++ codes "  ") deeper in
      let end = low_back (stmts_nesting d (suc n)) (n ∷ []) l.1 in
      subst (λ z. Forms version z any (BlockOf xs n)) (sym (block_text-stmts xs margin))
      (weaken (then_ (then_ (then_ open_block stmts (λ r h. anything (stmts_text xs (margin ++ codes "  ") ++ r))) m (λ r h. anything (margin ++ r))) close_block (λ r h. refl)) (block_made xs n end.0 l.0))

  pub else_shown : {version : Version} {ts rest : List Terminal} {xs : List Stmt} (d : IsElse ts xs rest) (n : ℕ) → Low (else_nesting d n) → Sound version ts → (margin : List ℕ) → Forms version margin any IsNothing → Forms version (else_text (map stmt_text xs) margin) any (ElseOf xs n)
  else_shown no_else n l s margin m = weaken empty (no_else_made n)
  else_shown (an_else {xs = xs} d) n l s margin m = else_of_block xs n margin l.0 (block_shown d n l.1 s.1 margin m)
