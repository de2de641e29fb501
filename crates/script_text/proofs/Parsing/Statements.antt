-- What the functions on statements need.
use Rattle.std.proofs.Common.{◌≡◌, ℕ, suc, ◌+◌, ◌<◌, ◌≤◌, List, [], ◌∷◌, ◌++◌, length, Option, Some, None, true, false, ◌&&◌, Ok, Err, if◌then◌else◌, refl, sym, ap, ◌∙◌, subst, arith, append_assoc, append-nil}
use Rattle.script_tokens.specs.declared.token.Word.{Word}
use Rattle.script_tokens.specs.declared.token.Word.TheVariants as word
use Rattle.script_tokens.specs.declared.token.Lexeme.{Lexeme}
use Rattle.script_tokens.specs.Lexing.{text_of}
use Rattle.script_text.specs.declared.error.SyntaxError.{SyntaxError}
use Rattle.script_text.specs.declared.error.SyntaxError.TheVariants.{Bad, Memory}
use Rattle.script_text.specs.declared.parser.source.LexedText.{LexedText}
use Rattle.script_grammar.specs.declared.tree.Name.{Name}
use Rattle.script_grammar.specs.declared.tree.Number.{Number}
use Rattle.script_grammar.specs.declared.tree.Expr.{Expr}
use Rattle.script_grammar.specs.declared.tree.CallText.{CallText}
use Rattle.script_grammar.specs.declared.tree.Right.{Right}
use Rattle.script_grammar.specs.declared.tree.Right.TheVariants as right
use Rattle.script_grammar.specs.declared.tree.Act.{Act}
use Rattle.script_grammar.specs.declared.tree.Act.TheVariants as act
use Rattle.script_grammar.specs.declared.tree.Stmt.{Stmt}
use Rattle.script_grammar.specs.Grammar.{Terminal, tok, name_at, number_at, IsExpr, IsMoreArgs, no_more_args, one_more_arg, IsArgs, no_args, some_args, IsCall, a_call, IsRight, right_value, right_draw, right_new, right_call, right_spawn, IsInto, no_into, an_into, stmt_at, IsStmt, a_let, an_array, a_set, a_store, a_spawn, a_call_stmt, a_sync, a_print, an_if, a_while, a_pfor, a_scope, IsStmts, no_stmts, one_stmt, IsBlock, a_block, IsElse, no_else, an_else}
use Rattle.script_text.specs.Machine as machine
use Rattle.script_text.specs.Machine.{Sym, only, exactly, loop_args, call_args, more_args, into, loop_name, stmts, after_let, after_name, block, otherwise, expr_then, rules, rule, is_empty, find_rule, consume, nesting, at_stop, verdict, begun_with, judge}
use Rattle.script_grammar.specs.Text.{token_of}
use Rattle.script_text.specs.Reads.{terminals_of, text_end, ReadsTo, Errs, NextIs, NextIsNot, IsBracket, Deepens, ReadsName, is_unlimited, unexpected_in, IsName, a_name_token, IsNumber, a_number_token, IsValueOf, value_of, IsEnded, ended, IsCallOf, call_of, IsSize, a_size, IsElement, an_element, begins_stmt, NoStmt}
use Rattle.script_text.proofs.Parsing.Steps.{taken, deep, name_taken, name_long, HasNone, skipped, has_none, other_word, seen-next, err_after, unexpected_err, Comes, Passed, Opened}
use Rattle.script_text.proofs.Parsing.Expressions.{first_is, expr_shorter, length-seen}

-- Two in a row

module _ (source : LexedText) (d : ℕ) where
  pub err_first : (front next tail : List Sym) (d' : ℕ) (old : List Lexeme) (e : SyntaxError) → ((n : ℕ) (s : List Sym) → judge (text_end source) n (front ++ s) (terminals_of source old) ≡ judge (text_end source) n ((next ++ tail) ++ s) (terminals_of source old))
      → ((s : List Sym) → nesting s ≡ d → nesting (tail ++ s) ≡ d') → Errs next source d' old e → Errs front source d old e
  err_first front next tail d' old e g h f = err_after front next tail source d d' old old e (λ n s r. g n s) h f

-- Right sides

right_step : (w : Word) (text : List ℕ) (s : List Sym) → (w ≡ word.Draw → ⊥) → (w ≡ word.New → ⊥) → (w ≡ word.Call → ⊥) → (w ≡ word.Spawn → ⊥) → consume w text (machine.right ∷ s) ≡ consume w text (expr_then s)
right_step word.Draw text s a b c d = absurd (a refl)
right_step word.New text s a b c d = absurd (b refl)
right_step word.Call text s a b c d = absurd (c refl)
right_step word.Spawn text s a b c d = absurd (d refl)
right_step _ text s a b c d = refl

module _ (source : LexedText) (d : ℕ) (old rest : List Lexeme) (l : Lexeme) (e : old ≡ l ∷ rest) where
  right_same : (l.word ≡ word.Draw → ⊥) → (l.word ≡ word.New → ⊥) → (l.word ≡ word.Call → ⊥) → (l.word ≡ word.Spawn → ⊥) → (n : ℕ) (s : List Sym)
      → judge (text_end source) n (machine.right ∷ s) (terminals_of source old) ≡ judge (text_end source) n (expr_then s) (terminals_of source old)
  right_same p q r u n s =
      let t : Terminal = token_of source.bytes.now l in
      ap (λ z. judge (text_end source) n (machine.right ∷ s) (terminals_of source z)) e
      ∙ ap (λ o. verdict n t o (λ s'. judge (text_end source) (begun_with t n) s' (terminals_of source rest))) (right_step l.word (text_of source.bytes.now l) s p q r u)
      ∙ ap (λ z. judge (text_end source) n (expr_then s) (terminals_of source z)) (sym e)

  pub right_value_read : (last : List Lexeme) (x : Expr) → (l.word ≡ word.Draw → ⊥) → (l.word ≡ word.New → ⊥) → (l.word ≡ word.Call → ⊥) → (l.word ≡ word.Spawn → ⊥) → Comes IsExpr (expr_then []) source d old x last
      → Comes IsRight (machine.right ∷ []) source d old (right.Value x) last
  right_value_read last x p q r u a = (right_value a.0, λ n s f. right_same p q r u n s ∙ a.1 n s f)

  pub right_value_err : (g : SyntaxError) → (l.word ≡ word.Draw → ⊥) → (l.word ≡ word.New → ⊥) → (l.word ≡ word.Call → ⊥) → (l.word ≡ word.Spawn → ⊥) → Errs (expr_then []) source d old g → Errs (machine.right ∷ []) source d old g
  right_value_err g p q r u f = err_first source d (machine.right ∷ []) (expr_then []) [] d old g (right_same p q r u) (λ s h. h) f

  -- the machine after a word that a right side may begin with
  right_enters : (w : Word) (next : List Sym) → l.word ≡ w → is_unlimited w ≡ true → ((text : List ℕ) (s : List Sym) → consume w text (machine.right ∷ s) ≡ Some (next ++ s)) → ((s : List Sym) → nesting (next ++ s) ≡ nesting s) → d ≤ 64
      → ReadsTo (machine.right ∷ []) next source d old rest
  right_enters w next p q g k h = λ n s f.
      let same = k s in
      ap (judge (text_end source) n (machine.right ∷ s)) (seen-next w source l.start old rest (first_is l old rest e p))
      ∙ taken (text_end source) n l.start w (text_of source.bytes.now l) (machine.right ∷ s) (next ++ s) (terminals_of source rest) q (omega (arith, same)) (g (text_of source.bytes.now l) s)

  pub right_draw_read : l.word ≡ word.Draw → d ≤ 64 → Comes IsRight (machine.right ∷ []) source d old (right.Draw l.start) rest
  right_draw_read p h = (
    subst (λ q. IsRight q (right.Draw l.start) (terminals_of source rest)) (sym (seen-next word.Draw source l.start old rest (first_is l old rest e p))) right_draw,
    right_enters word.Draw [] p refl (λ t s. refl) (λ s. refl) h,
  )

  pub right_new_read : l.word ≡ word.New → d ≤ 64 → Comes IsRight (machine.right ∷ []) source d old (right.New l.start) rest
  right_new_read p h = (
    subst (λ q. IsRight q (right.New l.start) (terminals_of source rest)) (sym (seen-next word.New source l.start old rest (first_is l old rest e p))) right_new,
    right_enters word.New [] p refl (λ t s. refl) (λ s. refl) h,
  )

  pub right_call_read : (last : List Lexeme) (x : CallText) → l.word ≡ word.Call → d ≤ 64 → Comes IsCall (only word.Name ∷ call_args ∷ []) source d rest x last → Comes IsRight (machine.right ∷ []) source d old (right.Call l.start x) last
  right_call_read last x p h a = (
    subst (λ q. IsRight q (right.Call l.start x) (terminals_of source last)) (sym (seen-next word.Call source l.start old rest (first_is l old rest e p))) (right_call a.0),
    λ n s f. right_enters word.Call (only word.Name ∷ call_args ∷ []) p refl (λ t s. refl) (λ s. refl) h n s f ∙ a.1 n s f,
  )

  pub right_spawn_read : (last : List Lexeme) (x : CallText) → l.word ≡ word.Spawn → d ≤ 64 → Comes IsCall (only word.Name ∷ call_args ∷ []) source d rest x last → Comes IsRight (machine.right ∷ []) source d old (right.Spawn l.start x) last
  right_spawn_read last x p h a = (
    subst (λ q. IsRight q (right.Spawn l.start x) (terminals_of source last)) (sym (seen-next word.Spawn source l.start old rest (first_is l old rest e p))) (right_spawn a.0),
    λ n s f. right_enters word.Spawn (only word.Name ∷ call_args ∷ []) p refl (λ t s. refl) (λ s. refl) h n s f ∙ a.1 n s f,
  )

  pub right_call_err : (g : SyntaxError) → l.word ≡ word.Call → d ≤ 64 → Errs (only word.Name ∷ call_args ∷ []) source d rest g → Errs (machine.right ∷ []) source d old g
  right_call_err g p h f = err_after (machine.right ∷ []) (only word.Name ∷ call_args ∷ []) [] source d d old rest g (right_enters word.Call (only word.Name ∷ call_args ∷ []) p refl (λ t s. refl) (λ s. refl) h) (λ s r. r) f

  pub right_spawn_err : (g : SyntaxError) → l.word ≡ word.Spawn → d ≤ 64 → Errs (only word.Name ∷ call_args ∷ []) source d rest g → Errs (machine.right ∷ []) source d old g
  right_spawn_err g p h f = err_after (machine.right ∷ []) (only word.Name ∷ call_args ∷ []) [] source d d old rest g (right_enters word.Spawn (only word.Name ∷ call_args ∷ []) p refl (λ t s. refl) (λ s. refl) h) (λ s r. r) f

pub right_missing : (source : LexedText) (d : ℕ) (old : List Lexeme) (e : SyntaxError) → old ≡ [] → e ≡ unexpected_in source old → Errs (machine.right ∷ []) source d old e
right_missing source d old e h f = unexpected_err machine.right [] source d old e refl (subst (λ z. HasNone machine.right z source.bytes.now) (sym h) tt) f

-- What ends with a semicolon

module _ (source : LexedText) (d : ℕ) (old mid rest : List Lexeme) where
  pub value_read : (x : Right) → Comes IsRight (machine.right ∷ []) source d old x mid → Passed word.Semicolon source d mid rest → Comes IsValueOf (machine.right ∷ only word.Semicolon ∷ []) source d old x rest
  value_read x a b = (value_of (subst (IsRight (terminals_of source old) x) (seen-next word.Semicolon source b.0.0 mid rest b.0.1) a.0), λ n s f. a.1 n (only word.Semicolon ∷ s) f ∙ b.1 n s f)

  pub ended_read : (x : Expr) → Comes IsExpr (expr_then []) source d old x mid → Passed word.Semicolon source d mid rest → Comes IsEnded (expr_then (only word.Semicolon ∷ [])) source d old x rest
  ended_read x a b = (ended (subst (IsExpr (terminals_of source old) x) (seen-next word.Semicolon source b.0.0 mid rest b.0.1) a.0), λ n s f. a.1 n (only word.Semicolon ∷ s) f ∙ b.1 n s f)

  pub call_of_read : (x : CallText) → Comes IsCall (only word.Name ∷ call_args ∷ []) source d old x mid → Passed word.Semicolon source d mid rest → Comes IsCallOf (only word.Name ∷ call_args ∷ only word.Semicolon ∷ []) source d old x rest
  call_of_read x a b = (call_of (subst (IsCall (terminals_of source old) x) (seen-next word.Semicolon source b.0.0 mid rest b.0.1) a.0), λ n s f. a.1 n (only word.Semicolon ∷ s) f ∙ b.1 n s f)

module _ (source : LexedText) (d : ℕ) (old : List Lexeme) (e : SyntaxError) where
  pub value_err : Errs (machine.right ∷ []) source d old e → Errs (machine.right ∷ only word.Semicolon ∷ []) source d old e
  value_err f = err_first source d (machine.right ∷ only word.Semicolon ∷ []) (machine.right ∷ []) (only word.Semicolon ∷ []) d old e (λ n s. refl) (λ s r. r) f

  pub value_err_end : (mid : List Lexeme) (x : Right) → Comes IsRight (machine.right ∷ []) source d old x mid → Errs (only word.Semicolon ∷ []) source d mid e → Errs (machine.right ∷ only word.Semicolon ∷ []) source d old e
  value_err_end mid x a f = err_after (machine.right ∷ only word.Semicolon ∷ []) (only word.Semicolon ∷ []) [] source d d old mid e (λ n s r. a.1 n (only word.Semicolon ∷ s) r) (λ s r. r) f

  pub ended_err : Errs (expr_then []) source d old e → Errs (expr_then (only word.Semicolon ∷ [])) source d old e
  ended_err f = err_first source d (expr_then (only word.Semicolon ∷ [])) (expr_then []) (only word.Semicolon ∷ []) d old e (λ n s. refl) (λ s r. r) f

  pub ended_err_end : (mid : List Lexeme) (x : Expr) → Comes IsExpr (expr_then []) source d old x mid → Errs (only word.Semicolon ∷ []) source d mid e → Errs (expr_then (only word.Semicolon ∷ [])) source d old e
  ended_err_end mid x a f = err_after (expr_then (only word.Semicolon ∷ [])) (only word.Semicolon ∷ []) [] source d d old mid e (λ n s r. a.1 n (only word.Semicolon ∷ s) r) (λ s r. r) f

  pub call_of_err : Errs (only word.Name ∷ call_args ∷ []) source d old e → Errs (only word.Name ∷ call_args ∷ only word.Semicolon ∷ []) source d old e
  call_of_err f = err_first source d (only word.Name ∷ call_args ∷ only word.Semicolon ∷ []) (only word.Name ∷ call_args ∷ []) (only word.Semicolon ∷ []) d old e (λ n s. refl) (λ s r. r) f

  pub call_of_err_end : (mid : List Lexeme) (x : CallText) → Comes IsCall (only word.Name ∷ call_args ∷ []) source d old x mid → Errs (only word.Semicolon ∷ []) source d mid e → Errs (only word.Name ∷ call_args ∷ only word.Semicolon ∷ []) source d old e
  call_of_err_end mid x a f = err_after (only word.Name ∷ call_args ∷ only word.Semicolon ∷ []) (only word.Semicolon ∷ []) [] source d d old mid e (λ n s r. a.1 n (only word.Semicolon ∷ s) r) (λ s r. r) f

-- Brackets after a name: [n]; and [E] = E;

none_of_two : (a : Sym) (v w : Word) (p q : List Sym) (old : List Lexeme) (bytes : List ℕ) → rules a ≡ rule v p ∷ rule w q ∷ [] → NextIsNot v old → NextIsNot w old → HasNone a old bytes
none_of_two a v w p q [] bytes e h k = tt
none_of_two a v w p q (l ∷ ls) bytes e h k =
    ap (find_rule l.word (text_of bytes l)) e ∙ ap (λ b. if b && true then Some p else if machine.same_word l.word w && true then Some q else None) (other_word l.word v h)
    ∙ ap (λ b. if b && true then Some q else None) (other_word l.word w k)

module _ (source : LexedText) (d : ℕ) (old : List Lexeme) (e : SyntaxError) where
  pub size_missing : NextIsNot word.Assign old → NextIsNot word.OpenItem old → e ≡ unexpected_in source old → Errs (after_let ∷ []) source d old e
  size_missing h k f = unexpected_err after_let [] source d old e refl (none_of_two after_let word.Assign word.OpenItem _ _ old source.bytes.now refl h k) f

  pub element_missing : NextIsNot word.Assign old → NextIsNot word.OpenItem old → e ≡ unexpected_in source old → Errs (after_name ∷ []) source d old e
  element_missing h k f = unexpected_err after_name [] source d old e refl (none_of_two after_name word.Assign word.OpenItem _ _ old source.bytes.now refl h k) f

-- a bracket that a symbol's second rule begins with
module _ (source : LexedText) (d at : ℕ) (old rest : List Lexeme) (a : Sym) (inside : List Sym) (g : (text : List ℕ) (s : List Sym) → consume word.OpenItem text (a ∷ s) ≡ Some (inside ++ s)) (one : (s : List Sym) → nesting (inside ++ s) ≡ suc (nesting s)) (k : NextIs word.OpenItem at old rest) where
  pub bracket_enters : d < 64 → ReadsTo (a ∷ []) inside source d old rest
  bracket_enters h = λ n s f.
      let level = one s in
      ap (judge (text_end source) n (a ∷ s)) (seen-next word.OpenItem source at old rest k)
      ∙ taken (text_end source) n at word.OpenItem (text_of source.bytes.now k.0) (a ∷ s) (inside ++ s) (terminals_of source rest) refl (omega (arith, level)) (g (text_of source.bytes.now k.0) s)

  pub bracket_deep : (e : SyntaxError) → Deepens d at (Err e) → Errs (a ∷ []) source d old e
  bracket_deep Memory q = tt
  bracket_deep (Bad number place) q = λ n s f.
      let level = one s in
      let fault : ◌≡◌ {A = Option (ℕ × ℕ)} (Some (5, at)) (Some (number, place)) = cc in
      ap (judge (text_end source) n (a ∷ s)) (seen-next word.OpenItem source at old rest k)
      ∙ deep (text_end source) n at word.OpenItem (text_of source.bytes.now k.0) (a ∷ s) (inside ++ s) (terminals_of source rest) refl (omega (arith, level)) (g (text_of source.bytes.now k.0) s) ∙ fault

abbrev pub size_inside : List Sym
size_inside = only word.Number ∷ only word.CloseItem ∷ only word.Semicolon ∷ []

abbrev pub element_inside : List Sym
element_inside = expr_then (only word.CloseItem ∷ only word.Assign ∷ expr_then (only word.Semicolon ∷ []))

module _ (source : LexedText) (d at inside : ℕ) (old t1 : List Lexeme) (k : NextIs word.OpenItem at old t1) where
  size_enters : d < 64 → ReadsTo (after_let ∷ []) size_inside source d old t1
  size_enters h = bracket_enters source d at old t1 after_let size_inside (λ t s. refl) (λ s. refl) k h

  element_enters : d < 64 → ReadsTo (after_name ∷ []) element_inside source d old t1
  element_enters h = bracket_enters source d at old t1 after_name element_inside (λ t s. refl) (λ s. refl) k h

  pub size_deep : (e : SyntaxError) → Deepens d at (Err e) → Errs (after_let ∷ []) source d old e
  size_deep e q = bracket_deep source d at old t1 after_let size_inside (λ t s. refl) (λ s. refl) k e q

  pub element_deep : (e : SyntaxError) → Deepens d at (Err e) → Errs (after_name ∷ []) source d old e
  element_deep e q = bracket_deep source d at old t1 after_name element_inside (λ t s. refl) (λ s. refl) k e q

  pub size_read : (t2 t3 rest : List Lexeme) (x : Number) → Deepens d at (Ok inside) → Comes IsNumber (only word.Number ∷ []) source inside t1 x t2 → Passed word.CloseItem source d t2 t3 → Passed word.Semicolon source d t3 rest
      → Comes IsSize (after_let ∷ []) source d old x rest
  size_read t2 t3 rest x h a b c = (
    made (seen-next word.OpenItem source at old t1 k) a.0 (seen-next word.CloseItem source b.0.0 t2 t3 b.0.1) (seen-next word.Semicolon source c.0.0 t3 rest c.0.1),
    λ n s f. size_enters h.1 n s f ∙ a.1 n (only word.CloseItem ∷ only word.Semicolon ∷ s) (omega (arith, h.0, f)) ∙ b.1 n (only word.Semicolon ∷ s) f ∙ c.1 n s f,
  )
    where
      made : {o s1 s2 s3 to : List Terminal} {x : Number} {a b c : ℕ} {t u v : List ℕ} → o ≡ tok a word.OpenItem t ∷ s1 → IsNumber s1 x s2 → s2 ≡ tok b word.CloseItem u ∷ s3 → s3 ≡ tok c word.Semicolon v ∷ to → IsSize o x to
      made {s3 = s3} {to = to} {a = a} {b = b} {c = c} {t = t} {u = u} {v = v} e (a_number_token {a = g} {t = w} {rest = s2}) p q =
          subst (λ z. IsSize z (number_at g w) to) (sym (e ∙ ap (λ z. tok a word.OpenItem t ∷ tok g word.Number w ∷ z) (p ∙ ap (λ z. tok b word.CloseItem u ∷ z) q))) a_size

  pub size_err_number : (e : SyntaxError) → Deepens d at (Ok inside) → Errs (only word.Number ∷ []) source inside t1 e → Errs (after_let ∷ []) source d old e
  size_err_number e h f = err_after (after_let ∷ []) (only word.Number ∷ []) (only word.CloseItem ∷ only word.Semicolon ∷ []) source d inside old t1 e (size_enters h.1) (λ s r. omega (arith, h.0, r)) f

  pub size_err_close : (t2 : List Lexeme) (x : Number) (e : SyntaxError) → Deepens d at (Ok inside) → Comes IsNumber (only word.Number ∷ []) source inside t1 x t2 → Errs (only word.CloseItem ∷ []) source d t2 e → Errs (after_let ∷ []) source d old e
  size_err_close t2 x e h a f = err_after (after_let ∷ []) (only word.CloseItem ∷ []) (only word.Semicolon ∷ []) source d d old t2 e
      (λ n s r. size_enters h.1 n s r ∙ a.1 n (only word.CloseItem ∷ only word.Semicolon ∷ s) (omega (arith, h.0, r))) (λ s r. r) f

  pub size_err_end : (t2 t3 : List Lexeme) (x : Number) (e : SyntaxError) → Deepens d at (Ok inside) → Comes IsNumber (only word.Number ∷ []) source inside t1 x t2 → Passed word.CloseItem source d t2 t3 → Errs (only word.Semicolon ∷ []) source d t3 e
      → Errs (after_let ∷ []) source d old e
  size_err_end t2 t3 x e h a b f = err_after (after_let ∷ []) (only word.Semicolon ∷ []) [] source d d old t3 e
      (λ n s r. size_enters h.1 n s r ∙ a.1 n (only word.CloseItem ∷ only word.Semicolon ∷ s) (omega (arith, h.0, r)) ∙ b.1 n (only word.Semicolon ∷ s) r) (λ s r. r) f

  pub element_read : (t2 t3 t4 rest : List Lexeme) (x y : Expr) → Deepens d at (Ok inside) → Comes IsExpr (expr_then []) source inside t1 x t2 → Passed word.CloseItem source d t2 t3 → Passed word.Assign source d t3 t4
      → Comes IsEnded (expr_then (only word.Semicolon ∷ [])) source d t4 y rest → IsElement (terminals_of source old) x y (terminals_of source rest) × ReadsTo (after_name ∷ []) [] source d old rest
  element_read t2 t3 t4 rest x y h a b c z = (
    made (seen-next word.OpenItem source at old t1 k) a.0 (seen-next word.CloseItem source b.0.0 t2 t3 b.0.1) (seen-next word.Assign source c.0.0 t3 t4 c.0.1) z.0,
    λ n s f. element_enters h.1 n s f ∙ a.1 n (only word.CloseItem ∷ only word.Assign ∷ expr_then (only word.Semicolon ∷ s)) (omega (arith, h.0, f)) ∙ b.1 n (only word.Assign ∷ expr_then (only word.Semicolon ∷ s)) f
        ∙ c.1 n (expr_then (only word.Semicolon ∷ s)) f ∙ z.1 n s f,
  )
    where
      made : {o s1 s2 s3 s4 to : List Terminal} {x y : Expr} {a b c : ℕ} {t u v : List ℕ} → o ≡ tok a word.OpenItem t ∷ s1 → IsExpr s1 x s2 → s2 ≡ tok b word.CloseItem u ∷ s3 → s3 ≡ tok c word.Assign v ∷ s4 → IsEnded s4 y to → IsElement o x y to
      made {s1 = s1} {to = to} {x = x} {y = y} {b = b} {u = u} e p f g (ended q) =
          subst (λ z. IsElement z x y to) (sym e) (an_element (subst (IsExpr s1 x) (f ∙ ap (λ z. tok b word.CloseItem u ∷ z) g) p) q)

  pub element_err_place : (e : SyntaxError) → Deepens d at (Ok inside) → Errs (expr_then []) source inside t1 e → Errs (after_name ∷ []) source d old e
  element_err_place e h f = err_after (after_name ∷ []) (expr_then []) (only word.CloseItem ∷ only word.Assign ∷ expr_then (only word.Semicolon ∷ [])) source d inside old t1 e (element_enters h.1) (λ s r. omega (arith, h.0, r)) f

  pub element_err_close : (t2 : List Lexeme) (x : Expr) (e : SyntaxError) → Deepens d at (Ok inside) → Comes IsExpr (expr_then []) source inside t1 x t2 → Errs (only word.CloseItem ∷ []) source d t2 e → Errs (after_name ∷ []) source d old e
  element_err_close t2 x e h a f = err_after (after_name ∷ []) (only word.CloseItem ∷ []) (only word.Assign ∷ expr_then (only word.Semicolon ∷ [])) source d d old t2 e
      (λ n s r. element_enters h.1 n s r ∙ a.1 n (only word.CloseItem ∷ only word.Assign ∷ expr_then (only word.Semicolon ∷ s)) (omega (arith, h.0, r))) (λ s r. r) f

  pub element_err_assign : (t2 t3 : List Lexeme) (x : Expr) (e : SyntaxError) → Deepens d at (Ok inside) → Comes IsExpr (expr_then []) source inside t1 x t2 → Passed word.CloseItem source d t2 t3 → Errs (only word.Assign ∷ []) source d t3 e → Errs (after_name ∷ []) source d old e
  element_err_assign t2 t3 x e h a b f = err_after (after_name ∷ []) (only word.Assign ∷ []) (expr_then (only word.Semicolon ∷ [])) source d d old t3 e
      (λ n s r. element_enters h.1 n s r ∙ a.1 n (only word.CloseItem ∷ only word.Assign ∷ expr_then (only word.Semicolon ∷ s)) (omega (arith, h.0, r)) ∙ b.1 n (only word.Assign ∷ expr_then (only word.Semicolon ∷ s)) r) (λ s r. r) f

  pub element_err_value : (t2 t3 t4 : List Lexeme) (x : Expr) (e : SyntaxError) → Deepens d at (Ok inside) → Comes IsExpr (expr_then []) source inside t1 x t2 → Passed word.CloseItem source d t2 t3 → Passed word.Assign source d t3 t4
      → Errs (expr_then (only word.Semicolon ∷ [])) source d t4 e → Errs (after_name ∷ []) source d old e
  element_err_value t2 t3 t4 x e h a b c f = err_after (after_name ∷ []) (expr_then (only word.Semicolon ∷ [])) [] source d d old t4 e
      (λ n s r. element_enters h.1 n s r ∙ a.1 n (only word.CloseItem ∷ only word.Assign ∷ expr_then (only word.Semicolon ∷ s)) (omega (arith, h.0, r)) ∙ b.1 n (only word.Assign ∷ expr_then (only word.Semicolon ∷ s)) r
      ∙ c.1 n (expr_then (only word.Semicolon ∷ s)) r) (λ s r. r) f

-- What begins a statement

pub no_stmt : (old : List Lexeme) (bytes : List ℕ) → NoStmt old → HasNone stmts old bytes
no_stmt [] bytes h = tt
no_stmt (l ∷ ls) bytes h = go l.word h
  where
    go : (w : Word) → begins_stmt w ≡ false → find_rule w (text_of bytes l) (rules stmts) ≡ None
    go word.Let h = cc
    go word.Name h = cc
    go word.Spawn h = cc
    go word.Call h = cc
    go word.Sync h = cc
    go word.Print h = cc
    go word.If h = cc
    go word.While h = cc
    go word.Pfor h = cc
    go word.Scope h = cc
    go _ h = refl

abbrev pub ComesAct : LexedText → ℕ → Lexeme → List Lexeme → Act → List Lexeme → Type 0
ComesAct source d l rest x last = IsStmt (terminals_of source (l ∷ rest)) (stmt_at l.start x) (terminals_of source last) × ReadsTo (stmts ∷ []) (stmts ∷ []) source d (l ∷ rest) last

module _ (source : LexedText) (d : ℕ) (l : Lexeme) (rest : List Lexeme) where
  pub stmt_token : (w : Word) → l.word ≡ w → terminals_of source (l ∷ rest) ≡ tok l.start w (text_of source.bytes.now l) ∷ terminals_of source rest
  stmt_token w p = seen-next w source l.start (l ∷ rest) rest (first_is l (l ∷ rest) rest refl p)

  pub stmt_enters : (w : Word) (next : List Sym) → l.word ≡ w → is_unlimited w ≡ true → ((text : List ℕ) (s : List Sym) → consume w text (stmts ∷ s) ≡ Some (next ++ stmts ∷ s)) → ((s : List Sym) → nesting (next ++ stmts ∷ s) ≡ nesting s) → d ≤ 64
      → (n : ℕ) (s : List Sym) → nesting s ≡ d → judge (text_end source) n (stmts ∷ s) (terminals_of source (l ∷ rest)) ≡ judge (text_end source) n (next ++ stmts ∷ s) (terminals_of source rest)
  stmt_enters w next p q g k h = λ n s f.
      let same = k s in
      ap (judge (text_end source) n (stmts ∷ s)) (stmt_token w p)
      ∙ taken (text_end source) n l.start w (text_of source.bytes.now l) (stmts ∷ s) (next ++ stmts ∷ s) (terminals_of source rest) q (omega (arith, same)) (g (text_of source.bytes.now l) s)

  -- let

  let_enters : l.word ≡ word.Let → d ≤ 64 → ReadsTo (stmts ∷ []) (only word.Name ∷ after_let ∷ stmts ∷ []) source d (l ∷ rest) rest
  let_enters p h = stmt_enters word.Let (only word.Name ∷ after_let ∷ []) p refl (λ t s. refl) (λ s. refl) h

  assign_enters : (a : Sym) (at : ℕ) (t1 t2 : List Lexeme) → ((text : List ℕ) (s : List Sym) → consume word.Assign text (a ∷ s) ≡ Some (machine.right ∷ only word.Semicolon ∷ s)) → d ≤ 64 → NextIs word.Assign at t1 t2
      → ReadsTo (a ∷ []) (machine.right ∷ only word.Semicolon ∷ []) source d t1 t2
  assign_enters a at t1 t2 g h k = λ n s f.
      ap (judge (text_end source) n (a ∷ s)) (seen-next word.Assign source at t1 t2 k)
      ∙ taken (text_end source) n at word.Assign (text_of source.bytes.now k.0) (a ∷ s) (machine.right ∷ only word.Semicolon ∷ s) (terminals_of source t2) refl (omega arith) (g (text_of source.bytes.now k.0) s)

  pub let_read : (at : ℕ) (t1 t2 last : List Lexeme) (x : Name) (r : Right) → l.word ≡ word.Let → d ≤ 64 → Comes IsName (only word.Name ∷ []) source d rest x t1 → NextIs word.Assign at t1 t2
      → Comes IsValueOf (machine.right ∷ only word.Semicolon ∷ []) source d t2 r last → ComesAct source d l rest (act.Let x r) last
  let_read at t1 t2 last x r p h a k b = (
    subst (λ z. IsStmt z (stmt_at l.start (act.Let x r)) (terminals_of source last)) (sym (stmt_token word.Let p)) (made a.0 (seen-next word.Assign source at t1 t2 k) b.0),
    λ n s f. let_enters p h n s f ∙ a.1 n (after_let ∷ stmts ∷ s) f ∙ assign_enters after_let at t1 t2 (λ t s. refl) h k n (stmts ∷ s) f ∙ b.1 n (stmts ∷ s) f,
  )
    where
      made : {o s1 s2 to : List Terminal} {x : Name} {r : Right} {a c : ℕ} {t v : List ℕ} → IsName o x s1 → s1 ≡ tok c word.Assign v ∷ s2 → IsValueOf s2 r to → IsStmt (tok a word.Let t ∷ o) (stmt_at a (act.Let x r)) to
      made {to = to} {r = r} {a = a} {t = t} (a_name_token {a = b} {t = u}) e (value_of d) = subst (λ z. IsStmt (tok a word.Let t ∷ tok b word.Name u ∷ z) (stmt_at a (act.Let (name_at b u) r)) to) (sym e) (a_let d)

  pub array_read : (t1 last : List Lexeme) (x : Name) (m : Number) → l.word ≡ word.Let → d ≤ 64 → Comes IsName (only word.Name ∷ []) source d rest x t1 → Comes IsSize (after_let ∷ []) source d t1 m last → ComesAct source d l rest (act.Array x m) last
  array_read t1 last x m p h a b = (
    subst (λ z. IsStmt z (stmt_at l.start (act.Array x m)) (terminals_of source last)) (sym (stmt_token word.Let p)) (made a.0 b.0),
    λ n s f. let_enters p h n s f ∙ a.1 n (after_let ∷ stmts ∷ s) f ∙ b.1 n (stmts ∷ s) f,
  )
    where
      made : {o s1 to : List Terminal} {x : Name} {m : Number} {a : ℕ} {t : List ℕ} → IsName o x s1 → IsSize s1 m to → IsStmt (tok a word.Let t ∷ o) (stmt_at a (act.Array x m)) to
      made a_name_token a_size = an_array

  pub let_err_name : (e : SyntaxError) → l.word ≡ word.Let → d ≤ 64 → Errs (only word.Name ∷ []) source d rest e → Errs (stmts ∷ []) source d (l ∷ rest) e
  let_err_name e p h f = err_after (stmts ∷ []) (only word.Name ∷ []) (after_let ∷ stmts ∷ []) source d d (l ∷ rest) rest e (let_enters p h) (λ s r. r) f

  pub let_err_value : (at : ℕ) (t1 t2 : List Lexeme) (x : Name) (e : SyntaxError) → l.word ≡ word.Let → d ≤ 64 → Comes IsName (only word.Name ∷ []) source d rest x t1 → NextIs word.Assign at t1 t2 → Errs (machine.right ∷ only word.Semicolon ∷ []) source d t2 e
      → Errs (stmts ∷ []) source d (l ∷ rest) e
  let_err_value at t1 t2 x e p h a k f = err_after (stmts ∷ []) (machine.right ∷ only word.Semicolon ∷ []) (stmts ∷ []) source d d (l ∷ rest) t2 e
      (λ n s r. let_enters p h n s r ∙ a.1 n (after_let ∷ stmts ∷ s) r ∙ assign_enters after_let at t1 t2 (λ t s. refl) h k n (stmts ∷ s) r) (λ s r. r) f

  pub let_err_size : (t1 : List Lexeme) (x : Name) (e : SyntaxError) → l.word ≡ word.Let → d ≤ 64 → Comes IsName (only word.Name ∷ []) source d rest x t1 → Errs (after_let ∷ []) source d t1 e → Errs (stmts ∷ []) source d (l ∷ rest) e
  let_err_size t1 x e p h a f = err_after (stmts ∷ []) (after_let ∷ []) (stmts ∷ []) source d d (l ∷ rest) t1 e (λ n s r. let_enters p h n s r ∙ a.1 n (after_let ∷ stmts ∷ s) r) (λ s r. r) f

  -- a name

  named : (x : Name) → l.word ≡ word.Name → d ≤ 64 → ReadsName source l (Ok x) → ReadsTo (stmts ∷ []) (after_name ∷ stmts ∷ []) source d (l ∷ rest) rest
  named x p h k = λ n s f.
      ap (judge (text_end source) n (stmts ∷ s)) (stmt_token word.Name p)
      ∙ name_taken (text_end source) n l.start (text_of source.bytes.now l) (stmts ∷ s) (after_name ∷ stmts ∷ s) (terminals_of source rest) k.1 (omega arith) refl

  pub stmt_name_err : (e : SyntaxError) → l.word ≡ word.Name → ReadsName source l (Err e) → Errs (stmts ∷ []) source d (l ∷ rest) e
  stmt_name_err Memory p k = tt
  stmt_name_err (Bad number at) p k = λ n s f.
      let fault : ◌≡◌ {A = Option (ℕ × ℕ)} (Some (4, l.start)) (Some (number, at)) = cc in
      ap (judge (text_end source) n (stmts ∷ s)) (stmt_token word.Name p)
      ∙ name_long (text_end source) n l.start (text_of source.bytes.now l) (stmts ∷ s) (after_name ∷ stmts ∷ s) (terminals_of source rest) k.0 refl ∙ fault

  pub set_read : (at : ℕ) (t1 last : List Lexeme) (x : Name) (r : Right) → l.word ≡ word.Name → d ≤ 64 → ReadsName source l (Ok x) → NextIs word.Assign at rest t1 → Comes IsValueOf (machine.right ∷ only word.Semicolon ∷ []) source d t1 r last
      → ComesAct source d l rest (act.Set x r) last
  set_read at t1 last x r p h k g b = (
    subst (λ z. IsStmt z (stmt_at l.start (act.Set x r)) (terminals_of source last)) (sym (stmt_token word.Name p))
        (subst (λ z. IsStmt (tok l.start word.Name (text_of source.bytes.now l) ∷ terminals_of source rest) (stmt_at l.start (act.Set z r)) (terminals_of source last)) (sym k.0) (made (seen-next word.Assign source at rest t1 g) b.0)),
    λ n s f. named x p h k n s f ∙ assign_enters after_name at rest t1 (λ t s. refl) h g n (stmts ∷ s) f ∙ b.1 n (stmts ∷ s) f,
  )
    where
      made : {o s1 to : List Terminal} {r : Right} {a c : ℕ} {t v : List ℕ} → o ≡ tok c word.Assign v ∷ s1 → IsValueOf s1 r to → IsStmt (tok a word.Name t ∷ o) (stmt_at a (act.Set (name_at a t) r)) to
      made {to = to} {r = r} {a = a} {t = t} e (value_of d) = subst (λ z. IsStmt (tok a word.Name t ∷ z) (stmt_at a (act.Set (name_at a t) r)) to) (sym e) (a_set d)

  pub store_read : (last : List Lexeme) (x : Name) (y z : Expr) → l.word ≡ word.Name → d ≤ 64 → ReadsName source l (Ok x) → IsElement (terminals_of source rest) y z (terminals_of source last) → ReadsTo (after_name ∷ []) [] source d rest last
      → ComesAct source d l rest (act.Store x y z) last
  store_read last x y z p h k a b = (
    subst (λ q. IsStmt q (stmt_at l.start (act.Store x y z)) (terminals_of source last)) (sym (stmt_token word.Name p))
        (subst (λ q. IsStmt (tok l.start word.Name (text_of source.bytes.now l) ∷ terminals_of source rest) (stmt_at l.start (act.Store q y z)) (terminals_of source last)) (sym k.0) (made a)),
    λ n s f. named x p h k n s f ∙ b n (stmts ∷ s) f,
  )
    where
      made : {o to : List Terminal} {y z : Expr} {a : ℕ} {t : List ℕ} → IsElement o y z to → IsStmt (tok a word.Name t ∷ o) (stmt_at a (act.Store (name_at a t) y z)) to
      made (an_element p q) = a_store p q

  pub set_err : (at : ℕ) (t1 : List Lexeme) (x : Name) (e : SyntaxError) → l.word ≡ word.Name → d ≤ 64 → ReadsName source l (Ok x) → NextIs word.Assign at rest t1 → Errs (machine.right ∷ only word.Semicolon ∷ []) source d t1 e → Errs (stmts ∷ []) source d (l ∷ rest) e
  set_err at t1 x e p h k g f = err_after (stmts ∷ []) (machine.right ∷ only word.Semicolon ∷ []) (stmts ∷ []) source d d (l ∷ rest) t1 e
      (λ n s r. named x p h k n s r ∙ assign_enters after_name at rest t1 (λ t s. refl) h g n (stmts ∷ s) r) (λ s r. r) f

  pub store_err : (x : Name) (e : SyntaxError) → l.word ≡ word.Name → d ≤ 64 → ReadsName source l (Ok x) → Errs (after_name ∷ []) source d rest e → Errs (stmts ∷ []) source d (l ∷ rest) e
  store_err x e p h k f = err_after (stmts ∷ []) (after_name ∷ []) (stmts ∷ []) source d d (l ∷ rest) rest e (named x p h k) (λ s r. r) f

  -- spawn, call, sync, print

  pub spawn_read : (last : List Lexeme) (x : CallText) → l.word ≡ word.Spawn → d ≤ 64 → Comes IsCallOf (only word.Name ∷ call_args ∷ only word.Semicolon ∷ []) source d rest x last → ComesAct source d l rest (act.Spawn x) last
  spawn_read last x p h a = (
    subst (λ z. IsStmt z (stmt_at l.start (act.Spawn x)) (terminals_of source last)) (sym (stmt_token word.Spawn p)) (made a.0),
    λ n s f. stmt_enters word.Spawn (only word.Name ∷ call_args ∷ only word.Semicolon ∷ []) p refl (λ t s. refl) (λ s. refl) h n s f ∙ a.1 n (stmts ∷ s) f,
  )
    where
      made : {o to : List Terminal} {x : CallText} {a : ℕ} {t : List ℕ} → IsCallOf o x to → IsStmt (tok a word.Spawn t ∷ o) (stmt_at a (act.Spawn x)) to
      made (call_of d) = a_spawn d

  pub call_stmt_read : (last : List Lexeme) (x : CallText) → l.word ≡ word.Call → d ≤ 64 → Comes IsCallOf (only word.Name ∷ call_args ∷ only word.Semicolon ∷ []) source d rest x last → ComesAct source d l rest (act.Call x) last
  call_stmt_read last x p h a = (
    subst (λ z. IsStmt z (stmt_at l.start (act.Call x)) (terminals_of source last)) (sym (stmt_token word.Call p)) (made a.0),
    λ n s f. stmt_enters word.Call (only word.Name ∷ call_args ∷ only word.Semicolon ∷ []) p refl (λ t s. refl) (λ s. refl) h n s f ∙ a.1 n (stmts ∷ s) f,
  )
    where
      made : {o to : List Terminal} {x : CallText} {a : ℕ} {t : List ℕ} → IsCallOf o x to → IsStmt (tok a word.Call t ∷ o) (stmt_at a (act.Call x)) to
      made (call_of d) = a_call_stmt d

  pub sync_read : (last : List Lexeme) → l.word ≡ word.Sync → d ≤ 64 → Passed word.Semicolon source d rest last → ComesAct source d l rest act.Sync last
  sync_read last p h a = (
    subst (λ z. IsStmt z (stmt_at l.start act.Sync) (terminals_of source last)) (sym (stmt_token word.Sync p ∙ ap (λ z. tok l.start word.Sync (text_of source.bytes.now l) ∷ z) (seen-next word.Semicolon source a.0.0 rest last a.0.1))) a_sync,
    λ n s f. stmt_enters word.Sync (only word.Semicolon ∷ []) p refl (λ t s. refl) (λ s. refl) h n s f ∙ a.1 n (stmts ∷ s) f,
  )

  pub print_read : (last : List Lexeme) (x : Expr) → l.word ≡ word.Print → d ≤ 64 → Comes IsEnded (expr_then (only word.Semicolon ∷ [])) source d rest x last → ComesAct source d l rest (act.Print x) last
  print_read last x p h a = (
    subst (λ z. IsStmt z (stmt_at l.start (act.Print x)) (terminals_of source last)) (sym (stmt_token word.Print p)) (made a.0),
    λ n s f. stmt_enters word.Print (expr_then (only word.Semicolon ∷ [])) p refl (λ t s. refl) (λ s. refl) h n s f ∙ a.1 n (stmts ∷ s) f,
  )
    where
      made : {o to : List Terminal} {x : Expr} {a : ℕ} {t : List ℕ} → IsEnded o x to → IsStmt (tok a word.Print t ∷ o) (stmt_at a (act.Print x)) to
      made (ended d) = a_print d

  pub stmt_err : (w : Word) (next : List Sym) (e : SyntaxError) → l.word ≡ w → is_unlimited w ≡ true → ((text : List ℕ) (s : List Sym) → consume w text (stmts ∷ s) ≡ Some (next ++ stmts ∷ s)) → ((s : List Sym) → nesting (next ++ stmts ∷ s) ≡ nesting s) → d ≤ 64
      → Errs next source d rest e → Errs (stmts ∷ []) source d (l ∷ rest) e
  stmt_err w next e p q g k h f = err_after (stmts ∷ []) next (stmts ∷ []) source d d (l ∷ rest) rest e
      (λ n s r. stmt_enters w next p q g k h n s r ∙ ap (λ z. judge (text_end source) n z (terminals_of source rest)) (sym (append_assoc next (stmts ∷ []) s))) (λ s r. r) f

  -- if and while

  if_enters : l.word ≡ word.If → d ≤ 64 → ReadsTo (stmts ∷ []) (expr_then (block ∷ otherwise ∷ stmts ∷ [])) source d (l ∷ rest) rest
  if_enters p h = stmt_enters word.If (expr_then (block ∷ otherwise ∷ [])) p refl (λ t s. refl) (λ s. refl) h

  while_enters : l.word ≡ word.While → d ≤ 64 → ReadsTo (stmts ∷ []) (expr_then (block ∷ stmts ∷ [])) source d (l ∷ rest) rest
  while_enters p h = stmt_enters word.While (expr_then (block ∷ [])) p refl (λ t s. refl) (λ s. refl) h

  pub if_read : (t1 t2 last : List Lexeme) (x : Expr) (p q : List Stmt) → l.word ≡ word.If → d ≤ 64 → Comes IsExpr (expr_then []) source d rest x t1 → Comes IsBlock (block ∷ []) source d t1 p t2 → Comes IsElse (otherwise ∷ []) source d t2 q last
      → ComesAct source d l rest (act.If x p q) last
  if_read t1 t2 last x p q w h a b c = (
    subst (λ z. IsStmt z (stmt_at l.start (act.If x p q)) (terminals_of source last)) (sym (stmt_token word.If w)) (an_if a.0 b.0 c.0),
    λ n s f. if_enters w h n s f ∙ a.1 n (block ∷ otherwise ∷ stmts ∷ s) f ∙ b.1 n (otherwise ∷ stmts ∷ s) f ∙ c.1 n (stmts ∷ s) f,
  )

  pub while_read : (t1 last : List Lexeme) (x : Expr) (p : List Stmt) → l.word ≡ word.While → d ≤ 64 → Comes IsExpr (expr_then []) source d rest x t1 → Comes IsBlock (block ∷ []) source d t1 p last → ComesAct source d l rest (act.While x p) last
  while_read t1 last x p w h a b = (
    subst (λ z. IsStmt z (stmt_at l.start (act.While x p)) (terminals_of source last)) (sym (stmt_token word.While w)) (a_while a.0 b.0),
    λ n s f. while_enters w h n s f ∙ a.1 n (block ∷ stmts ∷ s) f ∙ b.1 n (stmts ∷ s) f,
  )

  pub if_err : (e : SyntaxError) → l.word ≡ word.If → d ≤ 64 → Errs (expr_then []) source d rest e → Errs (stmts ∷ []) source d (l ∷ rest) e
  if_err e w h f = err_after (stmts ∷ []) (expr_then []) (block ∷ otherwise ∷ stmts ∷ []) source d d (l ∷ rest) rest e (if_enters w h) (λ s r. r) f

  pub if_err_block : (t1 : List Lexeme) (x : Expr) (e : SyntaxError) → l.word ≡ word.If → d ≤ 64 → Comes IsExpr (expr_then []) source d rest x t1 → Errs (block ∷ []) source d t1 e → Errs (stmts ∷ []) source d (l ∷ rest) e
  if_err_block t1 x e w h a f = err_after (stmts ∷ []) (block ∷ []) (otherwise ∷ stmts ∷ []) source d d (l ∷ rest) t1 e (λ n s r. if_enters w h n s r ∙ a.1 n (block ∷ otherwise ∷ stmts ∷ s) r) (λ s r. r) f

  pub if_err_else : (t1 t2 : List Lexeme) (x : Expr) (p : List Stmt) (e : SyntaxError) → l.word ≡ word.If → d ≤ 64 → Comes IsExpr (expr_then []) source d rest x t1 → Comes IsBlock (block ∷ []) source d t1 p t2 → Errs (otherwise ∷ []) source d t2 e
      → Errs (stmts ∷ []) source d (l ∷ rest) e
  if_err_else t1 t2 x p e w h a b f = err_after (stmts ∷ []) (otherwise ∷ []) (stmts ∷ []) source d d (l ∷ rest) t2 e
      (λ n s r. if_enters w h n s r ∙ a.1 n (block ∷ otherwise ∷ stmts ∷ s) r ∙ b.1 n (otherwise ∷ stmts ∷ s) r) (λ s r. r) f

  pub while_err : (e : SyntaxError) → l.word ≡ word.While → d ≤ 64 → Errs (expr_then []) source d rest e → Errs (stmts ∷ []) source d (l ∷ rest) e
  while_err e w h f = err_after (stmts ∷ []) (expr_then []) (block ∷ stmts ∷ []) source d d (l ∷ rest) rest e (while_enters w h) (λ s r. r) f

  pub while_err_block : (t1 : List Lexeme) (x : Expr) (e : SyntaxError) → l.word ≡ word.While → d ≤ 64 → Comes IsExpr (expr_then []) source d rest x t1 → Errs (block ∷ []) source d t1 e → Errs (stmts ∷ []) source d (l ∷ rest) e
  while_err_block t1 x e w h a f = err_after (stmts ∷ []) (block ∷ []) (stmts ∷ []) source d d (l ∷ rest) t1 e (λ n s r. while_enters w h n s r ∙ a.1 n (block ∷ stmts ∷ s) r) (λ s r. r) f

  -- scope

  scope_enters : l.word ≡ word.Scope → d ≤ 64 → ReadsTo (stmts ∷ []) (block ∷ stmts ∷ []) source d (l ∷ rest) rest
  scope_enters p h = stmt_enters word.Scope (block ∷ []) p refl (λ t s. refl) (λ s. refl) h

  pub scope_read : (last : List Lexeme) (p : List Stmt) → l.word ≡ word.Scope → d ≤ 64 → Comes IsBlock (block ∷ []) source d rest p last → ComesAct source d l rest (act.Scope p) last
  scope_read last p w h b = (
    subst (λ z. IsStmt z (stmt_at l.start (act.Scope p)) (terminals_of source last)) (sym (stmt_token word.Scope w)) (a_scope b.0),
    λ n s f. scope_enters w h n s f ∙ b.1 n (stmts ∷ s) f,
  )

  pub scope_err : (e : SyntaxError) → l.word ≡ word.Scope → d ≤ 64 → Errs (block ∷ []) source d rest e → Errs (stmts ∷ []) source d (l ∷ rest) e
  scope_err e w h f = err_after (stmts ∷ []) (block ∷ []) (stmts ∷ []) source d d (l ∷ rest) rest e (scope_enters w h) (λ s r. r) f

-- Blocks

pub block_bracket : IsBracket block word.OpenBlock (stmts ∷ only word.CloseBlock ∷ [])
block_bracket = record { needed = refl; only_rule = refl; one_level = λ s. refl }

module _ (source : LexedText) (d : ℕ) (old t1 : List Lexeme) (o : Opened word.OpenBlock source d old t1) where
  pub block_read : (t2 rest : List Lexeme) (xs : List Stmt) → Comes IsStmts (stmts ∷ []) source (d + 1) t1 xs t2 → Passed word.CloseBlock source d t2 rest → Comes IsBlock (block ∷ []) source d old xs rest
  block_read t2 rest xs a b = (
    subst (λ z. IsBlock z xs (terminals_of source rest)) (sym (seen-next word.OpenBlock source o.0.0 old t1 o.0.1)) (a_block (subst (IsStmts (terminals_of source t1) xs) (seen-next word.CloseBlock source b.0.0 t2 rest b.0.1) a.0)),
    λ n s f. o.2 block _ block_bracket n s f ∙ a.1 n (only word.CloseBlock ∷ s) (omega (arith, f)) ∙ b.1 n s f,
  )

  pub block_err_stmts : (e : SyntaxError) → Errs (stmts ∷ []) source (d + 1) t1 e → Errs (block ∷ []) source d old e
  block_err_stmts e f = err_after (block ∷ []) (stmts ∷ []) (only word.CloseBlock ∷ []) source d (d + 1) old t1 e (o.2 block _ block_bracket) (λ s r. omega (arith, r)) f

  pub block_err_close : (t2 : List Lexeme) (xs : List Stmt) (e : SyntaxError) → Comes IsStmts (stmts ∷ []) source (d + 1) t1 xs t2 → Errs (only word.CloseBlock ∷ []) source d t2 e → Errs (block ∷ []) source d old e
  block_err_close t2 xs e a f = err_after (block ∷ []) (only word.CloseBlock ∷ []) [] source d d old t2 e (λ n s r. o.2 block _ block_bracket n s r ∙ a.1 n (only word.CloseBlock ∷ s) (omega (arith, r))) (λ s r. r) f

module _ (source : LexedText) (d : ℕ) (old : List Lexeme) where
  pub else_missing : (xs : List Stmt) → xs ≡ [] → NextIsNot word.Else old → Comes IsElse (otherwise ∷ []) source d old xs old
  else_missing xs e k = (subst (λ z. IsElse (terminals_of source old) z (terminals_of source old)) (sym e) no_else, λ n s f. skipped source n otherwise s old refl (has_none otherwise word.Else _ old source.bytes.now refl k))

  else_enters : (at : ℕ) (t1 : List Lexeme) → d ≤ 64 → NextIs word.Else at old t1 → ReadsTo (otherwise ∷ []) (block ∷ []) source d old t1
  else_enters at t1 h k = λ n s f.
      ap (judge (text_end source) n (otherwise ∷ s)) (seen-next word.Else source at old t1 k)
      ∙ taken (text_end source) n at word.Else (text_of source.bytes.now k.0) (otherwise ∷ s) (block ∷ s) (terminals_of source t1) refl (omega arith) refl

  pub else_read : (at : ℕ) (t1 rest : List Lexeme) (xs : List Stmt) → d ≤ 64 → NextIs word.Else at old t1 → Comes IsBlock (block ∷ []) source d t1 xs rest → Comes IsElse (otherwise ∷ []) source d old xs rest
  else_read at t1 rest xs h k a = (subst (λ z. IsElse z xs (terminals_of source rest)) (sym (seen-next word.Else source at old t1 k)) (an_else a.0), λ n s f. else_enters at t1 h k n s f ∙ a.1 n s f)

  pub else_err : (at : ℕ) (t1 : List Lexeme) (e : SyntaxError) → d ≤ 64 → NextIs word.Else at old t1 → Errs (block ∷ []) source d t1 e → Errs (otherwise ∷ []) source d old e
  else_err at t1 e h k f = err_after (otherwise ∷ []) (block ∷ []) [] source d d old t1 e (else_enters at t1 h k) (λ s r. r) f

-- Lists of statements

abbrev pub StmtsSoFar : LexedText → ℕ → List Lexeme → List Stmt → List Lexeme → Type 0
StmtsSoFar source d old xs left = record {
  so_far : (more : List Stmt) (rest : List Terminal) → IsStmts (terminals_of source left) more rest → IsStmts (terminals_of source old) (xs ++ more) rest;
  goes : ReadsTo (stmts ∷ []) (stmts ∷ []) source d old left;
}

pub stmts_end : (source : LexedText) (d : ℕ) (old left : List Lexeme) (xs : List Stmt) → StmtsSoFar source d old xs left → NoStmt left → Comes IsStmts (stmts ∷ []) source d old xs left
stmts_end source d old left xs i k = (
  subst (λ z. IsStmts (terminals_of source old) z (terminals_of source left)) (append-nil xs) (i.so_far [] (terminals_of source left) no_stmts),
  λ n s f. i.goes n s f ∙ skipped source n stmts s left refl (no_stmt left source.bytes.now k),
)

pub one_more_stmt : (source : LexedText) (d : ℕ) (old left inner rest : List Lexeme) (l : Lexeme) (xs ys : List Stmt) (x : Act) → ys ≡ xs ++ stmt_at l.start x ∷ [] → StmtsSoFar source d old xs left → left ≡ l ∷ inner → ComesAct source d l inner x rest
    → StmtsSoFar source d old ys rest
one_more_stmt source d old left inner rest l xs ys x p i e a = record {
  so_far = λ more to m.
      let one : IsStmts (terminals_of source left) (stmt_at l.start x ∷ more) to = subst (λ z. IsStmts (terminals_of source z) (stmt_at l.start x ∷ more) to) (sym e) (one_stmt a.0 m) in
      subst (λ z. IsStmts (terminals_of source old) z to) (sym (ap (λ z. z ++ more) p ∙ append_assoc xs (stmt_at l.start x ∷ []) more)) (i.so_far (stmt_at l.start x ∷ more) to one);
  goes = λ n s f. i.goes n s f ∙ ap (λ z. judge (text_end source) n (stmts ∷ s) (terminals_of source z)) e ∙ a.1 n s f;
}

pub stmts_err : (source : LexedText) (d : ℕ) (old left inner : List Lexeme) (l : Lexeme) (xs : List Stmt) (g : SyntaxError) → StmtsSoFar source d old xs left → left ≡ l ∷ inner → Errs (stmts ∷ []) source d (l ∷ inner) g → Errs (stmts ∷ []) source d old g
stmts_err source d old left inner l xs g i e f = err_after (stmts ∷ []) (stmts ∷ []) [] source d d old (l ∷ inner) g (λ n s r. i.goes n s r ∙ ap (λ z. judge (text_end source) n (stmts ∷ s) (terminals_of source z)) e) (λ s r. r) f

-- What was read is shorter

more_args_shorter : {ts rest : List Terminal} {xs : List Expr} → IsMoreArgs ts xs rest → length rest ≤ length ts
more_args_shorter no_more_args = omega arith
more_args_shorter (one_more_arg d e) = omega (arith, expr_shorter d, more_args_shorter e)

args_shorter : {ts rest : List Terminal} {xs : List Expr} → IsArgs ts xs rest → length rest ≤ length ts
args_shorter no_args = omega arith
args_shorter (some_args d e) = omega (arith, expr_shorter d, more_args_shorter e)

call_shorter : {ts rest : List Terminal} {c : CallText} → IsCall ts c rest → length rest < length ts
call_shorter (a_call d) = omega (arith, args_shorter d)

right_shorter : {ts rest : List Terminal} {r : Right} → IsRight ts r rest → length rest < length ts
right_shorter (right_value d) = expr_shorter d
right_shorter right_draw = omega arith
right_shorter right_new = omega arith
right_shorter (right_call d) = omega (arith, call_shorter d)
right_shorter (right_spawn d) = omega (arith, call_shorter d)

into_shorter : {ts rest : List Terminal} {o : Option Name} → IsInto ts o rest → length rest ≤ length ts
into_shorter no_into = omega arith
into_shorter an_into = omega arith

mutual
  pub stmt_shorter : {ts rest : List Terminal} {x : Stmt} → IsStmt ts x rest → length rest < length ts
  stmt_shorter (a_let d) = omega (arith, right_shorter d)
  stmt_shorter an_array = omega arith
  stmt_shorter (a_set d) = omega (arith, right_shorter d)
  stmt_shorter (a_store d e) = omega (arith, expr_shorter d, expr_shorter e)
  stmt_shorter (a_spawn d) = omega (arith, call_shorter d)
  stmt_shorter (a_call_stmt d) = omega (arith, call_shorter d)
  stmt_shorter a_sync = omega arith
  stmt_shorter (a_print d) = omega (arith, expr_shorter d)
  stmt_shorter (an_if d e f) = omega (arith, expr_shorter d, block_shorter e, else_shorter f)
  stmt_shorter (a_while d e) = omega (arith, expr_shorter d, block_shorter e)
  stmt_shorter (a_pfor d e f g) = omega (arith, expr_shorter d, expr_shorter e, into_shorter f, more_args_shorter g)
  stmt_shorter (a_scope d) = omega (arith, block_shorter d)

  pub stmts_shorter : {ts rest : List Terminal} {xs : List Stmt} → IsStmts ts xs rest → length rest ≤ length ts
  stmts_shorter no_stmts = omega arith
  stmts_shorter (one_stmt d e) = omega (arith, stmt_shorter d, stmts_shorter e)

  block_shorter : {ts rest : List Terminal} {xs : List Stmt} → IsBlock ts xs rest → length rest < length ts
  block_shorter (a_block d) = omega (arith, stmts_shorter d)

  else_shorter : {ts rest : List Terminal} {xs : List Stmt} → IsElse ts xs rest → length rest ≤ length ts
  else_shorter no_else = omega arith
  else_shorter (an_else d) = omega (arith, block_shorter d)

pub stmt_turn : (source : LexedText) (left inner rest : List Lexeme) (l : Lexeme) (x : Act) → left ≡ l ∷ inner → IsStmt (terminals_of source (l ∷ inner)) (stmt_at l.start x) (terminals_of source rest) → length rest < length left
stmt_turn source left inner rest l x e a =
    let f : length left ≡ suc (length inner) = ap length e in
    let g : length (terminals_of source (l ∷ inner)) ≡ suc (length inner) = length-seen source (l ∷ inner) in
    omega (arith, f, g, stmt_shorter a, length-seen source rest)
