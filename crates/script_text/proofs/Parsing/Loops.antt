-- What the functions on parallel loops need.
use Rattle.std.proofs.Common.{◌≡◌, ℕ, ◌+◌, ◌≤◌, List, [], ◌∷◌, ◌++◌, length, Option, Some, None, Bool, true, false, ◌&&◌, cond, Ok, Err, refl, sym, ap, ◌∙◌, subst, arith}
use Rattle.script_tokens.specs.declared.token.Word.TheVariants as word
use Rattle.script_tokens.specs.declared.token.Lexeme.{Lexeme}
use Rattle.script_tokens.specs.Lexing.{text_of}
use Rattle.script_text.specs.declared.error.SyntaxError.{SyntaxError}
use Rattle.script_text.specs.declared.error.SyntaxError.TheVariants.{Bad, Memory}
use Rattle.script_text.specs.declared.parser.source.LexedText.{LexedText}
use Rattle.script_grammar.specs.declared.tree.Name.{Name}
use Rattle.script_grammar.specs.declared.tree.Expr.{Expr}
use Rattle.script_grammar.specs.declared.tree.CallText.{CallText}
use Rattle.script_grammar.specs.declared.tree.Act.TheVariants as act
use Rattle.script_grammar.specs.Grammar.{Terminal, tok, name_at, IsExpr, IsMoreArgs, IsInto, no_into, an_into, stmt_at, IsStmt, a_pfor}
use Rattle.script_text.specs.Machine.{Sym, only, exactly, loop_args, more_args, into, loop_name, stmts, expr_then, same_bytes, rules, find_rule, nesting, judge}
use Rattle.script_text.specs.Reads.{terminals_of, text_end, ReadsTo, Errs, NextIs, NextIsNot, NextLexeme, IsBracket, ReadsName, unexpected_in, IsName, a_name_token, AddsArgs, IsBounds, bounds, IsLoopCall, loop_call}
use Rattle.script_text.proofs.Nesting.Sound.{same_name}
use Rattle.script_text.proofs.Nesting.Follows.{exact_step}
use Rattle.script_text.proofs.Parsing.Steps.{taken, name_taken, name_long, HasNone, skipped, has_none, other_word, seen-next, err_after, unexpected_err, Comes, Passed, Opened}
use Rattle.script_text.proofs.Parsing.Expressions.{first_is}
use Rattle.script_text.proofs.Parsing.Statements.{ComesAct, stmt_token, stmt_enters, err_first}

-- Bounds

module _ (source : LexedText) (d : ℕ) (old : List Lexeme) where
  pub bounds_err_in : (e : SyntaxError) → Errs (only word.In ∷ []) source d old e → Errs (only word.In ∷ expr_then (only word.Range ∷ expr_then [])) source d old e
  bounds_err_in e f = err_first source d (only word.In ∷ expr_then (only word.Range ∷ expr_then [])) (only word.In ∷ []) (expr_then (only word.Range ∷ expr_then [])) d old e (λ n s. refl) (λ s r. r) f

  pub bounds_err_lo : (t1 : List Lexeme) (e : SyntaxError) → Passed word.In source d old t1 → Errs (expr_then []) source d t1 e → Errs (only word.In ∷ expr_then (only word.Range ∷ expr_then [])) source d old e
  bounds_err_lo t1 e a f = err_after (only word.In ∷ expr_then (only word.Range ∷ expr_then [])) (expr_then []) (only word.Range ∷ expr_then []) source d d old t1 e (λ n s r. a.1 n (expr_then (only word.Range ∷ expr_then s)) r) (λ s r. r) f

  pub bounds_err_range : (t1 t2 : List Lexeme) (x : Expr) (e : SyntaxError) → Passed word.In source d old t1 → Comes IsExpr (expr_then []) source d t1 x t2 → Errs (only word.Range ∷ []) source d t2 e
      → Errs (only word.In ∷ expr_then (only word.Range ∷ expr_then [])) source d old e
  bounds_err_range t1 t2 x e a b f = err_after (only word.In ∷ expr_then (only word.Range ∷ expr_then [])) (only word.Range ∷ []) (expr_then []) source d d old t2 e
      (λ n s r. a.1 n (expr_then (only word.Range ∷ expr_then s)) r ∙ b.1 n (only word.Range ∷ expr_then s) r) (λ s r. r) f

  pub bounds_err_hi : (t1 t2 t3 : List Lexeme) (x : Expr) (e : SyntaxError) → Passed word.In source d old t1 → Comes IsExpr (expr_then []) source d t1 x t2 → Passed word.Range source d t2 t3 → Errs (expr_then []) source d t3 e
      → Errs (only word.In ∷ expr_then (only word.Range ∷ expr_then [])) source d old e
  bounds_err_hi t1 t2 t3 x e a b c f = err_after (only word.In ∷ expr_then (only word.Range ∷ expr_then [])) (expr_then []) [] source d d old t3 e
      (λ n s r. a.1 n (expr_then (only word.Range ∷ expr_then s)) r ∙ b.1 n (only word.Range ∷ expr_then s) r ∙ c.1 n (expr_then s) r) (λ s r. r) f

  pub bounds_read : (t1 t2 t3 rest : List Lexeme) (x y : Expr) → Passed word.In source d old t1 → Comes IsExpr (expr_then []) source d t1 x t2 → Passed word.Range source d t2 t3 → Comes IsExpr (expr_then []) source d t3 y rest
      → IsBounds (terminals_of source old) x y (terminals_of source rest) × ReadsTo (only word.In ∷ expr_then (only word.Range ∷ expr_then [])) [] source d old rest
  bounds_read t1 t2 t3 rest x y a b c z = (
    subst (λ q. IsBounds q x y (terminals_of source rest)) (sym (seen-next word.In source a.0.0 old t1 a.0.1)) (bounds (subst (IsExpr (terminals_of source t1) x) (seen-next word.Range source c.0.0 t2 t3 c.0.1) b.0) z.0),
    λ n s r. a.1 n (expr_then (only word.Range ∷ expr_then s)) r ∙ b.1 n (only word.Range ∷ expr_then s) r ∙ c.1 n (expr_then s) r ∙ z.1 n s r,
  )

  -- Targets

  pub no_target : NextIsNot word.Into old → Comes IsInto (into ∷ []) source d old None old
  no_target k = (no_into, λ n s f. skipped source n into s old refl (has_none into word.Into _ old source.bytes.now refl k))

  target_enters : (at : ℕ) (t1 : List Lexeme) → d ≤ 64 → NextIs word.Into at old t1 → ReadsTo (into ∷ []) (only word.Name ∷ []) source d old t1
  target_enters at t1 h k = λ n s f.
      ap (judge (text_end source) n (into ∷ s)) (seen-next word.Into source at old t1 k)
      ∙ taken (text_end source) n at word.Into (text_of source.bytes.now k.0) (into ∷ s) (only word.Name ∷ s) (terminals_of source t1) refl (omega arith) refl

  pub target_read : (at : ℕ) (t1 rest : List Lexeme) (x : Name) → d ≤ 64 → NextIs word.Into at old t1 → Comes IsName (only word.Name ∷ []) source d t1 x rest → Comes IsInto (into ∷ []) source d old (Some x) rest
  target_read at t1 rest x h k a = (
    subst (λ q. IsInto q (Some x) (terminals_of source rest)) (sym (seen-next word.Into source at old t1 k)) (made a.0),
    λ n s f. target_enters at t1 h k n s f ∙ a.1 n s f,
  )
    where
      made : {o to : List Terminal} {x : Name} {a : ℕ} {t : List ℕ} → IsName o x to → IsInto (tok a word.Into t ∷ o) (Some x) to
      made a_name_token = an_into

  pub target_err : (at : ℕ) (t1 : List Lexeme) (e : SyntaxError) → d ≤ 64 → NextIs word.Into at old t1 → Errs (only word.Name ∷ []) source d t1 e → Errs (into ∷ []) source d old e
  target_err at t1 e h k f = err_after (into ∷ []) (only word.Name ∷ []) [] source d d old t1 e (target_enters at t1 h k) (λ s r. r) f

-- The name again

module _ (source : LexedText) (d : ℕ) (n : List ℕ) (old : List Lexeme) where
  pub repeats : (rest : List Lexeme) (l : Lexeme) → length n ≤ 32 → d ≤ 64 → NextLexeme word.Name l old rest → text_of source.bytes.now l ≡ n
      → ((l : Lexeme) × NextLexeme word.Name l old rest × (text_of source.bytes.now l ≡ n)) × ReadsTo (exactly n ∷ []) [] source d old rest
  repeats rest l short h k e = (
    (l, k, e),
    λ m s f.
        ap (judge (text_end source) m (exactly n ∷ s)) (seen-next word.Name source l.start old rest (first_is l old rest k.0 k.1))
        ∙ ap (λ z. judge (text_end source) m (exactly n ∷ s) (tok l.start word.Name z ∷ terminals_of source rest)) e
        ∙ name_taken (text_end source) m l.start n (exactly n ∷ s) s (terminals_of source rest) short (omega arith) (exact_step n s),
  )

  other_name : (text : List ℕ) → (text ≡ n → ⊥) → same_bytes n text ≡ false
  other_name text h = go (same_bytes n text) refl
    where
      go : (b : Bool) → same_bytes n text ≡ b → same_bytes n text ≡ false
      go true e = absurd (h (sym (same_name n text e)))
      go false e = e

  pub repeats_other : (rest : List Lexeme) (l : Lexeme) (e : SyntaxError) → NextLexeme word.Name l old rest → (text_of source.bytes.now l ≡ n → ⊥) → e ≡ unexpected_in source old → Errs (exactly n ∷ []) source d old e
  repeats_other rest l e k h f = unexpected_err (exactly n) [] source d old e refl (subst (λ z. HasNone (exactly n) z source.bytes.now) (sym k.0) none) f
    where
      none : find_rule l.word (text_of source.bytes.now l) (rules (exactly n)) ≡ None
      none = ap (λ w. find_rule w (text_of source.bytes.now l) (rules (exactly n))) k.1 ∙ ap (λ b. cond b (Some []) None) (other_name (text_of source.bytes.now l) h)

  pub repeats_missing : (e : SyntaxError) → NextIsNot word.Name old → e ≡ unexpected_in source old → Errs (exactly n ∷ []) source d old e
  repeats_missing e h f = unexpected_err (exactly n) [] source d old e refl (none old h) f
    where
      none : (ls : List Lexeme) → NextIsNot word.Name ls → HasNone (exactly n) ls source.bytes.now
      none [] k = tt
      none (l ∷ ls) k = ap (λ b. cond (b && same_bytes n (text_of source.bytes.now l)) (Some []) None) (other_word l.word word.Name k)

-- The call

abbrev pub loop_front : List ℕ → List Sym
loop_front n = only word.Call ∷ only word.Name ∷ loop_args n ∷ only word.Semicolon ∷ []

pub loop_bracket : (n : List ℕ) → IsBracket (loop_args n) word.Open (exactly n ∷ more_args ∷ only word.Close ∷ [])
loop_bracket n = record { needed = refl; only_rule = refl; one_level = λ s. refl }

-- what `repeated` shows
abbrev pub Repeated : LexedText → ℕ → List ℕ → List Lexeme → List Lexeme → Type 0
Repeated source d n old rest = ((l : Lexeme) × NextLexeme word.Name l old rest × (text_of source.bytes.now l ≡ n)) × ReadsTo (exactly n ∷ []) [] source d old rest

module _ (source : LexedText) (d : ℕ) (n : List ℕ) (old t1 : List Lexeme) where
  pub loop_err_call : (e : SyntaxError) → Errs (only word.Call ∷ []) source d old e → Errs (loop_front n) source d old e
  loop_err_call e f = err_first source d (loop_front n) (only word.Call ∷ []) (only word.Name ∷ loop_args n ∷ only word.Semicolon ∷ []) d old e (λ m s. refl) (λ s r. r) f

  pub loop_err_name : (e : SyntaxError) → Passed word.Call source d old t1 → Errs (only word.Name ∷ []) source d t1 e → Errs (loop_front n) source d old e
  loop_err_name e a f = err_after (loop_front n) (only word.Name ∷ []) (loop_args n ∷ only word.Semicolon ∷ []) source d d old t1 e (λ m s r. a.1 m (only word.Name ∷ loop_args n ∷ only word.Semicolon ∷ s) r) (λ s r. r) f

  module _ (t2 : List Lexeme) (x : Name) (a : Passed word.Call source d old t1) (b : Comes IsName (only word.Name ∷ []) source d t1 x t2) where
    loop_named : ReadsTo (loop_front n) (loop_args n ∷ only word.Semicolon ∷ []) source d old t2
    loop_named = λ m s r. a.1 m (only word.Name ∷ loop_args n ∷ only word.Semicolon ∷ s) r ∙ b.1 m (loop_args n ∷ only word.Semicolon ∷ s) r

    pub loop_err_open : (e : SyntaxError) → Errs (loop_args n ∷ []) source d t2 e → Errs (loop_front n) source d old e
    loop_err_open e f = err_after (loop_front n) (loop_args n ∷ []) (only word.Semicolon ∷ []) source d d old t2 e loop_named (λ s r. r) f

    module _ (t3 : List Lexeme) (o : Opened word.Open source d t2 t3) where
      loop_opened : ReadsTo (loop_front n) (exactly n ∷ more_args ∷ only word.Close ∷ only word.Semicolon ∷ []) source d old t3
      loop_opened = λ m s r. loop_named m s r ∙ o.2 (loop_args n) _ (loop_bracket n) m (only word.Semicolon ∷ s) r

      pub loop_err_again : (e : SyntaxError) → Errs (exactly n ∷ []) source (d + 1) t3 e → Errs (loop_front n) source d old e
      loop_err_again e f = err_after (loop_front n) (exactly n ∷ []) (more_args ∷ only word.Close ∷ only word.Semicolon ∷ []) source d (d + 1) old t3 e loop_opened (λ s r. omega (arith, r)) f

      module _ (t4 : List Lexeme) (g : Repeated source (d + 1) n t3 t4) where
        loop_again : (m : ℕ) (s : List Sym) → nesting s ≡ d → judge (text_end source) m (loop_front n ++ s) (terminals_of source old) ≡ judge (text_end source) m (more_args ∷ only word.Close ∷ only word.Semicolon ∷ s) (terminals_of source t4)
        loop_again m s r = loop_opened m s r ∙ g.1 m (more_args ∷ only word.Close ∷ only word.Semicolon ∷ s) (omega (arith, r))

        pub loop_err_args : (e : SyntaxError) → Errs (more_args ∷ []) source (d + 1) t4 e → Errs (loop_front n) source d old e
        loop_err_args e f = err_after (loop_front n) (more_args ∷ []) (only word.Close ∷ only word.Semicolon ∷ []) source d (d + 1) old t4 e loop_again (λ s r. omega (arith, r)) f

        module _ (found xs : List Expr) (t5 : List Lexeme) (h : Comes (AddsArgs found) (more_args ∷ []) source (d + 1) t4 xs t5) where
          pub loop_err_close : (e : SyntaxError) → Errs (only word.Close ∷ []) source d t5 e → Errs (loop_front n) source d old e
          loop_err_close e f = err_after (loop_front n) (only word.Close ∷ []) (only word.Semicolon ∷ []) source d d old t5 e
              (λ m s r. loop_again m s r ∙ h.1 m (only word.Close ∷ only word.Semicolon ∷ s) (omega (arith, r))) (λ s r. r) f

          pub loop_err_end : (t6 : List Lexeme) (e : SyntaxError) → Passed word.Close source d t5 t6 → Errs (only word.Semicolon ∷ []) source d t6 e → Errs (loop_front n) source d old e
          loop_err_end t6 e i f = err_after (loop_front n) (only word.Semicolon ∷ []) [] source d d old t6 e
              (λ m s r. loop_again m s r ∙ h.1 m (only word.Close ∷ only word.Semicolon ∷ s) (omega (arith, r)) ∙ i.1 m (only word.Semicolon ∷ s) r) (λ s r. r) f

          pub loop_call_read : (t6 last : List Lexeme) → found ≡ [] → Passed word.Close source d t5 t6 → Passed word.Semicolon source d t6 last → Comes (IsLoopCall n) (loop_front n) source d old (record { name = x; args = xs }) last
          loop_call_read t6 last p i j = (
            made (seen-next word.Call source a.0.0 old t1 a.0.1) b.0 (seen-next word.Open source o.0.0 t2 t3 o.0.1)
                (seen-next word.Name source g.0.0.start t3 t4 (first_is g.0.0 t3 t4 g.0.1.0 g.0.1.1) ∙ ap (λ z. tok g.0.0.start word.Name z ∷ terminals_of source t4) g.0.2)
                (subst (λ z. IsMoreArgs (terminals_of source t4) z (terminals_of source t5)) (sym (h.0.1 ∙ ap (λ z. z ++ h.0.0) p)) h.0.2)
                (seen-next word.Close source i.0.0 t5 t6 i.0.1) (seen-next word.Semicolon source j.0.0 t6 last j.0.1),
            λ m s r. loop_again m s r ∙ h.1 m (only word.Close ∷ only word.Semicolon ∷ s) (omega (arith, r)) ∙ i.1 m (only word.Semicolon ∷ s) r ∙ j.1 m s r,
          )
            where
              made : {s0 s1 s2 s3 s4 s5 s6 to : List Terminal} {x : Name} {xs : List Expr} {e g h i j : ℕ} {w y z o : List ℕ} → s0 ≡ tok e word.Call w ∷ s1 → IsName s1 x s2 → s2 ≡ tok g word.Open y ∷ s3 → s3 ≡ tok h word.Name n ∷ s4
                  → IsMoreArgs s4 xs s5 → s5 ≡ tok i word.Close z ∷ s6 → s6 ≡ tok j word.Semicolon o ∷ to → IsLoopCall n s0 (record { name = x; args = xs }) to
              made {s4 = s4} {to = to} {xs = xs} {e = e} {g = g} {i = i} {w = w} {y = y} {z = z} p (a_name_token {a = f} {t = f'}) q r m u v =
                  subst (λ q. IsLoopCall n q (record { name = name_at f f'; args = xs }) to) (sym (p ∙ ap (λ k. tok e word.Call w ∷ tok f word.Name f' ∷ k) (q ∙ ap (λ k. tok g word.Open y ∷ k) r)))
                  (loop_call (subst (IsMoreArgs s4 xs) (u ∙ ap (λ k. tok i word.Close z ∷ k) v) m))

-- The statement

abbrev loop_rest : List ℕ → List Sym → List Sym
loop_rest n s = only word.In ∷ expr_then (only word.Range ∷ expr_then (into ∷ only word.Call ∷ only word.Name ∷ loop_args n ∷ only word.Semicolon ∷ s))

module _ (source : LexedText) (d : ℕ) (l : Lexeme) (rest : List Lexeme) where
  loop_enters : l.word ≡ word.Pfor → d ≤ 64 → ReadsTo (stmts ∷ []) (loop_name ∷ stmts ∷ []) source d (l ∷ rest) rest
  loop_enters p h = stmt_enters source d l rest word.Pfor (loop_name ∷ []) p refl (λ t s. refl) (λ s. refl) h

  pub pfor_missing : (e : SyntaxError) → l.word ≡ word.Pfor → d ≤ 64 → NextIsNot word.Name rest → e ≡ unexpected_in source rest → Errs (stmts ∷ []) source d (l ∷ rest) e
  pfor_missing e p h k f = err_after (stmts ∷ []) (loop_name ∷ []) (stmts ∷ []) source d d (l ∷ rest) rest e (loop_enters p h) (λ s r. r) (unexpected_err loop_name [] source d rest e refl (none rest k) f)
    where
      none : (ls : List Lexeme) → NextIsNot word.Name ls → HasNone loop_name ls source.bytes.now
      none [] k = tt
      none (v ∷ ls) k = ap (λ b. cond (b && true) (Some (loop_rest (text_of source.bytes.now v) [])) None) (other_word v.word word.Name k)

  module _ (v : Lexeme) (tail : List Lexeme) (k : NextLexeme word.Name v rest tail) where
    pub pfor_err_name : (e : SyntaxError) → l.word ≡ word.Pfor → d ≤ 64 → ReadsName source v (Err e) → Errs (stmts ∷ []) source d (l ∷ rest) e
    pfor_err_name e p h q = err_after (stmts ∷ []) (loop_name ∷ []) (stmts ∷ []) source d d (l ∷ rest) rest e (loop_enters p h) (λ s r. r) (go e q)
      where
        go : (e : SyntaxError) → ReadsName source v (Err e) → Errs (loop_name ∷ []) source d rest e
        go Memory q = tt
        go (Bad number at) q = λ m s f.
            let fault : ◌≡◌ {A = Option (ℕ × ℕ)} (Some (4, v.start)) (Some (number, at)) = cc in
            ap (judge (text_end source) m (loop_name ∷ s)) (seen-next word.Name source v.start rest tail (first_is v rest tail k.0 k.1))
            ∙ name_long (text_end source) m v.start (text_of source.bytes.now v) (loop_name ∷ s) (loop_rest (text_of source.bytes.now v) s) (terminals_of source tail) q.0 refl ∙ fault

    module _ (x : Name) (p : l.word ≡ word.Pfor) (h : d ≤ 64) (q : ReadsName source v (Ok x)) where
      loop_begun : (m : ℕ) (s : List Sym) → nesting s ≡ d → judge (text_end source) m (stmts ∷ s) (terminals_of source (l ∷ rest)) ≡ judge (text_end source) m (loop_rest x.bytes (stmts ∷ s)) (terminals_of source tail)
      loop_begun m s f =
          loop_enters p h m s f ∙ ap (judge (text_end source) m (loop_name ∷ stmts ∷ s)) (seen-next word.Name source v.start rest tail (first_is v rest tail k.0 k.1))
          ∙ name_taken (text_end source) m v.start (text_of source.bytes.now v) (loop_name ∷ stmts ∷ s) (loop_rest (text_of source.bytes.now v) (stmts ∷ s)) (terminals_of source tail) q.1 (omega arith) refl
          ∙ ap (λ z. judge (text_end source) m (loop_rest z (stmts ∷ s)) (terminals_of source tail)) (sym (ap (λ z. z.bytes) q.0))

      pub pfor_err_bounds : (e : SyntaxError) → Errs (only word.In ∷ expr_then (only word.Range ∷ expr_then [])) source d tail e → Errs (stmts ∷ []) source d (l ∷ rest) e
      pfor_err_bounds e f = err_after (stmts ∷ []) (only word.In ∷ expr_then (only word.Range ∷ expr_then [])) (into ∷ only word.Call ∷ only word.Name ∷ loop_args x.bytes ∷ only word.Semicolon ∷ stmts ∷ []) source d d (l ∷ rest) tail e loop_begun (λ s r. r) f

      module _ (lo hi : Expr) (t1 : List Lexeme) (a : IsBounds (terminals_of source tail) lo hi (terminals_of source t1)) (b : ReadsTo (only word.In ∷ expr_then (only word.Range ∷ expr_then [])) [] source d tail t1) where
        pub pfor_err_target : (e : SyntaxError) → Errs (into ∷ []) source d t1 e → Errs (stmts ∷ []) source d (l ∷ rest) e
        pfor_err_target e f = err_after (stmts ∷ []) (into ∷ []) (only word.Call ∷ only word.Name ∷ loop_args x.bytes ∷ only word.Semicolon ∷ stmts ∷ []) source d d (l ∷ rest) t1 e
            (λ m s r. loop_begun m s r ∙ b m (into ∷ only word.Call ∷ only word.Name ∷ loop_args x.bytes ∷ only word.Semicolon ∷ stmts ∷ s) r) (λ s r. r) f

        module _ (to : Option Name) (t2 : List Lexeme) (c : Comes IsInto (into ∷ []) source d t1 to t2) where
          pub pfor_err_call : (e : SyntaxError) → Errs (loop_front x.bytes) source d t2 e → Errs (stmts ∷ []) source d (l ∷ rest) e
          pfor_err_call e f = err_after (stmts ∷ []) (loop_front x.bytes) (stmts ∷ []) source d d (l ∷ rest) t2 e
              (λ m s r. loop_begun m s r ∙ b m (into ∷ only word.Call ∷ only word.Name ∷ loop_args x.bytes ∷ only word.Semicolon ∷ stmts ∷ s) r ∙ c.1 m (only word.Call ∷ only word.Name ∷ loop_args x.bytes ∷ only word.Semicolon ∷ stmts ∷ s) r) (λ s r. r) f

          pub pfor_read : (call : CallText) (last : List Lexeme) → Comes (IsLoopCall x.bytes) (loop_front x.bytes) source d t2 call last → ComesAct source d l rest (act.Pfor x lo hi to call) last
          pfor_read call last g = (
            subst (λ z. IsStmt z (stmt_at l.start (act.Pfor x lo hi to call)) (terminals_of source last))
                (sym (stmt_token source d l rest word.Pfor p ∙ ap (λ z. tok l.start word.Pfor (text_of source.bytes.now l) ∷ z) (seen-next word.Name source v.start rest tail (first_is v rest tail k.0 k.1))))
                (named x q.0 g.0),
            λ m s r. loop_begun m s r ∙ b m (into ∷ only word.Call ∷ only word.Name ∷ loop_args x.bytes ∷ only word.Semicolon ∷ stmts ∷ s) r ∙ c.1 m (only word.Call ∷ only word.Name ∷ loop_args x.bytes ∷ only word.Semicolon ∷ stmts ∷ s) r ∙ g.1 m (stmts ∷ s) r,
          )
            where
              made : {s0 s1 s2 to' : List Terminal} {lo hi : Expr} {o : Option Name} {call : CallText} {n : List ℕ} {a b : ℕ} {t : List ℕ} → IsBounds s0 lo hi s1 → IsInto s1 o s2 → IsLoopCall n s2 call to'
                  → IsStmt (tok a word.Pfor t ∷ tok b word.Name n ∷ s0) (stmt_at a (act.Pfor (name_at b n) lo hi o call)) to'
              made (bounds p q) i (loop_call m) = a_pfor p q i m

              named : (y : Name) → y ≡ name_at v.start (text_of source.bytes.now v) → IsLoopCall y.bytes (terminals_of source t2) call (terminals_of source last)
                  → IsStmt (tok l.start word.Pfor (text_of source.bytes.now l) ∷ tok v.start word.Name (text_of source.bytes.now v) ∷ terminals_of source tail) (stmt_at l.start (act.Pfor y lo hi to call)) (terminals_of source last)
              named y e m =
                  subst (λ z. IsStmt (tok l.start word.Pfor (text_of source.bytes.now l) ∷ tok v.start word.Name (text_of source.bytes.now v) ∷ terminals_of source tail) (stmt_at l.start (act.Pfor z lo hi to call)) (terminals_of source last)) (sym e)
                  (made a c.0 (subst (λ z. IsLoopCall z (terminals_of source t2) call (terminals_of source last)) (ap (λ z. z.bytes) e) m))
