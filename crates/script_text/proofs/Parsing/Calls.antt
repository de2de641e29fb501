-- What the functions on names, arguments and calls need.
use Rattle.std.proofs.Common.{◌≡◌, ℕ, suc, ◌+◌, ◌<◌, ◌≤◌, List, [], ◌∷◌, ◌++◌, length, Option, Some, Ok, Err, refl, sym, ap, ◌∙◌, subst, arith, append_assoc, append-nil}
use Rattle.script_tokens.specs.declared.token.Word.{Word}
use Rattle.script_tokens.specs.declared.token.Word.TheVariants as word
use Rattle.script_tokens.specs.declared.token.Lexeme.{Lexeme}
use Rattle.script_tokens.specs.declared.lexing.LexEnd.{LexEnd}
use Rattle.script_tokens.specs.declared.lexing.LexEnd.TheVariants.{End, NotAscii, NoToken}
use Rattle.script_tokens.specs.Lexing.{text_of}
use Rattle.script_text.specs.declared.error.SyntaxError.{SyntaxError}
use Rattle.script_text.specs.declared.error.SyntaxError.TheVariants.{Bad, Memory}
use Rattle.script_text.specs.declared.parser.source.LexedText.{LexedText}
use Rattle.script_grammar.specs.declared.tree.Name.{Name}
use Rattle.script_grammar.specs.declared.tree.Number.{Number}
use Rattle.script_grammar.specs.declared.tree.Expr.{Expr}
use Rattle.script_grammar.specs.Grammar.{Terminal, tok, name_at, number_at, IsExpr, IsMoreArgs, no_more_args, one_more_arg, no_args, some_args, IsCall, a_call}
use Rattle.script_text.specs.Machine.{Sym, only, args, more_args, call_args, expr_then, consume, at_stop, verdict, begun_with, judge}
use Rattle.script_grammar.specs.Text.{token_of}
use Rattle.script_text.specs.Reads.{terminals_of, text_end, ReadsTo, Errs, NextIs, NextIsNot, IsBracket, ReadsName, ReadsNumber, unexpected_in, IsName, a_name_token, IsNumber, a_number_token, IsArguments, arguments, AddsArgs}
use Rattle.script_text.proofs.Parsing.Steps.{taken, name_taken, name_long, number_taken, number_big, skipped, has_none, seen-next, err_after, unexpected_err, Comes, Passed, Opened}
use Rattle.script_text.proofs.Parsing.Expressions.{first_is, expr_shorter, length-seen}

-- ReadsName and numbers

module _ (source : LexedText) (d : ℕ) (old rest : List Lexeme) (l : Lexeme) where
  pub name_read : (x : Name) → old ≡ l ∷ rest → l.word ≡ word.Name → d ≤ 64 → ReadsName source l (Ok x) → Comes IsName (only word.Name ∷ []) source d old x rest
  name_read x e w h k =
      let t = seen-next word.Name source l.start old rest (first_is l old rest e w) in (
        subst (λ z. IsName (terminals_of source old) z (terminals_of source rest)) (sym k.0) (subst (λ q. IsName q (name_at l.start (text_of source.bytes.now l)) (terminals_of source rest)) (sym t) a_name_token),
        λ n s f. ap (judge (text_end source) n (only word.Name ∷ s)) t ∙ name_taken (text_end source) n l.start (text_of source.bytes.now l) (only word.Name ∷ s) s (terminals_of source rest) k.1 (omega arith) refl,
      )

  pub name_read_err : (e : SyntaxError) → old ≡ l ∷ rest → l.word ≡ word.Name → ReadsName source l (Err e) → Errs (only word.Name ∷ []) source d old e
  name_read_err Memory e w k = tt
  name_read_err (Bad number at) e w k = λ n s f.
      let fault : ◌≡◌ {A = Option (ℕ × ℕ)} (Some (4, l.start)) (Some (number, at)) = cc in
      ap (judge (text_end source) n (only word.Name ∷ s)) (seen-next word.Name source l.start old rest (first_is l old rest e w))
      ∙ name_long (text_end source) n l.start (text_of source.bytes.now l) (only word.Name ∷ s) s (terminals_of source rest) k.0 refl ∙ fault

  pub number_read : (x : Number) → old ≡ l ∷ rest → l.word ≡ word.Number → d ≤ 64 → ReadsNumber source l (Ok x) → Comes IsNumber (only word.Number ∷ []) source d old x rest
  number_read x e w h k =
      let t = seen-next word.Number source l.start old rest (first_is l old rest e w) in (
        subst (λ z. IsNumber (terminals_of source old) z (terminals_of source rest)) (sym k.0) (subst (λ q. IsNumber q (number_at l.start (text_of source.bytes.now l)) (terminals_of source rest)) (sym t) a_number_token),
        λ n s f. ap (judge (text_end source) n (only word.Number ∷ s)) t ∙ number_taken (text_end source) n l.start (text_of source.bytes.now l) (only word.Number ∷ s) s (terminals_of source rest) k.1 (omega arith) refl,
      )

  pub number_read_err : (e : SyntaxError) → old ≡ l ∷ rest → l.word ≡ word.Number → ReadsNumber source l (Err e) → Errs (only word.Number ∷ []) source d old e
  number_read_err Memory e w k = tt
  number_read_err (Bad number at) e w k = λ n s f.
      let fault : ◌≡◌ {A = Option (ℕ × ℕ)} (Some (3, l.start)) (Some (number, at)) = cc in
      ap (judge (text_end source) n (only word.Number ∷ s)) (seen-next word.Number source l.start old rest (first_is l old rest e w))
      ∙ number_big (text_end source) n l.start (text_of source.bytes.now l) (only word.Number ∷ s) s (terminals_of source rest) k.0 refl ∙ fault

pub missing : (w : Word) (source : LexedText) (d : ℕ) (old : List Lexeme) (e : SyntaxError) → NextIsNot w old → e ≡ unexpected_in source old → Errs (only w ∷ []) source d old e
missing w source d old e h f = unexpected_err (only w) [] source d old e refl (has_none (only w) w [] old source.bytes.now refl h) f

-- Arguments

abbrev pub ArgsSoFar : LexedText → ℕ → List Expr → List Lexeme → List Expr → List Lexeme → Type 0
ArgsSoFar source d start old found left = record {
  so_far : (more : List Expr) (rest : List Terminal) → IsMoreArgs (terminals_of source left) more rest → (all : List Expr) × (found ++ more ≡ start ++ all) × IsMoreArgs (terminals_of source old) all rest;
  goes : ReadsTo (more_args ∷ []) (more_args ∷ []) source d old left;
}

pub args_begin : (source : LexedText) (d : ℕ) (start found : List Expr) (old : List Lexeme) → found ≡ start → ArgsSoFar source d start old found old
args_begin source d start found old e = record { so_far = λ more rest m. (more, ap (λ z. z ++ more) e, m); goes = λ n s f. refl }

pub args_end : (source : LexedText) (d : ℕ) (start found : List Expr) (old left : List Lexeme) → ArgsSoFar source d start old found left → NextIsNot word.Comma left → Comes (AddsArgs start) (more_args ∷ []) source d old found left
args_end source d start found old left i k =
    let r = i.so_far [] (terminals_of source left) no_more_args in
    ((r.0, sym (append-nil found) ∙ r.1, r.2), λ n s f. i.goes n s f ∙ skipped source n more_args s left refl (has_none more_args word.Comma _ left source.bytes.now refl k))

pub args_enter : (source : LexedText) (d at : ℕ) (old left inner : List Lexeme) → d ≤ 64 → ReadsTo (more_args ∷ []) (more_args ∷ []) source d old left → NextIs word.Comma at left inner → ReadsTo (more_args ∷ []) (expr_then (more_args ∷ [])) source d old inner
args_enter source d at old left inner h g k = λ n s f.
    g n s f ∙ ap (judge (text_end source) n (more_args ∷ s)) (seen-next word.Comma source at left inner k)
    ∙ taken (text_end source) n at word.Comma (text_of source.bytes.now k.0) (more_args ∷ s) (expr_then (more_args ∷ s)) (terminals_of source inner) refl (omega arith) refl

pub one_more_argument : (source : LexedText) (d at : ℕ) (start found found' : List Expr) (old left inner rest : List Lexeme) (x : Expr) → found' ≡ found ++ x ∷ [] → d ≤ 64 → ArgsSoFar source d start old found left → NextIs word.Comma at left inner
    → Comes IsExpr (expr_then []) source d inner x rest → ArgsSoFar source d start old found' rest
one_more_argument source d at start found found' old left inner rest x p h i k a = record {
  so_far = λ more to m.
      let one : IsMoreArgs (terminals_of source left) (x ∷ more) to = subst (λ z. IsMoreArgs z (x ∷ more) to) (sym (seen-next word.Comma source at left inner k)) (one_more_arg a.0 m) in
      let r = i.so_far (x ∷ more) to one in
      (r.0, ap (λ z. z ++ more) p ∙ append_assoc found (x ∷ []) more ∙ r.1, r.2);
  goes = λ n s f. args_enter source d at old left inner h i.goes k n s f ∙ a.1 n (more_args ∷ s) f;
}

pub more_args_err : (source : LexedText) (d at : ℕ) (start found : List Expr) (old left inner : List Lexeme) (e : SyntaxError) → d ≤ 64 → ArgsSoFar source d start old found left → NextIs word.Comma at left inner → Errs (expr_then []) source d inner e
    → Errs (more_args ∷ []) source d old e
more_args_err source d at start found old left inner e h i k f = err_after (more_args ∷ []) (expr_then []) (more_args ∷ []) source d d old inner e (args_enter source d at old left inner h i.goes k) (λ s r. r) f

pub args_turn : (source : LexedText) (at : ℕ) (left inner rest : List Lexeme) (x : Expr) → NextIs word.Comma at left inner → IsExpr (terminals_of source inner) x (terminals_of source rest) → length rest < length left
args_turn source at left inner rest x k a =
    let f : length left ≡ suc (length inner) = ap length k.1 in
    omega (arith, f, expr_shorter a, length-seen source inner, length-seen source rest)

pub no_arguments : (source : LexedText) (d at : ℕ) (old rest : List Lexeme) (xs : List Expr) → d ≤ 64 → xs ≡ [] → NextIs word.Close at old rest → Comes IsArguments (args ∷ only word.Close ∷ []) source d old xs rest
no_arguments source d at old rest xs h e k =
    let t = seen-next word.Close source at old rest k in (
      subst (λ z. IsArguments (terminals_of source old) z (terminals_of source rest)) (sym e) (subst (λ q. IsArguments q [] (terminals_of source rest)) (sym t) (arguments no_args)),
      λ n s f. ap (judge (text_end source) n (args ∷ only word.Close ∷ s)) t
          ∙ taken (text_end source) n at word.Close (text_of source.bytes.now k.0) (args ∷ only word.Close ∷ s) s (terminals_of source rest) refl (omega arith) refl,
    )

-- where no parenthesis comes, arguments begin with an expression
args_step : (w : Word) (text : List ℕ) (s : List Sym) → (w ≡ word.Close → ⊥) → consume w text (args ∷ only word.Close ∷ s) ≡ consume w text (expr_then (more_args ∷ only word.Close ∷ s))
args_step word.Close text s h = absurd (h refl)
args_step _ text s h = refl

args_same : (source : LexedText) (n : ℕ) (s : List Sym) (old : List Lexeme) → NextIsNot word.Close old → judge (text_end source) n (args ∷ only word.Close ∷ s) (terminals_of source old) ≡ judge (text_end source) n (expr_then (more_args ∷ only word.Close ∷ s)) (terminals_of source old)
args_same source n s [] h = at source.stop
  where
    at : (w : LexEnd) → at_stop source.end w (args ∷ only word.Close ∷ s) ≡ at_stop source.end w (expr_then (more_args ∷ only word.Close ∷ s))
    at End = refl
    at (NotAscii place) = refl
    at (NoToken place) = refl
args_same source n s (l ∷ ls) h =
    let t : Terminal = token_of source.bytes.now l in
    ap (λ o. verdict n t o (λ s'. judge (text_end source) (begun_with t n) s' (terminals_of source ls))) (args_step l.word (text_of source.bytes.now l) s h)

pub some_arguments : (source : LexedText) (d : ℕ) (old mid mid' rest : List Lexeme) (found ys : List Expr) (x : Expr) → NextIsNot word.Close old → Comes IsExpr (expr_then []) source (d + 1) old x mid → found ≡ x ∷ []
    → Comes (AddsArgs found) (more_args ∷ []) source (d + 1) mid ys mid' → Passed word.Close source d mid' rest → Comes IsArguments (args ∷ only word.Close ∷ []) source d old ys rest
some_arguments source d old mid mid' rest found ys x k a p b c =
    let t = seen-next word.Close source c.0.0 mid' rest c.0.1 in
    let same : ys ≡ x ∷ b.0.0 = b.0.1 ∙ ap (λ z. z ++ b.0.0) p in (
      subst (λ z. IsArguments (terminals_of source old) z (terminals_of source rest)) (sym same) (arguments (some_args a.0 (subst (IsMoreArgs (terminals_of source mid) b.0.0) t b.0.2))),
      λ n s f. args_same source n s old k ∙ a.1 n (more_args ∷ only word.Close ∷ s) (omega (arith, f)) ∙ b.1 n (only word.Close ∷ s) (omega (arith, f)) ∙ c.1 n s f,
    )

pub arguments_err_first : (source : LexedText) (d : ℕ) (old : List Lexeme) (e : SyntaxError) → NextIsNot word.Close old → Errs (expr_then []) source (d + 1) old e → Errs (args ∷ only word.Close ∷ []) source d old e
arguments_err_first source d old e k f = err_after (args ∷ only word.Close ∷ []) (expr_then []) (more_args ∷ only word.Close ∷ []) source d (d + 1) old old e (λ n s r. args_same source n s old k) (λ s r. omega (arith, r)) f

pub arguments_err_more : (source : LexedText) (d : ℕ) (old mid : List Lexeme) (x : Expr) (e : SyntaxError) → NextIsNot word.Close old → Comes IsExpr (expr_then []) source (d + 1) old x mid → Errs (more_args ∷ []) source (d + 1) mid e → Errs (args ∷ only word.Close ∷ []) source d old e
arguments_err_more source d old mid x e k a f = err_after (args ∷ only word.Close ∷ []) (more_args ∷ []) (only word.Close ∷ []) source d (d + 1) old mid e
    (λ n s r. args_same source n s old k ∙ a.1 n (more_args ∷ only word.Close ∷ s) (omega (arith, r))) (λ s r. omega (arith, r)) f

pub arguments_err_close : (source : LexedText) (d : ℕ) (old mid mid' : List Lexeme) (found ys : List Expr) (x : Expr) (e : SyntaxError) → NextIsNot word.Close old → Comes IsExpr (expr_then []) source (d + 1) old x mid → Comes (AddsArgs found) (more_args ∷ []) source (d + 1) mid ys mid'
    → Errs (only word.Close ∷ []) source d mid' e → Errs (args ∷ only word.Close ∷ []) source d old e
arguments_err_close source d old mid mid' found ys x e k a b f = err_after (args ∷ only word.Close ∷ []) (only word.Close ∷ []) [] source d d old mid' e
    (λ n s r. args_same source n s old k ∙ a.1 n (more_args ∷ only word.Close ∷ s) (omega (arith, r)) ∙ b.1 n (only word.Close ∷ s) (omega (arith, r))) (λ s r. r) f

-- Calls

pub args_bracket : IsBracket call_args word.Open (args ∷ only word.Close ∷ [])
args_bracket = record { needed = refl; only_rule = refl; one_level = λ s. refl }

call_of : {ts t1 t2 rest : List Terminal} {x : Name} {xs : List Expr} → IsName ts x t1 → {a : ℕ} {t : List ℕ} → t1 ≡ tok a word.Open t ∷ t2 → IsArguments t2 xs rest → IsCall ts (record { name = x; args = xs }) rest
call_of (a_name_token {a = b} {t = u}) {a = a} {t = t} e (arguments {rest = rest} {xs = xs} d) = subst (λ z. IsCall (tok b word.Name u ∷ z) (record { name = name_at b u; args = xs }) rest) (sym e) (a_call d)

pub call_read : (source : LexedText) (d : ℕ) (old t1 t2 rest : List Lexeme) (x : Name) (xs : List Expr) → Comes IsName (only word.Name ∷ []) source d old x t1 → Opened word.Open source d t1 t2 → Comes IsArguments (args ∷ only word.Close ∷ []) source d t2 xs rest
    → Comes IsCall (only word.Name ∷ call_args ∷ []) source d old (record { name = x; args = xs }) rest
call_read source d old t1 t2 rest x xs a o b = (
  call_of a.0 (seen-next word.Open source o.0.0 t1 t2 o.0.1) b.0,
  λ n s f. a.1 n (call_args ∷ s) f ∙ o.2 call_args _ args_bracket n s f ∙ b.1 n s f,
)

pub call_err_name : (source : LexedText) (d : ℕ) (old : List Lexeme) (e : SyntaxError) → Errs (only word.Name ∷ []) source d old e → Errs (only word.Name ∷ call_args ∷ []) source d old e
call_err_name source d old e f = err_after (only word.Name ∷ call_args ∷ []) (only word.Name ∷ []) (call_args ∷ []) source d d old old e (λ n s r. refl) (λ s r. r) f

pub call_err_open : (source : LexedText) (d : ℕ) (old t1 : List Lexeme) (x : Name) (e : SyntaxError) → Comes IsName (only word.Name ∷ []) source d old x t1 → Errs (call_args ∷ []) source d t1 e → Errs (only word.Name ∷ call_args ∷ []) source d old e
call_err_open source d old t1 x e a f = err_after (only word.Name ∷ call_args ∷ []) (call_args ∷ []) [] source d d old t1 e (λ n s r. a.1 n (call_args ∷ s) r) (λ s r. r) f

pub call_err_args : (source : LexedText) (d : ℕ) (old t1 t2 : List Lexeme) (x : Name) (e : SyntaxError) → Comes IsName (only word.Name ∷ []) source d old x t1 → Opened word.Open source d t1 t2 → Errs (args ∷ only word.Close ∷ []) source d t2 e → Errs (only word.Name ∷ call_args ∷ []) source d old e
call_err_args source d old t1 t2 x e a o f = err_after (only word.Name ∷ call_args ∷ []) (args ∷ only word.Close ∷ []) [] source d d old t2 e
    (λ n s r. a.1 n (call_args ∷ s) r ∙ o.2 call_args _ args_bracket n s r) (λ s r. r) f
