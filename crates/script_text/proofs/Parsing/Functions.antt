-- What the functions on functions and scripts need.
use Rattle.std.proofs.Common.{◌≡◌, ℕ, suc, ◌+◌, ◌<◌, ◌≤◌, List, [], ◌∷◌, ◌++◌, length, Some, None, Err, if◌then◌else◌, refl, sym, ap, ◌∙◌, subst, arith, append_assoc, append-nil, length-append}
use Rattle.std.proofs.lemmas.Bool.{lt-ltb, le-ltb}
use Rattle.script_tokens.specs.declared.token.Word.{Word}
use Rattle.script_tokens.specs.declared.token.Word.TheVariants as word
use Rattle.script_tokens.specs.declared.token.Lexeme.{Lexeme}
use Rattle.script_tokens.specs.declared.lexing.LexEnd.{LexEnd}
use Rattle.script_tokens.specs.declared.lexing.LexEnd.TheVariants.{End, NotAscii, NoToken}
use Rattle.script_tokens.specs.Lexing.{text_of}
use Rattle.script_text.specs.declared.error.SyntaxError.{SyntaxError}
use Rattle.script_text.specs.declared.error.SyntaxError.TheVariants.{Bad, Memory}
use Rattle.script_text.specs.declared.parser.source.LexedText.{LexedText}
use Rattle.script_grammar.specs.declared.tree.Name.{Name}
use Rattle.script_grammar.specs.declared.tree.Kind.{Kind}
use Rattle.script_grammar.specs.declared.tree.Kind.TheVariants.{Int, Id}
use Rattle.script_grammar.specs.declared.tree.Param.{Param}
use Rattle.script_grammar.specs.declared.tree.Expr.{Expr}
use Rattle.script_grammar.specs.declared.tree.Stmt.{Stmt}
use Rattle.script_grammar.specs.declared.tree.Function.{Function}
use Rattle.script_grammar.specs.Grammar.{Terminal, tok, name_at, IsExpr, IsStmts, IsParam, int_param, id_param, IsMoreParams, no_more_params, one_more_param, IsParams, no_params, some_params, IsAnswerKind, int_answer, id_answer, IsFunction, a_function, IsFunctions, no_functions, one_function, IsScript}
use Rattle.script_grammar.specs.Fault.{TextEnd}
use Rattle.script_text.specs.Machine.{Sym, only, param, params, more_params, param_list, answer, body, stmts, functions, expr_then, consume, nesting, at_stop, unless_broken, verdict, begun_with, judge}
use Rattle.script_grammar.specs.Text.{token_of}
use Rattle.script_text.specs.Reads.{terminals_of, text_end, ReadsTo, Errs, NextIs, NextIsNot, IsBracket, stopped_at, unexpected_in, IsName, a_name_token, IsEnded, ended, AddsParams, IsParamList, parameters, IsBody, a_body, IsRestOfFunction, ReadsFunctions, Judges}
use Rattle.script_text.proofs.Parsing.Steps.{taken, skipped, has_none, seen-next, err_after, unexpected_err, Comes, Passed, Opened}
use Rattle.script_text.proofs.Parsing.Expressions.{expr_shorter, length-seen}
use Rattle.script_text.proofs.Parsing.Statements.{err_first, stmts_shorter}

-- Parameters

param_step : (w : Word) (text : List ℕ) (s : List Sym) → (w ≡ word.Id → ⊥) → consume w text (param ∷ s) ≡ consume w text (only word.Name ∷ s)
param_step word.Id text s h = absurd (h refl)
param_step _ text s h = refl

module _ (source : LexedText) (d : ℕ) (old : List Lexeme) where
  param_same : NextIsNot word.Id old → (n : ℕ) (s : List Sym) → judge (text_end source) n (param ∷ s) (terminals_of source old) ≡ judge (text_end source) n (only word.Name ∷ s) (terminals_of source old)
  param_same k n s = go old k
    where
      at : (w : LexEnd) → at_stop source.end w (param ∷ s) ≡ at_stop source.end w (only word.Name ∷ s)
      at End = refl
      at (NotAscii place) = refl
      at (NoToken place) = refl

      go : (ls : List Lexeme) → NextIsNot word.Id ls → judge (text_end source) n (param ∷ s) (terminals_of source ls) ≡ judge (text_end source) n (only word.Name ∷ s) (terminals_of source ls)
      go [] k = at source.stop
      go (l ∷ ls) k = let t : Terminal = token_of source.bytes.now l in ap (λ o. verdict n t o (λ s'. judge (text_end source) (begun_with t n) s' (terminals_of source ls))) (param_step l.word (text_of source.bytes.now l) s k)

  pub int_read : (rest : List Lexeme) (x : Name) → NextIsNot word.Id old → Comes IsName (only word.Name ∷ []) source d old x rest → Comes IsParam (param ∷ []) source d old (record { kind = Int; name = x }) rest
  int_read rest x k a = (made a.0, λ n s f. param_same k n s ∙ a.1 n s f)
    where
      made : {o to : List Terminal} {x : Name} → IsName o x to → IsParam o (record { kind = Int; name = x }) to
      made a_name_token = int_param

  pub int_err : (e : SyntaxError) → NextIsNot word.Id old → Errs (only word.Name ∷ []) source d old e → Errs (param ∷ []) source d old e
  int_err e k f = err_first source d (param ∷ []) (only word.Name ∷ []) [] d old e (param_same k) (λ s r. r) f

  id_enters : (at : ℕ) (t1 : List Lexeme) → d ≤ 64 → NextIs word.Id at old t1 → ReadsTo (param ∷ []) (only word.Name ∷ []) source d old t1
  id_enters at t1 h k = λ n s f.
      ap (judge (text_end source) n (param ∷ s)) (seen-next word.Id source at old t1 k)
      ∙ taken (text_end source) n at word.Id (text_of source.bytes.now k.0) (param ∷ s) (only word.Name ∷ s) (terminals_of source t1) refl (omega arith) refl

  pub id_read : (at : ℕ) (t1 rest : List Lexeme) (x : Name) → d ≤ 64 → NextIs word.Id at old t1 → Comes IsName (only word.Name ∷ []) source d t1 x rest → Comes IsParam (param ∷ []) source d old (record { kind = Id; name = x }) rest
  id_read at t1 rest x h k a = (
    subst (λ z. IsParam z (record { kind = Id; name = x }) (terminals_of source rest)) (sym (seen-next word.Id source at old t1 k)) (made a.0),
    λ n s f. id_enters at t1 h k n s f ∙ a.1 n s f,
  )
    where
      made : {o to : List Terminal} {x : Name} {a : ℕ} {t : List ℕ} → IsName o x to → IsParam (tok a word.Id t ∷ o) (record { kind = Id; name = x }) to
      made a_name_token = id_param

  pub id_err : (at : ℕ) (t1 : List Lexeme) (e : SyntaxError) → d ≤ 64 → NextIs word.Id at old t1 → Errs (only word.Name ∷ []) source d t1 e → Errs (param ∷ []) source d old e
  id_err at t1 e h k f = err_after (param ∷ []) (only word.Name ∷ []) [] source d d old t1 e (id_enters at t1 h k) (λ s r. r) f

abbrev pub ParamsSoFar : LexedText → ℕ → List Param → List Lexeme → List Param → List Lexeme → Type 0
ParamsSoFar source d start old found left = record {
  so_far : (more : List Param) (rest : List Terminal) → IsMoreParams (terminals_of source left) more rest → (all : List Param) × (found ++ more ≡ start ++ all) × IsMoreParams (terminals_of source old) all rest;
  goes : ReadsTo (more_params ∷ []) (more_params ∷ []) source d old left;
}

pub params_begin : (source : LexedText) (d : ℕ) (start found : List Param) (old : List Lexeme) → found ≡ start → ParamsSoFar source d start old found old
params_begin source d start found old e = record { so_far = λ more rest m. (more, ap (λ z. z ++ more) e, m); goes = λ n s f. refl }

pub params_end : (source : LexedText) (d : ℕ) (start found : List Param) (old left : List Lexeme) → ParamsSoFar source d start old found left → NextIsNot word.Comma left → Comes (AddsParams start) (more_params ∷ []) source d old found left
params_end source d start found old left i k =
    let r = i.so_far [] (terminals_of source left) no_more_params in
    ((r.0, sym (append-nil found) ∙ r.1, r.2), λ n s f. i.goes n s f ∙ skipped source n more_params s left refl (has_none more_params word.Comma _ left source.bytes.now refl k))

params_enter : (source : LexedText) (d at : ℕ) (old left inner : List Lexeme) → d ≤ 64 → ReadsTo (more_params ∷ []) (more_params ∷ []) source d old left → NextIs word.Comma at left inner → ReadsTo (more_params ∷ []) (param ∷ more_params ∷ []) source d old inner
params_enter source d at old left inner h g k = λ n s f.
    g n s f ∙ ap (judge (text_end source) n (more_params ∷ s)) (seen-next word.Comma source at left inner k)
    ∙ taken (text_end source) n at word.Comma (text_of source.bytes.now k.0) (more_params ∷ s) (param ∷ more_params ∷ s) (terminals_of source inner) refl (omega arith) refl

pub one_more_parameter : (source : LexedText) (d at : ℕ) (start found found' : List Param) (old left inner rest : List Lexeme) (x : Param) → found' ≡ found ++ x ∷ [] → d ≤ 64 → ParamsSoFar source d start old found left → NextIs word.Comma at left inner
    → Comes IsParam (param ∷ []) source d inner x rest → ParamsSoFar source d start old found' rest
one_more_parameter source d at start found found' old left inner rest x p h i k a = record {
  so_far = λ more to m.
      let one : IsMoreParams (terminals_of source left) (x ∷ more) to = subst (λ z. IsMoreParams z (x ∷ more) to) (sym (seen-next word.Comma source at left inner k)) (one_more_param a.0 m) in
      let r = i.so_far (x ∷ more) to one in
      (r.0, ap (λ z. z ++ more) p ∙ append_assoc found (x ∷ []) more ∙ r.1, r.2);
  goes = λ n s f. params_enter source d at old left inner h i.goes k n s f ∙ a.1 n (more_params ∷ s) f;
}

pub more_params_err : (source : LexedText) (d at : ℕ) (start found : List Param) (old left inner : List Lexeme) (e : SyntaxError) → d ≤ 64 → ParamsSoFar source d start old found left → NextIs word.Comma at left inner → Errs (param ∷ []) source d inner e
    → Errs (more_params ∷ []) source d old e
more_params_err source d at start found old left inner e h i k f = err_after (more_params ∷ []) (param ∷ []) (more_params ∷ []) source d d old inner e (params_enter source d at old left inner h i.goes k) (λ s r. r) f

param_shorter : {ts rest : List Terminal} {x : Param} → IsParam ts x rest → length rest < length ts
param_shorter int_param = omega arith
param_shorter id_param = omega arith

pub params_turn : (source : LexedText) (at : ℕ) (left inner rest : List Lexeme) (x : Param) → NextIs word.Comma at left inner → IsParam (terminals_of source inner) x (terminals_of source rest) → length rest < length left
params_turn source at left inner rest x k a =
    let f : length left ≡ suc (length inner) = ap length k.1 in
    omega (arith, f, param_shorter a, length-seen source inner, length-seen source rest)

pub no_parameters : (source : LexedText) (d at : ℕ) (old rest : List Lexeme) (xs : List Param) → d ≤ 64 → xs ≡ [] → NextIs word.Close at old rest → Comes IsParamList (params ∷ only word.Close ∷ []) source d old xs rest
no_parameters source d at old rest xs h e k =
    let t = seen-next word.Close source at old rest k in (
      subst (λ z. IsParamList (terminals_of source old) z (terminals_of source rest)) (sym e) (subst (λ q. IsParamList q [] (terminals_of source rest)) (sym t) (parameters no_params)),
      λ n s f. ap (judge (text_end source) n (params ∷ only word.Close ∷ s)) t
          ∙ taken (text_end source) n at word.Close (text_of source.bytes.now k.0) (params ∷ only word.Close ∷ s) s (terminals_of source rest) refl (omega arith) refl,
    )

params_step : (w : Word) (text : List ℕ) (s : List Sym) → (w ≡ word.Close → ⊥) → consume w text (params ∷ only word.Close ∷ s) ≡ consume w text (param ∷ more_params ∷ only word.Close ∷ s)
params_step word.Close text s h = absurd (h refl)
params_step _ text s h = refl

params_same : (source : LexedText) (n : ℕ) (s : List Sym) (old : List Lexeme) → NextIsNot word.Close old → judge (text_end source) n (params ∷ only word.Close ∷ s) (terminals_of source old) ≡ judge (text_end source) n (param ∷ more_params ∷ only word.Close ∷ s) (terminals_of source old)
params_same source n s [] h = at source.stop
  where
    at : (w : LexEnd) → at_stop source.end w (params ∷ only word.Close ∷ s) ≡ at_stop source.end w (param ∷ more_params ∷ only word.Close ∷ s)
    at End = refl
    at (NotAscii place) = refl
    at (NoToken place) = refl
params_same source n s (l ∷ ls) h =
    let t : Terminal = token_of source.bytes.now l in
    ap (λ o. verdict n t o (λ s'. judge (text_end source) (begun_with t n) s' (terminals_of source ls))) (params_step l.word (text_of source.bytes.now l) s h)

pub some_parameters : (source : LexedText) (d : ℕ) (old mid mid' rest : List Lexeme) (found ys : List Param) (x : Param) → NextIsNot word.Close old → Comes IsParam (param ∷ []) source (d + 1) old x mid → found ≡ x ∷ []
    → Comes (AddsParams found) (more_params ∷ []) source (d + 1) mid ys mid' → Passed word.Close source d mid' rest → Comes IsParamList (params ∷ only word.Close ∷ []) source d old ys rest
some_parameters source d old mid mid' rest found ys x k a p b c =
    let t = seen-next word.Close source c.0.0 mid' rest c.0.1 in
    let same : ys ≡ x ∷ b.0.0 = b.0.1 ∙ ap (λ z. z ++ b.0.0) p in (
      subst (λ z. IsParamList (terminals_of source old) z (terminals_of source rest)) (sym same) (parameters (some_params a.0 (subst (IsMoreParams (terminals_of source mid) b.0.0) t b.0.2))),
      λ n s f. params_same source n s old k ∙ a.1 n (more_params ∷ only word.Close ∷ s) (omega (arith, f)) ∙ b.1 n (only word.Close ∷ s) (omega (arith, f)) ∙ c.1 n s f,
    )

pub parameters_err_first : (source : LexedText) (d : ℕ) (old : List Lexeme) (e : SyntaxError) → NextIsNot word.Close old → Errs (param ∷ []) source (d + 1) old e → Errs (params ∷ only word.Close ∷ []) source d old e
parameters_err_first source d old e k f = err_after (params ∷ only word.Close ∷ []) (param ∷ []) (more_params ∷ only word.Close ∷ []) source d (d + 1) old old e (λ n s r. params_same source n s old k) (λ s r. omega (arith, r)) f

pub parameters_err_more : (source : LexedText) (d : ℕ) (old mid : List Lexeme) (x : Param) (e : SyntaxError) → NextIsNot word.Close old → Comes IsParam (param ∷ []) source (d + 1) old x mid → Errs (more_params ∷ []) source (d + 1) mid e → Errs (params ∷ only word.Close ∷ []) source d old e
parameters_err_more source d old mid x e k a f = err_after (params ∷ only word.Close ∷ []) (more_params ∷ []) (only word.Close ∷ []) source d (d + 1) old mid e
    (λ n s r. params_same source n s old k ∙ a.1 n (more_params ∷ only word.Close ∷ s) (omega (arith, r))) (λ s r. omega (arith, r)) f

pub parameters_err_close : (source : LexedText) (d : ℕ) (old mid mid' : List Lexeme) (found ys : List Param) (x : Param) (e : SyntaxError) → NextIsNot word.Close old → Comes IsParam (param ∷ []) source (d + 1) old x mid → Comes (AddsParams found) (more_params ∷ []) source (d + 1) mid ys mid'
    → Errs (only word.Close ∷ []) source d mid' e → Errs (params ∷ only word.Close ∷ []) source d old e
parameters_err_close source d old mid mid' found ys x e k a b f = err_after (params ∷ only word.Close ∷ []) (only word.Close ∷ []) [] source d d old mid' e
    (λ n s r. params_same source n s old k ∙ a.1 n (more_params ∷ only word.Close ∷ s) (omega (arith, r)) ∙ b.1 n (only word.Close ∷ s) (omega (arith, r))) (λ s r. r) f

-- Answers

module _ (source : LexedText) (d : ℕ) (old : List Lexeme) where
  pub int_answer_read : NextIsNot word.Arrow old → Comes IsAnswerKind (answer ∷ []) source d old Int old
  int_answer_read k = (int_answer, λ n s f. skipped source n answer s old refl (has_none answer word.Arrow _ old source.bytes.now refl k))

  arrow_enters : (at : ℕ) (t1 : List Lexeme) → d ≤ 64 → NextIs word.Arrow at old t1 → ReadsTo (answer ∷ []) (only word.Id ∷ []) source d old t1
  arrow_enters at t1 h k = λ n s f.
      ap (judge (text_end source) n (answer ∷ s)) (seen-next word.Arrow source at old t1 k)
      ∙ taken (text_end source) n at word.Arrow (text_of source.bytes.now k.0) (answer ∷ s) (only word.Id ∷ s) (terminals_of source t1) refl (omega arith) refl

  pub id_answer_read : (at : ℕ) (t1 rest : List Lexeme) → d ≤ 64 → NextIs word.Arrow at old t1 → Passed word.Id source d t1 rest → Comes IsAnswerKind (answer ∷ []) source d old Id rest
  id_answer_read at t1 rest h k a = (
    subst (λ z. IsAnswerKind z Id (terminals_of source rest)) (sym (seen-next word.Arrow source at old t1 k ∙ ap (λ z. tok at word.Arrow (text_of source.bytes.now k.0) ∷ z) (seen-next word.Id source a.0.0 t1 rest a.0.1))) id_answer,
    λ n s f. arrow_enters at t1 h k n s f ∙ a.1 n s f,
  )

  pub id_answer_err : (at : ℕ) (t1 : List Lexeme) (e : SyntaxError) → d ≤ 64 → NextIs word.Arrow at old t1 → Errs (only word.Id ∷ []) source d t1 e → Errs (answer ∷ []) source d old e
  id_answer_err at t1 e h k f = err_after (answer ∷ []) (only word.Id ∷ []) [] source d d old t1 e (arrow_enters at t1 h k) (λ s r. r) f

-- Bodies

pub body_bracket : IsBracket body word.OpenBlock (stmts ∷ only word.Return ∷ expr_then (only word.Semicolon ∷ only word.CloseBlock ∷ []))
body_bracket = record { needed = refl; only_rule = refl; one_level = λ s. refl }

module _ (source : LexedText) (d : ℕ) (old t1 : List Lexeme) (o : Opened word.OpenBlock source d old t1) where
  body_opened : ReadsTo (body ∷ []) (stmts ∷ only word.Return ∷ expr_then (only word.Semicolon ∷ only word.CloseBlock ∷ [])) source d old t1
  body_opened = o.2 body _ body_bracket

  pub body_err_stmts : (e : SyntaxError) → Errs (stmts ∷ []) source (d + 1) t1 e → Errs (body ∷ []) source d old e
  body_err_stmts e f = err_after (body ∷ []) (stmts ∷ []) (only word.Return ∷ expr_then (only word.Semicolon ∷ only word.CloseBlock ∷ [])) source d (d + 1) old t1 e body_opened (λ s r. omega (arith, r)) f

  module _ (t2 : List Lexeme) (xs : List Stmt) (a : Comes IsStmts (stmts ∷ []) source (d + 1) t1 xs t2) where
    body_acts : (n : ℕ) (s : List Sym) → nesting s ≡ d → judge (text_end source) n (body ∷ s) (terminals_of source old) ≡ judge (text_end source) n (only word.Return ∷ expr_then (only word.Semicolon ∷ only word.CloseBlock ∷ s)) (terminals_of source t2)
    body_acts n s r = body_opened n s r ∙ a.1 n (only word.Return ∷ expr_then (only word.Semicolon ∷ only word.CloseBlock ∷ s)) (omega (arith, r))

    pub body_err_return : (e : SyntaxError) → NextIsNot word.Return t2 → e ≡ unexpected_in source t2 → Errs (body ∷ []) source d old e
    body_err_return e k f = err_after (body ∷ []) (only word.Return ∷ []) (expr_then (only word.Semicolon ∷ only word.CloseBlock ∷ [])) source d (d + 1) old t2 e body_acts (λ s r. omega (arith, r))
        (unexpected_err (only word.Return) [] source (d + 1) t2 e refl (has_none (only word.Return) word.Return [] t2 source.bytes.now refl k) f)

    module _ (at : ℕ) (t3 : List Lexeme) (h : d < 64) (k : NextIs word.Return at t2 t3) where
      body_returns : (n : ℕ) (s : List Sym) → nesting s ≡ d → judge (text_end source) n (body ∷ s) (terminals_of source old) ≡ judge (text_end source) n (expr_then (only word.Semicolon ∷ only word.CloseBlock ∷ s)) (terminals_of source t3)
      body_returns n s r =
          body_acts n s r ∙ ap (judge (text_end source) n (only word.Return ∷ expr_then (only word.Semicolon ∷ only word.CloseBlock ∷ s))) (seen-next word.Return source at t2 t3 k)
          ∙ taken (text_end source) n at word.Return (text_of source.bytes.now k.0) (only word.Return ∷ expr_then (only word.Semicolon ∷ only word.CloseBlock ∷ s)) (expr_then (only word.Semicolon ∷ only word.CloseBlock ∷ s)) (terminals_of source t3) refl (omega (arith, r, h)) refl

      pub body_err_result : (e : SyntaxError) → Errs (expr_then (only word.Semicolon ∷ [])) source (d + 1) t3 e → Errs (body ∷ []) source d old e
      body_err_result e f = err_after (body ∷ []) (expr_then (only word.Semicolon ∷ [])) (only word.CloseBlock ∷ []) source d (d + 1) old t3 e body_returns (λ s r. omega (arith, r)) f

      module _ (t4 : List Lexeme) (x : Expr) (b : Comes IsEnded (expr_then (only word.Semicolon ∷ [])) source (d + 1) t3 x t4) where
        pub body_err_close : (e : SyntaxError) → Errs (only word.CloseBlock ∷ []) source d t4 e → Errs (body ∷ []) source d old e
        body_err_close e f = err_after (body ∷ []) (only word.CloseBlock ∷ []) [] source d d old t4 e (λ n s r. body_returns n s r ∙ b.1 n (only word.CloseBlock ∷ s) (omega (arith, r))) (λ s r. r) f

        pub body_read : (rest : List Lexeme) → Passed word.CloseBlock source d t4 rest → IsBody (terminals_of source old) xs at x (terminals_of source rest) × ReadsTo (body ∷ []) [] source d old rest
        body_read rest c = (
          made (seen-next word.OpenBlock source o.0.0 old t1 o.0.1) a.0 (seen-next word.Return source at t2 t3 k) b.0 (seen-next word.CloseBlock source c.0.0 t4 rest c.0.1),
          λ n s r. body_returns n s r ∙ b.1 n (only word.CloseBlock ∷ s) (omega (arith, r)) ∙ c.1 n s r,
        )
          where
            made : {s0 s1 s2 s3 s4 to : List Terminal} {e f h : ℕ} {w y z : List ℕ} → s0 ≡ tok e word.OpenBlock w ∷ s1 → IsStmts s1 xs s2 → s2 ≡ tok f word.Return y ∷ s3 → IsEnded s3 x s4 → s4 ≡ tok h word.CloseBlock z ∷ to → IsBody s0 xs f x to
            made {s1 = s1} {s3 = s3} {to = to} {f = f} p m q (ended {c = g} {v = v} i) r = subst (λ k. IsBody k xs f x to) (sym p) (a_body (subst (IsStmts s1 xs) q m) (subst (λ k. IsExpr s3 x (tok g word.Semicolon v ∷ k)) r i))

-- Functions

pub params_bracket : IsBracket param_list word.Open (params ∷ only word.Close ∷ [])
params_bracket = record { needed = refl; only_rule = refl; one_level = λ s. refl }

abbrev pub function_front : List Sym
function_front = only word.Name ∷ param_list ∷ answer ∷ body ∷ []

module _ (source : LexedText) (d : ℕ) (old : List Lexeme) where
  pub function_err_name : (e : SyntaxError) → Errs (only word.Name ∷ []) source d old e → Errs function_front source d old e
  function_err_name e f = err_first source d function_front (only word.Name ∷ []) (param_list ∷ answer ∷ body ∷ []) d old e (λ n s. refl) (λ s r. r) f

  module _ (t1 : List Lexeme) (x : Name) (a : Comes IsName (only word.Name ∷ []) source d old x t1) where
    pub function_err_open : (e : SyntaxError) → Errs (param_list ∷ []) source d t1 e → Errs function_front source d old e
    function_err_open e f = err_after function_front (param_list ∷ []) (answer ∷ body ∷ []) source d d old t1 e (λ n s r. a.1 n (param_list ∷ answer ∷ body ∷ s) r) (λ s r. r) f

    module _ (t2 : List Lexeme) (o : Opened word.Open source d t1 t2) where
      function_opened : ReadsTo function_front (params ∷ only word.Close ∷ answer ∷ body ∷ []) source d old t2
      function_opened = λ n s r. a.1 n (param_list ∷ answer ∷ body ∷ s) r ∙ o.2 param_list _ params_bracket n (answer ∷ body ∷ s) r

      pub function_err_params : (e : SyntaxError) → Errs (params ∷ only word.Close ∷ []) source d t2 e → Errs function_front source d old e
      function_err_params e f = err_after function_front (params ∷ only word.Close ∷ []) (answer ∷ body ∷ []) source d d old t2 e function_opened (λ s r. r) f

      module _ (t3 : List Lexeme) (ps : List Param) (b : Comes IsParamList (params ∷ only word.Close ∷ []) source d t2 ps t3) where
        pub function_err_answer : (e : SyntaxError) → Errs (answer ∷ []) source d t3 e → Errs function_front source d old e
        function_err_answer e f = err_after function_front (answer ∷ []) (body ∷ []) source d d old t3 e (λ n s r. function_opened n s r ∙ b.1 n (answer ∷ body ∷ s) r) (λ s r. r) f

        module _ (t4 : List Lexeme) (k : Kind) (c : Comes IsAnswerKind (answer ∷ []) source d t3 k t4) where
          pub function_err_body : (e : SyntaxError) → Errs (body ∷ []) source d t4 e → Errs function_front source d old e
          function_err_body e f = err_after function_front (body ∷ []) [] source d d old t4 e (λ n s r. function_opened n s r ∙ b.1 n (answer ∷ body ∷ s) r ∙ c.1 n (body ∷ s) r) (λ s r. r) f

          pub function_read : (rest : List Lexeme) (xs : List Stmt) (at : ℕ) (z : Expr) → IsBody (terminals_of source t4) xs at z (terminals_of source rest) → ReadsTo (body ∷ []) [] source d t4 rest
              → Comes IsRestOfFunction function_front source d old (record { name = x; params = ps; answer = k; body = xs; return_at = at; result = z }) rest
          function_read rest xs at z g h = (
            λ i t. made a.0 (seen-next word.Open source o.0.0 t1 t2 o.0.1) b.0 c.0 g,
            λ n s r. function_opened n s r ∙ b.1 n (answer ∷ body ∷ s) r ∙ c.1 n (body ∷ s) r ∙ h n s r,
          )
            where
              made : {s0 s1 s2 s3 s4 to : List Terminal} {x : Name} {ps : List Param} {k : Kind} {xs : List Stmt} {at : ℕ} {z : Expr} {i c : ℕ} {t u : List ℕ} → IsName s0 x s1 → s1 ≡ tok c word.Open u ∷ s2 → IsParamList s2 ps s3 → IsAnswerKind s3 k s4 → IsBody s4 xs at z to
                  → IsFunction (tok i word.Fn t ∷ s0) (record { name = x; params = ps; answer = k; body = xs; return_at = at; result = z }) to
              made {to = to} {ps = ps} {k = k} {xs = xs} {at = at} {z = z} {i = i} {t = t} (a_name_token {a = b} {t = n}) e (parameters p) q (a_body m r) =
                  subst (λ g. IsFunction (tok i word.Fn t ∷ tok b word.Name n ∷ g) (record { name = name_at b n; params = ps; answer = k; body = xs; return_at = at; result = z }) to) (sym e) (a_function p q m r)

-- Lists of functions

module _ (e : TextEnd) (m at : ℕ) (text : List ℕ) (ts : List Terminal) where
  fn_taken : m ≤ 1023 → judge e m (functions ∷ []) (tok at word.Fn text ∷ ts) ≡ judge e (suc m) (only word.Name ∷ param_list ∷ answer ∷ body ∷ functions ∷ []) ts
  fn_taken h = ap (λ b. unless_broken (if b then Some 7 else None) at (judge e (suc m) (only word.Name ∷ param_list ∷ answer ∷ body ∷ functions ∷ []) ts)) (le-ltb 1023 m h)

  fn_many : 1023 < m → judge e m (functions ∷ []) (tok at word.Fn text ∷ ts) ≡ Some (7, at)
  fn_many h = ap (λ b. unless_broken (if b then Some 7 else None) at (judge e (suc m) (only word.Name ∷ param_list ∷ answer ∷ body ∷ functions ∷ []) ts)) (lt-ltb 1023 m h)

abbrev pub FunctionsSoFar : LexedText → List Lexeme → List Function → List Lexeme → Type 0
FunctionsSoFar source old found left = record {
  so_far : (more : List Function) (rest : List Terminal) → IsFunctions (terminals_of source left) more rest → IsFunctions (terminals_of source old) (found ++ more) rest;
  goes : judge (text_end source) 0 (functions ∷ []) (terminals_of source old) ≡ judge (text_end source) (length found) (functions ∷ []) (terminals_of source left);
}

module _ (source : LexedText) (old : List Lexeme) (found : List Function) (left : List Lexeme) (i : FunctionsSoFar source old found left) where
  pub functions_end : NextIsNot word.Fn left
      → IsFunctions (terminals_of source old) found (terminals_of source left) × (judge (text_end source) 0 (functions ∷ []) (terminals_of source old) ≡ judge (text_end source) (length found) [] (terminals_of source left))
  functions_end k = (
    subst (λ z. IsFunctions (terminals_of source old) z (terminals_of source left)) (append-nil found) (i.so_far [] (terminals_of source left) no_functions),
    i.goes ∙ skipped source (length found) functions [] left refl (has_none functions word.Fn _ left source.bytes.now refl k),
  )

  module _ (at : ℕ) (inner : List Lexeme) (k : NextIs word.Fn at left inner) where
    pub functions_many : 1024 ≤ length found → judge (text_end source) 0 (functions ∷ []) (terminals_of source old) ≡ Some (7, at)
    functions_many h =
        i.goes ∙ ap (judge (text_end source) (length found) (functions ∷ [])) (seen-next word.Fn source at left inner k)
        ∙ fn_many (text_end source) (length found) at (text_of source.bytes.now k.0) (terminals_of source inner) (omega arith)

    functions_enter : length found < 1024 → judge (text_end source) 0 (functions ∷ []) (terminals_of source old) ≡ judge (text_end source) (suc (length found)) (function_front ++ functions ∷ []) (terminals_of source inner)
    functions_enter h =
        i.goes ∙ ap (judge (text_end source) (length found) (functions ∷ [])) (seen-next word.Fn source at left inner k)
        ∙ fn_taken (text_end source) (length found) at (text_of source.bytes.now k.0) (terminals_of source inner) (omega arith)

    pub functions_err : (e : SyntaxError) → length found < 1024 → Errs function_front source 0 inner e → ReadsFunctions source old (Err e)
    functions_err Memory h f = tt
    functions_err (Bad number place) h f = functions_enter h ∙ f (suc (length found)) (functions ∷ []) refl

    pub one_more_fn : (found' : List Function) (rest : List Lexeme) (x : Function) → found' ≡ found ++ x ∷ [] → length found < 1024 → Comes IsRestOfFunction function_front source 0 inner x rest → FunctionsSoFar source old found' rest
    one_more_fn found' rest x p h a = record {
      so_far = λ more to m.
          let one : IsFunctions (terminals_of source left) (x ∷ more) to = subst (λ z. IsFunctions z (x ∷ more) to) (sym (seen-next word.Fn source at left inner k)) (one_function (a.0 at (text_of source.bytes.now k.0)) m) in
          subst (λ z. IsFunctions (terminals_of source old) z to) (sym (ap (λ z. z ++ more) p ∙ append_assoc found (x ∷ []) more)) (i.so_far (x ∷ more) to one);
      goes =
          let longer : length found' ≡ suc (length found) = ap length p ∙ length-append found (x ∷ []) ∙ omega arith in
          functions_enter h ∙ a.1 (suc (length found)) (functions ∷ []) refl ∙ ap (λ z. judge (text_end source) z (functions ∷ []) (terminals_of source rest)) (sym longer);
    }

    pub functions_turn : (rest : List Lexeme) (x : Function) → IsRestOfFunction (terminals_of source inner) x (terminals_of source rest) → length rest < length left
    functions_turn rest x a =
        let f : length left ≡ suc (length inner) = ap length k.1 in
        omega (arith, f, function_shorter (a at []), length-seen source inner, length-seen source rest)
      where
        more_params_shorter : {ts rest : List Terminal} {xs : List Param} → IsMoreParams ts xs rest → length rest ≤ length ts
        more_params_shorter no_more_params = omega arith
        more_params_shorter (one_more_param d e) = omega (arith, param_shorter d, more_params_shorter e)

        params_shorter : {ts rest : List Terminal} {xs : List Param} → IsParams ts xs rest → length rest ≤ length ts
        params_shorter no_params = omega arith
        params_shorter (some_params d e) = omega (arith, param_shorter d, more_params_shorter e)

        answer_shorter : {ts rest : List Terminal} {k : Kind} → IsAnswerKind ts k rest → length rest ≤ length ts
        answer_shorter int_answer = omega arith
        answer_shorter id_answer = omega arith

        function_shorter : {ts rest : List Terminal} {x : Function} → IsFunction ts x rest → length rest < length ts
        function_shorter (a_function p k d e) = omega (arith, params_shorter p, answer_shorter k, stmts_shorter d, expr_shorter e)

-- Whole scripts

module _ (source : LexedText) (old rest : List Lexeme) (found : List Function) (a : IsFunctions (terminals_of source old) found (terminals_of source rest))
    (b : judge (text_end source) 0 (functions ∷ []) (terminals_of source old) ≡ judge (text_end source) (length found) [] (terminals_of source rest)) where
  pub script_read : rest ≡ [] → source.stop ≡ End → IsScript (terminals_of source old) found × (judge (text_end source) 0 (functions ∷ []) (terminals_of source old) ≡ None)
  script_read e f = (
    subst (λ z. IsFunctions (terminals_of source old) found (terminals_of source z)) e a,
    b ∙ ap (λ z. judge (text_end source) (length found) [] (terminals_of source z)) e ∙ ap (λ z. at_stop source.end z []) f,
  )

  pub script_err : (e : SyntaxError) → (rest ≡ [] → source.stop ≡ End → ⊥) → e ≡ unexpected_in source rest → Judges source old (Err e)
  script_err Memory h f = tt
  script_err (Bad number at) h f = b ∙ last rest h f
    where
      stopped : (w : LexEnd) → (w ≡ End → ⊥) → Bad number at ≡ stopped_at source.end w → at_stop source.end w [] ≡ Some (number, at)
      stopped End h f = absurd (h refl)
      stopped (NotAscii place) h f = cc
      stopped (NoToken place) h f = cc

      last : (ls : List Lexeme) → (ls ≡ [] → source.stop ≡ End → ⊥) → Bad number at ≡ unexpected_in source ls → judge (text_end source) (length found) [] (terminals_of source ls) ≡ Some (number, at)
      last [] h f = stopped source.stop (h refl) f
      last (l ∷ ls) h f = cc
