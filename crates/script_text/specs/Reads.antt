-- What the parser's functions state of the lexemes they are given.
use Rattle.std.specs.Prelude.{◌≡◌, ℕ, suc, ◌+◌, ◌<◌, ◌≤◌, Bool, true, false, List, [], ◌∷◌, ◌++◌, length, Option, Some, None, Result, Ok, Err, nat_lt}
use Rattle.std.specs.Borrow.{Bor}
use Rattle.script_tokens.specs.declared.token.Word.{Word}
use Rattle.script_tokens.specs.declared.token.Word.TheVariants as word
use Rattle.script_tokens.specs.declared.token.Lexeme.{Lexeme}
use Rattle.script_tokens.specs.declared.lexing.LexEnd.{LexEnd}
use Rattle.script_tokens.specs.declared.lexing.LexEnd.TheVariants.{End, NotAscii, NoToken}
use Rattle.script_tokens.specs.Lexing.{text_of}
use Rattle.script_grammar.specs.declared.tree.Name.{Name}
use Rattle.script_grammar.specs.declared.tree.Number.{Number}
use Rattle.script_grammar.specs.declared.tree.Expr.{Expr}
use Rattle.script_grammar.specs.declared.tree.CallText.{CallText}
use Rattle.script_grammar.specs.declared.tree.Right.{Right}
use Rattle.script_grammar.specs.declared.tree.Act.{Act}
use Rattle.script_grammar.specs.declared.tree.Stmt.{Stmt}
use Rattle.script_grammar.specs.declared.tree.Param.{Param}
use Rattle.script_grammar.specs.declared.tree.Function.{Function}
use Rattle.script_grammar.specs.declared.tree.Script.{Script}
use Rattle.script_text.specs.declared.error.SyntaxError.{SyntaxError}
use Rattle.script_text.specs.declared.error.SyntaxError.TheVariants.{Bad, Memory}
use Rattle.script_text.specs.declared.parser.source.LexedText.{LexedText}
use Rattle.script_grammar.specs.Grammar.{Terminal, tok, name_at, number_at, decimal, IsExpr, IsMoreArgs, IsArgs, IsCall, IsRight, stmt_at, IsStmt, IsStmts, IsMoreParams, IsParams, IsFunction, IsFunctions, IsScript}
use Rattle.script_grammar.specs.Fault.{TextEnd}
use Rattle.script_grammar.specs.FaultNumbers as fault
use Rattle.script_grammar.specs.Text.{tokens_of}
use Rattle.script_text.specs.Machine.{Sym, only, exactly, pair, stmts, after_name, functions, body, expr_then, rules, rule, find_rule, is_empty, nesting, judge, word_number}

abbrev pub terminals_of : LexedText → List Lexeme → List Terminal
terminals_of source ls = tokens_of source.bytes.now ls

abbrev pub text_end : LexedText → TextEnd
text_end source = record { end = source.end; stop = source.stop }

-- reading the lexemes from `old` up to `rest` takes the machine from the symbols `front` to the symbols `back`
abbrev pub ReadsTo : List Sym → List Sym → LexedText → ℕ → List Lexeme → List Lexeme → Type 0
ReadsTo front back source d old rest =
    (n : ℕ) (s : List Sym) → nesting s ≡ d → judge (text_end source) n (front ++ s) (terminals_of source old) ≡ judge (text_end source) n (back ++ s) (terminals_of source rest)

-- the machine, which expects these symbols, finds this fault
abbrev pub Finds : List Sym → LexedText → ℕ → List Lexeme → ℕ → ℕ → Type 0
Finds front source d old number at =
    (n : ℕ) (s : List Sym) → nesting s ≡ d → judge (text_end source) n (front ++ s) (terminals_of source old) ≡ Some (number, at)

-- the same of an error
abbrev pub Errs : List Sym → LexedText → ℕ → List Lexeme → SyntaxError → Type 0
Errs front source d old Memory = Unit {0}
Errs front source d old (Bad number at) = Finds front source d old number at

-- What was read is derived by this rule of the grammar, and reading it took these symbols off the machine's stack. On an error the
-- machine finds the same fault.
abbrev pub Reads : {X : Type 0} → (List Terminal → X → List Terminal → Type 0) → List Sym → LexedText → ℕ → List Lexeme → Result (X × Bor (List Lexeme)) SyntaxError → Type 0
Reads R front source d old (Ok p) = R (terminals_of source old) p.0 (terminals_of source p.1.now) × ReadsTo front [] source d old p.1.now
Reads R front source d old (Err e) = Errs front source d old e

-- the fault where the next lexeme isn't expected
abbrev pub stopped_at : ℕ → LexEnd → SyntaxError
stopped_at end End = Bad fault.unexpected_end end
stopped_at end (NotAscii place) = Bad fault.not_ascii place
stopped_at end (NoToken place) = Bad fault.unexpected_token place

abbrev pub unexpected_in : LexedText → List Lexeme → SyntaxError
unexpected_in source [] = stopped_at source.end source.stop
unexpected_in source (l ∷ ls) = Bad fault.unexpected_token l.start

-- this word comes next, at this offset and with these lexemes after it; or it doesn't
abbrev pub NextIs : Word → ℕ → List Lexeme → List Lexeme → Type 0
NextIs w at old rest = (l : Lexeme) × (old ≡ l ∷ rest) × (l.word ≡ w) × (l.start ≡ at)

abbrev pub NextIsNot : Word → List Lexeme → Type 0
NextIsNot w [] = Unit {0}
NextIsNot w (l ∷ ls) = l.word ≡ w → ⊥

-- a word that only the nesting limits
abbrev pub is_unlimited : Word → Bool
is_unlimited w = nat_lt 2 (word_number w)

abbrev pub IsUnlimited : Word → Type 0
IsUnlimited w = is_unlimited w ≡ true

abbrev pub PassesWord : Word → LexedText → ℕ → List Lexeme → Result (Bor (List Lexeme)) SyntaxError → Type 0
PassesWord w source d old (Ok rest) = ((at : ℕ) × NextIs w at old rest.now) × ReadsTo (only w ∷ []) [] source d old rest.now
PassesWord w source d old (Err e) = Errs (only w ∷ []) source d old e

-- a symbol that must be a bracket, with these symbols after it
pub record IsBracket (a : Sym) (w : Word) (inside : List Sym) : Type 0 where
  pub needed : is_empty a ≡ false
  pub only_rule : rules a ≡ rule w inside ∷ []
  pub one_level : (s : List Sym) → nesting (inside ++ s) ≡ suc (nesting s)

abbrev pub OpensBracket : Word → LexedText → ℕ → List Lexeme → Result (Bor (List Lexeme)) SyntaxError → Type 0
OpensBracket w source d old (Ok rest) =
    ((at : ℕ) × NextIs w at old rest.now) × (d < 64) × ((a : Sym) (inside : List Sym) → IsBracket a w inside → ReadsTo (a ∷ []) inside source d old rest.now)
OpensBracket w source d old (Err e) = (a : Sym) (inside : List Sym) → IsBracket a w inside → Errs (a ∷ []) source d old e

abbrev pub Deepens : ℕ → ℕ → Result ℕ SyntaxError → Type 0
Deepens d at (Ok inner) = (inner ≡ d + 1) × (d < 64)
Deepens d at (Err Memory) = ⊥
Deepens d at (Err (Bad number place)) = (d ≡ 64) × (number ≡ fault.nested_too_deep) × (place ≡ at)

abbrev pub ReadsName : LexedText → Lexeme → Result Name SyntaxError → Type 0
ReadsName source l (Ok name) = (name ≡ name_at l.start (text_of source.bytes.now l)) × (length (text_of source.bytes.now l) ≤ 32)
ReadsName source l (Err Memory) = Unit {0}
ReadsName source l (Err (Bad number at)) = (32 < length (text_of source.bytes.now l)) × (number ≡ fault.name_too_long) × (at ≡ l.start)

abbrev pub IsValue : List ℕ → Option ℕ → Type 0
IsValue digits None = 9223372036854775807 < decimal 0 digits
IsValue digits (Some value) = (value ≡ decimal 0 digits) × (decimal 0 digits ≤ 9223372036854775807)

abbrev pub ReadsNumber : LexedText → Lexeme → Result Number SyntaxError → Type 0
ReadsNumber source l (Ok number) = (number ≡ number_at l.start (text_of source.bytes.now l)) × (decimal 0 (text_of source.bytes.now l) ≤ 9223372036854775807)
ReadsNumber source l (Err Memory) = ⊥
ReadsNumber source l (Err (Bad number at)) = (9223372036854775807 < decimal 0 (text_of source.bytes.now l)) × (number ≡ fault.number_out_of_range) × (at ≡ l.start)

-- the sign that a word is, or the symbol has no rule for the word
abbrev pub Signs : {X : Type 0} → Sym → (Word → X → Type 0) → Word → Option X → Type 0
Signs a R w None = (text : List ℕ) → find_rule w text (rules a) ≡ None
Signs a R w (Some sign) = R w sign

-- a sign comes next, and what is after it; or the symbol has no rule for what comes next
abbrev pub SignNext : {X : Type 0} → Sym → (Word → X → Type 0) → List Lexeme → Option (X × Bor (List Lexeme)) → Type 0
SignNext a R [] None = Unit {0}
SignNext a R (l ∷ ls) None = (text : List ℕ) → find_rule l.word text (rules a) ≡ None
SignNext a R old (Some p) = (l : Lexeme) × (old ≡ l ∷ p.1.now) × R l.word p.0

-- "(" expr "," expr ")"
pub data IsOperands : List Terminal → Expr → Expr → List Terminal → Type 0 where
  an_operands : {b c d : ℕ} {u v w : List ℕ} {ts us rest : List Terminal} {x y : Expr}
      → IsExpr ts x (tok c word.Comma v ∷ us) → IsExpr us y (tok d word.Close w ∷ rest)
      → IsOperands (tok b word.Open u ∷ ts) x y rest

abbrev pub ReadsPair : LexedText → ℕ → List Lexeme → Result (Expr × Expr × Bor (List Lexeme)) SyntaxError → Type 0
ReadsPair source d old (Ok p) = IsOperands (terminals_of source old) p.0 p.1 (terminals_of source p.2.now) × ReadsTo (pair ∷ []) [] source d old p.2.now
ReadsPair source d old (Err e) = Errs (pair ∷ []) source d old e

-- this lexeme comes next
abbrev pub NextLexeme : Word → Lexeme → List Lexeme → List Lexeme → Type 0
NextLexeme w l old rest = (old ≡ l ∷ rest) × (l.word ≡ w)

-- a name, or a number
pub data IsName : List Terminal → Name → List Terminal → Type 0 where
  a_name_token : {a : ℕ} {t : List ℕ} {rest : List Terminal} → IsName (tok a word.Name t ∷ rest) (name_at a t) rest

pub data IsNumber : List Terminal → Number → List Terminal → Type 0 where
  a_number_token : {a : ℕ} {t : List ℕ} {rest : List Terminal} → IsNumber (tok a word.Number t ∷ rest) (number_at a t) rest

-- { "," expr }, with these expressions in front of its own
abbrev pub AddsArgs : List Expr → List Terminal → List Expr → List Terminal → Type 0
AddsArgs found ts xs rest = (more : List Expr) × (xs ≡ found ++ more) × IsMoreArgs ts more rest

-- args ")"
pub data IsArguments : List Terminal → List Expr → List Terminal → Type 0 where
  arguments : {c : ℕ} {v : List ℕ} {ts rest : List Terminal} {xs : List Expr} → IsArgs ts xs (tok c word.Close v ∷ rest) → IsArguments ts xs rest

-- right ";"
pub data IsValueOf : List Terminal → Right → List Terminal → Type 0 where
  value_of : {c : ℕ} {v : List ℕ} {ts rest : List Terminal} {r : Right} → IsRight ts r (tok c word.Semicolon v ∷ rest) → IsValueOf ts r rest

-- expr ";"
pub data IsEnded : List Terminal → Expr → List Terminal → Type 0 where
  ended : {c : ℕ} {v : List ℕ} {ts rest : List Terminal} {x : Expr} → IsExpr ts x (tok c word.Semicolon v ∷ rest) → IsEnded ts x rest

-- name "(" args ")" ";"
pub data IsCallOf : List Terminal → CallText → List Terminal → Type 0 where
  call_of : {c : ℕ} {v : List ℕ} {ts rest : List Terminal} {x : CallText} → IsCall ts x (tok c word.Semicolon v ∷ rest) → IsCallOf ts x rest

-- "[" number "]" ";"
pub data IsSize : List Terminal → Number → List Terminal → Type 0 where
  a_size : {a b c d : ℕ} {t u v w : List ℕ} {rest : List Terminal}
      → IsSize (tok a word.OpenItem t ∷ tok b word.Number u ∷ tok c word.CloseItem v ∷ tok d word.Semicolon w ∷ rest) (number_at b u) rest

-- "[" expr "]" "=" expr ";"
pub data IsElement : List Terminal → Expr → Expr → List Terminal → Type 0 where
  an_element : {a b c d : ℕ} {t u v w : List ℕ} {ts us rest : List Terminal} {x y : Expr}
      → IsExpr ts x (tok b word.CloseItem u ∷ tok c word.Assign v ∷ us) → IsExpr us y (tok d word.Semicolon w ∷ rest)
      → IsElement (tok a word.OpenItem t ∷ ts) x y rest

-- a word that a statement can begin with
abbrev pub begins_stmt : Word → Bool
begins_stmt word.Let = true
begins_stmt word.Name = true
begins_stmt word.Spawn = true
begins_stmt word.Call = true
begins_stmt word.Sync = true
begins_stmt word.Print = true
begins_stmt word.If = true
begins_stmt word.While = true
begins_stmt word.Pfor = true
begins_stmt word.Scope = true
begins_stmt _ = false

-- no statement begins
abbrev pub NoStmt : List Lexeme → Type 0
NoStmt [] = Unit {0}
NoStmt (l ∷ ls) = begins_stmt l.word ≡ false

-- A lexeme and what was read after it are a statement that does this.
abbrev pub ReadsAct : LexedText → ℕ → Lexeme → List Lexeme → Result (Act × Bor (List Lexeme)) SyntaxError → Type 0
ReadsAct source d first rest (Ok p) =
    IsStmt (terminals_of source (first ∷ rest)) (stmt_at first.start p.0) (terminals_of source p.1.now) × ReadsTo (stmts ∷ []) (stmts ∷ []) source d (first ∷ rest) p.1.now
ReadsAct source d first rest (Err e) = Errs (stmts ∷ []) source d (first ∷ rest) e

abbrev pub ReadsElement : LexedText → ℕ → List Lexeme → Result (Expr × Expr × Bor (List Lexeme)) SyntaxError → Type 0
ReadsElement source d old (Ok p) = IsElement (terminals_of source old) p.0 p.1 (terminals_of source p.2.now) × ReadsTo (after_name ∷ []) [] source d old p.2.now
ReadsElement source d old (Err e) = Errs (after_name ∷ []) source d old e

-- "in" expr ".." expr
pub data IsBounds : List Terminal → Expr → Expr → List Terminal → Type 0 where
  bounds : {c d : ℕ} {u v : List ℕ} {ts us vs : List Terminal} {lo hi : Expr} → IsExpr ts lo (tok d word.Range v ∷ us) → IsExpr us hi vs → IsBounds (tok c word.In u ∷ ts) lo hi vs

abbrev pub ReadsBounds : LexedText → ℕ → List Lexeme → Result (Expr × Expr × Bor (List Lexeme)) SyntaxError → Type 0
ReadsBounds source d old (Ok p) = IsBounds (terminals_of source old) p.0 p.1 (terminals_of source p.2.now) × ReadsTo (only word.In ∷ expr_then (only word.Range ∷ expr_then [])) [] source d old p.2.now
ReadsBounds source d old (Err e) = Errs (only word.In ∷ expr_then (only word.Range ∷ expr_then [])) source d old e

-- "call" name "(" name { "," expr } ")" ";", where the second name has these bytes
pub data IsLoopCall : List ℕ → List Terminal → CallText → List Terminal → Type 0 where
  loop_call : {e f g h i j : ℕ} {w f' y n z o : List ℕ} {ws rest : List Terminal} {xs : List Expr}
      → IsMoreArgs ws xs (tok i word.Close z ∷ tok j word.Semicolon o ∷ rest)
      → IsLoopCall n (tok e word.Call w ∷ tok f word.Name f' ∷ tok g word.Open y ∷ tok h word.Name n ∷ ws) (record { name = name_at f f'; args = xs }) rest

-- the name with these bytes comes next
abbrev pub Repeats : List ℕ → LexedText → ℕ → List Lexeme → Result (Bor (List Lexeme)) SyntaxError → Type 0
Repeats n source d old (Ok rest) = ((l : Lexeme) × NextLexeme word.Name l old rest.now × (text_of source.bytes.now l ≡ n)) × ReadsTo (exactly n ∷ []) [] source d old rest.now
Repeats n source d old (Err e) = Errs (exactly n ∷ []) source d old e

-- { "," param }, with these parameters in front of its own
abbrev pub AddsParams : List Param → List Terminal → List Param → List Terminal → Type 0
AddsParams found ts xs rest = (more : List Param) × (xs ≡ found ++ more) × IsMoreParams ts more rest

-- params ")"
pub data IsParamList : List Terminal → List Param → List Terminal → Type 0 where
  parameters : {c : ℕ} {v : List ℕ} {ts rest : List Terminal} {xs : List Param} → IsParams ts xs (tok c word.Close v ∷ rest) → IsParamList ts xs rest

-- "{" { stmt } "return" expr ";" "}"
pub data IsBody : List Terminal → List Stmt → ℕ → Expr → List Terminal → Type 0 where
  a_body : {e f g h : ℕ} {w x y z : List ℕ} {vs ws rest : List Terminal} {p : List Stmt} {r : Expr}
      → IsStmts vs p (tok f word.Return x ∷ ws) → IsExpr ws r (tok g word.Semicolon y ∷ tok h word.CloseBlock z ∷ rest)
      → IsBody (tok e word.OpenBlock w ∷ vs) p f r rest

abbrev pub ReadsBody : LexedText → ℕ → List Lexeme → Result (List Stmt × ℕ × Expr × Bor (List Lexeme)) SyntaxError → Type 0
ReadsBody source d old (Ok p) = IsBody (terminals_of source old) p.0 p.1 p.2 (terminals_of source p.3.now) × ReadsTo (body ∷ []) [] source d old p.3.now
ReadsBody source d old (Err e) = Errs (body ∷ []) source d old e

-- a function without its first token
abbrev pub IsRestOfFunction : List Terminal → Function → List Terminal → Type 0
IsRestOfFunction ts f rest = (a : ℕ) (t : List ℕ) → IsFunction (tok a word.Fn t ∷ ts) f rest

-- All functions were read, and the machine expects nothing more. On an error it finds the same fault.
abbrev pub ReadsFunctions : LexedText → List Lexeme → Result (List Function × Bor (List Lexeme)) SyntaxError → Type 0
ReadsFunctions source old (Ok p) =
    IsFunctions (terminals_of source old) p.0 (terminals_of source p.1.now)
    × (judge (text_end source) 0 (functions ∷ []) (terminals_of source old) ≡ judge (text_end source) (length p.0) [] (terminals_of source p.1.now))
ReadsFunctions source old (Err Memory) = Unit {0}
ReadsFunctions source old (Err (Bad number at)) = judge (text_end source) 0 (functions ∷ []) (terminals_of source old) ≡ Some (number, at)

abbrev pub Judges : LexedText → List Lexeme → Result Script SyntaxError → Type 0
Judges source old (Ok script) = (script.version ≡ source.version) × IsScript (terminals_of source old) script.functions × (judge (text_end source) 0 (functions ∷ []) (terminals_of source old) ≡ None)
Judges source old (Err Memory) = Unit {0}
Judges source old (Err (Bad number at)) = judge (text_end source) 0 (functions ∷ []) (terminals_of source old) ≡ Some (number, at)
