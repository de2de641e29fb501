-- A machine that reads tokens from left to right and knows what may come next. Private functions' contracts and proofs use it; what
-- a script is, and what its fault is, is defined without it. It serves both versions: a text of version 1 has no token `scope`, and
-- the machine never requires one.
--
-- Its state is a stack of the symbols that are still expected, the next one on top. Each rule of a symbol takes one token and
-- replaces the symbol by others. A closing bracket is expected only once its opening one was read.
use Rattle.std.specs.Prelude.{ℕ, suc, List, [], ◌∷◌, ◌++◌, Option, Some, None, option_and_then, Bool, true, false, ◌&&◌, ◌||◌, nat_eq, nat_lt, length, if◌then◌else◌}
use Rattle.script_tokens.specs.declared.token.Word.{Word}
use Rattle.script_tokens.specs.declared.token.Word.TheVariants as word
use Rattle.script_tokens.specs.declared.lexing.LexEnd.{LexEnd}
use Rattle.script_tokens.specs.declared.lexing.LexEnd.TheVariants.{End, NotAscii, NoToken}
use Rattle.script_grammar.specs.Grammar.{Terminal, decimal}
use Rattle.script_grammar.specs.Fault.{is_fn, TextEnd}
use Rattle.script_grammar.specs.FaultNumbers as fault

pub data Sym : Type 0 where
  -- a token of this word, or the name with these bytes
  only : Word → Sym
  exactly : List ℕ → Sym
  -- the arguments of a loop's call, of which the first is this name
  loop_args : List ℕ → Sym
  factor index pair more_factors more_terms comparison minus_end : Sym
  args more_args call_args right into loop_name : Sym
  stmts after_let after_name block otherwise : Sym
  functions param_list params more_params param answer body : Sym

pub record Production : Type 0 where
  pub first : Word
  pub fits : List ℕ → Bool
  pub rest : List ℕ → List Sym

-- this word, whatever its text, and then these symbols
abbrev pub rule : Word → List Sym → Production
rule w r = record { first = w; fits = λ _. true; rest = λ _. r }

abbrev pub word_number : Word → ℕ
word_number word.Name = 0
word_number word.Number = 1
word_number word.Fn = 2
word_number word.Id = 3
word_number word.Let = 4
word_number word.Spawn = 5
word_number word.Call = 6
word_number word.Sync = 7
word_number word.Print = 8
word_number word.If = 9
word_number word.Else = 10
word_number word.While = 11
word_number word.Pfor = 12
word_number word.In = 13
word_number word.Into = 14
word_number word.Draw = 15
word_number word.New = 16
word_number word.Return = 17
word_number word.Same = 18
word_number word.Older = 19
word_number word.Open = 20
word_number word.Close = 21
word_number word.OpenBlock = 22
word_number word.CloseBlock = 23
word_number word.OpenItem = 24
word_number word.CloseItem = 25
word_number word.Comma = 26
word_number word.Semicolon = 27
word_number word.Assign = 28
word_number word.Plus = 29
word_number word.Minus = 30
word_number word.Times = 31
word_number word.Over = 32
word_number word.Modulo = 33
word_number word.Eq = 34
word_number word.Ne = 35
word_number word.Lt = 36
word_number word.Le = 37
word_number word.Gt = 38
word_number word.Ge = 39
word_number word.Arrow = 40
word_number word.Range = 41
word_number word.Scope = 42

abbrev pub same_word : Word → Word → Bool
same_word v w = nat_eq (word_number v) (word_number w)

abbrev pub same_bytes : List ℕ → List ℕ → Bool
same_bytes [] [] = true
same_bytes [] (b ∷ ys) = false
same_bytes (a ∷ xs) [] = false
same_bytes (a ∷ xs) (b ∷ ys) = nat_eq a b && same_bytes xs ys

-- an expression or a sum: a factor and what may follow
abbrev pub sum_then : List Sym → List Sym
sum_then s = factor ∷ more_factors ∷ more_terms ∷ s

abbrev pub expr_then : List Sym → List Sym
expr_then s = factor ∷ more_factors ∷ more_terms ∷ comparison ∷ s

-- the rules of a factor, and what follows it
abbrev pub factor_rules : List Sym → List Production
factor_rules s =
    rule word.Name (index ∷ s)
    ∷ rule word.Number s
    ∷ rule word.Minus (factor ∷ minus_end ∷ s)
    ∷ rule word.Open (expr_then (only word.Close ∷ s))
    ∷ rule word.Same (pair ∷ s)
    ∷ rule word.Older (pair ∷ s)
    ∷ []

abbrev pub rules : Sym → List Production
rules (only w) = rule w [] ∷ []
rules (exactly n) = record { first = word.Name; fits = same_bytes n; rest = λ _. [] } ∷ []
rules factor = factor_rules []
rules index = rule word.OpenItem (expr_then (only word.CloseItem ∷ [])) ∷ []
rules pair = rule word.Open (expr_then (only word.Comma ∷ expr_then (only word.Close ∷ []))) ∷ []
rules more_factors =
    rule word.Times (factor ∷ more_factors ∷ [])
    ∷ rule word.Over (factor ∷ more_factors ∷ [])
    ∷ rule word.Modulo (factor ∷ more_factors ∷ [])
    ∷ []
rules more_terms = rule word.Plus (sum_then []) ∷ rule word.Minus (sum_then []) ∷ []
rules comparison =
    rule word.Eq (sum_then []) ∷ rule word.Ne (sum_then []) ∷ rule word.Lt (sum_then [])
    ∷ rule word.Le (sum_then []) ∷ rule word.Gt (sum_then []) ∷ rule word.Ge (sum_then [])
    ∷ []
rules minus_end = []
rules args = factor_rules (more_factors ∷ more_terms ∷ comparison ∷ more_args ∷ [])
rules more_args = rule word.Comma (expr_then (more_args ∷ [])) ∷ []
rules call_args = rule word.Open (args ∷ only word.Close ∷ []) ∷ []
rules right =
    rule word.Draw []
    ∷ rule word.New []
    ∷ rule word.Call (only word.Name ∷ call_args ∷ [])
    ∷ rule word.Spawn (only word.Name ∷ call_args ∷ [])
    ∷ factor_rules (more_factors ∷ more_terms ∷ comparison ∷ [])
rules into = rule word.Into (only word.Name ∷ []) ∷ []
rules loop_name =
    record {
      first = word.Name;
      fits = λ _. true;
      rest = λ n. only word.In ∷ expr_then (only word.Range ∷ expr_then (into ∷ only word.Call ∷ only word.Name ∷ loop_args n ∷ only word.Semicolon ∷ []));
    }
    ∷ []
rules (loop_args n) = rule word.Open (exactly n ∷ more_args ∷ only word.Close ∷ []) ∷ []
rules stmts =
    rule word.Let (only word.Name ∷ after_let ∷ stmts ∷ [])
    ∷ rule word.Name (after_name ∷ stmts ∷ [])
    ∷ rule word.Spawn (only word.Name ∷ call_args ∷ only word.Semicolon ∷ stmts ∷ [])
    ∷ rule word.Call (only word.Name ∷ call_args ∷ only word.Semicolon ∷ stmts ∷ [])
    ∷ rule word.Sync (only word.Semicolon ∷ stmts ∷ [])
    ∷ rule word.Print (expr_then (only word.Semicolon ∷ stmts ∷ []))
    ∷ rule word.If (expr_then (block ∷ otherwise ∷ stmts ∷ []))
    ∷ rule word.While (expr_then (block ∷ stmts ∷ []))
    ∷ rule word.Pfor (loop_name ∷ stmts ∷ [])
    ∷ rule word.Scope (block ∷ stmts ∷ [])
    ∷ []
rules after_let =
    rule word.Assign (right ∷ only word.Semicolon ∷ [])
    ∷ rule word.OpenItem (only word.Number ∷ only word.CloseItem ∷ only word.Semicolon ∷ [])
    ∷ []
rules after_name =
    rule word.Assign (right ∷ only word.Semicolon ∷ [])
    ∷ rule word.OpenItem (expr_then (only word.CloseItem ∷ only word.Assign ∷ expr_then (only word.Semicolon ∷ [])))
    ∷ []
rules block = rule word.OpenBlock (stmts ∷ only word.CloseBlock ∷ []) ∷ []
rules otherwise = rule word.Else (block ∷ []) ∷ []
rules functions = rule word.Fn (only word.Name ∷ param_list ∷ answer ∷ body ∷ functions ∷ []) ∷ []
rules param_list = rule word.Open (params ∷ only word.Close ∷ []) ∷ []
rules params = rule word.Name (more_params ∷ []) ∷ rule word.Id (only word.Name ∷ more_params ∷ []) ∷ []
rules more_params = rule word.Comma (param ∷ more_params ∷ []) ∷ []
rules param = rule word.Name [] ∷ rule word.Id (only word.Name ∷ []) ∷ []
rules answer = rule word.Arrow (only word.Id ∷ []) ∷ []
rules body = rule word.OpenBlock (stmts ∷ only word.Return ∷ expr_then (only word.Semicolon ∷ only word.CloseBlock ∷ [])) ∷ []

-- may be omitted
abbrev pub is_empty : Sym → Bool
is_empty index = true
is_empty more_factors = true
is_empty more_terms = true
is_empty comparison = true
is_empty minus_end = true
is_empty args = true
is_empty more_args = true
is_empty into = true
is_empty stmts = true
is_empty otherwise = true
is_empty functions = true
is_empty params = true
is_empty more_params = true
is_empty answer = true
is_empty _ = false

abbrev pub find_rule : Word → List ℕ → List Production → Option (List Sym)
find_rule w text [] = None
find_rule w text (r ∷ rs) = if same_word w r.first && r.fits text then Some (r.rest text) else find_rule w text rs

abbrev pub choose : Option (List Sym) → Bool → List Sym → Option (List Sym) → Option (List Sym)
choose (Some r) b s o = Some (r ++ s)
choose None true s o = o
choose None false s o = None

-- the stack after a token, where the token is expected
abbrev pub consume : Word → List ℕ → List Sym → Option (List Sym)
consume w text [] = None
consume w text (a ∷ s) = choose (find_rule w text (rules a)) (is_empty a) s (consume w text s)

abbrev pub consume_all : List Terminal → List Sym → Option (List Sym)
consume_all [] s = Some s
consume_all (t ∷ ts) s = option_and_then (consume_all ts) (consume t.word t.text s)

abbrev pub all_empty : List Sym → Bool
all_empty [] = true
all_empty (a ∷ s) = is_empty a && all_empty s

abbrev pub is_closer : Word → Bool
is_closer w = same_word w word.Close || (same_word w word.CloseBlock || same_word w word.CloseItem)

-- the nesting: closing brackets that are expected, and unary minuses whose operand hasn't ended
abbrev pub nesting : List Sym → ℕ
nesting [] = 0
nesting (only w ∷ s) = if is_closer w then suc (nesting s) else nesting s
nesting (minus_end ∷ s) = suc (nesting s)
nesting (_ ∷ s) = nesting s

abbrev pub Nestings : Type 0
Nestings = Option (List ℕ × List Sym)

abbrev pub onward : Option (List Sym) → (List Sym → Nestings) → Nestings
onward None go = None
onward (Some s) go = option_and_then (λ p. Some (nesting s ∷ p.0, p.1)) (go s)

-- the nesting after each token, and the final stack
abbrev pub nestings : List Terminal → List Sym → Nestings
nestings [] s = Some ([], s)
nestings (t ∷ ts) s = onward (consume t.word t.text s) (nestings ts)

-- a fault: its number and its offset
abbrev pub PlacedFault : Type 0
PlacedFault = ℕ × ℕ

-- the limit that an expected token breaks, where n functions have begun and the nesting is d
abbrev pub broken : ℕ → Terminal → ℕ → Option ℕ
broken n t d =
    if same_word t.word word.Number && nat_lt 9223372036854775807 (decimal 0 t.text) then Some fault.number_out_of_range
    else if same_word t.word word.Name && nat_lt 32 (length t.text) then Some fault.name_too_long
    else if is_fn t.word && nat_lt 1023 n then Some fault.too_many_functions
    else if nat_lt 64 d then Some fault.nested_too_deep
    else None

abbrev pub unless_broken : Option ℕ → ℕ → Option PlacedFault → Option PlacedFault
unless_broken None at o = o
unless_broken (Some k) at o = Some (k, at)

abbrev pub verdict : ℕ → Terminal → Option (List Sym) → (List Sym → Option PlacedFault) → Option PlacedFault
verdict n t None go = Some (fault.unexpected_token, t.at)
verdict n t (Some s) go = unless_broken (broken n t (nesting s)) t.at (go s)

abbrev pub at_stop : ℕ → LexEnd → List Sym → Option PlacedFault
at_stop end End s = if all_empty s then None else Some (fault.unexpected_end, end)
at_stop end (NotAscii place) s = Some (fault.not_ascii, place)
at_stop end (NoToken place) s = Some (fault.unexpected_token, place)

-- how many functions have begun after a token
abbrev pub begun_with : Terminal → ℕ → ℕ
begun_with t n = if is_fn t.word then suc n else n

-- the first fault of these tokens, where these symbols are expected and n functions have begun
abbrev pub judge : TextEnd → ℕ → List Sym → List Terminal → Option PlacedFault
judge e n s [] = at_stop e.end e.stop s
judge e n s (t ∷ ts) = verdict n t (consume t.word t.text s) (λ s'. judge e (begun_with t n) s' ts)
