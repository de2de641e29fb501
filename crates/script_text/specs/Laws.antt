-- Laws of texts. Each is the contract of a function of the module `laws`.
use Rattle.std.specs.Prelude.{◌≡◌, ◌≢◌, ◌↔◌, ℕ, ◌≤◌, Bool, true, false, not, ◌&&◌, ◌==◌, nat_lt, List, [], ◌∷◌, ◌++◌, length, take, drop, Some}
use Rattle.std.specs.List.{list_all}
use Rattle.script_tokens.specs.Lexing.{is_blank, gap_length}
use Rattle.script_grammar.specs.declared.tree.Function.{Function}
use Rattle.script_grammar.specs.declared.tree.Script.{Script}
use Rattle.script_grammar.specs.Grammar.{Terminal, IsScript}
use Rattle.script_grammar.specs.Nesting.{functions_nesting}
use Rattle.script_grammar.specs.Text.{Text, SyntaxFault}
use Rattle.script_text.specs.Faults.{IsFirstFault}
use Rattle.script_text.specs.Machine.{functions, nestings}

-- a text has at most one tree
abbrev pub TreeIsUnique : Type 0
TreeIsUnique = (bytes : List ℕ) (first second : Script) → Text bytes first → Text bytes second → first ≡ second

-- and at most one fault
abbrev pub FaultIsUnique : Type 0
FaultIsUnique = (bytes : List ℕ) (number at other place : ℕ) → SyntaxFault bytes number at → SyntaxFault bytes other place → (number ≡ other) × (at ≡ place)

-- The fault of a text is the first of all that it has, and at one offset the one with the least number.
abbrev pub FaultIsFirst : Type 0
FaultIsFirst = (bytes : List ℕ) (number at : ℕ) → SyntaxFault bytes number at ↔ IsFirstFault bytes number at

-- The text of a script has none.
abbrev pub TreeExcludesFault : Type 0
TreeExcludesFault = (bytes : List ℕ) (script : Script) (number at : ℕ) → Text bytes script → SyntaxFault bytes number at → ⊥

-- Gaps

-- a byte that a comment may contain
abbrev pub is_comment_byte : ℕ → Bool
is_comment_byte b = nat_lt b 128 && not (b == 10)

-- a comment ends before these bytes
abbrev pub EndsComment : List ℕ → Type 0
EndsComment [] = Unit {0}
EndsComment (b ∷ bs) = is_comment_byte b ≡ false

-- The first list is a gap, a list of blanks and comments, followed by the second. A comment is `#` (35) and all bytes after it that
-- may belong to it.
pub data IsGap : List ℕ → List ℕ → Type 0 where
  nothing : {rest : List ℕ} → IsGap [] rest
  blank : {b : ℕ} {gap rest : List ℕ} → is_blank b ≡ true → IsGap gap rest → IsGap (b ∷ gap) rest
  comment : (text : List ℕ) {gap rest : List ℕ} → list_all is_comment_byte text ≡ true → EndsComment (gap ++ rest) → IsGap gap rest → IsGap (35 ∷ (text ++ gap)) rest

-- neither a blank nor a comment follows
abbrev pub BeginsNoGap : List ℕ → Type 0
BeginsNoGap [] = Unit {0}
BeginsNoGap (b ∷ bs) = (is_blank b ≡ false) × (b ≢ 35)

-- the gap before a token is a list of blanks and comments, and is as long as can be
abbrev pub GapsAreBlanksAndComments : Type 0
GapsAreBlanksAndComments =
    (bytes : List ℕ) → let n = gap_length bytes in (n ≤ length bytes) × IsGap (take n bytes) (drop n bytes) × BeginsNoGap (drop n bytes)

-- Nesting

-- The nesting at each token of a script counts what is open there: the closing brackets and ends of a unary minus's operand that
-- the machine still expects after the token. After the last token it expects nothing more.
abbrev pub NestingCountsOpen : Type 0
NestingCountsOpen = (tokens : List Terminal) (fs : List Function) → (d : IsScript tokens fs) → nestings tokens (functions ∷ []) ≡ Some (functions_nesting d 0, functions ∷ [])
