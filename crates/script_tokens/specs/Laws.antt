-- Laws of the lexemes of every text, in each version.
use Rattle.std.specs.Prelude.{◌≡◌, ◌↔◌, ℕ, true, not, suc, ◌+◌, ◌<◌, ◌≤◌, List, [], ◌∷◌, ◌++◌, length, take, drop, All, Some, None, Result}
use Rattle.std.specs.List.{list_all}
use Rattle.script_tokens.specs.declared.version.Version.{Version}
use Rattle.script_tokens.specs.declared.version.Version.TheVariants.{One, Two}
use Rattle.script_tokens.specs.declared.token.Word.{Word}
use Rattle.script_tokens.specs.declared.token.Lexeme.{Lexeme}
use Rattle.script_tokens.specs.declared.token.Token.{Token}
use Rattle.script_tokens.specs.declared.lexing.LexEnd.{LexEnd}
use Rattle.script_tokens.specs.declared.lexing.TokenError.{TokenError}
use Rattle.script_tokens.specs.Version.{version_line, version_of}
use Rattle.script_tokens.specs.Word.{word_of, is_scope}
use Rattle.script_tokens.specs.Lexing.{IsLongest, Lexes, NextToken, text_of}

-- a token that some bytes begin with is the longest one there if it and the byte after it are no token
abbrev pub OneMoreByteDecides : Type 0
OneMoreByteDecides =
    (version : Version) (bytes : List ℕ) (n : ℕ) (w : Word) → n ≤ length bytes → word_of version (take n bytes) ≡ Some w →
    (n < length bytes → word_of version (take (suc n) bytes) ≡ None) → IsLongest version bytes n w

-- every text can be cut into lexemes
abbrev pub EveryTextIsCut : Type 0
EveryTextIsCut = (version : Version) (from : ℕ) (left : List ℕ) → (ls : List Lexeme) × (stop : LexEnd) × Lexes version from left ls stop

-- a text is cut into lexemes in only one way
abbrev pub LexingIsUnique : Type 0
LexingIsUnique =
    (version : Version) (from : ℕ) (left : List ℕ) (ls ms : List Lexeme) (stop end : LexEnd) →
    Lexes version from left ls stop → Lexes version from left ms end → (ls ≡ ms) × (stop ≡ end)

-- `next_token` has one answer
abbrev pub NextTokenIsUnique : Type 0
NextTokenIsUnique =
    (version : Version) (bytes : List ℕ) (from : ℕ) (r s : Result Token TokenError) → NextToken version bytes from r → NextToken version bytes from s → r ≡ s

-- no lexeme is empty, each begins where the one before it ended or later, and all are between `from` and `end`
abbrev pub InOrder : (from end : ℕ) → List Lexeme → Type 0
InOrder from end [] = from ≤ end
InOrder from end (l ∷ ls) = (from ≤ l.start) × (l.start < l.end) × InOrder l.end end ls

abbrev pub LexemesStandInOrder : Type 0
LexemesStandInOrder =
    (version : Version) (from : ℕ) (left : List ℕ) (ls : List Lexeme) (stop : LexEnd) → Lexes version from left ls stop → InOrder from (from + length left) ls

-- a lexeme's text is the token that its word says
abbrev pub LexemesAreTokens : Type 0
LexemesAreTokens =
    (version : Version) (text : List ℕ) (from : ℕ) (ls : List Lexeme) (stop : LexEnd) → from ≤ length text → Lexes version from (drop from text) ls stop →
    All (λ l. word_of version (text_of text l) ≡ Some l.word) ls

-- no lexeme of version 1 is the keyword `scope`
abbrev pub VersionOneHasNoScope : Type 0
VersionOneHasNoScope =
    (from : ℕ) (left : List ℕ) (ls : List Lexeme) (stop : LexEnd) → Lexes One from left ls stop → list_all (λ l. not (is_scope l.word)) ls ≡ true

-- a text is of version 2 exactly where it begins with the version line
abbrev pub VersionsBegin : Type 0
VersionsBegin = (text : List ℕ) → (version_of text ≡ Two) ↔ ((rest : List ℕ) × (text ≡ version_line ++ rest))
