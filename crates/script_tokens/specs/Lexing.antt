-- How a text is cut into tokens of a version: each is the longest that fits, with only blanks and comments between them.
use Rattle.std.specs.Prelude.{◌≡◌, ℕ, suc, ◌+◌, ◌-◌, ◌<◌, ◌≤◌, Bool, List, [], ◌∷◌, length, take, drop, slice_range, Option, Some, None, Result, Ok, Err, ◌||◌, ◌==◌, nat_lt, if◌then◌else◌}
use Rattle.script_tokens.specs.declared.version.Version.{Version}
use Rattle.script_tokens.specs.declared.token.Word.{Word}
use Rattle.script_tokens.specs.declared.token.Lexeme.{Lexeme}
use Rattle.script_tokens.specs.declared.lexing.LexEnd.{LexEnd}
use Rattle.script_tokens.specs.declared.lexing.LexEnd.TheVariants.{End, NotAscii, NoToken}
use Rattle.script_tokens.specs.declared.lexing.TokenError.{TokenError}
use Rattle.script_tokens.specs.declared.lexing.TokenError.TheVariants as token_error
use Rattle.script_tokens.specs.declared.token.Token.{Token}
use Rattle.script_tokens.specs.declared.token.TokenKind.TheVariants as kinds
use Rattle.script_tokens.specs.Version.{version_of, begins_at}
use Rattle.script_tokens.specs.Word.{word_of, kind_of}

-- space, tab, carriage return, line feed
abbrev pub is_blank : ℕ → Bool
is_blank b = b == 32 || b == 9 || b == 13 || b == 10

-- The length of the blanks and comments that the bytes begin with. A comment begins with `#` (35) and lasts up to the next line
-- feed (10), which is a blank, or to the end of the text. A byte from 128 on is in no comment, and ends the gap.
abbrev mutual
  pub gap_length : List ℕ → ℕ
  gap_length [] = 0
  gap_length (b ∷ bs) = if is_blank b then suc (gap_length bs) else if b == 35 then suc (comment_length bs) else 0

  -- the same after the `#`
  pub comment_length : List ℕ → ℕ
  comment_length [] = 0
  comment_length (b ∷ bs) = if b == 10 then suc (gap_length bs) else if nat_lt b 128 then suc (comment_length bs) else 0

-- the first n bytes are this token, and no longer prefix is a token
pub record IsLongest (version : Version) (bytes : List ℕ) (n : ℕ) (word : Word) : Type 0 where
  pub within : n ≤ length bytes
  pub token : word_of version (take n bytes) ≡ Some word
  pub longest : (m : ℕ) → n < m → m ≤ length bytes → word_of version (take m bytes) ≡ None

-- no prefix of the bytes is a token
abbrev pub BeginsNoToken : Version → List ℕ → Type 0
BeginsNoToken version bytes = (m : ℕ) → m ≤ length bytes → word_of version (take m bytes) ≡ None

-- the longest token that the bytes begin with and its length, or none
abbrev pub Fronts : Version → List ℕ → Option (Word × ℕ) → Type 0
Fronts version bytes None = BeginsNoToken version bytes
Fronts version bytes (Some front) = IsLongest version bytes front.1 front.0

abbrev pub lexeme : Word → ℕ → ℕ → Lexeme
lexeme word start end = record { word = word; start = start; end = end }

-- What is at the offset `at` of a text, of which `bytes` is the rest from there on: a lexeme, or why there is none.
pub data LexemeAt (version : Version) : (at : ℕ) → (bytes : List ℕ) → Result Lexeme LexEnd → Type 0 where
  token : {at n : ℕ} {bytes : List ℕ} {word : Word} → IsLongest version bytes n word → LexemeAt version at bytes (Ok (lexeme word at (at + n)))
  the_end : {at : ℕ} → LexemeAt version at [] (Err End)
  not_ascii : {at b : ℕ} {bs : List ℕ} → 128 ≤ b → LexemeAt version at (b ∷ bs) (Err (NotAscii at))
  no_token : {at b : ℕ} {bs : List ℕ} → b < 128 → BeginsNoToken version (b ∷ bs) → LexemeAt version at (b ∷ bs) (Err (NoToken at))

-- What comes after the gap at the offset `from`, where `left` is the rest of the text from there on.
abbrev pub Comes : (version : Version) → (from : ℕ) → (left : List ℕ) → Result Lexeme LexEnd → Type 0
Comes version from left next = LexemeAt version (from + gap_length left) (drop (gap_length left) left) next

-- From the offset `from` on, where `left` is the rest of the text, these are the lexemes, and this is why they end.
pub data Lexes (version : Version) : (from : ℕ) → (left : List ℕ) → List Lexeme → LexEnd → Type 0 where
  stops : {from : ℕ} {left : List ℕ} {stop : LexEnd} → Comes version from left (Err stop) → Lexes version from left [] stop
  goes_on : {from : ℕ} {left : List ℕ} {l : Lexeme} {ls : List Lexeme} {stop : LexEnd} →
      Comes version from left (Ok l) → Lexes version l.end (drop (l.end - from) left) ls stop → Lexes version from left (l ∷ ls) stop

-- The text is of this version. After its version line these are the lexemes, and this is why they end.
pub record IsLexed (text : List ℕ) (version : Version) (ls : List Lexeme) (stop : LexEnd) : Type 0 where
  pub told : version ≡ version_of text
  pub cut : Lexes version (begins_at version) (drop (begins_at version) text) ls stop

-- the text of a lexeme
abbrev pub text_of : List ℕ → Lexeme → List ℕ
text_of bytes l = slice_range bytes l.start l.end

-- what `next_token` returns, of what comes next in a text of that length
abbrev pub token_of : (length : ℕ) → Result Lexeme LexEnd → Result Token TokenError
token_of length (Ok l) = Ok (record { kind = kind_of l.word; start = l.start; end = l.end })
token_of length (Err End) = Ok (record { kind = kinds.End; start = length; end = length })
token_of length (Err (NotAscii at)) = Err (token_error.NotAscii at)
token_of length (Err (NoToken at)) = Err (token_error.NoToken at)

abbrev pub NextToken : (version : Version) → (bytes : List ℕ) → (from : ℕ) → Result Token TokenError → Type 0
NextToken version bytes from result =
    (next : Result Lexeme LexEnd) × Comes version from (drop from bytes) next × (result ≡ token_of (length bytes) next)
