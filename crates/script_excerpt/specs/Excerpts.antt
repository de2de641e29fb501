-- The lines that show a fault of a text.
use Rattle.std.specs.Prelude.{◌≡◌, ◌+◌, ◌-◌, ◌<◌, ◌≤◌, ◌⊎◌, ◌++◌, ◌==◌, ◌&&◌, ◌||◌, [], ℕ, List, Bool, bytes_eq, false, if◌then◌else◌, codes, decimal, drop, length, map, max, nat_eq, nat_le, not, take, true}
use Rattle.std.specs.List.{AllWithin, HoldsAt, starts_with}
use Rattle.script_excerpt.specs.Followers.{GoesOn}
use Rattle.script_excerpt.specs.Slips.{begins_with_word}
use Rattle.script_excerpt.specs.Places.{IsColumn, IsLineStart, is_feed, line_of}

-- the byte as it goes to a terminal: a tab and printable ASCII unchanged, any other a question mark
abbrev pub shown : ℕ → ℕ
shown byte = if byte == 9 then 9 else if nat_le 32 byte then (if nat_le byte 126 then byte else 63) else 63

-- a blank as wide: a tab for a tab, else a space
abbrev pub blank_for : ℕ → ℕ
blank_for byte = if byte == 9 then 9 else 32

-- The part `from..to` of byte `at`'s line is shown: at most 72 bytes before `at`, and 72 from it on.
pub record IsWindow (text : List ℕ) (at from to : ℕ) : Type 0 where
  pub begins : (start : ℕ) × IsLineStart text at start × (from ≡ max start (at - 72))
  pub within : (at ≤ to) × (to ≤ length text)
  pub one_line : AllWithin (λ byte. is_feed byte ≡ false) text at to
  pub ends : (to < length text) → (to < at + 72) → HoldsAt (λ byte. is_feed byte ≡ true) text to

-- the text begins with `version 2` but that line goes on, and `at` is there
abbrev pub is_at_version : List ℕ → ℕ → Bool
is_at_version text at = at == 0 && starts_with nat_eq text (codes "version 2") && not (starts_with nat_eq text (codes "version 2\n"))

-- a `return` is at `at`, and the word closes the block around it
abbrev pub is_misplaced_return : List ℕ → ℕ → List ℕ → Bool
is_misplaced_return text at word = bytes_eq word (codes "}") && starts_with nat_eq (drop at text) (codes "return")

-- a version line is at `at`, and the word makes a function of it; `version (` would be a function's name
abbrev pub is_misplaced_version : List ℕ → ℕ → List ℕ → Bool
is_misplaced_version text at word = bytes_eq word (codes "fn") && starts_with nat_eq (drop at text) (codes "version ") && not (starts_with nat_eq (drop at text) (codes "version ("))

-- the word raises a rank or begins another function, so that the script would draw other numbers
abbrev pub changes_draws : List ℕ → Bool
changes_draws word =
    bytes_eq word (codes "scope") || bytes_eq word (codes "sync") || bytes_eq word (codes "spawn") || bytes_eq word (codes "draw")
    || bytes_eq word (codes "new") || bytes_eq word (codes "pfor") || bytes_eq word (codes "fn")

-- the first letter of the word stands at `at`, alone
abbrev pub is_begun : List ℕ → ℕ → List ℕ → Bool
is_begun text at word = begins_with_word (drop at text) (take 1 word)

-- the script would draw other numbers with the word, and nothing shows that it was meant
abbrev pub is_unfit : List ℕ → ℕ → List ℕ → Bool
is_unfit text at word = changes_draws word && not (is_begun text at word)

-- the advice for a word that fits at `at`: to put it there, mostly
abbrev pub word_advice : List ℕ → ℕ → List ℕ → List ℕ
word_advice text at word =
    if is_misplaced_return text at word then codes ", return stands at the end of its function"
    else if is_misplaced_version text at word then codes ", a version's line is version 2 and begins the text"
    else if is_unfit text at word then []
    else codes ", here a " ++ word ++ codes " would do"

-- The advice after the message: about the version line, else about a word that fits at `at`, or empty.
pub record IsAdvice (text : List ℕ) (at : ℕ) (advice : List ℕ) : Type 0 where
  pub version : (is_at_version text at ≡ true) → advice ≡ codes ", the line version 2 must end right after the 2"
  pub word : (is_at_version text at ≡ false) → (advice ≡ []) ⊎ ((word : List ℕ) × GoesOn text at word × (advice ≡ word_advice text at word))

-- the line with the line number and the column
abbrev pub place_line : ℕ → ℕ → List ℕ
place_line line column = codes "line " ++ decimal line ++ codes ", column " ++ decimal column ++ codes "\n"

-- the text `from..to`, and below it blanks up to byte `at`, where the caret goes
abbrev pub text_lines : (text : List ℕ) (from at to : ℕ) → List ℕ
text_lines text from at to = map shown (drop from (take to text)) ++ codes "\n" ++ map blank_for (drop from (take at text))

-- the caret, the message and the advice
abbrev pub caret_line : List ℕ → List ℕ → List ℕ
caret_line message advice = codes "^ " ++ message ++ advice ++ codes "\n"

-- The caret's line with an advice; or without one, and then a line with the reason: how it is written in this language.
abbrev pub IsEnd : (text : List ℕ) (at : ℕ) (message end : List ℕ) → Type 0
IsEnd text at message end = ((advice : List ℕ) × IsAdvice text at advice × (end ≡ caret_line message advice))
    ⊎ ((reason : List ℕ) × (end ≡ caret_line message [] ++ reason ++ codes "\n"))

-- The lines show the position of byte `at`, the line around it, and a caret with the message.
pub record IsExcerpt (text : List ℕ) (at : ℕ) (message lines : List ℕ) : Type 0 where
  pub column : ℕ
  pub from : ℕ
  pub to : ℕ
  pub end : List ℕ
  pub is_column : IsColumn text at column
  pub is_window : IsWindow text at from to
  pub is_end : IsEnd text at message end
  pub whole : lines ≡ place_line (line_of text at) column ++ text_lines text from at to ++ end

-- The same with the message alone, without advice or reason.
pub record IsPlaceExcerpt (text : List ℕ) (at : ℕ) (message lines : List ℕ) : Type 0 where
  pub column : ℕ
  pub from : ℕ
  pub to : ℕ
  pub is_column : IsColumn text at column
  pub is_window : IsWindow text at from to
  pub whole : lines ≡ place_line (line_of text at) column ++ text_lines text from at to ++ caret_line message []
