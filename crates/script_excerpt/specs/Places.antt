-- Lines and columns of a text.
use Rattle.std.specs.Prelude.{◌≡◌, ◌+◌, ◌≤◌, ◌==◌, ℕ, List, Bool, length, take}
use Rattle.std.specs.List.{IsAfterLastMatch, filter}

abbrev pub is_feed : ℕ → Bool
is_feed byte = byte == 10

-- the line number of byte `at`, from 1
abbrev pub line_of : List ℕ → ℕ → ℕ
line_of text at = length (filter is_feed (take at text)) + 1

-- The line of byte `at` begins here: after the last line feed before it, or at the start of the text.
pub record IsLineStart (text : List ℕ) (at start : ℕ) : Type 0 where
  pub before : start ≤ at
  pub begins : IsAfterLastMatch is_feed (take at text) start

-- the column of byte `at`, from 1
abbrev pub IsColumn : List ℕ → ℕ → ℕ → Type 0
IsColumn text at column = (start : ℕ) × IsLineStart text at start × (start + column ≡ at + 1)
