-- What is wrong with a text that isn't a pedigree's, read from left to right.
use Rattle.std.specs.Prelude.{◌≡◌, ◌≢◌, ℕ, ◌+◌, ◌<◌, ◌≤◌, ◌^◌, ◌⊎◌, Bool, true, false, ◌&&◌, ◌==◌, List, [], ◌∷◌, ◌++◌, length, All, decimal}
use Rattle.std.specs.Char.{is_ascii_digit}
use Rattle.std.specs.Str.Parse.{AllDigits, digits_value}
use Rattle.ped_path.specs.Path.{IsRank}
use Rattle.ped_path.specs.Text.{stopped}
use Rattle.ped_path.specs.declared.parse.PedTextError.{PedTextError}
use Rattle.ped_path.specs.declared.parse.PedTextError.TheVariants.{Empty, BadByte, Zeros, TooBig, TooLong, Memory}

abbrev pub begins_with_digit : List ℕ → Bool
begins_with_digit [] = false
begins_with_digit (c ∷ cs) = is_ascii_digit c

-- a 0 with a digit after it
abbrev pub has_needless_zero : List ℕ → Bool
has_needless_zero [] = false
has_needless_zero (c ∷ cs) = (c == 48) && begins_with_digit cs

-- The text begins with digits, without a needless zero, whose number is too large for a rank.
pub record BeginsTooBig (rest : List ℕ) : Type 0 where
  pub digits : List ℕ
  pub after : List ℕ
  pub split : rest ≡ digits ++ after
  pub numeral : AllDigits 10 digits
  pub needed : has_needless_zero rest ≡ false
  pub big : 2 ^ 32 ≤ digits_value 10 digits

-- The text begins with this rank, and no further digit follows.
pub record IsRankThen (rest : List ℕ) (rank : ℕ) (after : List ℕ) : Type 0 where
  pub bounded : IsRank rank
  pub split : rest ≡ decimal rank ++ after
  pub ended : begins_with_digit after ≡ false

-- A rank should begin here, at this offset, and this is wrong with it.
abbrev pub IsRankFault : List ℕ → ℕ → PedTextError → Type 0
IsRankFault rest start (BadByte at) = (at ≡ start) × (begins_with_digit rest ≡ false)
IsRankFault rest start (Zeros at) = (at ≡ start) × (has_needless_zero rest ≡ true)
IsRankFault rest start (TooBig at) = (at ≡ start) × BeginsTooBig rest
IsRankFault rest start Empty = ⊥
IsRankFault rest start TooLong = ⊥
IsRankFault rest start Memory = ⊥

-- The text begins with `count` ranks, each followed by a full stop, and `rest` is what follows them, from the offset `at` on.
pub record IsAfterRanks (text : List ℕ) (count at : ℕ) (rest : List ℕ) : Type 0 where
  pub ranks : List ℕ
  pub counted : length ranks ≡ count
  pub bounded : All IsRank ranks
  pub whole : text ≡ stopped ranks ++ rest
  pub offset : at ≡ length (stopped ranks)

-- One of the first 512 ranks should begin at the offset `start`, and P holds of the text from there on.
pub record RankDueAt (text : List ℕ) (start : ℕ) (P : List ℕ → Type 0) : Type 0 where
  pub count : ℕ
  pub rest : List ℕ
  pub few : count < 512
  pub front : IsAfterRanks text count start rest
  pub here : P rest

-- A rank comes first, and the byte after it, at the offset `at`, is neither a digit nor a full stop.
pub record LacksStop (start at : ℕ) (rest : List ℕ) : Type 0 where
  pub rank : ℕ
  pub byte : ℕ
  pub after : List ℕ
  pub first : IsRankThen rest rank (byte ∷ after)
  pub other : byte ≢ 46
  pub place : at ≡ start + length (decimal rank)

-- The text isn't a pedigree's, and this is the first thing wrong with it.
abbrev pub IsRefused : List ℕ → PedTextError → Type 0
IsRefused text Empty = text ≡ []
IsRefused text (BadByte at) = (text ≢ []) × (RankDueAt text at (λ rest. begins_with_digit rest ≡ false) ⊎ ((start : ℕ) × RankDueAt text start (LacksStop start at)))
IsRefused text (Zeros at) = RankDueAt text at (λ rest. has_needless_zero rest ≡ true)
IsRefused text (TooBig at) = RankDueAt text at BeginsTooBig
IsRefused text TooLong = (at : ℕ) × (rest : List ℕ) × IsAfterRanks text 512 at rest
IsRefused text Memory = Unit {0}
