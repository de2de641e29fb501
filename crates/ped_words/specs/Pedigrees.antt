-- Which words are pedigrees: ranks joined by full stops. They are judged from left to right.
use Rattle.std.specs.Prelude.{◌≡◌, ℕ, ◌-◌, ◌^◌, ◌≤◌, ◌==◌, nat_lt, if◌then◌else◌, Option, Some, None, Result, Ok, Err, List, [], ◌∷◌, length, map, slice_index}
use Rattle.std.specs.Char.{is_ascii_digit}
use Rattle.std.specs.List.{slice_split, take_while}
use Rattle.std.specs.Option.{option_or}
use Rattle.ped_words.specs.Numbers.{is_number, number_in_word}
use Rattle.ped_words.specs.declared.rule.Rule.{Rule}
use Rattle.ped_words.specs.declared.rule.Rule.TheVariants.{BadValue, OutOfRange}

-- the parts of a word between its full stops
abbrev pub ranks_in : List ℕ → List (List ℕ)
ranks_in word = slice_split (λ c. c == 46) word

-- The leading digits are judged first: they must be a number, and in the range of ranks. Then nothing may follow them.
abbrev pub rank_rule : List ℕ → Option Rule
rank_rule part =
    let digits = take_while is_ascii_digit part in
    if is_number digits
    then (if nat_lt (number_in_word digits) (2 ^ 32) then (if length digits == length part then None else Some BadValue) else Some OutOfRange)
    else Some BadValue

-- the first rule that one of these ranks breaks, where there may be `room` of them
abbrev pub ranks_rule : List (List ℕ) → ℕ → Option Rule
ranks_rule [] room = None
ranks_rule (part ∷ parts) room = if room == 0 then Some OutOfRange else option_or (rank_rule part) (ranks_rule parts (room - 1))

-- a pedigree has at most this many ranks
abbrev pub most_ranks : ℕ
most_ranks = 512

-- the rule that a word breaks which must be a pedigree
unfoldable pub ped_rule : List ℕ → Option Rule
ped_rule word = ranks_rule (ranks_in word) most_ranks

unfoldable pub ped_of : List ℕ → List ℕ
ped_of word = map number_in_word (ranks_in word)

abbrev pub last_rank : List ℕ → ℕ
last_rank j = slice_index j (length j - 1)

-- The result is the pedigree of the word, or the rule that it breaks.
abbrev pub IsRead : List ℕ → Result (List ℕ) Rule → Type 0
IsRead word (Ok j) = (ped_rule word ≡ None) × (j ≡ ped_of word) × (length j ≤ most_ranks)
IsRead word (Err rule) = ped_rule word ≡ Some rule
