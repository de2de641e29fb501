-- Which words are numbers in a range, and lists of numbers.
use Rattle.std.specs.Prelude.{◌≡◌, ℕ, ◌^◌, Bool, true, false, ◌&&◌, ◌||◌, ◌==◌, not, nat_le, nat_lt, if◌then◌else◌, Option, Some, None, List, length, map, slice_index}
use Rattle.std.specs.List.{list_all, slice_split}
use Rattle.std.specs.Str.{all_ascii_digits}
use Rattle.std.specs.Str.Parse.{digits_value}
use Rattle.std.specs.Borrow.{Bor}
use Rattle.ped_words.specs.declared.rule.Rule.{Rule}
use Rattle.ped_words.specs.declared.rule.Rule.TheVariants.{BadValue, OutOfRange}

-- `0`, or digits of which the first isn't `0`
abbrev pub is_number : List ℕ → Bool
is_number word = nat_lt 0 (length word) && (all_ascii_digits word && (nat_le (length word) 1 || not (slice_index word 0 == 48)))

abbrev pub number_in_word : List ℕ → ℕ
number_in_word word = digits_value 10 word

-- the rule that a word breaks which must be a number in this range
abbrev pub number_rule : ℕ → ℕ → List ℕ → Option Rule
number_rule least most word = if is_number word then (if nat_le least (number_in_word word) && nat_le (number_in_word word) most then None else Some OutOfRange) else Some BadValue

-- the parts of a word between its commas
abbrev pub parts_of : List ℕ → List (List ℕ)
parts_of word = slice_split (λ c. c == 44) word

-- whether the count is within the limit, if there is one
abbrev pub are_few : Option ℕ → ℕ → Bool
are_few None count = true
are_few (Some most) count = nat_le count most

-- the rule that a word breaks which must be numbers joined by commas, within a limit: the form of all is judged before
-- any range
abbrev pub list_rule : Option ℕ → List ℕ → Option Rule
list_rule most word =
    if list_all is_number (parts_of word)
    then (if are_few most (length (parts_of word)) && list_all (λ part. nat_lt (number_in_word part) (2 ^ 64)) (parts_of word) then None else Some OutOfRange)
    else Some BadValue

abbrev pub numbers_of : List ℕ → List ℕ
numbers_of word = map number_in_word (parts_of word)

-- The values of these words, or `None` where one of them doesn't fit a `u64`.
abbrev pub AreValues : List (Bor (List ℕ)) → Option (List ℕ) → Type 0
AreValues words None = list_all (λ x. nat_lt (number_in_word x.now) (2 ^ 64)) words ≡ false
AreValues words (Some values) = (list_all (λ x. nat_lt (number_in_word x.now) (2 ^ 64)) words ≡ true) × (values ≡ map (λ x. number_in_word x.now) words)
