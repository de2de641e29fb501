-- The words of a command line as the code keeps them, and what it finds there: the index of an option's value, its
-- number or list, and how many options were given.
use Rattle.std.specs.Prelude.{◌≡◌, ℕ, ◌+◌, ◌^◌, ◌<◌, ◌≤◌, Bool, true, if◌then◌else◌, is_some, Option, Some, None, List, [], ◌∷◌, length}
use Rattle.ped_words.specs.Numbers.{are_few}
use Rattle.ped_words.specs.Table.{value_type_of}
use Rattle.ped_words.specs.Values.{OptionValues, IsInRange, value_index, list, number_value, option_values, word_at}
use Rattle.ped_words.specs.declared.table.ValueType.{ValueType}
use Rattle.ped_words.specs.declared.table.ValueType.TheVariants as value_type
use Rattle.ped_words.specs.declared.table.OptionName.{OptionName}
use Rattle.ped_words.specs.declared.table.OptionName.TheVariants as name

-- the words of a command line, and how many pairs after the command are taken into account
pub record GivenWords : Type 0 where
  pub words : List (List ℕ)
  pub pairs : ℕ

abbrev pub values_in : GivenWords → OptionValues
values_in given = option_values given.words given.pairs

-- The value of option `n` among the first `k` pairs, if they give it, is the word at this index.
abbrev pub IsValueIndex : List (List ℕ) → ℕ → OptionName → Option ℕ → Type 0
IsValueIndex words k n None = option_values words k n ≡ None
IsValueIndex words k n (Some at) = (option_values words k n ≡ Some (word_at words at, at)) × (at < length words)

-- The type's numbers are below 2^32.
abbrev pub IsSmall : ValueType → Type 0
IsSmall (value_type.Number least most) = most < 2 ^ 32
IsSmall _ = ⊥

-- The option's value is this number, and its word has this index.
abbrev pub IsIndexedNumber : OptionValues → OptionName → Option (ℕ × ℕ) → Type 0
IsIndexedNumber values n None = number_value values n ≡ None
IsIndexedNumber values n (Some indexed) = (number_value values n ≡ Some indexed.0) × (value_index values n ≡ Some indexed.1) × IsInRange (value_type_of n) indexed.0

-- The option's value is this list, and its word has this index.
abbrev pub IsIndexedList : OptionValues → OptionName → Option (List ℕ × ℕ) → Type 0
IsIndexedList values n None = list values n ≡ None
IsIndexedList values n (Some indexed) = (list values n ≡ Some indexed.0) × (value_index values n ≡ Some indexed.1)

-- The type is a list that may have this many numbers.
abbrev pub HasCount : ValueType → ℕ → Type 0
HasCount (value_type.Numbers most) n = (1 ≤ n) × (are_few most n ≡ true)
HasCount _ n = ⊥

abbrev pub all_names : List OptionName
all_names =
    name.Seed ∷ name.Gamma ∷ name.Depth ∷ name.Budget ∷ name.Workers ∷ name.Show ∷ name.Number ∷ name.At ∷ name.Shape ∷ name.Size ∷ name.Rounds ∷ name.Count ∷ name.Below ∷ name.Seeds ∷ []

abbrev pub one_of : Bool → ℕ
one_of b = if b then 1 else 0

-- how many of these options are given
abbrev pub count_among : List OptionName → OptionValues → ℕ
count_among [] values = 0
count_among (n ∷ names) values = one_of (is_some (values n)) + count_among names values

abbrev pub given_count : OptionValues → ℕ
given_count values = count_among all_names values
