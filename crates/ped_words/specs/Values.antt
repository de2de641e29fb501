-- The values of the options. After the command come pairs of a name and a value: pair k, from 0, is the words 2k + 1
-- and 2k + 2.
use Rattle.std.specs.Prelude.{ℕ, zero, suc, ◌+◌, ◌*◌, ◌≤◌, Bool, false, ◌||◌, ◌==◌, if◌then◌else◌, is_some, option_and_then, Option, Some, None, List, []}
use Rattle.std.specs.List.{slice_index_or}
use Rattle.std.specs.Option.{option_map}
use Rattle.ped_gen.specs.declared.shape.Shape.{Shape}
use Rattle.serial_meaning.specs.declared.plan.Show.{Show}
use Rattle.ped_words.specs.Numbers.{list_rule, number_rule, numbers_of, number_in_word}
use Rattle.ped_words.specs.Pedigrees.{ped_of, ped_rule}
use Rattle.ped_words.specs.Rules.{when_unbroken}
use Rattle.ped_words.specs.Table.{value_type_of, name_of, option_number, shape_of, show_of}
use Rattle.ped_words.specs.declared.table.ValueType.{ValueType}
use Rattle.ped_words.specs.declared.table.ValueType.TheVariants as value_type
use Rattle.ped_words.specs.declared.table.OptionName.{OptionName}
use Rattle.ped_words.specs.declared.table.OptionName.TheVariants as name

-- for each option that was given, the word that is its value, and the index of that word
abbrev pub OptionValues : Type 0
OptionValues = OptionName → Option (List ℕ × ℕ)

abbrev pub word_at : List (List ℕ) → ℕ → List ℕ
word_at words i = slice_index_or words i []

abbrev pub name_word : List (List ℕ) → ℕ → List ℕ
name_word words k = word_at words (2 * k + 1)

abbrev pub value_word : List (List ℕ) → ℕ → List ℕ
value_word words k = word_at words (2 * k + 2)

abbrev pub is_option : Option OptionName → OptionName → Bool
is_option None n = false
is_option (Some m) n = option_number m == option_number n

-- the values that the first k pairs give; a later pair wins
abbrev pub option_values : List (List ℕ) → ℕ → OptionValues
option_values words zero n = None
option_values words (suc k) n = if is_option (name_of (name_word words k)) n then Some (value_word words k, 2 * k + 2) else option_values words k n

-- the index of an option's value
abbrev pub value_index : OptionValues → OptionName → Option ℕ
value_index values n = option_map (λ w. w.1) (values n)

-- Whether an option was given. `--seed` and `--gamma` exclude each other, so each counts as the other.
abbrev pub has : OptionValues → OptionName → Bool
has values name.Seed = is_some (values name.Seed) || is_some (values name.Gamma)
has values name.Gamma = is_some (values name.Seed) || is_some (values name.Gamma)
has values n = is_some (values n)

-- A word read as a value of some type; none where it breaks the type's rule.

abbrev pub number_as : ValueType → List ℕ → Option ℕ
number_as (value_type.Number least most) word = when_unbroken (number_rule least most word) (number_in_word word)
number_as _ word = None

abbrev pub list_as : ValueType → List ℕ → Option (List ℕ)
list_as (value_type.Numbers most) word = when_unbroken (list_rule most word) (numbers_of word)
list_as _ word = None

abbrev pub pedigree_in : List ℕ → Option (List ℕ)
pedigree_in word = when_unbroken (ped_rule word) (ped_of word)

-- The values of the options that were given, by type.

abbrev pub value : {X : Type 0} → (List ℕ → Option X) → OptionValues → OptionName → Option X
value read values n = option_and_then (λ w. read w.0) (values n)

abbrev pub number_value : OptionValues → OptionName → Option ℕ
number_value values n = value (number_as (value_type_of n)) values n

abbrev pub list : OptionValues → OptionName → Option (List ℕ)
list values n = value (list_as (value_type_of n)) values n

abbrev pub pedigree : OptionValues → Option (List ℕ)
pedigree values = value pedigree_in values name.At

abbrev pub show : OptionValues → Option Show
show values = value show_of values name.Show

abbrev pub shape : OptionValues → Option Shape
shape values = value shape_of values name.Shape

-- The number is in the range of its type.
abbrev pub IsInRange : ValueType → ℕ → Type 0
IsInRange (value_type.Number least most) n = (least ≤ n) × (n ≤ most)
IsInRange _ n = ⊥
