-- The first rule that the words after the command break, and where.
use Rattle.std.specs.Prelude.{ℕ, zero, suc, ◌+◌, ◌*◌, ◌/◌, Bool, false, not, nat_eq, nat_le, is_some, if◌then◌else◌, Option, Some, None, option_and_then, List, [], ◌∷◌, length, codes}
use Rattle.std.specs.List.{starts_with}
use Rattle.std.specs.Option.{option_or}
use Rattle.ped_words.specs.Numbers.{list_rule, number_rule}
use Rattle.ped_words.specs.Pedigrees.{ped_rule}
use Rattle.ped_words.specs.Rules.{broken_at}
use Rattle.ped_words.specs.Table.{value_type_of, name_of, shape_of, show_of, takes_option}
use Rattle.ped_words.specs.Values.{OptionValues, has, name_word, value_word, option_values}
use Rattle.ped_words.specs.declared.rule.Rule.{Rule}
use Rattle.ped_words.specs.declared.rule.Rule.TheVariants as rule
use Rattle.ped_words.specs.declared.rule.WordError.{WordError}
use Rattle.ped_words.specs.declared.table.ValueType.{ValueType}
use Rattle.ped_words.specs.declared.table.ValueType.TheVariants as value_type
use Rattle.ped_words.specs.declared.table.OptionName.{OptionName}
use Rattle.ped_words.specs.declared.table.Subcommand.{Subcommand}

-- the first of these rules that is broken; each comes with whether it is
abbrev pub first_broken_rule : List (Rule × Bool) → Option Rule
first_broken_rule [] = None
first_broken_rule (here ∷ others) = if here.1 then Some here.0 else first_broken_rule others

-- whether there is a name for which this holds
abbrev pub holds_of : (OptionName → Bool) → Option OptionName → Bool
holds_of test None = false
holds_of test (Some n) = test n

-- The rules for a word that must name an option, in the order in which they are judged: it begins as names do, it names
-- an option that the command has, that option wasn't given before, and a word follows.
abbrev pub name_rules : Subcommand → OptionValues → List ℕ → Bool → List (Rule × Bool)
name_rules subcommand given word is_last =
    (rule.StrayWord, not (starts_with nat_eq word (codes "--"))) ∷
    (rule.UnknownOption, not (holds_of (takes_option subcommand) (name_of word))) ∷
    (rule.OptionTwice, holds_of (has given) (name_of word)) ∷
    (rule.MissingValue, is_last) ∷
    []

-- the first rule that a word breaks which must name an option
abbrev pub name_rule : Subcommand → OptionValues → List ℕ → Bool → Option Rule
name_rule subcommand given word is_last = first_broken_rule (name_rules subcommand given word is_last)

-- the rule that the word breaks as a value of this type
abbrev pub type_rule : ValueType → List ℕ → Option Rule
type_rule (value_type.Number least most) word = number_rule least most word
type_rule (value_type.Numbers most) word = list_rule most word
type_rule value_type.Pedigree word = ped_rule word
type_rule value_type.Show word = if is_some (show_of word) then None else Some rule.BadValue
type_rule value_type.Shape word = if is_some (shape_of word) then None else Some rule.BadValue

-- the rule that the word breaks as the value of this option
abbrev pub value_rule : OptionName → List ℕ → Option Rule
value_rule n word = type_rule (value_type_of n) word

-- the first rule that the name of pair k breaks, given the pairs before it
abbrev pub broken_name : Subcommand → List (List ℕ) → ℕ → Option Rule
broken_name subcommand words k = name_rule subcommand (option_values words k) (name_word words k) (nat_le (length words) (2 * k + 2))

-- the rule that the value of pair k breaks, as the value of the option that is named before it
abbrev pub broken_value : List (List ℕ) → ℕ → Option Rule
broken_value words k = option_and_then (λ n. value_rule n (value_word words k)) (name_of (name_word words k))

-- the first rule that pair k breaks
abbrev pub broken_pair : Subcommand → List (List ℕ) → ℕ → Option WordError
broken_pair subcommand words k = option_or (broken_at (2 * k + 1) (broken_name subcommand words k)) (broken_at (2 * k + 2) (broken_value words k))

-- the first of `f 0`, .., `f (n - 1)` that isn't `None`
abbrev pub first_below : {X : Type 0} → (ℕ → Option X) → ℕ → Option X
first_below f zero = None
first_below f (suc n) = option_or (first_below f n) (f n)

-- how many pairs there are; a last name without a value counts as one
abbrev pub pairs_in : List (List ℕ) → ℕ
pairs_in words = length words / 2

-- the first rule that a word after the command breaks
abbrev pub first_broken : Subcommand → List (List ℕ) → Option WordError
first_broken subcommand words = first_below (broken_pair subcommand words) (pairs_in words)
