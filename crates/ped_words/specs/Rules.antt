-- The rules for words: their numbers and texts, and which of them the text of a pedigree can break.
use Rattle.std.specs.Prelude.{◌≡◌, ℕ, nat_eq, List, [], ◌∷◌, Option, Some, None, Result, Ok, Err, if◌then◌else◌, codes}
use Rattle.std.specs.Option.{option_map}
use Rattle.ped_path.specs.declared.parse.PedTextError.{PedTextError}
use Rattle.ped_path.specs.declared.parse.PedTextError.TheVariants as text
use Rattle.ped_words.specs.declared.rule.Rule.{Rule}
use Rattle.ped_words.specs.declared.rule.Rule.TheVariants.{NoCommand, UnknownCommand, UnknownOption, OptionTwice, MissingValue, BadValue, OutOfRange, MissingOption, StrayWord}
use Rattle.ped_words.specs.declared.rule.WordError.{WordError}
use Rattle.ped_words.specs.declared.rule.WordError.TheVariants.{Bad, Memory}

abbrev pub number_of : Rule → ℕ
number_of NoCommand = 1
number_of UnknownCommand = 2
number_of UnknownOption = 3
number_of OptionTwice = 4
number_of MissingValue = 5
number_of BadValue = 6
number_of OutOfRange = 7
number_of MissingOption = 8
number_of StrayWord = 9

-- the one of these rules that has this number, `StrayWord` where none has
abbrev pub rule_among : List Rule → ℕ → Rule
rule_among [] number = StrayWord
rule_among (rule ∷ rules) number = if nat_eq number (number_of rule) then rule else rule_among rules number

abbrev pub rule_of : ℕ → Rule
rule_of =
    rule_among (NoCommand ∷ UnknownCommand ∷ UnknownOption ∷ OptionTwice ∷ MissingValue ∷ BadValue ∷ OutOfRange ∷ MissingOption ∷ [])

-- the rule's text
abbrev pub rule_name : Rule → List ℕ
rule_name NoCommand = codes "no command"
rule_name UnknownCommand = codes "unknown command"
rule_name UnknownOption = codes "unknown option"
rule_name OptionTwice = codes "option twice"
rule_name MissingValue = codes "missing value"
rule_name BadValue = codes "bad value"
rule_name OutOfRange = codes "out of range"
rule_name MissingOption = codes "missing option"
rule_name StrayWord = codes "stray word"

abbrev pub rule_text : ℕ → List ℕ
rule_text number = rule_name (rule_of number)

-- the rule that a text breaks which isn't a pedigree
abbrev pub text_rule : PedTextError → Option Rule
text_rule text.Empty = Some BadValue
text_rule (text.BadByte at) = Some BadValue
text_rule (text.Zeros at) = Some BadValue
text_rule (text.TooBig at) = Some OutOfRange
text_rule text.TooLong = Some OutOfRange
text_rule text.Memory = None

-- the error that this rule is broken at the word with this index
abbrev pub breaks : Rule → ℕ → WordError
breaks rule at = Bad (number_of rule) at

abbrev pub broken_at : ℕ → Option Rule → Option WordError
broken_at at rule = option_map (λ r. breaks r at) rule

-- the value of a word that breaks no rule
abbrev pub when_unbroken : {X : Type 0} → Option Rule → X → Option X
when_unbroken None x = Some x
when_unbroken (Some rule) x = None

-- the error if there is one, else this
abbrev pub unless_error : {X : Type 0} → Option WordError → Result X WordError → Result X WordError
unless_error None r = r
unless_error (Some e) r = Err e

-- The error is the rule that is broken, or memory ran out.
abbrev pub IsRefusal : Option WordError → WordError → Type 0
IsRefusal broken (Bad number at) = broken ≡ Some (Bad number at)
IsRefusal broken Memory = Unit {0}

-- The result is as expected, or memory ran out.
abbrev pub IsUnlessMemory : {X : Type 0} → Result X WordError → Result X WordError → Type 0
IsUnlessMemory expected (Ok x) = expected ≡ Ok x
IsUnlessMemory expected (Err (Bad number at)) = expected ≡ Err (Bad number at)
IsUnlessMemory expected (Err Memory) = Unit {0}
