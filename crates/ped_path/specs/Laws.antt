-- Laws of the refusals of texts. Each is the contract of a function of the module `laws`.
use Rattle.std.specs.Prelude.{◌≡◌, ◌≢◌, ℕ, ◌≤◌, ◌^◌, List, ◌++◌}
use Rattle.std.specs.Str.Parse.{AllDigits, digits_value}
use Rattle.ped_path.specs.Parsing.{IsRefused, RankDueAt}
use Rattle.ped_path.specs.declared.parse.PedTextError.{PedTextError}
use Rattle.ped_path.specs.declared.parse.PedTextError.TheVariants.{Empty, BadByte, Zeros, TooBig, TooLong, Memory}

-- a text has at most one refusal
abbrev pub RefusalsAreUnique : Type 0
RefusalsAreUnique = (text : List ℕ) (e f : PedTextError) → e ≢ Memory → f ≢ Memory → IsRefused text e → IsRefused text f → e ≡ f

-- The text begins with digits whose number is too large for a rank, whether or not it has needless zeros.
pub record WritesTooBig (rest : List ℕ) : Type 0 where
  pub digits : List ℕ
  pub after : List ℕ
  pub split : rest ≡ digits ++ after
  pub numeral : AllDigits 10 digits
  pub big : 2 ^ 32 ≤ digits_value 10 digits

-- the text breaks this rule, whatever other rule it breaks at the same offset
abbrev pub Breaks : List ℕ → PedTextError → Type 0
Breaks text (TooBig at) = RankDueAt text at WritesTooBig
Breaks text e = IsRefused text e

abbrev pub number_of : PedTextError → ℕ
number_of Empty = 1
number_of (BadByte at) = 2
number_of (Zeros at) = 3
number_of (TooBig at) = 4
number_of TooLong = 5
number_of Memory = 6

abbrev pub place_of : PedTextError → ℕ
place_of (BadByte at) = at
place_of (Zeros at) = at
place_of (TooBig at) = at
place_of _ = 0

-- all rules that a text breaks are broken at one offset, and the refusal names the one with the least number
abbrev pub LeastRuleIsReported : Type 0
LeastRuleIsReported =
    (text : List ℕ) (told broken : PedTextError) → told ≢ Memory → broken ≢ Memory → IsRefused text told → Breaks text broken →
    (place_of told ≡ place_of broken) × (number_of told ≤ number_of broken)
