-- The numbers of the faults of a text, and their names.
use Rattle.std.specs.Prelude.{ℕ, nat_eq, List, [], ◌∷◌, if◌then◌else◌, codes}
use Rattle.script_grammar.specs.FaultNumbers as fault
use Rattle.script_text.specs.declared.fault.TextFault.{TextFault}
use Rattle.script_text.specs.declared.fault.TextFault.TheVariants.{NotAscii, UnexpectedToken, NumberOutOfRange, NameTooLong, NestedTooDeep, UnexpectedEnd, TooManyFunctions}

abbrev pub number_of : TextFault → ℕ
number_of NotAscii = fault.not_ascii
number_of UnexpectedToken = fault.unexpected_token
number_of NumberOutOfRange = fault.number_out_of_range
number_of NameTooLong = fault.name_too_long
number_of NestedTooDeep = fault.nested_too_deep
number_of UnexpectedEnd = fault.unexpected_end
number_of TooManyFunctions = fault.too_many_functions

-- the fault with this number among these, or the last one
abbrev pub fault_among : List TextFault → ℕ → TextFault
fault_among [] number = TooManyFunctions
fault_among (fault ∷ faults) number = if nat_eq number (number_of fault) then fault else fault_among faults number

abbrev pub fault_of : ℕ → TextFault
fault_of = fault_among (NotAscii ∷ UnexpectedToken ∷ NumberOutOfRange ∷ NameTooLong ∷ NestedTooDeep ∷ UnexpectedEnd ∷ [])

-- a fault's name
abbrev pub fault_name : TextFault → List ℕ
fault_name NotAscii = codes "not ASCII"
fault_name UnexpectedToken = codes "unexpected token"
fault_name NumberOutOfRange = codes "number out of range"
fault_name NameTooLong = codes "name too long"
fault_name NestedTooDeep = codes "nested too deep"
fault_name UnexpectedEnd = codes "unexpected end"
fault_name TooManyFunctions = codes "too many functions"

abbrev pub fault_text : ℕ → List ℕ
fault_text number = fault_name (fault_of number)
