-- The numbers of the conditions of a valid script, and their names.
use Rattle.std.specs.Prelude.{ℕ, nat_eq, List, [], ◌∷◌, if◌then◌else◌, codes}
use Rattle.script_check.specs.declared.condition.Condition.{Condition}
use Rattle.script_check.specs.declared.condition.Condition.TheVariants.{NoMain, MainHasParameters, FunctionTwice, VariableTwice, UnknownFunction, UnknownVariable, WrongNumberOfArguments, WrongKind, PendingVariable, LetInABlock, TooManyVariables, ArrayLength}

abbrev pub number_of : Condition → ℕ
number_of NoMain = 1
number_of MainHasParameters = 2
number_of FunctionTwice = 3
number_of VariableTwice = 4
number_of UnknownFunction = 5
number_of UnknownVariable = 6
number_of WrongNumberOfArguments = 7
number_of WrongKind = 8
number_of PendingVariable = 9
number_of LetInABlock = 10
number_of TooManyVariables = 11
number_of ArrayLength = 12

-- the condition with this number among these, or the last one
abbrev pub condition_among : List Condition → ℕ → Condition
condition_among [] number = ArrayLength
condition_among (condition ∷ conditions) number =
    if nat_eq number (number_of condition) then condition else condition_among conditions number

abbrev pub condition_of : ℕ → Condition
condition_of =
    condition_among
    (NoMain ∷ MainHasParameters ∷ FunctionTwice ∷ VariableTwice ∷ UnknownFunction ∷ UnknownVariable ∷ WrongNumberOfArguments
    ∷ WrongKind ∷ PendingVariable ∷ LetInABlock ∷ TooManyVariables ∷ [])

-- a condition's name
abbrev pub condition_name : Condition → List ℕ
condition_name NoMain = codes "no main"
condition_name MainHasParameters = codes "main has parameters"
condition_name FunctionTwice = codes "function twice"
condition_name VariableTwice = codes "variable twice"
condition_name UnknownFunction = codes "unknown function"
condition_name UnknownVariable = codes "unknown variable"
condition_name WrongNumberOfArguments = codes "wrong number of arguments"
condition_name WrongKind = codes "wrong kind"
condition_name PendingVariable = codes "pending variable"
condition_name LetInABlock = codes "let in a block"
condition_name TooManyVariables = codes "too many variables"
condition_name ArrayLength = codes "array length"

abbrev pub condition_text : ℕ → List ℕ
condition_text number = condition_name (condition_of number)
