-- The rules of names, kinds and numbers, each with its violation.
use Rattle.std.specs.Prelude.{ℕ, Bool, true, false, ◌||◌, ◌&&◌, not, nat_eq, List, ◌++◌, Option, Some, None, is_some, is_none, int_lt}
use Rattle.std.specs.Prelude.{pos}
use Rattle.script_grammar.specs.declared.tree.Name.{Name}
use Rattle.script_grammar.specs.declared.tree.Number.{Number}
use Rattle.script_grammar.specs.declared.tree.Kind.{Kind}
use Rattle.script_grammar.specs.declared.tree.Kind.TheVariants.{Int, Id}
use Rattle.script_check.specs.declared.findings.Violation.{Violation}
use Rattle.script_check.specs.declared.variable.Variable.{Variable}
use Rattle.script_check.specs.declared.variable.Variable.TheVariants.{Scalar, Array}
use Rattle.script_check.specs.Conditions.{number_of}
use Rattle.script_check.specs.declared.condition.Condition.TheVariants.{VariableTwice, UnknownFunction, UnknownVariable, WrongNumberOfArguments, WrongKind, PendingVariable, LetInABlock, TooManyVariables, ArrayLength}
use Rattle.script_check.specs.Violations.{violation_if}
use Rattle.script_check.specs.Tables.{Table}
use Rattle.script_check.specs.Names.{NameSet}

-- the variables that are declared so far, each name by its first declaration
abbrev pub Declared : Type 0
Declared = Table Variable

-- the kind differs from the wanted one; what has no kind has a violation of its own
abbrev pub is_other_kind : Kind → Option Kind → Bool
is_other_kind Int (Some Int) = false
is_other_kind Int (Some Id) = true
is_other_kind Id (Some Int) = true
is_other_kind Id (Some Id) = false
is_other_kind wanted None = false

abbrev pub variable_twice : Declared → Name → List Violation
variable_twice known x = violation_if (is_some (known.what x.bytes)) (number_of VariableTwice) x.at

abbrev pub unknown_function : Name → List Violation
unknown_function f = violation_if true (number_of UnknownFunction) f.at

abbrev pub unknown_variable : Name → List Violation
unknown_variable x = violation_if true (number_of UnknownVariable) x.at

-- where the number of arguments isn't that of the parameters
abbrev pub wrong_number_of_arguments : Bool → Name → List Violation
wrong_number_of_arguments has_as_many f = violation_if (not has_as_many) (number_of WrongNumberOfArguments) f.at

abbrev pub wrong_kind : Kind → Option Kind → ℕ → List Violation
wrong_kind wanted kind at = violation_if (is_other_kind wanted kind) (number_of WrongKind) at

abbrev pub wrong_use : Name → List Violation
wrong_use x = violation_if true (number_of WrongKind) x.at

abbrev pub pending_variable : NameSet → Name → List Violation
pending_variable p x = violation_if (p x.bytes) (number_of PendingVariable) x.at

abbrev pub let_in_a_block : Bool → ℕ → List Violation
let_in_a_block in_block at = violation_if in_block (number_of LetInABlock) at

-- the most variables of a function
abbrev pub most_variables : ℕ
most_variables = 256

-- the name is new, and the most are declared already
abbrev pub too_many_variables : Declared → Name → List Violation
too_many_variables known x = violation_if (is_none (known.what x.bytes) && nat_eq known.count most_variables) (number_of TooManyVariables) x.at

abbrev pub array_length : Number → List Violation
array_length n = violation_if (int_lt n.value (pos 1) || int_lt (pos 4096) n.value) (number_of ArrayLength) n.at

-- the kind of a declared scalar
abbrev pub kind_of_variable : Option Variable → Option Kind
kind_of_variable (Some (Scalar kind)) = Some kind
kind_of_variable (Some Array) = None
kind_of_variable None = None

-- a name that is read or written as a scalar
abbrev pub scalar_use : Option Variable → NameSet → Name → List Violation
scalar_use (Some (Scalar kind)) p x = pending_variable p x
scalar_use (Some Array) p x = wrong_use x ++ pending_variable p x
scalar_use None p x = unknown_variable x

-- a name that is read or written as an array
abbrev pub array_use : Option Variable → NameSet → Name → List Violation
array_use (Some (Scalar kind)) p x = wrong_use x ++ pending_variable p x
array_use (Some Array) p x = pending_variable p x
array_use None p x = unknown_variable x

-- a name in a parameter list or a `let`
abbrev pub declaration : Declared → Name → List Violation
declaration known x = variable_twice known x ++ too_many_variables known x
