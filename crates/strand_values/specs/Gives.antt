-- What a calculation returns in a running program, by what is defined.
use Rattle.std.specs.Prelude.{◌≡◌, Bool, Result, Ok, Err}
use Rattle.std.specs.Prelude.{ℤ}
use Rattle.serial_meaning.specs.Values.{as_integer, is_true}
use Rattle.serial_meaning.specs.declared.event.FaultKind.{FaultKind}
use Rattle.serial_meaning.specs.declared.value.Value.{Value}
use Rattle.serial_meaning.specs.declared.value.Value.TheVariants.{Int}
use Rattle.strand_values.specs.declared.evaluation_error.EvaluationError.{EvaluationError}
use Rattle.strand_values.specs.declared.evaluation_error.EvaluationError.TheVariants as error

-- A value or a fault is the defined one. Want of memory may come at any time.
abbrev pub Calculates : {A : Type 0} → Result A EvaluationError → Result A FaultKind → Type 0
Calculates (Ok a) defined = defined ≡ Ok a
Calculates (Err (error.Fault kind)) defined = defined ≡ Err kind
Calculates (Err error.Memory) defined = Unit {0}

-- the number that a value counts as
abbrev pub integer_result : {E : Type 0} → Result Value E → Result ℤ E
integer_result (Ok v) = Ok (as_integer v)
integer_result (Err e) = Err e

-- a number as the value that it is
abbrev pub integral : {E : Type 0} → Result ℤ E → Result Value E
integral (Ok n) = Ok (Int n)
integral (Err e) = Err e

-- whether a condition of a value holds
abbrev pub holding : {E : Type 0} → Result Value E → Result Bool E
holding (Ok v) = Ok (is_true v)
holding (Err e) = Err e
