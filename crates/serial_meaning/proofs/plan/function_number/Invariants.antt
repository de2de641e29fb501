use Rattle.std.proofs.Common.{◌≡◌, ◌+◌, drop}
use Rattle.serial_meaning.specs.Functions.{function_number}
use Rattle.serial_meaning.proofs.plan.function_number.Given as goal

abbrev pub invariant-loop-function : goal.invariant-loop-function
invariant-loop-function l =
    (l.number ≡ l.function-index) × (function_number l.functions l.name ≡ l.number + function_number (drop l.function-index l.functions) l.name)
