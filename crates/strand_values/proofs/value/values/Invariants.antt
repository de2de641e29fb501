use Rattle.std.proofs.Common.{◌≡◌, ◌++◌, drop, Ok}
use Rattle.serial_meaning.specs.Runs.{◌>>=◌}
use Rattle.serial_meaning.specs.Values.{values_of}
use Rattle.strand_values.proofs.value.values.Given as goal

abbrev pub invariant-loop-e : goal.invariant-loop-e
invariant-loop-e l =
    values_of l.args l.env.variables ≡ (values_of (drop l.e-index l.args) l.env.variables >>= λ vs. Ok (l.values.items ++ vs))
