-- Expressions of which only the number or the truth was asked.
use Rattle.std.proofs.Common.{◌≡◌, Bool, Ok, Err, refl, ap}
use Rattle.std.proofs.Common.{ℤ}
use Rattle.serial_meaning.specs.Values.{Val, as_integer, is_true}
use Rattle.serial_meaning.specs.declared.value.Value.{Value}
use Rattle.serial_meaning.specs.declared.event.FaultKind.{FaultKind}
use Rattle.strand_values.specs.Gives.{integer_result, holding}

pub holding-known : (d : Val) (b : Bool) → holding d ≡ Ok b → (v : Value) × ((d ≡ Ok v) × (is_true v ≡ b))
holding-known (Ok v) b h = (v, (refl, (cc)))
holding-known (Err kind) b h = absurd (cc)

pub holding-fault : (d : Val) (kind : FaultKind) → holding d ≡ Err kind → d ≡ Err kind
holding-fault (Ok v) kind h = absurd (cc)
holding-fault (Err k) kind h = let e : k ≡ kind = cc in ap Err e

pub number-known : (d : Val) (n : ℤ) → integer_result d ≡ Ok n → (v : Value) × ((d ≡ Ok v) × (as_integer v ≡ n))
number-known (Ok v) n h = (v, (refl, (cc)))
number-known (Err kind) n h = absurd (cc)

pub number-fault : (d : Val) (kind : FaultKind) → integer_result d ≡ Err kind → d ≡ Err kind
number-fault (Ok v) kind h = absurd (cc)
number-fault (Err k) kind h = let e : k ≡ kind = cc in ap Err e
