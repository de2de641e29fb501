-- Numbers as digits.
use Rattle.std.proofs.Common.{◌≡◌, ℕ, suc, ◌+◌, ◌*◌, ◌-◌, ◌/◌, ◌<◌, ◌≤◌, List, [], ◌∷◌, length, get_or, drop, ap, arith, drop-cons}
use Rattle.script_grammar.specs.Grammar.{decimal}

pub decimal-above : (n : ℕ) (digits : List ℕ) → n ≤ decimal n digits
decimal-above n [] = omega arith
decimal-above n (d ∷ ds) = let more = decimal-above (10 * n + (d - 48)) ds in omega (arith, more)

-- one digit more
pub decimal-more : (value index : ℕ) (digits : List ℕ) → index < length digits → decimal value (drop index digits) ≡ decimal (10 * value + (get_or digits index 0 - 48)) (drop (suc index) digits)
decimal-more value index digits h = ap (decimal value) (drop-cons digits index 0 h)

pub decimal-too_big : (value index limit digit : ℕ) (digits : List ℕ) → index < length digits → decimal 0 digits ≡ decimal value (drop index digits) → digit ≡ get_or digits index 0 - 48 → digit ≤ limit → (limit - digit) / 10 < value → limit < decimal 0 digits
decimal-too_big value index limit digit digits h e d l over =
    let more = decimal-above (10 * value + (get_or digits index 0 - 48)) (drop (suc index) digits) in
    let step = decimal-more value index digits h in
    omega (arith, more, step, e, d, over)
