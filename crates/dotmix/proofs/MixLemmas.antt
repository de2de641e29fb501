-- Rounds of mixing.
use Rattle.std.proofs.Common.{◌≡◌, ℕ, ◌<◌, ◌+◌, ◌*◌, ◌/◌, ◌%◌, ◌^◌, refl, ap, ◌∙◌, arith, add-one, w64}
use Rattle.std.specs.Int.{rotate_left}
use Rattle.std.proofs.Math.Nat.{mod-add-mod}
use Rattle.std.proofs.lemmas.Nat.{mul-mod_first, or_shifted}
use Rattle.dotmix.specs.Draws.{mix, round, swap_halves}

-- a product and a sum that are reduced at each step
pub quadratic : (z w : ℕ) → ((z * 2 % w * z) % w + z) % w ≡ (2 * z * z + z) % w
quadratic z w =
    ap (λ n. (n + z) % w) (mul-mod_first (z * 2) z w) ∙ mod-add-mod (z * 2 * z) w z ∙ ap (λ n. (n + z) % w) (omega arith)

low_half : (n : ℕ) → n * 2 ^ 32 % 2 ^ 64 ≡ n % 2 ^ 32 * 2 ^ 32
low_half n = omega arith

-- In 64 bits a rotation by 32 exchanges the halves.
pub rotated : (n : ℕ) → n < 2 ^ 64 → rotate_left w64 n 32 ≡ swap_halves n
rotated n h = rw (low_half n) (or_shifted (n % 2 ^ 32) 32 (n / 2 ^ 32) (omega arith))

pub mix_more : (n z : ℕ) → mix z (n + 1) ≡ round (mix z n)
mix_more n z = rw add-one refl
