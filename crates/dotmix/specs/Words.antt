-- The words of SplitMix64, and the coefficients that a seed gives.
use Rattle.std.specs.Prelude.{ℕ, ◌+◌, ◌*◌, ◌/◌, ◌%◌, ◌^◌, List, bit_xor, map}
use Rattle.std.specs.List.{range_with_len}
use Rattle.dotmix.specs.Draws.{modulus}

-- a step of SplitMix64's mixing: the xor with its own high bits, times this factor
abbrev pub xor_shift_multiply : ℕ → ℕ → ℕ → ℕ
xor_shift_multiply z shift factor = bit_xor z (z / 2 ^ shift) * factor % 2 ^ 64

-- what SplitMix64 gives at this state
abbrev pub split_mix : ℕ → ℕ
split_mix state =
    let z = xor_shift_multiply (xor_shift_multiply state 30 0xBF58476D1CE4E5B9) 27 0x94D049BB133111EB in bit_xor z (z / 2 ^ 31)

-- word i of a seed, from 1
abbrev pub seed_word : ℕ → ℕ → ℕ
seed_word seed i = split_mix ((seed + i * 0x9E3779B97F4A7C15) % 2 ^ 64)

-- the first words of a seed, each modulo p
abbrev pub coefficients : ℕ → ℕ → List ℕ
coefficients seed depth = map (λ i. seed_word seed i % modulus) (range_with_len 1 depth)
