-- DotMix: the dot product of a list of coefficients and a pedigree's ranks, mixed.
use Rattle.std.specs.Prelude.{ℕ, zero, suc, ◌+◌, ◌-◌, ◌*◌, ◌/◌, ◌%◌, ◌^◌, ◌<◌, List, slice_index, sum_by}
use Rattle.std.specs.List.{zip}

-- the prime p, 2 ^ 64 - 59
abbrev pub modulus : ℕ
modulus = 18446744073709551557

abbrev pub IsResidue : ℕ → Type 0
IsResidue n = n < modulus

-- coefficient i, from 1
abbrev pub coefficient : List ℕ → ℕ → ℕ
coefficient gamma i = slice_index gamma (i - 1)

-- the sum over the ranks of coefficient i times (rank i + 1)
abbrev pub terms : List ℕ → List ℕ → ℕ
terms gamma ranks = sum_by (λ t. t.0 * (t.1 + 1)) (zip gamma ranks)

abbrev pub dot : List ℕ → List ℕ → ℕ
dot gamma ranks = terms gamma ranks % modulus

-- the two halves of 64 bits exchanged
abbrev pub swap_halves : ℕ → ℕ
swap_halves z = z % 2 ^ 32 * 2 ^ 32 + z / 2 ^ 32

abbrev pub round : ℕ → ℕ
round z = swap_halves ((2 * z * z + z) % 2 ^ 64)

-- this many rounds
abbrev pub mix : ℕ → ℕ → ℕ
mix z zero = z
mix z (suc n) = round (mix z n)

-- the most rounds of a draw
abbrev pub most_rounds : ℕ
most_rounds = 8

-- the dot product, mixed by this many rounds
abbrev pub dotmix : List ℕ → List ℕ → ℕ → ℕ
dotmix gamma ranks rounds = mix (dot gamma ranks) rounds
