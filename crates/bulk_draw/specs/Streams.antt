-- Streams: the draws of consecutive ranks on one path.
use Rattle.std.specs.Prelude.{ℕ, ◌+◌, ◌-◌, ◌*◌, ◌%◌, List, [], ◌∷◌, ◌++◌, length, map, take, drop, slice_index}
use Rattle.std.specs.List.{range_with_len}
use Rattle.dotmix.specs.Draws.{dotmix, modulus}

-- a pedigree's path: its ranks but the last one
abbrev pub path_of_pedigree : List ℕ → List ℕ
path_of_pedigree j = take (length j - 1) j

abbrev pub last_rank : List ℕ → ℕ
last_rank j = slice_index j (length j - 1)

-- the pedigree `i` ranks later on the same path
abbrev pub later : List ℕ → ℕ → List ℕ
later j i = path_of_pedigree j ++ (last_rank j + i) ∷ []

-- the draws of `n` consecutive ranks, from the pedigree's own on
abbrev pub stream : List ℕ → List ℕ → ℕ → ℕ → List ℕ
stream gamma j n rounds = map (λ i. dotmix gamma (later j i) rounds) (range_with_len 0 n)

-- `n` dot products: the first, and then each a step more than the one before
abbrev pub dots : ℕ → ℕ → ℕ → List ℕ
dots first step n = map (λ i. (first + i * step) % modulus) (range_with_len 0 n)

-- the list with the eight numbers from this index on replaced
abbrev pub with_lanes : List ℕ → ℕ → List ℕ → List ℕ
with_lanes xs at lanes = take at xs ++ (lanes ++ drop 8 (drop at xs))
