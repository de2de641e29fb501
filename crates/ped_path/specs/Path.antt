-- Ranks, and the order of paths and of pedigrees. Both are lists of ranks.
use Rattle.std.specs.Prelude.{◌≡◌, ℕ, ◌<◌, ◌^◌, List}
use Rattle.std.specs.Cmp.Lexicographic.{slice_cmp}
use Rattle.std.specs.Ordering.{nat_cmp}
use Rattle.std.specs.declared.cmp.Ordering.TheVariants.{Less}

abbrev pub IsRank : ℕ → Type 0
IsRank r = r < 2 ^ 32

-- The lexicographic order: a proper prefix comes before the longer list.
abbrev pub IsBefore : List ℕ → List ℕ → Type 0
IsBefore p q = slice_cmp nat_cmp p q ≡ Less
