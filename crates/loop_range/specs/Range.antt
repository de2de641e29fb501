-- Ranges of a parallel loop's iterations.
use Rattle.std.specs.Prelude.{◌≡◌, ℕ, ◌+◌, ◌-◌, ◌/◌, ◌≤◌, List, length}
use Rattle.std.specs.List.{AllAdjacentBelow}

-- the iterations from lo on and below hi
pub record Range : Type 0 where
  pub lo : ℕ
  pub hi : ℕ

-- Iterations are ranks, each below 2^32 - 1.
pub record IsRange (lo hi : ℕ) : Type 0 where
  pub ordered : lo ≤ hi
  pub in_range : hi ≤ 4294967295

-- where a range is split: its middle, rounded down
abbrev pub middle : Range → ℕ
middle r = r.lo + (r.hi - r.lo) / 2

abbrev pub lower_half : Range → Range
lower_half r = record { lo = r.lo; hi = middle r }

abbrev pub upper_half : Range → Range
upper_half r = record { lo = middle r; hi = r.hi }

-- Each part ends where the next begins.
abbrev pub IsGapless : List Range → Type 0
IsGapless parts = AllAdjacentBelow (λ p q. p.hi ≡ q.lo) parts (length parts)
