-- What lists of coefficients are, and which lists of numbers make one.
use Rattle.std.specs.Prelude.{◌≡◌, ℕ, ◌-◌, ◌<◌, ◌≤◌, ◌^◌, Bool, Some, List, ◌++◌, length, All, nat_le, position, replicate}
use Rattle.dotmix.specs.Draws.{modulus, IsResidue}

pub record IsGamma (gamma : List ℕ) : Type 0 where
  pub few : length gamma < 2 ^ 32
  pub small : All IsResidue gamma

-- the list, and zeros after it
abbrev pub padded : List ℕ → ℕ → List ℕ
padded list depth = list ++ replicate (depth - length list) 0

abbrev pub is_too_big : ℕ → Bool
is_too_big n = nat_le modulus n

-- The list is short enough, and i is the first index of a number that is no coefficient.
abbrev pub IsFirstTooBig : List ℕ → ℕ → ℕ → Type 0
IsFirstTooBig list depth i = (length list ≤ depth) × (position is_too_big list ≡ Some i)
