-- Trails: paths with the dot product so far.
use Rattle.std.specs.Prelude.{◌≡◌, ℕ, ◌≤◌, List, length}
use Rattle.dotmix.specs.Draws.{dot}
use Rattle.dotmix.specs.declared.trail.Trail.{Trail}

-- The trail is one of these coefficients: they reach to its end, and its sum is the dot product of its path.
pub record FitsGamma (gamma : List ℕ) (trail : Trail) : Type 0 where
  pub within : length trail.path ≤ length gamma
  pub sum : trail.sum ≡ dot gamma trail.path
