-- Laws of draws: how many coefficients there are beyond a pedigree's ranks doesn't matter.
use Rattle.std.specs.Prelude.{◌≡◌, ◌≤◌, ℕ, List, ◌++◌, length}
use Rattle.dotmix.specs.Draws.{dotmix}
use Rattle.dotmix.specs.GammaState.{padded}
use Rattle.dotmix.specs.Words.{coefficients}

-- Both draw the same at each pedigree of at most `depth` ranks, in any number of rounds.
abbrev pub DrawAlike : List ℕ → List ℕ → ℕ → Type 0
DrawAlike gamma other depth = (j : List ℕ) (rounds : ℕ) → length j ≤ depth → dotmix gamma j rounds ≡ dotmix other j rounds

-- Coefficients, and the same with more after them.
abbrev pub LongerDrawAlike : Type 0
LongerDrawAlike = (gamma more : List ℕ) → DrawAlike (gamma ++ more) gamma (length gamma)

-- The coefficients of one seed for two depths.
abbrev pub SeedsDrawAlike : Type 0
SeedsDrawAlike = (seed depth greater : ℕ) → depth ≤ greater → DrawAlike (coefficients seed greater) (coefficients seed depth) depth

-- One list with zeros after it, for two depths.
abbrev pub ListsDrawAlike : Type 0
ListsDrawAlike = (list : List ℕ) (depth greater : ℕ) → depth ≤ greater → DrawAlike (padded list greater) (padded list depth) depth
