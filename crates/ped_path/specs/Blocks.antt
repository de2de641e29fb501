-- How a path keeps its ranks: full blocks of 16, then the ranks of an unfinished one.
use Rattle.std.specs.Prelude.{◌≡◌, ℕ, [], ◌++◌, ◌<◌, ◌≤◌, ◌^◌, List, All, Option, Some, None, length, take}
use Rattle.std.specs.List.{concat}
use Rattle.std.specs.Arc.{arc_value}
use Rattle.std.specs.declared.sync.Arc.{Arc}
use Rattle.std.specs.declared.vec.Vec.{Vec}
use Rattle.ped_path.specs.Path.{IsRank}

pub record IsRankBlock (ranks : List ℕ) : Type 0 where
  pub full : length ranks ≡ 16
  pub bounded : All IsRank ranks

-- the blocks of a list, which is absent where there are none
abbrev pub blocks_of : {Y Z : Type 0} → Option (Arc (Vec (List ℕ) Y) Z) → List (List ℕ)
blocks_of (Some list) = (arc_value list).items
blocks_of None = []

-- the ranks of the blocks, and then the first `count` of `last`
abbrev pub joined : List (List ℕ) → List ℕ → ℕ → List ℕ
joined blocks last count = concat blocks ++ take count last

pub record IsBlocked (blocks : List (List ℕ)) (last : List ℕ) (count : ℕ) : Type 0 where
  pub full : All (λ block. length block ≡ 16) blocks
  pub few : length blocks ≤ 2 ^ 58
  pub slots : length last ≡ 16
  pub unfinished : count < 16
  pub bounded : All IsRank (joined blocks last count)
