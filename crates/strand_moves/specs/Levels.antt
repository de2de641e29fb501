-- The open scopes of a frame.
use Rattle.std.specs.Prelude.{List, [], Option, Some, None}
use Rattle.strand_moves.specs.declared.frame.Level.{Level}

pub record LevelsView : Type 0 where
  pub items : List Level

abbrev pub levels_in : Option (List Level) → List Level
levels_in None = []
levels_in (Some levels) = levels
