-- What contracts see of a list of cells, by the end of one thread.
use Rattle.std.specs.Prelude.{◌≡◌, ℕ, ◌<◌, List, Some, length, option_map, slice_index_or}
use Rattle.std.specs.Arc.{arc_value}
use Rattle.parallel_runner.specs.declared.cells.Found.{Found}
use Rattle.parallel_runner.specs.declared.cells.Found.TheVariants as found

-- the names of the cells, and the values that the thread has read, of as many cells from the first one on
pub record CellsView (T : Type 0) : Type 0 where
  pub names : List ℕ
  pub read : List T

-- It is the name of the next cell, the first one that wasn't read.
abbrev pub IsNext : {T : Type 0} → CellsView T → ℕ → Type 0
IsNext cells name = (length cells.read < length cells.names) × ((d : ℕ) → slice_index_or cells.names (length cells.read) d ≡ name)

-- A look at the next cell found its value, or found none after as many cells as were read.
abbrev pub IsFound : {T : Type 0} → CellsView T → Found T → Type 0
IsFound cells (found.Value value note) = IsNext cells note.cell × (option_map arc_value note.known ≡ Some (arc_value value))
IsFound cells (found.None unset) = unset ≡ length cells.read
