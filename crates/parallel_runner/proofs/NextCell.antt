-- The cell at a place of the list, by its name.
use Rattle.std.proofs.Common.{◌≡◌, ℕ, ◌<◌, List, length, get_or, map, ◌∙◌, ap, subst, arith}
use Rattle.std.proofs.lemmas.List.{get_or-map, length-map}
use Rattle.parallel_runner.specs.Cells.{CellsView, IsNext}

pub is-next : {T C : Type 0} (name : C → ℕ) (cells : List C) (read : List T) (view : CellsView T) (c : C) (count : ℕ) → record { names = map name cells; read = read } ≡ view →
    length read ≡ count → count < length cells → ((d : C) → get_or cells count d ≡ c) → IsNext view (name c)
is-next {T} name cells read view c count is same lt at =
    subst (λ (v : CellsView T). IsNext v (name c)) is (
      omega (arith, lt, same, length-map cells name),
      λ d. ap (λ (k : ℕ). get_or (map name cells) k d) same ∙ get_or-map name cells count c d lt ∙ ap name (at c),
    )
