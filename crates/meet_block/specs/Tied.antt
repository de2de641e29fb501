-- What contracts see of a give of a counter, and of what is left of it.
use Rattle.std.specs.Prelude.{ℕ}
use Rattle.atomic_table.specs.Seated.{TableId}

-- A give: its tag, the name of the join that made it, and the table of the counter that its value goes to
pub record TiedView (K : Type 0) : Type 0 where
  pub tag : K
  pub join : ℕ
  pub table : TableId

abbrev pub tied_view : {K : Type 0} → K → ℕ → TableId → TiedView K
tied_view t name at = record { tag = t; join = name; table = at }
