-- A join whose first children only clauses know: their values were all taken, and their counters are gone.
use Rattle.std.specs.Prelude.{◌≡◌, ℕ, ◌+◌, Bool, true, List, [], ◌∷◌, ◌++◌, length, map}
use Rattle.atomic_table.specs.Seated.{TableId}
use Rattle.meet_block.specs.Counter.{untaken}
use Rattle.meet_block.specs.Joined.{Joined, joined_with}
use Rattle.meet_block.specs.CounterViews.{CountersView}

-- A join: all its children, the table of each counter that it has, in order, and the name that it gives to each of its gives
pub record RoundsView (T : Type 0) : Type 0 where
  pub children : Joined T
  pub tables : List TableId
  pub name : ℕ

-- a give of this table was made by the last counter
abbrev pub IsLast : TableId → List TableId → Type 0
IsLast table tables = (front : List TableId) × (tables ≡ front ++ table ∷ [])

module _ {T : Type 0} where
  abbrev pub all_taken : List T → List Bool
  all_taken ts = map (λ _. true) ts

  -- the children with these tags, for whom looks have read these numbers, and then others
  abbrev pub followed_by : List T → List ℕ → Joined T → Joined T
  followed_by ts ls more = joined_with (ts ++ more.tags) (all_taken ts ++ more.taken) more.ready (ls ++ more.loads)

  abbrev pub rounds_view : List T → List ℕ → CountersView T → ℕ → RoundsView T
  rounds_view ts ls counters name = record { children = followed_by ts ls counters.children; tables = counters.tables; name = name }

  -- how many children there are, and how many of their values weren't taken
  pub record Counts (count left : ℕ) (gone : List T) (more : Joined T) : Type 0 where
    pub children : count ≡ length gone + length more.tags
    pub values : left ≡ untaken more.taken
    pub even : length more.taken ≡ length more.tags
