-- Tables by name.
use Rattle.std.specs.Prelude.{ℕ, ◌+◌, List, Option, Some, None, is_some, if◌then◌else◌}
use Rattle.std.specs.Global.{Vec}
use Rattle.std.specs.BTreeMap.{BTreeMap, get_by, btree_map_len}
use Rattle.std.specs.Cmp.Lexicographic.{slice_cmp}
use Rattle.std.specs.Ordering.{nat_cmp}
use Rattle.std.specs.Map.{update}
use Rattle.std.specs.Str.{bytes_eq}

-- the entry of each name, and how many names have one
pub record Table (A : Type 0) : Type 0 where
  pub what : List ℕ → Option A
  pub count : ℕ

module _ {A : Type 0} where
  abbrev pub no_entries : Table A
  no_entries = record { what = λ name. None; count = 0 }

  -- one entry more; a name keeps its first one
  abbrev pub with_first : Table A → List ℕ → A → Table A
  with_first table name entry =
      if is_some (table.what name) then table
      else record { what = update bytes_eq table.what name (Some entry); count = table.count + 1 }

  -- the table that a map holds
  abbrev pub table_of : BTreeMap (Vec ℕ) A → Table A
  table_of map = record { what = λ name. get_by (λ key. slice_cmp nat_cmp name key.items) map; count = btree_map_len map }
