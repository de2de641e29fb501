-- The value of an expression whose variables are found in another way than by their names.
use Rattle.std.specs.Prelude.{◌≡◌, ℕ, true, Bool, List, [], Ok, Option, get_or}
use Rattle.script_grammar.specs.declared.tree.Expr.{Expr}
use Rattle.script_grammar.specs.declared.tree.Expr.TheFolds.{fold-Expr, fold-SumPart, fold-ProductPart}
use Rattle.script_grammar.specs.declared.tree.Expr.TheOpen as node
use Rattle.script_grammar.specs.declared.tree.Expr.TheOpen.{Expr-F}
use Rattle.script_grammar.specs.declared.tree.Name.{Name}
use Rattle.script_grammar.specs.declared.tree.ProductPart.{ProductPart}
use Rattle.script_grammar.specs.declared.tree.ProductSign.{ProductSign}
use Rattle.script_grammar.specs.declared.tree.SumPart.{SumPart}
use Rattle.script_check.specs.Slots.{every_in, has_slot}
use Rattle.serial_meaning.specs.Runs.{◌>>=◌}
use Rattle.serial_meaning.specs.Values.{Val, Meaning, item, items_of, as_integer, product_at, scalar, sum_at, value_at, value_of}
use Rattle.serial_meaning.specs.declared.environment.Content.{Content}
use Rattle.strand_values.specs.Environments.{IsEnvironment, content_at, filled_variables}
use Rattle.strand_values.specs.declared.entry.Entry.{Entry}

module _ (content : Name → Option Content) where
  -- one node, from what its parts give
  abbrev pub found_at : Expr-F Meaning (ProductSign × Meaning) (Bool × Meaning) → Meaning
  found_at (node.Number n) env = value_at (node.Number n) env
  found_at (node.Var x) env = Ok (scalar (content x))
  found_at (node.Item x i) env = i env >>= λ v. item (items_of (content x)) (as_integer v)
  found_at (node.Neg at e) env = value_at (node.Neg at e) env
  found_at (node.Same at a b) env = value_at (node.Same at a b) env
  found_at (node.Older at a b) env = value_at (node.Older at a b) env
  found_at (node.Compare a how b) env = value_at (node.Compare a how b) env
  found_at (node.Sum first rest) env = value_at (node.Sum first rest) env
  found_at (node.Product first rest) env = value_at (node.Product first rest) env

  abbrev pub meaning_by : Expr → Meaning
  meaning_by = fold-Expr Meaning (ProductSign × Meaning) (Bool × Meaning) found_at product_at sum_at

  abbrev pub sum_part_by : SumPart → Bool × Meaning
  sum_part_by = fold-SumPart Meaning (ProductSign × Meaning) (Bool × Meaning) found_at product_at sum_at

  abbrev pub product_part_by : ProductPart → ProductSign × Meaning
  product_part_by = fold-ProductPart Meaning (ProductSign × Meaning) (Bool × Meaning) found_at product_at sum_at

  -- in an environment without variables, so that none is found by its name
  abbrev pub value_by : Expr → Val
  value_by e = meaning_by e []

-- where a table has the slot of each variable, what stands in the slots gives the value that the names give
abbrev pub SlotsMeanNames : Type 0
SlotsMeanNames =
    (table : List ℕ) (names : List (List ℕ)) (entries : List Entry) (filled : List ℕ) → IsEnvironment names entries filled → (e : Expr) → every_in (has_slot table names) e ≡ true →
    value_by (λ x. content_at entries (get_or table x.at 0)) e ≡ value_of e (filled_variables names entries filled)
