-- The violations in expressions.
use Rattle.std.specs.Prelude.{ℕ, List, [], ◌∷◌, ◌++◌, Option, Some}
use Rattle.script_grammar.specs.declared.tree.Kind.{Kind}
use Rattle.script_grammar.specs.declared.tree.Kind.TheVariants.{Int, Id}
use Rattle.script_grammar.specs.declared.tree.Expr.{Expr}
use Rattle.script_grammar.specs.declared.tree.Expr.TheFolds.{fold-Expr, fold-SumPart, fold-ProductPart}
use Rattle.script_grammar.specs.declared.tree.Expr.TheOpen as node
use Rattle.script_grammar.specs.declared.tree.Expr.TheOpen.{Expr-F}
use Rattle.script_grammar.specs.declared.tree.SumPart.{SumPart}
use Rattle.script_grammar.specs.declared.tree.ProductPart.{ProductPart}
use Rattle.script_check.specs.declared.findings.Violation.{Violation}
use Rattle.script_check.specs.Names.{NameSet}
use Rattle.script_check.specs.Rules.{Declared, wrong_kind, scalar_use, array_use, kind_of_variable}

-- the violations of a part of a script, where these variables are declared and those names are pending
abbrev pub Violations : Type 0
Violations = Declared → NameSet → List Violation

-- an expression or a right side: its offset, its kind, and the violations in it
pub record Reading : Type 0 where
  pub at : ℕ
  pub kind : Declared → Option Kind
  pub violations : Violations

abbrev pub int_at : ℕ → Violations → Reading
int_at at violations = record { at = at; kind = λ known. Some Int; violations = violations }

-- it must have this kind
unfoldable pub wanted : Kind → Reading → Violations
wanted kind r known p = r.violations known p ++ wrong_kind kind (r.kind known) r.at

unfoldable pub two_wanted : Kind → Reading → Reading → Violations
two_wanted kind a b known p = wanted kind a known p ++ wanted kind b known p

abbrev pub all_wanted : Kind → List Reading → Violations
all_wanted kind [] known p = []
all_wanted kind (r ∷ rs) known p = wanted kind r known p ++ all_wanted kind rs known p

-- one node, from the readings of its parts
abbrev pub read_at : Expr-F Reading Reading Reading → Reading
read_at (node.Number n) = int_at n.at (λ known p. [])
read_at (node.Var x) = record { at = x.at; kind = λ known. kind_of_variable (known.what x.bytes); violations = λ known p. scalar_use (known.what x.bytes) p x }
read_at (node.Item x i) = int_at x.at (λ known p. array_use (known.what x.bytes) p x ++ wanted Int i known p)
read_at (node.Neg at e) = int_at at (wanted Int e)
read_at (node.Same at a b) = int_at at (two_wanted Id a b)
read_at (node.Older at a b) = int_at at (two_wanted Id a b)
read_at (node.Compare a how b) = int_at a.at (two_wanted Int a b)
read_at (node.Sum first rest) = int_at first.at (all_wanted Int (first ∷ rest))
read_at (node.Product first rest) = int_at first.at (all_wanted Int (first ∷ rest))

abbrev pub reading_of : Expr → Reading
reading_of = fold-Expr Reading Reading Reading read_at (λ p. p.operand) (λ p. p.operand)

abbrev pub read_sum_part : SumPart → Reading
read_sum_part = fold-SumPart Reading Reading Reading read_at (λ p. p.operand) (λ p. p.operand)

abbrev pub read_product_part : ProductPart → Reading
read_product_part = fold-ProductPart Reading Reading Reading read_at (λ p. p.operand) (λ p. p.operand)
