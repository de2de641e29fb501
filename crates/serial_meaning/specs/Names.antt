-- The variables that an expression names, on which alone its value depends (docs/LANGUAGE.md, "The serial elision").
use Rattle.std.specs.Prelude.{ℕ, List, [], ◌∷◌, ◌++◌}
use Rattle.script_grammar.specs.declared.tree.Expr.{Expr}
use Rattle.script_grammar.specs.declared.tree.Expr.TheFolds.{fold-Expr, fold-SumPart, fold-ProductPart}
use Rattle.script_grammar.specs.declared.tree.SumPart.{SumPart}
use Rattle.script_grammar.specs.declared.tree.ProductPart.{ProductPart}
use Rattle.script_grammar.specs.declared.tree.Expr.TheOpen as node
use Rattle.script_grammar.specs.declared.tree.Expr.TheOpen.{Expr-F, SumPart-F, ProductPart-F}

abbrev pub Names : Type 0
Names = List (List ℕ)

abbrev pub joined_names : List Names → Names
joined_names [] = []
joined_names (names ∷ more) = names ++ joined_names more

-- one node, from the names of its parts
abbrev pub names_at : Expr-F Names Names Names → Names
names_at (node.Number n) = []
names_at (node.Var x) = x.bytes ∷ []
names_at (node.Item x i) = x.bytes ∷ i
names_at (node.Neg at e) = e
names_at (node.Same at a b) = a ++ b
names_at (node.Older at a b) = a ++ b
names_at (node.Compare a how b) = a ++ b
names_at (node.Sum first rest) = first ++ joined_names rest
names_at (node.Product first rest) = first ++ joined_names rest

abbrev pub names_in : Expr → Names
names_in = fold-Expr Names Names Names names_at (λ p. p.operand) (λ p. p.operand)

abbrev pub names_in_sum_part : SumPart → Names
names_in_sum_part = fold-SumPart Names Names Names names_at (λ p. p.operand) (λ p. p.operand)

abbrev pub names_in_product_part : ProductPart → Names
names_in_product_part = fold-ProductPart Names Names Names names_at (λ p. p.operand) (λ p. p.operand)
