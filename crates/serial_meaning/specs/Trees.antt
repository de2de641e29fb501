-- Scripts as trees, in short (docs/LANGUAGE.md, "Grammar"). All offsets are 0.
use Rattle.std.specs.Prelude.{ℕ, false, List, [], ◌∷◌}
use Rattle.std.specs.Prelude.{pos}
use Rattle.script_grammar.specs.declared.tree.Name.{Name}
use Rattle.script_grammar.specs.declared.tree.Param.{Param}
use Rattle.script_grammar.specs.declared.tree.CallText.{CallText}
use Rattle.script_grammar.specs.declared.tree.Function.{Function}
use Rattle.script_grammar.specs.declared.tree.Kind.TheVariants as kind
use Rattle.script_grammar.specs.declared.tree.Expr.{Expr}
use Rattle.script_grammar.specs.declared.tree.Expr.TheVariants as expr
use Rattle.script_grammar.specs.declared.tree.ProductSign.{ProductSign}
use Rattle.script_grammar.specs.declared.tree.Right.{Right}
use Rattle.script_grammar.specs.declared.tree.Right.TheVariants as right
use Rattle.script_grammar.specs.declared.tree.Stmt.{Stmt}
use Rattle.script_grammar.specs.declared.tree.Act.{Act}

abbrev pub name_node : List ℕ → Name
name_node bytes = record { bytes = bytes; at = 0 }

abbrev pub number : ℕ → Expr
number n = expr.Number (record { at = 0; value = pos n })

abbrev pub variable : List ℕ → Expr
variable x = expr.Var (name_node x)

-- a product or quotient of two
abbrev pub product : Expr → ProductSign → Expr → Expr
product a sign b = expr.Product a (record { sign = sign; operand = b } ∷ [])

abbrev pub sum : Expr → Expr → Expr
sum a b = expr.Sum a (record { minus = false; operand = b } ∷ [])

abbrev pub applied : List ℕ → List Expr → CallText
applied f args = record { name = name_node f; args = args }

abbrev pub call : List ℕ → List Expr → Right
call f args = right.Call 0 (applied f args)

abbrev pub spawn : List ℕ → List Expr → Right
spawn f args = right.Spawn 0 (applied f args)

abbrev pub stated : Act → Stmt
stated a = record { at = 0; act = a }

abbrev pub int_param : List ℕ → Param
int_param x = record { kind = kind.Int; name = name_node x }

-- a function that returns an Int
abbrev pub function : List ℕ → List Param → List Stmt → Expr → Function
function f params body result = record { name = name_node f; params = params; answer = kind.Int; body = body; return_at = 0; result = result }
