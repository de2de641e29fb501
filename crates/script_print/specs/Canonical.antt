-- The canonical text of a script. That of version 2 begins with the version line.
--
-- Offsets play no part in it. Each statement has a line of its own, and what is inside braces is indented by two spaces more than
-- what is around them.
use Rattle.std.specs.Prelude.{ℕ, Bool, true, false, List, [], ◌∷◌, ◌++◌, Option, Some, None, codes, flat_map, nat_lt, if◌then◌else◌}
use Rattle.std.specs.Fmt.{signed_decimal}
use Rattle.script_tokens.specs.declared.version.Version.{Version}
use Rattle.script_tokens.specs.declared.version.Version.TheVariants.{One, Two}
use Rattle.script_tokens.specs.Version.{version_line}
use Rattle.script_grammar.specs.declared.tree.Name.{Name}
use Rattle.script_grammar.specs.declared.tree.Number.{Number}
use Rattle.script_grammar.specs.declared.tree.Expr.{Expr}
use Rattle.script_grammar.specs.declared.tree.Expr.TheFolds.{fold-Expr, fold-SumPart, fold-ProductPart}
use Rattle.script_grammar.specs.declared.tree.Expr.TheOpen as node
use Rattle.script_grammar.specs.declared.tree.Expr.TheOpen.{Expr-F, SumPart-F, ProductPart-F}
use Rattle.script_grammar.specs.declared.tree.SumPart.{SumPart}
use Rattle.script_grammar.specs.declared.tree.ProductPart.{ProductPart}
use Rattle.script_grammar.specs.declared.tree.ProductSign.{ProductSign}
use Rattle.script_grammar.specs.declared.tree.ProductSign.TheVariants.{Times, Over, Modulo}
use Rattle.script_grammar.specs.declared.tree.Comparison.{Comparison}
use Rattle.script_grammar.specs.declared.tree.Comparison.TheVariants.{Eq, Ne, Lt, Le, Gt, Ge}
use Rattle.script_grammar.specs.declared.tree.CallText.{CallText}
use Rattle.script_grammar.specs.declared.tree.Right.{Right}
use Rattle.script_grammar.specs.declared.tree.Right.TheVariants as right
use Rattle.script_grammar.specs.declared.tree.Stmt.{Stmt}
use Rattle.script_grammar.specs.declared.tree.Act.{Act}
use Rattle.script_grammar.specs.declared.tree.Act.TheOpen as act
use Rattle.script_grammar.specs.declared.tree.Act.TheOpen.{Act-F, Stmt-F}
use Rattle.script_grammar.specs.declared.tree.Act.TheFolds.{fold-Act, fold-Stmt}
use Rattle.script_grammar.specs.declared.tree.Kind.{Kind}
use Rattle.script_grammar.specs.declared.tree.Kind.TheVariants.{Int, Id}
use Rattle.script_grammar.specs.declared.tree.Param.{Param}
use Rattle.script_grammar.specs.declared.tree.Function.{Function}
use Rattle.script_grammar.specs.declared.tree.Script.{Script}

-- Expressions.

-- An expression's text and its precedence: of a comparison 1, of a sum 2, of a product 3, of a unary minus 4, of all else 5.
pub record Printed : Type 0 where
  pub precedence : ℕ
  pub text : List ℕ

abbrev pub at_precedence : ℕ → List ℕ → Printed
at_precedence precedence text = record { precedence = precedence; text = text }

-- an operand, in parentheses exactly where its precedence is too low
abbrev pub operand : ℕ → Printed → List ℕ
operand need x = if nat_lt x.precedence need then codes "(" ++ x.text ++ codes ")" else x.text

abbrev pub comparison_text : Comparison → List ℕ
comparison_text Eq = codes "=="
comparison_text Ne = codes "!="
comparison_text Lt = codes "<"
comparison_text Le = codes "<="
comparison_text Gt = codes ">"
comparison_text Ge = codes ">="

abbrev pub sum_sign_text : Bool → List ℕ
sum_sign_text true = codes "-"
sum_sign_text false = codes "+"

abbrev pub product_sign_text : ProductSign → List ℕ
product_sign_text Times = codes "*"
product_sign_text Over = codes "/"
product_sign_text Modulo = codes "%"

-- a binary operator has a space on each side
abbrev pub spaced : List ℕ → List ℕ
spaced sign = codes " " ++ sign ++ codes " "

-- the text of one node, from the texts of its parts
abbrev pub expr_at : Expr-F Printed (List ℕ) (List ℕ) → Printed
expr_at (node.Number n) = at_precedence 5 (signed_decimal n.value)
expr_at (node.Var x) = at_precedence 5 x.bytes
expr_at (node.Item x i) = at_precedence 5 (x.bytes ++ codes "[" ++ i.text ++ codes "]")
expr_at (node.Same at x y) = at_precedence 5 (codes "same(" ++ x.text ++ codes ", " ++ y.text ++ codes ")")
expr_at (node.Older at x y) = at_precedence 5 (codes "older(" ++ x.text ++ codes ", " ++ y.text ++ codes ")")
expr_at (node.Neg at x) = at_precedence 4 (codes "-" ++ operand 4 x)
expr_at (node.Product x parts) = at_precedence 3 (operand 4 x ++ flat_map (λ part. part) parts)
expr_at (node.Sum x parts) = at_precedence 2 (operand 3 x ++ flat_map (λ part. part) parts)
expr_at (node.Compare x how y) = at_precedence 1 (operand 2 x ++ spaced (comparison_text how) ++ operand 2 y)

abbrev pub product_part_at : ProductPart-F Printed (List ℕ) (List ℕ) → List ℕ
product_part_at part = spaced (product_sign_text part.sign) ++ operand 4 part.operand

abbrev pub sum_part_at : SumPart-F Printed (List ℕ) (List ℕ) → List ℕ
sum_part_at part = spaced (sum_sign_text part.minus) ++ operand 3 part.operand

abbrev pub printed : Expr → Printed
printed = fold-Expr Printed (List ℕ) (List ℕ) expr_at product_part_at sum_part_at

abbrev pub product_part_text : ProductPart → List ℕ
product_part_text = fold-ProductPart Printed (List ℕ) (List ℕ) expr_at product_part_at sum_part_at

abbrev pub sum_part_text : SumPart → List ℕ
sum_part_text = fold-SumPart Printed (List ℕ) (List ℕ) expr_at product_part_at sum_part_at

abbrev pub expr_text : Expr → List ℕ
expr_text x = (printed x).text

-- Lists, with a comma and a space before each item but the first.

abbrev pub after_commas : {A : Type 0} → (A → List ℕ) → List A → List ℕ
after_commas f xs = flat_map (λ x. codes ", " ++ f x) xs

abbrev pub listed : {A : Type 0} → (A → List ℕ) → List A → List ℕ
listed f [] = []
listed f (x ∷ xs) = f x ++ after_commas f xs

-- Statements.

abbrev pub call_text : CallText → List ℕ
call_text c = c.name.bytes ++ codes "(" ++ listed expr_text c.args ++ codes ")"

abbrev pub right_text : Right → List ℕ
right_text (right.Value e) = expr_text e
right_text (right.Draw at) = codes "draw"
right_text (right.New at) = codes "new"
right_text (right.Call at c) = codes "call " ++ call_text c
right_text (right.Spawn at c) = codes "spawn " ++ call_text c

-- a loop has no spaces around its `..`, and the loop variable is its first argument
abbrev pub range_text : Name → Expr → Expr → List ℕ
range_text i lo hi = codes "pfor " ++ i.bytes ++ codes " in " ++ expr_text lo ++ codes ".." ++ expr_text hi

abbrev pub loop_call_text : Name → CallText → List ℕ
loop_call_text i c = codes " call " ++ c.name.bytes ++ codes "(" ++ i.bytes ++ after_commas expr_text c.args ++ codes ");"

abbrev pub into_text : Option Name → List ℕ
into_text None = []
into_text (Some a) = codes " into " ++ a.bytes

-- the text of a statement by its margin, which is two spaces for each open brace
abbrev pub Indented : Type 0
Indented = (margin : List ℕ) → List ℕ

-- a block has its statements on lines of their own between its braces
abbrev pub block_text : List Indented → Indented
block_text block margin = codes "{\n" ++ flat_map (λ stmt. stmt (margin ++ codes "  ")) block ++ margin ++ codes "}"

-- an empty second block isn't written
abbrev pub else_text : List Indented → Indented
else_text [] margin = []
else_text (stmt ∷ stmts) margin = codes " else " ++ block_text (stmt ∷ stmts) margin

-- the text of a statement after its margin
abbrev pub act_at : Act-F Indented Indented → Indented
act_at (act.Let x r) margin = codes "let " ++ x.bytes ++ codes " = " ++ right_text r ++ codes ";"
act_at (act.Array a n) margin = codes "let " ++ a.bytes ++ codes "[" ++ signed_decimal n.value ++ codes "];"
act_at (act.Set x r) margin = x.bytes ++ codes " = " ++ right_text r ++ codes ";"
act_at (act.Store a i e) margin = a.bytes ++ codes "[" ++ expr_text i ++ codes "] = " ++ expr_text e ++ codes ";"
act_at (act.Spawn c) margin = codes "spawn " ++ call_text c ++ codes ";"
act_at (act.Call c) margin = codes "call " ++ call_text c ++ codes ";"
act_at act.Sync margin = codes "sync;"
act_at (act.Print e) margin = codes "print " ++ expr_text e ++ codes ";"
act_at (act.If e block otherwise) margin = codes "if " ++ expr_text e ++ codes " " ++ block_text block margin ++ else_text otherwise margin
act_at (act.While e block) margin = codes "while " ++ expr_text e ++ codes " " ++ block_text block margin
act_at (act.Pfor i lo hi target c) margin = range_text i lo hi ++ into_text target ++ loop_call_text i c
act_at (act.Scope block) margin = codes "scope " ++ block_text block margin

abbrev pub line_at : Stmt-F Indented Indented → Indented
line_at stmt margin = margin ++ stmt.act margin ++ codes "\n"

abbrev pub act_text : Act → Indented
act_text = fold-Act Indented Indented act_at line_at

abbrev pub stmt_text : Stmt → Indented
stmt_text = fold-Stmt Indented Indented act_at line_at

-- the lines of some statements
abbrev pub stmts_text : List Stmt → Indented
stmts_text stmts margin = flat_map (λ stmt. stmt_text stmt margin) stmts

-- Functions.

abbrev pub kind_text : Kind → List ℕ
kind_text Int = []
kind_text Id = codes "id "

abbrev pub param_text : Param → List ℕ
param_text param = kind_text param.kind ++ param.name.bytes

abbrev pub answer_kind_text : Kind → List ℕ
answer_kind_text Int = []
answer_kind_text Id = codes " -> id"

abbrev pub head_text : Function → List ℕ
head_text f = codes "fn " ++ f.name.bytes ++ codes "(" ++ listed param_text f.params ++ codes ")" ++ answer_kind_text f.answer ++ codes " {\n"

abbrev pub function_text : Function → List ℕ
function_text f = head_text f ++ stmts_text f.body (codes "  ") ++ codes "  return " ++ expr_text f.result ++ codes ";\n}\n"

-- Scripts.

-- what a text of the version begins with
abbrev pub version_text : Version → List ℕ
version_text One = []
version_text Two = version_line

abbrev pub canonical : Script → List ℕ
canonical script = version_text script.version ++ flat_map function_text script.functions
