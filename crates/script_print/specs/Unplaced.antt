-- A script without its offsets: each of them is 0. Its version stays.
use Rattle.std.specs.Prelude.{◌≡◌, ℕ, List, map, Option, Some, None}
use Rattle.script_grammar.specs.declared.tree.Name.{Name}
use Rattle.script_grammar.specs.declared.tree.Number.{Number}
use Rattle.script_grammar.specs.declared.tree.Expr.{Expr}
use Rattle.script_grammar.specs.declared.tree.Expr.TheFolds.{fold-Expr, fold-SumPart, fold-ProductPart}
use Rattle.script_grammar.specs.declared.tree.Expr.TheOpen as node
use Rattle.script_grammar.specs.declared.tree.Expr.TheOpen.{Expr-F, SumPart-F, ProductPart-F}
use Rattle.script_grammar.specs.declared.tree.Expr.TheVariants as expr
use Rattle.script_grammar.specs.declared.tree.SumPart.{SumPart}
use Rattle.script_grammar.specs.declared.tree.ProductPart.{ProductPart}
use Rattle.script_grammar.specs.declared.tree.CallText.{CallText}
use Rattle.script_grammar.specs.declared.tree.Right.{Right}
use Rattle.script_grammar.specs.declared.tree.Right.TheVariants as right
use Rattle.script_grammar.specs.declared.tree.Stmt.{Stmt}
use Rattle.script_grammar.specs.declared.tree.Act.{Act}
use Rattle.script_grammar.specs.declared.tree.Act.TheOpen as part
use Rattle.script_grammar.specs.declared.tree.Act.TheOpen.{Act-F, Stmt-F}
use Rattle.script_grammar.specs.declared.tree.Act.TheVariants as act
use Rattle.script_grammar.specs.declared.tree.Act.TheFolds.{fold-Act, fold-Stmt}
use Rattle.script_grammar.specs.declared.tree.Param.{Param}
use Rattle.script_grammar.specs.declared.tree.Function.{Function}
use Rattle.script_grammar.specs.declared.tree.Script.{Script}
use Rattle.script_grammar.specs.Text.{Text}

abbrev pub unplaced_name : Name → Name
unplaced_name x = record { bytes = x.bytes; at = 0 }

abbrev pub unplaced_number : Number → Number
unplaced_number n = record { at = 0; value = n.value }

-- one node, from parts that have no offsets any more
abbrev pub expr_unplaced_at : Expr-F Expr ProductPart SumPart → Expr
expr_unplaced_at (node.Number n) = expr.Number (unplaced_number n)
expr_unplaced_at (node.Var x) = expr.Var (unplaced_name x)
expr_unplaced_at (node.Item x i) = expr.Item (unplaced_name x) i
expr_unplaced_at (node.Neg at x) = expr.Neg 0 x
expr_unplaced_at (node.Same at x y) = expr.Same 0 x y
expr_unplaced_at (node.Older at x y) = expr.Older 0 x y
expr_unplaced_at (node.Compare x how y) = expr.Compare x how y
expr_unplaced_at (node.Sum x parts) = expr.Sum x parts
expr_unplaced_at (node.Product x parts) = expr.Product x parts

abbrev pub product_part_unplaced_at : ProductPart-F Expr ProductPart SumPart → ProductPart
product_part_unplaced_at p = record { sign = p.sign; operand = p.operand }

abbrev pub sum_part_unplaced_at : SumPart-F Expr ProductPart SumPart → SumPart
sum_part_unplaced_at p = record { minus = p.minus; operand = p.operand }

abbrev pub unplaced_expr : Expr → Expr
unplaced_expr = fold-Expr Expr ProductPart SumPart expr_unplaced_at product_part_unplaced_at sum_part_unplaced_at

abbrev pub unplaced_product_part : ProductPart → ProductPart
unplaced_product_part = fold-ProductPart Expr ProductPart SumPart expr_unplaced_at product_part_unplaced_at sum_part_unplaced_at

abbrev pub unplaced_sum_part : SumPart → SumPart
unplaced_sum_part = fold-SumPart Expr ProductPart SumPart expr_unplaced_at product_part_unplaced_at sum_part_unplaced_at

abbrev pub unplaced_call : CallText → CallText
unplaced_call c = record { name = unplaced_name c.name; args = map unplaced_expr c.args }

abbrev pub unplaced_right : Right → Right
unplaced_right (right.Value e) = right.Value (unplaced_expr e)
unplaced_right (right.Draw at) = right.Draw 0
unplaced_right (right.New at) = right.New 0
unplaced_right (right.Call at c) = right.Call 0 (unplaced_call c)
unplaced_right (right.Spawn at c) = right.Spawn 0 (unplaced_call c)

abbrev pub unplaced_target : Option Name → Option Name
unplaced_target None = None
unplaced_target (Some x) = Some (unplaced_name x)

-- what a statement does, from inner statements that have no offsets any more
abbrev pub act_unplaced_at : Act-F Act Stmt → Act
act_unplaced_at (part.Let x r) = act.Let (unplaced_name x) (unplaced_right r)
act_unplaced_at (part.Array a n) = act.Array (unplaced_name a) (unplaced_number n)
act_unplaced_at (part.Set x r) = act.Set (unplaced_name x) (unplaced_right r)
act_unplaced_at (part.Store a i e) = act.Store (unplaced_name a) (unplaced_expr i) (unplaced_expr e)
act_unplaced_at (part.Spawn c) = act.Spawn (unplaced_call c)
act_unplaced_at (part.Call c) = act.Call (unplaced_call c)
act_unplaced_at part.Sync = act.Sync
act_unplaced_at (part.Print e) = act.Print (unplaced_expr e)
act_unplaced_at (part.If e block otherwise) = act.If (unplaced_expr e) block otherwise
act_unplaced_at (part.While e block) = act.While (unplaced_expr e) block
act_unplaced_at (part.Pfor i lo hi target c) = act.Pfor (unplaced_name i) (unplaced_expr lo) (unplaced_expr hi) (unplaced_target target) (unplaced_call c)
act_unplaced_at (part.Scope block) = act.Scope block

abbrev pub stmt_unplaced_at : Stmt-F Act Stmt → Stmt
stmt_unplaced_at stmt = record { at = 0; act = stmt.act }

abbrev pub unplaced_act : Act → Act
unplaced_act = fold-Act Act Stmt act_unplaced_at stmt_unplaced_at

abbrev pub unplaced_stmt : Stmt → Stmt
unplaced_stmt = fold-Stmt Act Stmt act_unplaced_at stmt_unplaced_at

abbrev pub unplaced_param : Param → Param
unplaced_param p = record { kind = p.kind; name = unplaced_name p.name }

abbrev pub unplaced_function : Function → Function
unplaced_function f =
    record {
      name = unplaced_name f.name;
      params = map unplaced_param f.params;
      answer = f.answer;
      body = map unplaced_stmt f.body;
      return_at = 0;
      result = unplaced_expr f.result;
    }

abbrev pub unplaced : Script → Script
unplaced script = record { version = script.version; functions = map unplaced_function script.functions }

-- the bytes are the text of a script that differs from this one in offsets at most
abbrev pub IsTextOf : List ℕ → Script → Type 0
IsTextOf bytes script = (same : Script) × Text bytes same × (unplaced same ≡ unplaced script)
