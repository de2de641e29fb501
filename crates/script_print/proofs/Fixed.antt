-- The canonical text doesn't look at offsets.
use Rattle.std.proofs.Common.{◌≡◌, ℕ, Bool, List, [], ◌∷◌, ◌++◌, Option, Some, None, codes, map, flat_map, refl, sym, ap, ◌∙◌, subst}
use Rattle.std.specs.Fmt.{signed_decimal}
use Rattle.script_grammar.specs.declared.tree.Name.{Name}
use Rattle.script_grammar.specs.declared.tree.Number.{Number}
use Rattle.script_grammar.specs.declared.tree.Comparison.{Comparison}
use Rattle.script_grammar.specs.declared.tree.Expr.{Expr, map-Expr, roll-Expr}
use Rattle.script_grammar.specs.declared.tree.Expr.TheFolds.{ind-Expr}
use Rattle.script_grammar.specs.declared.tree.Expr.TheOpen as node
use Rattle.script_grammar.specs.declared.tree.Expr.TheOpen.{Expr-F, ProductPart-F, SumPart-F}
use Rattle.script_grammar.specs.declared.tree.Expr.TheVariants as expr
use Rattle.script_grammar.specs.declared.tree.SumPart.{SumPart, roll-SumPart}
use Rattle.script_grammar.specs.declared.tree.ProductPart.{ProductPart, roll-ProductPart}
use Rattle.script_grammar.specs.declared.tree.ProductSign.{ProductSign}
use Rattle.script_grammar.specs.declared.tree.CallText.{CallText}
use Rattle.script_grammar.specs.declared.tree.Right.{Right}
use Rattle.script_grammar.specs.declared.tree.Right.TheVariants as right
use Rattle.script_grammar.specs.declared.tree.Stmt.{Stmt, roll-Stmt}
use Rattle.script_grammar.specs.declared.tree.Act.{Act, map-Act, roll-Act}
use Rattle.script_grammar.specs.declared.tree.Act.TheFolds.{ind-Act, ind-Stmt}
use Rattle.script_grammar.specs.declared.tree.Act.TheOpen as part
use Rattle.script_grammar.specs.declared.tree.Act.TheOpen.{Act-F, Stmt-F}
use Rattle.script_grammar.specs.declared.tree.Act.TheVariants as act
use Rattle.script_grammar.specs.declared.tree.Param.{Param}
use Rattle.script_grammar.specs.declared.tree.Function.{Function}
use Rattle.script_grammar.specs.declared.tree.Script.{Script}
use Rattle.script_print.specs.Canonical.{Printed, at_precedence, operand, spaced, comparison_text, sum_sign_text, product_sign_text, printed, product_part_text, sum_part_text, expr_text, after_commas, listed, call_text, right_text, range_text, loop_call_text, into_text, block_text, else_text, act_text, stmt_text, stmts_text, param_text, answer_kind_text, head_text, function_text, version_text, canonical}
use Rattle.script_print.specs.Unplaced.{unplaced_name, unplaced_number, unplaced_expr, unplaced_product_part, unplaced_sum_part, unplaced_call, unplaced_right, unplaced_target, unplaced_act, unplaced_stmt, unplaced_param, unplaced_function, unplaced}
use Rattle.script_print.proofs.Computing.{printed-number, printed-variable, printed-item, printed-negation, printed-same, printed-older, printed-comparison, printed-sum, printed-product, sum_part_text-part, product_part_text-part, act_text-let, act_text-array, act_text-set, act_text-store, act_text-spawn, act_text-call, act_text-sync, act_text-print, act_text-if, act_text-while, act_text-pfor, act_text-scope, stmt_text-line, block_text-stmts}
use Rattle.script_print.proofs.Placing.{unplaced-number, unplaced-variable, unplaced-item, unplaced-negation, unplaced-same, unplaced-older, unplaced-comparison, unplaced-sum, unplaced-product, unplaced-sum_part, unplaced-product_part, unplaced-stmt, sync_is, let_is, set_is, array_is, store_is, spawn_is, call_is, print_is, if_is, while_is, pfor_is, scope_is}

-- Expressions.

abbrev Fixed : Expr → Type 0
Fixed x = printed (unplaced_expr x) ≡ printed x

abbrev ProductFixed : ProductPart → Type 0
ProductFixed p = product_part_text (unplaced_product_part p) ≡ product_part_text p

abbrev SumFixed : SumPart → Type 0
SumFixed p = sum_part_text (unplaced_sum_part p) ≡ sum_part_text p

text_of : (x : Expr) → Fixed x → expr_text (unplaced_expr x) ≡ expr_text x
text_of x h = ap (λ p. p.text) h

product_parts_fixed : (ps : List ((p : ProductPart) × ProductFixed p)) → flat_map product_part_text (map unplaced_product_part (map (λ p. p.0) ps)) ≡ flat_map product_part_text (map (λ p. p.0) ps)
product_parts_fixed [] = refl
product_parts_fixed (p ∷ ps) =
    ap (λ z. z ++ flat_map product_part_text (map unplaced_product_part (map (λ q. q.0) ps))) p.1 ∙ ap (λ z. product_part_text p.0 ++ z) (product_parts_fixed ps)

sum_parts_fixed : (ps : List ((p : SumPart) × SumFixed p)) → flat_map sum_part_text (map unplaced_sum_part (map (λ p. p.0) ps)) ≡ flat_map sum_part_text (map (λ p. p.0) ps)
sum_parts_fixed [] = refl
sum_parts_fixed (p ∷ ps) =
    ap (λ z. z ++ flat_map sum_part_text (map unplaced_sum_part (map (λ q. q.0) ps))) p.1 ∙ ap (λ z. sum_part_text p.0 ++ z) (sum_parts_fixed ps)

item_fixed : (x : Name) (i : Expr) → Fixed i → Fixed (expr.Item x i)
item_fixed x i h =
    ap printed (unplaced-item x i) ∙ printed-item (unplaced_name x) (unplaced_expr i) ∙ ap (λ z. at_precedence 5 (x.bytes ++ codes "[" ++ z ++ codes "]")) (text_of i h) ∙ sym (printed-item x i)

negation_fixed : (at : ℕ) (x : Expr) → Fixed x → Fixed (expr.Neg at x)
negation_fixed at x h = ap printed (unplaced-negation at x) ∙ printed-negation 0 (unplaced_expr x) ∙ ap (λ z. at_precedence 4 (codes "-" ++ operand 4 z)) h ∙ sym (printed-negation at x)

same_fixed : (at : ℕ) (x y : Expr) → Fixed x → Fixed y → Fixed (expr.Same at x y)
same_fixed at x y h k =
    ap printed (unplaced-same at x y) ∙ printed-same 0 (unplaced_expr x) (unplaced_expr y)
    ∙ ap (λ z. at_precedence 5 (codes "same(" ++ z ++ codes ", " ++ expr_text (unplaced_expr y) ++ codes ")")) (text_of x h)
    ∙ ap (λ z. at_precedence 5 (codes "same(" ++ expr_text x ++ codes ", " ++ z ++ codes ")")) (text_of y k) ∙ sym (printed-same at x y)

older_fixed : (at : ℕ) (x y : Expr) → Fixed x → Fixed y → Fixed (expr.Older at x y)
older_fixed at x y h k =
    ap printed (unplaced-older at x y) ∙ printed-older 0 (unplaced_expr x) (unplaced_expr y)
    ∙ ap (λ z. at_precedence 5 (codes "older(" ++ z ++ codes ", " ++ expr_text (unplaced_expr y) ++ codes ")")) (text_of x h)
    ∙ ap (λ z. at_precedence 5 (codes "older(" ++ expr_text x ++ codes ", " ++ z ++ codes ")")) (text_of y k) ∙ sym (printed-older at x y)

comparison_fixed : (x : Expr) (how : Comparison) (y : Expr) → Fixed x → Fixed y → Fixed (expr.Compare x how y)
comparison_fixed x how y h k =
    ap printed (unplaced-comparison x how y) ∙ printed-comparison (unplaced_expr x) how (unplaced_expr y)
    ∙ ap (λ z. at_precedence 1 (operand 2 z ++ spaced (comparison_text how) ++ operand 2 (printed (unplaced_expr y)))) h
    ∙ ap (λ z. at_precedence 1 (operand 2 (printed x) ++ spaced (comparison_text how) ++ operand 2 z)) k ∙ sym (printed-comparison x how y)

sum_fixed : (x : Expr) (ps : List ((p : SumPart) × SumFixed p)) → Fixed x → Fixed (expr.Sum x (map (λ p. p.0) ps))
sum_fixed x ps h =
    ap printed (unplaced-sum x (map (λ p. p.0) ps)) ∙ printed-sum (unplaced_expr x) (map unplaced_sum_part (map (λ p. p.0) ps))
    ∙ ap (λ z. at_precedence 2 (operand 3 z ++ flat_map sum_part_text (map unplaced_sum_part (map (λ p. p.0) ps)))) h
    ∙ ap (λ z. at_precedence 2 (operand 3 (printed x) ++ z)) (sum_parts_fixed ps) ∙ sym (printed-sum x (map (λ p. p.0) ps))

product_fixed : (x : Expr) (ps : List ((p : ProductPart) × ProductFixed p)) → Fixed x → Fixed (expr.Product x (map (λ p. p.0) ps))
product_fixed x ps h =
    ap printed (unplaced-product x (map (λ p. p.0) ps)) ∙ printed-product (unplaced_expr x) (map unplaced_product_part (map (λ p. p.0) ps))
    ∙ ap (λ z. at_precedence 3 (operand 4 z ++ flat_map product_part_text (map unplaced_product_part (map (λ p. p.0) ps)))) h
    ∙ ap (λ z. at_precedence 3 (operand 4 (printed x) ++ z)) (product_parts_fixed ps) ∙ sym (printed-product x (map (λ p. p.0) ps))

product_part_fixed : (sign : ProductSign) (x : Expr) → Fixed x → ProductFixed (record { sign = sign; operand = x })
product_part_fixed sign x h =
    ap product_part_text (unplaced-product_part sign x) ∙ product_part_text-part sign (unplaced_expr x) ∙ ap (λ z. spaced (product_sign_text sign) ++ operand 4 z) h ∙ sym (product_part_text-part sign x)

sum_part_fixed : (minus : Bool) (x : Expr) → Fixed x → SumFixed (record { minus = minus; operand = x })
sum_part_fixed minus x h =
    ap sum_part_text (unplaced-sum_part minus x) ∙ sum_part_text-part minus (unplaced_expr x) ∙ ap (λ z. spaced (sum_sign_text minus) ++ operand 3 z) h ∙ sym (sum_part_text-part minus x)

abbrev FixedExpr : Type 0
FixedExpr = (x : Expr) × Fixed x

abbrev FixedProduct : Type 0
FixedProduct = (p : ProductPart) × ProductFixed p

abbrev FixedSum : Type 0
FixedSum = (p : SumPart) × SumFixed p

expr_step : (y : Expr-F FixedExpr FixedProduct FixedSum) → Fixed (roll-Expr (map-Expr FixedExpr FixedProduct FixedSum Expr ProductPart SumPart (λ e. e.0) (λ e. e.0) (λ e. e.0) y))
expr_step (node.Number n) = subst Fixed (sym (expr.rolls-Number n)) (ap printed (unplaced-number n) ∙ printed-number (unplaced_number n) ∙ sym (printed-number n))
expr_step (node.Var x) = subst Fixed (sym (expr.rolls-Var x)) (ap printed (unplaced-variable x) ∙ printed-variable (unplaced_name x) ∙ sym (printed-variable x))
expr_step (node.Item x i) = subst Fixed (sym (expr.rolls-Item x i.0)) (item_fixed x i.0 i.1)
expr_step (node.Neg at x) = subst Fixed (sym (expr.rolls-Neg at x.0)) (negation_fixed at x.0 x.1)
expr_step (node.Same at x y) = subst Fixed (sym (expr.rolls-Same at x.0 y.0)) (same_fixed at x.0 y.0 x.1 y.1)
expr_step (node.Older at x y) = subst Fixed (sym (expr.rolls-Older at x.0 y.0)) (older_fixed at x.0 y.0 x.1 y.1)
expr_step (node.Compare x how y) = subst Fixed (sym (expr.rolls-Compare x.0 how y.0)) (comparison_fixed x.0 how y.0 x.1 y.1)
expr_step (node.Sum x ps) = subst Fixed (sym (expr.rolls-Sum x.0 (map (λ p. p.0) ps))) (sum_fixed x.0 ps x.1)
expr_step (node.Product x ps) = subst Fixed (sym (expr.rolls-Product x.0 (map (λ p. p.0) ps))) (product_fixed x.0 ps x.1)

pub expr_fixed : (x : Expr) → Fixed x
expr_fixed = ind-Expr Fixed ProductFixed SumFixed
    (λ x y is. subst (λ z. Fixed (roll-Expr z)) is (expr_step y))
    (λ x y is. subst (λ z. ProductFixed (roll-ProductPart z)) is (product_part_fixed y.sign y.operand.0 y.operand.1))
    (λ x y is. subst (λ z. SumFixed (roll-SumPart z)) is (sum_part_fixed y.minus y.operand.0 y.operand.1))

expr_text_fixed : (x : Expr) → expr_text (unplaced_expr x) ≡ expr_text x
expr_text_fixed x = text_of x (expr_fixed x)

-- Statements.

after_fixed : {A : Type 0} (f : A → List ℕ) (g : A → A) → ((x : A) → f (g x) ≡ f x) → (xs : List A) → after_commas f (map g xs) ≡ after_commas f xs
after_fixed f g h [] = refl
after_fixed f g h (x ∷ xs) = ap (λ z. codes ", " ++ z ++ after_commas f (map g xs)) (h x) ∙ ap (λ z. codes ", " ++ f x ++ z) (after_fixed f g h xs)

listed_fixed : {A : Type 0} (f : A → List ℕ) (g : A → A) → ((x : A) → f (g x) ≡ f x) → (xs : List A) → listed f (map g xs) ≡ listed f xs
listed_fixed f g h [] = refl
listed_fixed f g h (x ∷ xs) = ap (λ z. z ++ after_commas f (map g xs)) (h x) ∙ ap (λ z. f x ++ z) (after_fixed f g h xs)

call_fixed : (c : CallText) → call_text (unplaced_call c) ≡ call_text c
call_fixed c = ap (λ z. c.name.bytes ++ codes "(" ++ z ++ codes ")") (listed_fixed expr_text unplaced_expr expr_text_fixed c.args)

right_fixed : (r : Right) → right_text (unplaced_right r) ≡ right_text r
right_fixed (right.Value e) = expr_text_fixed e
right_fixed (right.Draw at) = refl
right_fixed (right.New at) = refl
right_fixed (right.Call at c) = ap (λ z. codes "call " ++ z) (call_fixed c)
right_fixed (right.Spawn at c) = ap (λ z. codes "spawn " ++ z) (call_fixed c)

into_fixed : (o : Option Name) → into_text (unplaced_target o) ≡ into_text o
into_fixed None = refl
into_fixed (Some x) = refl

abbrev ActFixed : Act → Type 0
ActFixed a = (margin : List ℕ) → act_text (unplaced_act a) margin ≡ act_text a margin

abbrev StmtFixed : Stmt → Type 0
StmtFixed s = (margin : List ℕ) → stmt_text (unplaced_stmt s) margin ≡ stmt_text s margin

abbrev FixedAct : Type 0
FixedAct = (a : Act) × ActFixed a

abbrev FixedStmt : Type 0
FixedStmt = (s : Stmt) × StmtFixed s

stmts_fixed : (ss : List FixedStmt) (margin : List ℕ) → stmts_text (map unplaced_stmt (map (λ s. s.0) ss)) margin ≡ stmts_text (map (λ s. s.0) ss) margin
stmts_fixed [] margin = refl
stmts_fixed (s ∷ ss) margin = ap (λ z. z ++ stmts_text (map unplaced_stmt (map (λ t. t.0) ss)) margin) (s.1 margin) ∙ ap (λ z. stmt_text s.0 margin ++ z) (stmts_fixed ss margin)

block_fixed : (ss : List FixedStmt) (margin : List ℕ) → block_text (map stmt_text (map unplaced_stmt (map (λ s. s.0) ss))) margin ≡ block_text (map stmt_text (map (λ s. s.0) ss)) margin
block_fixed ss margin =
    block_text-stmts (map unplaced_stmt (map (λ s. s.0) ss)) margin
    ∙ ap (λ z. codes "{\n" ++ z ++ margin ++ codes "}") (stmts_fixed ss (margin ++ codes "  ")) ∙ sym (block_text-stmts (map (λ s. s.0) ss) margin)

else_fixed : (ss : List FixedStmt) (margin : List ℕ) → else_text (map stmt_text (map unplaced_stmt (map (λ s. s.0) ss))) margin ≡ else_text (map stmt_text (map (λ s. s.0) ss)) margin
else_fixed [] margin = refl
else_fixed (s ∷ ss) margin = ap (λ z. codes " else " ++ z) (block_fixed (s ∷ ss) margin)

-- from the text of one act to that of another that it is
moved : (a : Act) {b : Act} {t u : List ℕ} (margin : List ℕ) → unplaced_act a ≡ b → act_text b margin ≡ t → t ≡ u → act_text a margin ≡ u → act_text (unplaced_act a) margin ≡ act_text a margin
moved a margin e f g h = ap (λ z. act_text z margin) e ∙ f ∙ g ∙ sym h

loop_call_fixed : (i : Name) (c : CallText) → loop_call_text (unplaced_name i) (unplaced_call c) ≡ loop_call_text i c
loop_call_fixed i c = ap (λ z. codes " call " ++ c.name.bytes ++ codes "(" ++ i.bytes ++ z ++ codes ");") (after_fixed expr_text unplaced_expr expr_text_fixed c.args)

range_fixed : (i : Name) (lo hi : Expr) → range_text (unplaced_name i) (unplaced_expr lo) (unplaced_expr hi) ≡ range_text i lo hi
range_fixed i lo hi =
    ap (λ z. codes "pfor " ++ i.bytes ++ codes " in " ++ z ++ codes ".." ++ expr_text (unplaced_expr hi)) (expr_text_fixed lo)
    ∙ ap (λ z. codes "pfor " ++ i.bytes ++ codes " in " ++ expr_text lo ++ codes ".." ++ z) (expr_text_fixed hi)

let_fixed : (x : Name) (r : Right) → ActFixed (act.Let x r)
let_fixed x r margin =
    moved _ margin (let_is x r) (act_text-let (unplaced_name x) (unplaced_right r) margin) (ap (λ z. codes "let " ++ x.bytes ++ codes " = " ++ z ++ codes ";") (right_fixed r)) (act_text-let x r margin)

array_fixed : (a : Name) (n : Number) → ActFixed (act.Array a n)
array_fixed a n margin = moved _ margin (array_is a n) (act_text-array (unplaced_name a) (unplaced_number n) margin) refl (act_text-array a n margin)

set_fixed : (x : Name) (r : Right) → ActFixed (act.Set x r)
set_fixed x r margin = moved _ margin (set_is x r) (act_text-set (unplaced_name x) (unplaced_right r) margin) (ap (λ z. x.bytes ++ codes " = " ++ z ++ codes ";") (right_fixed r)) (act_text-set x r margin)

store_fixed : (a : Name) (i e : Expr) → ActFixed (act.Store a i e)
store_fixed a i e margin =
    moved _ margin (store_is a i e) (act_text-store (unplaced_name a) (unplaced_expr i) (unplaced_expr e) margin)
    (ap (λ z. a.bytes ++ codes "[" ++ z ++ codes "] = " ++ expr_text (unplaced_expr e) ++ codes ";") (expr_text_fixed i) ∙ ap (λ z. a.bytes ++ codes "[" ++ expr_text i ++ codes "] = " ++ z ++ codes ";") (expr_text_fixed e))
    (act_text-store a i e margin)

spawn_fixed : (c : CallText) → ActFixed (act.Spawn c)
spawn_fixed c margin = moved _ margin (spawn_is c) (act_text-spawn (unplaced_call c) margin) (ap (λ z. codes "spawn " ++ z ++ codes ";") (call_fixed c)) (act_text-spawn c margin)

call_act_fixed : (c : CallText) → ActFixed (act.Call c)
call_act_fixed c margin = moved _ margin (call_is c) (act_text-call (unplaced_call c) margin) (ap (λ z. codes "call " ++ z ++ codes ";") (call_fixed c)) (act_text-call c margin)

print_fixed : (e : Expr) → ActFixed (act.Print e)
print_fixed e margin = moved _ margin (print_is e) (act_text-print (unplaced_expr e) margin) (ap (λ z. codes "print " ++ z ++ codes ";") (expr_text_fixed e)) (act_text-print e margin)

if_fixed : (e : Expr) (p q : List FixedStmt) → ActFixed (act.If e (map (λ s. s.0) p) (map (λ s. s.0) q))
if_fixed e p q margin =
    let first = map unplaced_stmt (map (λ (s : FixedStmt). s.0) p) in
    let second = map unplaced_stmt (map (λ (s : FixedStmt). s.0) q) in
    moved _ margin (if_is e (map (λ s. s.0) p) (map (λ s. s.0) q)) (act_text-if (unplaced_expr e) first second margin)
    (ap (λ z. codes "if " ++ z ++ codes " " ++ block_text (map stmt_text first) margin ++ else_text (map stmt_text second) margin) (expr_text_fixed e)
    ∙ ap (λ z. codes "if " ++ expr_text e ++ codes " " ++ z ++ else_text (map stmt_text second) margin) (block_fixed p margin)
    ∙ ap (λ z. codes "if " ++ expr_text e ++ codes " " ++ block_text (map stmt_text (map (λ s. s.0) p)) margin ++ z) (else_fixed q margin))
    (act_text-if e (map (λ s. s.0) p) (map (λ s. s.0) q) margin)

while_fixed : (e : Expr) (p : List FixedStmt) → ActFixed (act.While e (map (λ s. s.0) p))
while_fixed e p margin =
    let first = map unplaced_stmt (map (λ (s : FixedStmt). s.0) p) in
    moved _ margin (while_is e (map (λ s. s.0) p)) (act_text-while (unplaced_expr e) first margin)
    (ap (λ z. codes "while " ++ z ++ codes " " ++ block_text (map stmt_text first) margin) (expr_text_fixed e) ∙ ap (λ z. codes "while " ++ expr_text e ++ codes " " ++ z) (block_fixed p margin))
    (act_text-while e (map (λ s. s.0) p) margin)

pfor_fixed : (i : Name) (lo hi : Expr) (o : Option Name) (c : CallText) → ActFixed (act.Pfor i lo hi o c)
pfor_fixed i lo hi o c margin =
    moved _ margin (pfor_is i lo hi o c) (act_text-pfor (unplaced_name i) (unplaced_expr lo) (unplaced_expr hi) (unplaced_target o) (unplaced_call c) margin)
    (ap (λ z. z ++ into_text (unplaced_target o) ++ loop_call_text (unplaced_name i) (unplaced_call c)) (range_fixed i lo hi)
    ∙ ap (λ z. range_text i lo hi ++ z ++ loop_call_text (unplaced_name i) (unplaced_call c)) (into_fixed o)
    ∙ ap (λ z. range_text i lo hi ++ into_text o ++ z) (loop_call_fixed i c))
    (act_text-pfor i lo hi o c margin)

scope_fixed : (p : List FixedStmt) → ActFixed (act.Scope (map (λ s. s.0) p))
scope_fixed p margin =
    moved _ margin (scope_is (map (λ s. s.0) p)) (act_text-scope (map unplaced_stmt (map (λ (s : FixedStmt). s.0) p)) margin)
    (ap (λ z. codes "scope " ++ z) (block_fixed p margin)) (act_text-scope (map (λ s. s.0) p) margin)

act_step : (y : Act-F FixedAct FixedStmt) → ActFixed (roll-Act (map-Act FixedAct FixedStmt Act Stmt (λ a. a.0) (λ s. s.0) y))
act_step (part.Let x r) = subst ActFixed (sym (act.rolls-Let x r)) (let_fixed x r)
act_step (part.Array a n) = subst ActFixed (sym (act.rolls-Array a n)) (array_fixed a n)
act_step (part.Set x r) = subst ActFixed (sym (act.rolls-Set x r)) (set_fixed x r)
act_step (part.Store a i e) = subst ActFixed (sym (act.rolls-Store a i e)) (store_fixed a i e)
act_step (part.Spawn c) = subst ActFixed (sym (act.rolls-Spawn c)) (spawn_fixed c)
act_step (part.Call c) = subst ActFixed (sym (act.rolls-Call c)) (call_act_fixed c)
act_step part.Sync = subst ActFixed (sym act.rolls-Sync) (λ margin. ap (λ z. act_text z margin) sync_is)
act_step (part.Print e) = subst ActFixed (sym (act.rolls-Print e)) (print_fixed e)
act_step (part.If e p q) = subst ActFixed (sym (act.rolls-If e (map (λ s. s.0) p) (map (λ s. s.0) q))) (if_fixed e p q)
act_step (part.While e p) = subst ActFixed (sym (act.rolls-While e (map (λ s. s.0) p))) (while_fixed e p)
act_step (part.Pfor i lo hi o c) = subst ActFixed (sym (act.rolls-Pfor i lo hi o c)) (pfor_fixed i lo hi o c)
act_step (part.Scope p) = subst ActFixed (sym (act.rolls-Scope (map (λ s. s.0) p))) (scope_fixed p)

stmt_step : (place : ℕ) (a : Act) → ActFixed a → StmtFixed (record { at = place; act = a })
stmt_step place a h margin =
    ap (λ z. stmt_text z margin) (unplaced-stmt place a) ∙ stmt_text-line 0 (unplaced_act a) margin ∙ ap (λ z. margin ++ z ++ codes "\n") (h margin) ∙ sym (stmt_text-line place a margin)

stmt_fixed : (s : Stmt) → StmtFixed s
stmt_fixed = ind-Stmt ActFixed StmtFixed
    (λ x y is. subst (λ z. ActFixed (roll-Act z)) is (act_step y))
    (λ x y is. subst (λ z. StmtFixed (roll-Stmt z)) is (stmt_step y.at y.act.0 y.act.1))

-- Scripts.

body_fixed : (ss : List Stmt) (margin : List ℕ) → stmts_text (map unplaced_stmt ss) margin ≡ stmts_text ss margin
body_fixed [] margin = refl
body_fixed (s ∷ ss) margin = ap (λ z. z ++ stmts_text (map unplaced_stmt ss) margin) (stmt_fixed s margin) ∙ ap (λ z. stmt_text s margin ++ z) (body_fixed ss margin)

function_fixed : (f : Function) → function_text (unplaced_function f) ≡ function_text f
function_fixed f =
    let params = listed_fixed param_text unplaced_param (λ p. refl) f.params in
    ap (λ z. codes "fn " ++ f.name.bytes ++ codes "(" ++ z ++ codes ")" ++ answer_kind_text f.answer ++ codes " {\n"
    ++ stmts_text (map unplaced_stmt f.body) (codes "  ") ++ codes "  return " ++ expr_text (unplaced_expr f.result) ++ codes ";\n}\n") params
    ∙ ap (λ z. head_text f ++ z ++ codes "  return " ++ expr_text (unplaced_expr f.result) ++ codes ";\n}\n") (body_fixed f.body (codes "  "))
    ∙ ap (λ z. head_text f ++ stmts_text f.body (codes "  ") ++ codes "  return " ++ z ++ codes ";\n}\n") (expr_text_fixed f.result)

functions_fixed : (fs : List Function) → flat_map function_text (map unplaced_function fs) ≡ flat_map function_text fs
functions_fixed [] = refl
functions_fixed (f ∷ fs) = ap (λ z. z ++ flat_map function_text (map unplaced_function fs)) (function_fixed f) ∙ ap (λ z. function_text f ++ z) (functions_fixed fs)

-- scripts that are equal apart from offsets have one canonical text
pub canonical_fixed : (s t : Script) → unplaced s ≡ unplaced t → canonical s ≡ canonical t
canonical_fixed s t e =
    ap (λ z. version_text s.version ++ z) (sym (functions_fixed s.functions)) ∙ ap canonical e ∙ ap (λ z. version_text t.version ++ z) (functions_fixed t.functions)
