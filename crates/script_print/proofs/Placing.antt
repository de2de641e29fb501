-- Trees that are made alike are equal apart from offsets where their parts are.
use Rattle.std.proofs.Common.{◌≡◌, ℕ, Bool, List, [], ◌∷◌, Option, map, refl, sym, ap, ◌∙◌}
use Rattle.script_grammar.specs.declared.tree.Name.{Name}
use Rattle.script_grammar.specs.declared.tree.Number.{Number}
use Rattle.script_grammar.specs.declared.tree.Comparison.{Comparison}
use Rattle.script_grammar.specs.declared.tree.Expr.{Expr, map-Expr, roll-Expr, fold-roll-Expr}
use Rattle.script_grammar.specs.declared.tree.Expr.TheOpen as node
use Rattle.script_grammar.specs.declared.tree.Expr.TheOpen.{Expr-F}
use Rattle.script_grammar.specs.declared.tree.Expr.TheVariants as expr
use Rattle.script_grammar.specs.declared.tree.SumPart.{SumPart, fold_out-SumPart}
use Rattle.script_grammar.specs.declared.tree.ProductPart.{ProductPart, fold_out-ProductPart}
use Rattle.script_grammar.specs.declared.tree.ProductSign.{ProductSign}
use Rattle.script_grammar.specs.declared.tree.CallText.{CallText}
use Rattle.script_grammar.specs.declared.tree.Right.{Right}
use Rattle.script_grammar.specs.declared.tree.Stmt.{Stmt, fold_out-Stmt}
use Rattle.script_grammar.specs.declared.tree.Act.{Act, map-Act, roll-Act, fold-roll-Act}
use Rattle.script_grammar.specs.declared.tree.Act.TheOpen as part
use Rattle.script_grammar.specs.declared.tree.Act.TheOpen.{Act-F}
use Rattle.script_grammar.specs.declared.tree.Act.TheVariants as act
use Rattle.script_grammar.specs.Grammar.{product_of, sum_of}
use Rattle.script_print.specs.Unplaced.{unplaced_name, unplaced_number, expr_unplaced_at, product_part_unplaced_at, sum_part_unplaced_at, unplaced_expr, unplaced_product_part, unplaced_sum_part, unplaced_call, unplaced_right, unplaced_target, act_unplaced_at, stmt_unplaced_at, unplaced_act, unplaced_stmt}

-- Expressions.

unplaced-roll : (d : Expr-F Expr ProductPart SumPart) → unplaced_expr (roll-Expr d) ≡ expr_unplaced_at (map-Expr Expr ProductPart SumPart Expr ProductPart SumPart unplaced_expr unplaced_product_part unplaced_sum_part d)
unplaced-roll d = fold-roll-Expr Expr ProductPart SumPart expr_unplaced_at product_part_unplaced_at sum_part_unplaced_at d

pub unplaced-number : (n : Number) → unplaced_expr (expr.Number n) ≡ expr.Number (unplaced_number n)
unplaced-number n = ap unplaced_expr (sym (expr.rolls-Number n)) ∙ unplaced-roll (node.Number n)

pub unplaced-variable : (x : Name) → unplaced_expr (expr.Var x) ≡ expr.Var (unplaced_name x)
unplaced-variable x = ap unplaced_expr (sym (expr.rolls-Var x)) ∙ unplaced-roll (node.Var x)

pub unplaced-item : (x : Name) (i : Expr) → unplaced_expr (expr.Item x i) ≡ expr.Item (unplaced_name x) (unplaced_expr i)
unplaced-item x i = ap unplaced_expr (sym (expr.rolls-Item x i)) ∙ unplaced-roll (node.Item x i)

pub unplaced-negation : (at : ℕ) (x : Expr) → unplaced_expr (expr.Neg at x) ≡ expr.Neg 0 (unplaced_expr x)
unplaced-negation at x = ap unplaced_expr (sym (expr.rolls-Neg at x)) ∙ unplaced-roll (node.Neg at x)

pub unplaced-same : (at : ℕ) (x y : Expr) → unplaced_expr (expr.Same at x y) ≡ expr.Same 0 (unplaced_expr x) (unplaced_expr y)
unplaced-same at x y = ap unplaced_expr (sym (expr.rolls-Same at x y)) ∙ unplaced-roll (node.Same at x y)

pub unplaced-older : (at : ℕ) (x y : Expr) → unplaced_expr (expr.Older at x y) ≡ expr.Older 0 (unplaced_expr x) (unplaced_expr y)
unplaced-older at x y = ap unplaced_expr (sym (expr.rolls-Older at x y)) ∙ unplaced-roll (node.Older at x y)

pub unplaced-comparison : (x : Expr) (how : Comparison) (y : Expr) → unplaced_expr (expr.Compare x how y) ≡ expr.Compare (unplaced_expr x) how (unplaced_expr y)
unplaced-comparison x how y = ap unplaced_expr (sym (expr.rolls-Compare x how y)) ∙ unplaced-roll (node.Compare x how y)

pub unplaced-sum : (x : Expr) (parts : List SumPart) → unplaced_expr (expr.Sum x parts) ≡ expr.Sum (unplaced_expr x) (map unplaced_sum_part parts)
unplaced-sum x parts = ap unplaced_expr (sym (expr.rolls-Sum x parts)) ∙ unplaced-roll (node.Sum x parts)

pub unplaced-product : (x : Expr) (parts : List ProductPart) → unplaced_expr (expr.Product x parts) ≡ expr.Product (unplaced_expr x) (map unplaced_product_part parts)
unplaced-product x parts = ap unplaced_expr (sym (expr.rolls-Product x parts)) ∙ unplaced-roll (node.Product x parts)

pub unplaced-sum_part : (minus : Bool) (x : Expr) → unplaced_sum_part (record { minus = minus; operand = x }) ≡ record { minus = minus; operand = unplaced_expr x }
unplaced-sum_part minus x = fold_out-SumPart Expr ProductPart SumPart expr_unplaced_at product_part_unplaced_at sum_part_unplaced_at (record { minus = minus; operand = x })

pub unplaced-product_part : (sign : ProductSign) (x : Expr) → unplaced_product_part (record { sign = sign; operand = x }) ≡ record { sign = sign; operand = unplaced_expr x }
unplaced-product_part sign x = fold_out-ProductPart Expr ProductPart SumPart expr_unplaced_at product_part_unplaced_at sum_part_unplaced_at (record { sign = sign; operand = x })

pub same_item : (x y : Name) (i j : Expr) → unplaced_name x ≡ unplaced_name y → unplaced_expr i ≡ unplaced_expr j → unplaced_expr (expr.Item x i) ≡ unplaced_expr (expr.Item y j)
same_item x y i j e f = unplaced-item x i ∙ ap (λ z. expr.Item z (unplaced_expr i)) e ∙ ap (expr.Item (unplaced_name y)) f ∙ sym (unplaced-item y j)

pub same_number : (m n : Number) → unplaced_number m ≡ unplaced_number n → unplaced_expr (expr.Number m) ≡ unplaced_expr (expr.Number n)
same_number m n e = unplaced-number m ∙ ap expr.Number e ∙ sym (unplaced-number n)

pub same_variable : (x y : Name) → unplaced_name x ≡ unplaced_name y → unplaced_expr (expr.Var x) ≡ unplaced_expr (expr.Var y)
same_variable x y e = unplaced-variable x ∙ ap expr.Var e ∙ sym (unplaced-variable y)

pub same_negation : (a b : ℕ) (x y : Expr) → unplaced_expr x ≡ unplaced_expr y → unplaced_expr (expr.Neg a x) ≡ unplaced_expr (expr.Neg b y)
same_negation a b x y e = unplaced-negation a x ∙ ap (expr.Neg 0) e ∙ sym (unplaced-negation b y)

pub same_same : (a b : ℕ) (x y z w : Expr) → unplaced_expr x ≡ unplaced_expr y → unplaced_expr z ≡ unplaced_expr w → unplaced_expr (expr.Same a x z) ≡ unplaced_expr (expr.Same b y w)
same_same a b x y z w e f = unplaced-same a x z ∙ ap (λ v. expr.Same 0 v (unplaced_expr z)) e ∙ ap (expr.Same 0 (unplaced_expr y)) f ∙ sym (unplaced-same b y w)

pub same_older : (a b : ℕ) (x y z w : Expr) → unplaced_expr x ≡ unplaced_expr y → unplaced_expr z ≡ unplaced_expr w → unplaced_expr (expr.Older a x z) ≡ unplaced_expr (expr.Older b y w)
same_older a b x y z w e f = unplaced-older a x z ∙ ap (λ v. expr.Older 0 v (unplaced_expr z)) e ∙ ap (expr.Older 0 (unplaced_expr y)) f ∙ sym (unplaced-older b y w)

pub same_comparison : (how : Comparison) (x y z w : Expr) → unplaced_expr x ≡ unplaced_expr y → unplaced_expr z ≡ unplaced_expr w → unplaced_expr (expr.Compare x how z) ≡ unplaced_expr (expr.Compare y how w)
same_comparison how x y z w e f = unplaced-comparison x how z ∙ ap (λ v. expr.Compare v how (unplaced_expr z)) e ∙ ap (expr.Compare (unplaced_expr y) how) f ∙ sym (unplaced-comparison y how w)

pub same_sum_part : (minus : Bool) (x y : Expr) → unplaced_expr x ≡ unplaced_expr y → unplaced_sum_part (record { minus = minus; operand = x }) ≡ unplaced_sum_part (record { minus = minus; operand = y })
same_sum_part minus x y e = unplaced-sum_part minus x ∙ ap (λ (z : Expr). record { minus = minus; operand = z }) e ∙ sym (unplaced-sum_part minus y)

pub same_product_part : (sign : ProductSign) (x y : Expr) → unplaced_expr x ≡ unplaced_expr y → unplaced_product_part (record { sign = sign; operand = x }) ≡ unplaced_product_part (record { sign = sign; operand = y })
same_product_part sign x y e = unplaced-product_part sign x ∙ ap (λ (z : Expr). record { sign = sign; operand = z }) e ∙ sym (unplaced-product_part sign y)

pub same_sum : (x y : Expr) (ps : List SumPart) (q : SumPart) (qs : List SumPart) → unplaced_expr x ≡ unplaced_expr y → map unplaced_sum_part ps ≡ map unplaced_sum_part (q ∷ qs) →
    unplaced_expr (sum_of x ps) ≡ unplaced_expr (expr.Sum y (q ∷ qs))
same_sum x y [] q qs e f = absurd cc
same_sum x y (p ∷ ps) q qs e f = unplaced-sum x (p ∷ ps) ∙ ap (λ z. expr.Sum z (map unplaced_sum_part (p ∷ ps))) e ∙ ap (expr.Sum (unplaced_expr y)) f ∙ sym (unplaced-sum y (q ∷ qs))

pub same_product : (x y : Expr) (ps : List ProductPart) (q : ProductPart) (qs : List ProductPart) → unplaced_expr x ≡ unplaced_expr y → map unplaced_product_part ps ≡ map unplaced_product_part (q ∷ qs) →
    unplaced_expr (product_of x ps) ≡ unplaced_expr (expr.Product y (q ∷ qs))
same_product x y [] q qs e f = absurd cc
same_product x y (p ∷ ps) q qs e f = unplaced-product x (p ∷ ps) ∙ ap (λ z. expr.Product z (map unplaced_product_part (p ∷ ps))) e ∙ ap (expr.Product (unplaced_expr y)) f ∙ sym (unplaced-product y (q ∷ qs))

pub cons_same : {A : Type 0} {x y : A} {xs ys : List A} → x ≡ y → xs ≡ ys → ◌≡◌ {A = List A} (x ∷ xs) (y ∷ ys)
cons_same {y = y} {xs = xs} e f = ap (λ z. z ∷ xs) e ∙ ap (λ zs. y ∷ zs) f

-- Statements.

act-roll : (d : Act-F Act Stmt) → unplaced_act (roll-Act d) ≡ act_unplaced_at (map-Act Act Stmt Act Stmt unplaced_act unplaced_stmt d)
act-roll d = fold-roll-Act Act Stmt act_unplaced_at stmt_unplaced_at d

pub unplaced-stmt : (place : ℕ) (a : Act) → unplaced_stmt (record { at = place; act = a }) ≡ record { at = 0; act = unplaced_act a }
unplaced-stmt place a = fold_out-Stmt Act Stmt act_unplaced_at stmt_unplaced_at (record { at = place; act = a })

pub same_stmt : (b c : ℕ) (x y : Act) → unplaced_act x ≡ unplaced_act y → unplaced_stmt (record { at = b; act = x }) ≡ unplaced_stmt (record { at = c; act = y })
same_stmt b c x y e = unplaced-stmt b x ∙ ap (λ (z : Act). record { at = 0; act = z }) e ∙ sym (unplaced-stmt c y)

pub let_is : (x : Name) (r : Right) → unplaced_act (act.Let x r) ≡ act.Let (unplaced_name x) (unplaced_right r)
let_is x r = ap unplaced_act (sym (act.rolls-Let x r)) ∙ act-roll (part.Let x r)

pub same_let : (x y : Name) (r s : Right) → unplaced_name x ≡ unplaced_name y → unplaced_right r ≡ unplaced_right s → unplaced_act (act.Let x r) ≡ unplaced_act (act.Let y s)
same_let x y r s e f = let_is x r ∙ ap (λ z. act.Let z (unplaced_right r)) e ∙ ap (act.Let (unplaced_name y)) f ∙ sym (let_is y s)

pub set_is : (x : Name) (r : Right) → unplaced_act (act.Set x r) ≡ act.Set (unplaced_name x) (unplaced_right r)
set_is x r = ap unplaced_act (sym (act.rolls-Set x r)) ∙ act-roll (part.Set x r)

pub same_set : (x y : Name) (r s : Right) → unplaced_name x ≡ unplaced_name y → unplaced_right r ≡ unplaced_right s → unplaced_act (act.Set x r) ≡ unplaced_act (act.Set y s)
same_set x y r s e f = set_is x r ∙ ap (λ z. act.Set z (unplaced_right r)) e ∙ ap (act.Set (unplaced_name y)) f ∙ sym (set_is y s)

pub array_is : (x : Name) (n : Number) → unplaced_act (act.Array x n) ≡ act.Array (unplaced_name x) (unplaced_number n)
array_is x n = ap unplaced_act (sym (act.rolls-Array x n)) ∙ act-roll (part.Array x n)

pub same_array : (x y : Name) (m n : Number) → unplaced_name x ≡ unplaced_name y → unplaced_number m ≡ unplaced_number n → unplaced_act (act.Array x m) ≡ unplaced_act (act.Array y n)
same_array x y m n e f = array_is x m ∙ ap (λ z. act.Array z (unplaced_number m)) e ∙ ap (act.Array (unplaced_name y)) f ∙ sym (array_is y n)

pub store_is : (a : Name) (i e : Expr) → unplaced_act (act.Store a i e) ≡ act.Store (unplaced_name a) (unplaced_expr i) (unplaced_expr e)
store_is a i e = ap unplaced_act (sym (act.rolls-Store a i e)) ∙ act-roll (part.Store a i e)

pub same_store : (a b : Name) (i j x y : Expr) → unplaced_name a ≡ unplaced_name b → unplaced_expr i ≡ unplaced_expr j → unplaced_expr x ≡ unplaced_expr y → unplaced_act (act.Store a i x) ≡ unplaced_act (act.Store b j y)
same_store a b i j x y e f g =
    store_is a i x ∙ ap (λ z. act.Store z (unplaced_expr i) (unplaced_expr x)) e ∙ ap (λ z. act.Store (unplaced_name b) z (unplaced_expr x)) f
    ∙ ap (act.Store (unplaced_name b) (unplaced_expr j)) g ∙ sym (store_is b j y)

pub spawn_is : (c : CallText) → unplaced_act (act.Spawn c) ≡ act.Spawn (unplaced_call c)
spawn_is c = ap unplaced_act (sym (act.rolls-Spawn c)) ∙ act-roll (part.Spawn c)

pub same_spawn : (c d : CallText) → unplaced_call c ≡ unplaced_call d → unplaced_act (act.Spawn c) ≡ unplaced_act (act.Spawn d)
same_spawn c d e = spawn_is c ∙ ap act.Spawn e ∙ sym (spawn_is d)

pub call_is : (c : CallText) → unplaced_act (act.Call c) ≡ act.Call (unplaced_call c)
call_is c = ap unplaced_act (sym (act.rolls-Call c)) ∙ act-roll (part.Call c)

pub same_call : (c d : CallText) → unplaced_call c ≡ unplaced_call d → unplaced_act (act.Call c) ≡ unplaced_act (act.Call d)
same_call c d e = call_is c ∙ ap act.Call e ∙ sym (call_is d)

pub sync_is : unplaced_act act.Sync ≡ act.Sync
sync_is = ap unplaced_act (sym act.rolls-Sync) ∙ act-roll part.Sync

pub print_is : (x : Expr) → unplaced_act (act.Print x) ≡ act.Print (unplaced_expr x)
print_is x = ap unplaced_act (sym (act.rolls-Print x)) ∙ act-roll (part.Print x)

pub same_print : (x y : Expr) → unplaced_expr x ≡ unplaced_expr y → unplaced_act (act.Print x) ≡ unplaced_act (act.Print y)
same_print x y e = print_is x ∙ ap act.Print e ∙ sym (print_is y)

pub if_is : (x : Expr) (p q : List Stmt) → unplaced_act (act.If x p q) ≡ act.If (unplaced_expr x) (map unplaced_stmt p) (map unplaced_stmt q)
if_is x p q = ap unplaced_act (sym (act.rolls-If x p q)) ∙ act-roll (part.If x p q)

pub same_if : (x y : Expr) (p q r s : List Stmt) → unplaced_expr x ≡ unplaced_expr y → map unplaced_stmt p ≡ map unplaced_stmt q → map unplaced_stmt r ≡ map unplaced_stmt s → unplaced_act (act.If x p r) ≡ unplaced_act (act.If y q s)
same_if x y p q r s e f g =
    if_is x p r ∙ ap (λ z. act.If z (map unplaced_stmt p) (map unplaced_stmt r)) e ∙ ap (λ z. act.If (unplaced_expr y) z (map unplaced_stmt r)) f
    ∙ ap (act.If (unplaced_expr y) (map unplaced_stmt q)) g ∙ sym (if_is y q s)

pub while_is : (x : Expr) (p : List Stmt) → unplaced_act (act.While x p) ≡ act.While (unplaced_expr x) (map unplaced_stmt p)
while_is x p = ap unplaced_act (sym (act.rolls-While x p)) ∙ act-roll (part.While x p)

pub scope_is : (p : List Stmt) → unplaced_act (act.Scope p) ≡ act.Scope (map unplaced_stmt p)
scope_is p = ap unplaced_act (sym (act.rolls-Scope p)) ∙ act-roll (part.Scope p)

pub same_scope : (p q : List Stmt) → map unplaced_stmt p ≡ map unplaced_stmt q → unplaced_act (act.Scope p) ≡ unplaced_act (act.Scope q)
same_scope p q f = scope_is p ∙ ap act.Scope f ∙ sym (scope_is q)

pub same_while : (x y : Expr) (p q : List Stmt) → unplaced_expr x ≡ unplaced_expr y → map unplaced_stmt p ≡ map unplaced_stmt q → unplaced_act (act.While x p) ≡ unplaced_act (act.While y q)
same_while x y p q e f = while_is x p ∙ ap (λ z. act.While z (map unplaced_stmt p)) e ∙ ap (act.While (unplaced_expr y)) f ∙ sym (while_is y q)

pub pfor_is : (i : Name) (lo hi : Expr) (t : Option Name) (c : CallText) → unplaced_act (act.Pfor i lo hi t c) ≡ act.Pfor (unplaced_name i) (unplaced_expr lo) (unplaced_expr hi) (unplaced_target t) (unplaced_call c)
pfor_is i lo hi t c = ap unplaced_act (sym (act.rolls-Pfor i lo hi t c)) ∙ act-roll (part.Pfor i lo hi t c)

pub same_pfor : (i j : Name) (x y z w : Expr) (t u : Option Name) (c d : CallText) →
    unplaced_name i ≡ unplaced_name j → unplaced_expr x ≡ unplaced_expr y → unplaced_expr z ≡ unplaced_expr w → unplaced_target t ≡ unplaced_target u → unplaced_call c ≡ unplaced_call d →
    unplaced_act (act.Pfor i x z t c) ≡ unplaced_act (act.Pfor j y w u d)
same_pfor i j x y z w t u c d e f g h k =
    pfor_is i x z t c
    ∙ ap (λ v. act.Pfor v (unplaced_expr x) (unplaced_expr z) (unplaced_target t) (unplaced_call c)) e
    ∙ ap (λ v. act.Pfor (unplaced_name j) v (unplaced_expr z) (unplaced_target t) (unplaced_call c)) f
    ∙ ap (λ v. act.Pfor (unplaced_name j) (unplaced_expr y) v (unplaced_target t) (unplaced_call c)) g
    ∙ ap (λ v. act.Pfor (unplaced_name j) (unplaced_expr y) (unplaced_expr w) v (unplaced_call c)) h
    ∙ ap (act.Pfor (unplaced_name j) (unplaced_expr y) (unplaced_expr w) (unplaced_target u)) k
    ∙ sym (pfor_is j y w u d)
