-- The equations by which texts of trees are computed.
use Rattle.std.proofs.Common.{◌≡◌, ℕ, Bool, List, [], ◌∷◌, ◌++◌, Option, Result, Ok, Err, OnOk, codes, flat_map, map, refl, sym, ap, ◌∙◌, append_assoc}
use Rattle.std.specs.Fmt.{signed_decimal}
use Rattle.std.proofs.lemmas.List.Folds.{flat_map-map}
use Rattle.script_grammar.specs.declared.tree.Name.{Name}
use Rattle.script_grammar.specs.declared.tree.Number.{Number}
use Rattle.script_grammar.specs.declared.tree.Comparison.{Comparison}
use Rattle.script_grammar.specs.declared.tree.Expr.{Expr, map-Expr, roll-Expr, fold-roll-Expr}
use Rattle.script_grammar.specs.declared.tree.Expr.TheOpen as node
use Rattle.script_grammar.specs.declared.tree.Expr.TheOpen.{Expr-F}
use Rattle.script_grammar.specs.declared.tree.Expr.TheVariants as expr
use Rattle.script_grammar.specs.declared.tree.SumPart.{SumPart, fold_out-SumPart}
use Rattle.script_grammar.specs.declared.tree.ProductPart.{ProductPart, fold_out-ProductPart}
use Rattle.script_grammar.specs.declared.tree.ProductSign.{ProductSign}
use Rattle.script_grammar.specs.declared.tree.CallText.{CallText}
use Rattle.script_grammar.specs.declared.tree.Right.{Right}
use Rattle.script_grammar.specs.declared.tree.Stmt.{Stmt, fold_out-Stmt}
use Rattle.script_grammar.specs.declared.tree.Act.{Act, map-Act, roll-Act, fold-roll-Act}
use Rattle.script_grammar.specs.declared.tree.Act.TheOpen as act_node
use Rattle.script_grammar.specs.declared.tree.Act.TheOpen.{Act-F}
use Rattle.script_grammar.specs.declared.tree.Act.TheVariants as act
use Rattle.script_print.specs.Canonical.{Printed, at_precedence, operand, comparison_text, sum_sign_text, product_sign_text, spaced, expr_at, product_part_at, sum_part_at, printed, product_part_text, sum_part_text, expr_text, after_commas, call_text, right_text, into_text, range_text, loop_call_text, Indented, block_text, else_text, act_at, line_at, act_text, stmt_text, stmts_text}

printed-roll : (d : Expr-F Expr ProductPart SumPart) → printed (roll-Expr d) ≡ expr_at (map-Expr Expr ProductPart SumPart Printed (List ℕ) (List ℕ) printed product_part_text sum_part_text d)
printed-roll d = fold-roll-Expr Printed (List ℕ) (List ℕ) expr_at product_part_at sum_part_at d

pub printed-number : (n : Number) → printed (expr.Number n) ≡ at_precedence 5 (signed_decimal n.value)
printed-number n = ap printed (sym (expr.rolls-Number n)) ∙ printed-roll (node.Number n)

pub printed-variable : (x : Name) → printed (expr.Var x) ≡ at_precedence 5 x.bytes
printed-variable x = ap printed (sym (expr.rolls-Var x)) ∙ printed-roll (node.Var x)

pub printed-item : (x : Name) (i : Expr) → printed (expr.Item x i) ≡ at_precedence 5 (x.bytes ++ codes "[" ++ expr_text i ++ codes "]")
printed-item x i = ap printed (sym (expr.rolls-Item x i)) ∙ printed-roll (node.Item x i)

pub printed-negation : (at : ℕ) (x : Expr) → printed (expr.Neg at x) ≡ at_precedence 4 (codes "-" ++ operand 4 (printed x))
printed-negation at x = ap printed (sym (expr.rolls-Neg at x)) ∙ printed-roll (node.Neg at x)

pub printed-same : (at : ℕ) (x y : Expr) → printed (expr.Same at x y) ≡ at_precedence 5 (codes "same(" ++ expr_text x ++ codes ", " ++ expr_text y ++ codes ")")
printed-same at x y = ap printed (sym (expr.rolls-Same at x y)) ∙ printed-roll (node.Same at x y)

pub printed-older : (at : ℕ) (x y : Expr) → printed (expr.Older at x y) ≡ at_precedence 5 (codes "older(" ++ expr_text x ++ codes ", " ++ expr_text y ++ codes ")")
printed-older at x y = ap printed (sym (expr.rolls-Older at x y)) ∙ printed-roll (node.Older at x y)

pub printed-comparison : (x : Expr) (how : Comparison) (y : Expr) → printed (expr.Compare x how y) ≡ at_precedence 1 (operand 2 (printed x) ++ spaced (comparison_text how) ++ operand 2 (printed y))
printed-comparison x how y = ap printed (sym (expr.rolls-Compare x how y)) ∙ printed-roll (node.Compare x how y)

pub printed-sum : (x : Expr) (parts : List SumPart) → printed (expr.Sum x parts) ≡ at_precedence 2 (operand 3 (printed x) ++ flat_map sum_part_text parts)
printed-sum x parts =
    ap printed (sym (expr.rolls-Sum x parts)) ∙ printed-roll (node.Sum x parts)
    ∙ ap (λ z. at_precedence 2 (operand 3 (printed x) ++ z)) (flat_map-map (λ part. part) sum_part_text parts)

pub printed-product : (x : Expr) (parts : List ProductPart) → printed (expr.Product x parts) ≡ at_precedence 3 (operand 4 (printed x) ++ flat_map product_part_text parts)
printed-product x parts =
    ap printed (sym (expr.rolls-Product x parts)) ∙ printed-roll (node.Product x parts)
    ∙ ap (λ z. at_precedence 3 (operand 4 (printed x) ++ z)) (flat_map-map (λ part. part) product_part_text parts)

pub sum_part_text-part : (minus : Bool) (x : Expr) → sum_part_text (record { minus = minus; operand = x }) ≡ spaced (sum_sign_text minus) ++ operand 3 (printed x)
sum_part_text-part minus x = fold_out-SumPart Printed (List ℕ) (List ℕ) expr_at product_part_at sum_part_at (record { minus = minus; operand = x })

pub product_part_text-part : (sign : ProductSign) (x : Expr) → product_part_text (record { sign = sign; operand = x }) ≡ spaced (product_sign_text sign) ++ operand 4 (printed x)
product_part_text-part sign x = fold_out-ProductPart Printed (List ℕ) (List ℕ) expr_at product_part_at sum_part_at (record { sign = sign; operand = x })

act_text-roll : (d : Act-F Act Stmt) (margin : List ℕ) → act_text (roll-Act d) margin ≡ act_at (map-Act Act Stmt Indented Indented act_text stmt_text d) margin
act_text-roll d margin = ap (λ (f : Indented). f margin) (fold-roll-Act Indented Indented act_at line_at d)

at : {a b : Act} (margin : List ℕ) → a ≡ b → act_text b margin ≡ act_text a margin
at margin e = ap (λ x. act_text x margin) (sym e)

pub act_text-let : (x : Name) (r : Right) (margin : List ℕ) → act_text (act.Let x r) margin ≡ codes "let " ++ x.bytes ++ codes " = " ++ right_text r ++ codes ";"
act_text-let x r margin = at margin (act.rolls-Let x r) ∙ act_text-roll (act_node.Let x r) margin

pub act_text-array : (a : Name) (n : Number) (margin : List ℕ) → act_text (act.Array a n) margin ≡ codes "let " ++ a.bytes ++ codes "[" ++ signed_decimal n.value ++ codes "];"
act_text-array a n margin = at margin (act.rolls-Array a n) ∙ act_text-roll (act_node.Array a n) margin

pub act_text-set : (x : Name) (r : Right) (margin : List ℕ) → act_text (act.Set x r) margin ≡ x.bytes ++ codes " = " ++ right_text r ++ codes ";"
act_text-set x r margin = at margin (act.rolls-Set x r) ∙ act_text-roll (act_node.Set x r) margin

pub act_text-store : (a : Name) (i e : Expr) (margin : List ℕ) → act_text (act.Store a i e) margin ≡ a.bytes ++ codes "[" ++ expr_text i ++ codes "] = " ++ expr_text e ++ codes ";"
act_text-store a i e margin = at margin (act.rolls-Store a i e) ∙ act_text-roll (act_node.Store a i e) margin

pub act_text-spawn : (c : CallText) (margin : List ℕ) → act_text (act.Spawn c) margin ≡ codes "spawn " ++ call_text c ++ codes ";"
act_text-spawn c margin = at margin (act.rolls-Spawn c) ∙ act_text-roll (act_node.Spawn c) margin

pub act_text-call : (c : CallText) (margin : List ℕ) → act_text (act.Call c) margin ≡ codes "call " ++ call_text c ++ codes ";"
act_text-call c margin = at margin (act.rolls-Call c) ∙ act_text-roll (act_node.Call c) margin

pub act_text-sync : (margin : List ℕ) → act_text act.Sync margin ≡ codes "sync;"
act_text-sync margin = at margin act.rolls-Sync ∙ act_text-roll act_node.Sync margin

pub act_text-print : (e : Expr) (margin : List ℕ) → act_text (act.Print e) margin ≡ codes "print " ++ expr_text e ++ codes ";"
act_text-print e margin = at margin (act.rolls-Print e) ∙ act_text-roll (act_node.Print e) margin

pub act_text-if : (e : Expr) (p q : List Stmt) (margin : List ℕ) → act_text (act.If e p q) margin ≡ codes "if " ++ expr_text e ++ codes " " ++ block_text (map stmt_text p) margin ++ else_text (map stmt_text q) margin
act_text-if e p q margin = at margin (act.rolls-If e p q) ∙ act_text-roll (act_node.If e p q) margin

pub act_text-while : (e : Expr) (p : List Stmt) (margin : List ℕ) → act_text (act.While e p) margin ≡ codes "while " ++ expr_text e ++ codes " " ++ block_text (map stmt_text p) margin
act_text-while e p margin = at margin (act.rolls-While e p) ∙ act_text-roll (act_node.While e p) margin

pub act_text-pfor : (i : Name) (lo hi : Expr) (target : Option Name) (c : CallText) (margin : List ℕ) → act_text (act.Pfor i lo hi target c) margin ≡ range_text i lo hi ++ into_text target ++ loop_call_text i c
act_text-pfor i lo hi target c margin = at margin (act.rolls-Pfor i lo hi target c) ∙ act_text-roll (act_node.Pfor i lo hi target c) margin

pub act_text-scope : (p : List Stmt) (margin : List ℕ) → act_text (act.Scope p) margin ≡ codes "scope " ++ block_text (map stmt_text p) margin
act_text-scope p margin = at margin (act.rolls-Scope p) ∙ act_text-roll (act_node.Scope p) margin

pub stmt_text-line : (place : ℕ) (a : Act) (margin : List ℕ) → stmt_text (record { at = place; act = a }) margin ≡ margin ++ act_text a margin ++ codes "\n"
stmt_text-line place a margin = ap (λ (f : Indented). f margin) (fold_out-Stmt Indented Indented act_at line_at (record { at = place; act = a }))

pub stmts_text-map : (stmts : List Stmt) (margin : List ℕ) → flat_map (λ (stmt : Indented). stmt margin) (map stmt_text stmts) ≡ stmts_text stmts margin
stmts_text-map stmts margin = flat_map-map (λ (stmt : Indented). stmt margin) stmt_text stmts

-- What a call leaves that writes the last piece of a text.

pub then_ok : {T E : Type 0} {P Q : Type 0} (r : Result T E) → OnOk r P → (P → Q) → OnOk r Q
then_ok (Ok x) h f = f h
then_ok (Err e) h f = h

pub sum_written : (old mid new : List ℕ) (e x y : Expr) (parts others : List SumPart) →
    e ≡ expr.Sum x parts → y ≡ x → others ≡ parts → mid ≡ old ++ operand 3 (printed y) → new ≡ mid ++ flat_map sum_part_text others → new ≡ old ++ expr_text e
sum_written old mid new e x y parts others h i j f g =
    g ∙ ap (λ z. mid ++ flat_map sum_part_text z) j ∙ ap (λ z. z ++ flat_map sum_part_text parts) (f ∙ ap (λ z. old ++ operand 3 (printed z)) i)
    ∙ append_assoc old (operand 3 (printed x)) (flat_map sum_part_text parts)
    ∙ ap (λ z. old ++ z.text) (sym (printed-sum x parts)) ∙ ap (λ z. old ++ expr_text z) (sym h)

pub product_written : (old mid new : List ℕ) (e x y : Expr) (parts others : List ProductPart) →
    e ≡ expr.Product x parts → y ≡ x → others ≡ parts → mid ≡ old ++ operand 4 (printed y) → new ≡ mid ++ flat_map product_part_text others → new ≡ old ++ expr_text e
product_written old mid new e x y parts others h i j f g =
    g ∙ ap (λ z. mid ++ flat_map product_part_text z) j ∙ ap (λ z. z ++ flat_map product_part_text parts) (f ∙ ap (λ z. old ++ operand 4 (printed z)) i)
    ∙ append_assoc old (operand 4 (printed x)) (flat_map product_part_text parts)
    ∙ ap (λ z. old ++ z.text) (sym (printed-product x parts)) ∙ ap (λ z. old ++ expr_text z) (sym h)

pub loop_written : (t0 t1 t2 t3 : List ℕ) (a : Act) (i : Name) (lo hi : Expr) (target : Option Name) (c : CallText) (margin : List ℕ) →
    a ≡ act.Pfor i lo hi target c → t1 ≡ t0 ++ range_text i lo hi → t2 ≡ t1 ++ into_text target → t3 ≡ t2 ++ loop_call_text i c → t3 ≡ t0 ++ act_text a margin
loop_written t0 t1 t2 t3 a i lo hi target c margin h e f g =
    g ∙ ap (λ z. z ++ loop_call_text i c) (f ∙ ap (λ z. z ++ into_text target) e)
    ∙ ap (λ z. z ++ loop_call_text i c) (append_assoc t0 (range_text i lo hi) (into_text target))
    ∙ append_assoc t0 (range_text i lo hi ++ into_text target) (loop_call_text i c)
    ∙ ap (λ z. t0 ++ z) (sym (act_text-pfor i lo hi target c margin)) ∙ ap (λ z. t0 ++ act_text z margin) (sym h)

pub block_text-stmts : (block : List Stmt) (margin : List ℕ) → block_text (map stmt_text block) margin ≡ codes "{\n" ++ stmts_text block (margin ++ codes "  ") ++ margin ++ codes "}"
block_text-stmts block margin = ap (λ z. codes "{\n" ++ z ++ margin ++ codes "}") (stmts_text-map block (margin ++ codes "  "))

pub block_written : (t0 t1 t2 t3 t4 margin inner : List ℕ) (block : List Stmt) →
    t1 ≡ t0 ++ codes "{\n" → inner ≡ margin ++ codes "  " → t2 ≡ t1 ++ stmts_text block inner → t3 ≡ t2 ++ margin → t4 ≡ t3 ++ codes "}" →
    t4 ≡ t0 ++ block_text (map stmt_text block) margin
block_written t0 t1 t2 t3 t4 margin inner block e i f g h =
    h ∙ ap (λ z. z ++ codes "}") (g ∙ ap (λ z. z ++ margin) (f ∙ ap (λ z. t1 ++ stmts_text block z) i ∙ ap (λ z. z ++ stmts_text block (margin ++ codes "  ")) e))
    ∙ ap (λ z. z ++ margin ++ codes "}") (append_assoc t0 (codes "{\n") (stmts_text block (margin ++ codes "  ")))
    ∙ ap (λ z. z ++ codes "}") (append_assoc t0 (codes "{\n" ++ stmts_text block (margin ++ codes "  ")) margin)
    ∙ append_assoc t0 (codes "{\n" ++ stmts_text block (margin ++ codes "  ") ++ margin) (codes "}")
    ∙ ap (λ z. t0 ++ z) (sym (block_text-stmts block margin))

pub ruleset expr_rules = (printed-sum, printed-product)

pub ruleset act_rules = (act_text-let, act_text-array, act_text-set, act_text-store, act_text-spawn, act_text-call, act_text-sync, act_text-print, act_text-if, act_text-while, act_text-pfor, act_text-scope, stmts_text-map)
