-- The equations by which the meaning of a script that is written out is computed.
use Rattle.std.proofs.Common.{◌≡◌, ℕ, Bool, List, Ok, map, sym, ap, ◌∙◌, rules}
use Rattle.std.specs.Int.{w64, int_wrapping_neg}
use Rattle.std.specs.Str.{bytes_eq}
use Rattle.std.specs.Ordering.{nat_cmp, is_lt}
use Rattle.std.specs.Cmp.Lexicographic.{slice_cmp}
use Rattle.script_grammar.specs.declared.tree.Name.{Name}
use Rattle.script_grammar.specs.declared.tree.Number.{Number}
use Rattle.script_grammar.specs.declared.tree.Comparison.{Comparison}
use Rattle.script_grammar.specs.declared.tree.Expr.{Expr, map-Expr, roll-Expr, fold-roll-Expr}
use Rattle.script_grammar.specs.declared.tree.Expr.TheOpen as node
use Rattle.script_grammar.specs.declared.tree.Expr.TheOpen.{Expr-F}
use Rattle.script_grammar.specs.declared.tree.Expr.TheVariants as expr
use Rattle.script_grammar.specs.declared.tree.SumPart.{SumPart}
use Rattle.script_grammar.specs.declared.tree.ProductPart.{ProductPart}
use Rattle.script_grammar.specs.declared.tree.ProductSign.{ProductSign}
use Rattle.script_grammar.specs.declared.tree.Stmt.{Stmt, out-Stmt, fold_out-Stmt}
use Rattle.script_grammar.specs.declared.tree.Act.{Act, out-Act, map-Act, fold_out-Act, the_lemmas}
use Rattle.script_grammar.specs.declared.tree.Act.TheVariants as act
use Rattle.script_grammar.specs.declared.tree.Act.TheOpen as opened
use Rattle.script_grammar.specs.declared.tree.Right.{Right}
use Rattle.script_grammar.specs.declared.tree.Act.TheFolds.{fold-Act}
use Rattle.serial_meaning.specs.Runs.{◌>>=◌}
use Rattle.serial_meaning.specs.Trees.{stated}
use Rattle.serial_meaning.specs.Functions.{act_spawns, spawns}
use Rattle.serial_meaning.specs.Values.{Meaning, Env, content_of, scalar, items_of, as_integer, object, truth, item, compared, sums, products, value_at, product_at, sum_at, value_of, sum_part, product_part}
use Rattle.serial_meaning.specs.declared.value.Value.TheVariants.{Int}

value_of-roll : (d : Expr-F Expr ProductPart SumPart) (env : Env) → value_of (roll-Expr d) env ≡ value_at (map-Expr Expr ProductPart SumPart Meaning (ProductSign × Meaning) (Bool × Meaning) value_of product_part sum_part d) env
value_of-roll d env = ap (λ (m : Meaning). m env) (fold-roll-Expr Meaning (ProductSign × Meaning) (Bool × Meaning) value_at product_at sum_at d)

-- What each kind of node gives.

pub value_of-number : (n : Number) (env : Env) → value_of (expr.Number n) env ≡ Ok (Int n.value)
value_of-number n env = ap (λ e. value_of e env) (sym (expr.rolls-Number n)) ∙ value_of-roll (node.Number n) env

pub value_of-variable : (x : Name) (env : Env) → value_of (expr.Var x) env ≡ Ok (scalar (content_of env x.bytes))
value_of-variable x env = ap (λ e. value_of e env) (sym (expr.rolls-Var x)) ∙ value_of-roll (node.Var x) env

pub value_of-item : (x : Name) (i : Expr) (env : Env) → value_of (expr.Item x i) env ≡ (value_of i env >>= λ v. item (items_of (content_of env x.bytes)) (as_integer v))
value_of-item x i env = ap (λ e. value_of e env) (sym (expr.rolls-Item x i)) ∙ value_of-roll (node.Item x i) env

pub value_of-negation : (at : ℕ) (e : Expr) (env : Env) → value_of (expr.Neg at e) env ≡ (value_of e env >>= λ v. Ok (Int (int_wrapping_neg w64 (as_integer v))))
value_of-negation at e env = ap (λ d. value_of d env) (sym (expr.rolls-Neg at e)) ∙ value_of-roll (node.Neg at e) env

pub value_of-same : (at : ℕ) (a b : Expr) (env : Env) → value_of (expr.Same at a b) env ≡ (value_of a env >>= λ x. value_of b env >>= λ y. Ok (truth (bytes_eq (object x) (object y))))
value_of-same at a b env = ap (λ e. value_of e env) (sym (expr.rolls-Same at a b)) ∙ value_of-roll (node.Same at a b) env

pub value_of-older : (at : ℕ) (a b : Expr) (env : Env) → value_of (expr.Older at a b) env ≡ (value_of a env >>= λ x. value_of b env >>= λ y. Ok (truth (is_lt (slice_cmp nat_cmp (object x) (object y)))))
value_of-older at a b env = ap (λ e. value_of e env) (sym (expr.rolls-Older at a b)) ∙ value_of-roll (node.Older at a b) env

pub value_of-comparison : (a : Expr) (how : Comparison) (b : Expr) (env : Env) → value_of (expr.Compare a how b) env ≡ (value_of a env >>= λ x. value_of b env >>= λ y. Ok (truth (compared how (as_integer x) (as_integer y))))
value_of-comparison a how b env = ap (λ e. value_of e env) (sym (expr.rolls-Compare a how b)) ∙ value_of-roll (node.Compare a how b) env

pub value_of-sum : (first : Expr) (rest : List SumPart) (env : Env) → value_of (expr.Sum first rest) env ≡ (value_of first env >>= λ v. sums env v (map sum_part rest))
value_of-sum first rest env = ap (λ e. value_of e env) (sym (expr.rolls-Sum first rest)) ∙ value_of-roll (node.Sum first rest) env

pub value_of-product : (first : Expr) (rest : List ProductPart) (env : Env) → value_of (expr.Product first rest) env ≡ (value_of first env >>= λ v. products env v (map product_part rest))
value_of-product first rest env = ap (λ e. value_of e env) (sym (expr.rolls-Product first rest)) ∙ value_of-roll (node.Product first rest) env

-- What a statement that is written out is.

pub opened-let : (x : Name) (r : Right) → out-Act (out-Stmt (stated (act.Let x r))).act ≡ opened.Let x r
opened-let x r = search (rules, the_lemmas)

pub opened-set : (x : Name) (r : Right) → out-Act (out-Stmt (stated (act.Set x r))).act ≡ opened.Set x r
opened-set x r = search (rules, the_lemmas)

pub opened-print : (e : Expr) → out-Act (out-Stmt (stated (act.Print e))).act ≡ opened.Print e
opened-print e = search (rules, the_lemmas)

pub opened-scope : (sts : List Stmt) → out-Act (out-Stmt (stated (act.Scope sts))).act ≡ opened.Scope sts
opened-scope sts = search (rules, the_lemmas)

abbrev pub act_has_spawn : Act → Bool
act_has_spawn = fold-Act Bool Bool act_spawns (λ s. s.act)

pub spawns-out : (st : Stmt) → spawns st ≡ act_spawns (map-Act Act Stmt Bool Bool act_has_spawn spawns (out-Act (out-Stmt st).act))
spawns-out st =
    fold_out-Stmt Bool Bool act_spawns (λ s. s.act) st ∙ fold_out-Act Bool Bool act_spawns (λ s. s.act) (out-Stmt st).act
