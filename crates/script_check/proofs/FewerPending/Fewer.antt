-- What has no violation where some names are pending has none where only some of these are.
use Rattle.std.proofs.Common.{◌≡◌, Bool, true, false, List, [], ◌∷◌, ◌++◌, length, map, nat_eq, Option, Some, None, refl, sym, ap, subst, ◌∙◌, rules}
use Rattle.std.proofs.lemmas.Bool.{true≢false}
use Rattle.script_grammar.specs.declared.tree.Kind.{Kind}
use Rattle.script_grammar.specs.declared.tree.Kind.TheVariants.{Int, Id}
use Rattle.script_grammar.specs.declared.tree.Name.{Name}
use Rattle.script_grammar.specs.declared.tree.Param.{Param}
use Rattle.script_grammar.specs.declared.tree.Function.{Function}
use Rattle.script_grammar.specs.declared.tree.CallText.{CallText}
use Rattle.script_grammar.specs.declared.tree.Right.{Right}
use Rattle.script_grammar.specs.declared.tree.Right.TheVariants as right
use Rattle.script_grammar.specs.declared.tree.Expr.{Expr, roll-Expr, map-Expr, ind-Expr, fold-roll-Expr, the_lemmas}
use Rattle.script_grammar.specs.declared.tree.Expr.TheOpen as node
use Rattle.script_grammar.specs.declared.tree.Expr.TheOpen.{Expr-F}
use Rattle.script_grammar.specs.declared.tree.SumPart.{SumPart}
use Rattle.script_grammar.specs.declared.tree.ProductPart.{ProductPart}
use Rattle.script_check.specs.declared.findings.Violation.{Violation}
use Rattle.script_check.specs.declared.variable.Variable.{Variable}
use Rattle.script_check.specs.declared.variable.Variable.TheVariants.{Scalar, Array}
use Rattle.script_check.specs.Functions.{function_named}
use Rattle.script_check.specs.Violations.{violation_if}
use Rattle.script_check.specs.Names.{NameSet, IsWithin}
use Rattle.script_check.specs.Rules.{Declared, wrong_kind, wrong_use, unknown_function, wrong_number_of_arguments, pending_variable, scalar_use, array_use}
use Rattle.script_check.specs.Expressions.{Violations, Reading, wanted, two_wanted, all_wanted, read_at, reading_of, read_sum_part, read_product_part}
use Rattle.script_check.specs.Statements.{arguments, call_of, read_right, wanted_as, loop_arguments, loop_call_of, received_kind, target_use}

abbrev pub Fine : Violations → Type 0
Fine f = (known : Declared) (fewer p : NameSet) → IsWithin fewer p → f known p ≡ [] → f known fewer ≡ []

pub nothing_left : {A : Type 0} (xs ys : List A) → xs ++ ys ≡ [] → xs ≡ []
nothing_left [] ys h = refl
nothing_left (x ∷ xs) ys h = cc

pub nothing_right : {A : Type 0} (xs ys : List A) → xs ++ ys ≡ [] → ys ≡ []
nothing_right [] ys h = h
nothing_right (x ∷ xs) ys h = cc

pub both_nothing : {A : Type 0} (xs ys : List A) → xs ≡ [] → ys ≡ [] → xs ++ ys ≡ []
both_nothing xs ys h k = ap (λ l. l ++ ys) h ∙ k

pub none_fine : Fine (λ known p. [])
none_fine known fewer p w h = refl

pub same_fine : (vs : Declared → List Violation) → Fine (λ known p. vs known)
same_fine vs known fewer p w h = h

pub append_fine : (f g : Violations) → Fine f → Fine g → Fine (λ known p. f known p ++ g known p)
append_fine f g hf hg known fewer p w h =
    both_nothing (f known fewer) (g known fewer) (hf known fewer p w (nothing_left (f known p) (g known p) h)) (hg known fewer p w (nothing_right (f known p) (g known p) h))

pub pending_fine : (x : Name) → Fine (λ known p. pending_variable p x)
pending_fine x known fewer p w h = cases (fewer x.bytes) (p x.bytes) (w x.bytes) h
  where
    cases : (a b : Bool) → (a ≡ true → b ≡ true) → violation_if b 9 x.at ≡ [] → violation_if a 9 x.at ≡ []
    cases false b i h = refl
    cases true true i h = h
    cases true false i h = absurd (true≢false (sym (i refl)))

scalar_fine : (o : Option Variable) (x : Name) (known : Declared) (fewer p : NameSet) → IsWithin fewer p → scalar_use o p x ≡ [] → scalar_use o fewer x ≡ []
scalar_fine (Some (Scalar kind)) x known fewer p w h = pending_fine x known fewer p w h
scalar_fine (Some Array) x known fewer p w h = append_fine (λ k q. wrong_use x) (λ k q. pending_variable q x) (same_fine (λ k. wrong_use x)) (pending_fine x) known fewer p w h
scalar_fine None x known fewer p w h = h

array_fine : (o : Option Variable) (x : Name) (known : Declared) (fewer p : NameSet) → IsWithin fewer p → array_use o p x ≡ [] → array_use o fewer x ≡ []
array_fine (Some (Scalar kind)) x known fewer p w h = append_fine (λ k q. wrong_use x) (λ k q. pending_variable q x) (same_fine (λ k. wrong_use x)) (pending_fine x) known fewer p w h
array_fine (Some Array) x known fewer p w h = pending_fine x known fewer p w h
array_fine None x known fewer p w h = h

pub scalar_use_fine : (x : Name) → Fine (λ known p. scalar_use (known.what x.bytes) p x)
scalar_use_fine x known fewer p w h = scalar_fine (known.what x.bytes) x known fewer p w h

pub array_use_fine : (x : Name) → Fine (λ known p. array_use (known.what x.bytes) p x)
array_use_fine x known fewer p w h = array_fine (known.what x.bytes) x known fewer p w h

pub wanted_fine : (kind : Kind) (r : Reading) → Fine r.violations → Fine (wanted kind r)
unfolding wanted
wanted_fine kind r h = append_fine r.violations (λ known p. wrong_kind kind (r.kind known) r.at) h (same_fine (λ known. wrong_kind kind (r.kind known) r.at))

pub two_fine : (kind : Kind) (a b : Reading) → Fine a.violations → Fine b.violations → Fine (two_wanted kind a b)
unfolding two_wanted
two_fine kind a b h g = append_fine (wanted kind a) (wanted kind b) (wanted_fine kind a h) (wanted_fine kind b g)

abbrev FineReading : Reading → Type 0
FineReading r = Fine r.violations

abbrev node_map : {A B C : Type 0} → (A → Reading) → (B → Reading) → (C → Reading) → Expr-F A B C → Expr-F Reading Reading Reading
node_map {A} {B} {C} expr times plus = map-Expr A B C Reading Reading Reading expr times plus

layer_fine : (d : Expr-F Expr ProductPart SumPart) → FineReading (read_at (node_map reading_of read_product_part read_sum_part d)) → FineReading (reading_of (roll-Expr d))
layer_fine d h = subst FineReading (sym (fold-roll-Expr Reading Reading Reading read_at (λ p. p.operand) (λ p. p.operand) d)) h

sum_part_is : (p : SumPart) → read_sum_part p ≡ reading_of p.operand
sum_part_is p = search (rules, the_lemmas)

product_part_is : (p : ProductPart) → read_product_part p ≡ reading_of p.operand
product_part_is p = search (rules, the_lemmas)

-- the same over trees that are made of others
tree_fine : {A B C : Type 0} (expr : A → Expr) (times : B → ProductPart) (plus : C → SumPart) → ((a : A) → FineReading (reading_of (expr a))) →
    ((b : B) → FineReading (read_product_part (times b))) → ((c : C) → FineReading (read_sum_part (plus c))) → (d : Expr-F A B C) →
    FineReading (read_at (node_map reading_of read_product_part read_sum_part (map-Expr A B C Expr ProductPart SumPart expr times plus d)))
tree_fine expr times plus e t s (node.Number n) = none_fine
tree_fine expr times plus e t s (node.Var x) = scalar_use_fine x
tree_fine expr times plus e t s (node.Item x i) = append_fine (λ known p. array_use (known.what x.bytes) p x) (wanted Int (reading_of (expr i))) (array_use_fine x) (wanted_fine Int (reading_of (expr i)) (e i))
tree_fine expr times plus e t s (node.Neg at x) = wanted_fine Int (reading_of (expr x)) (e x)
tree_fine expr times plus e t s (node.Same at x y) = two_fine Id (reading_of (expr x)) (reading_of (expr y)) (e x) (e y)
tree_fine expr times plus e t s (node.Older at x y) = two_fine Id (reading_of (expr x)) (reading_of (expr y)) (e x) (e y)
tree_fine expr times plus e t s (node.Compare x how y) = two_fine Int (reading_of (expr x)) (reading_of (expr y)) (e x) (e y)
tree_fine expr times plus e t s (node.Sum first rest) =
    append_fine (wanted Int (reading_of (expr first))) (all_wanted Int (map read_sum_part (map plus rest))) (wanted_fine Int (reading_of (expr first)) (e first)) (listed rest)
  where
    listed : (xs : List _) → Fine (all_wanted Int (map read_sum_part (map plus xs)))
    listed [] = none_fine
    listed (x ∷ xs) = append_fine (wanted Int (read_sum_part (plus x))) (all_wanted Int (map read_sum_part (map plus xs))) (wanted_fine Int (read_sum_part (plus x)) (s x)) (listed xs)
tree_fine expr times plus e t s (node.Product first rest) =
    append_fine (wanted Int (reading_of (expr first))) (all_wanted Int (map read_product_part (map times rest))) (wanted_fine Int (reading_of (expr first)) (e first)) (listed rest)
  where
    listed : (xs : List _) → Fine (all_wanted Int (map read_product_part (map times xs)))
    listed [] = none_fine
    listed (x ∷ xs) = append_fine (wanted Int (read_product_part (times x))) (all_wanted Int (map read_product_part (map times xs))) (wanted_fine Int (read_product_part (times x)) (t x)) (listed xs)

pub read_fine : (e : Expr) → FineReading (reading_of e)
read_fine =
    ind-Expr (λ e. FineReading (reading_of e)) (λ p. FineReading (read_product_part p)) (λ p. FineReading (read_sum_part p))
    (λ x y h. subst (λ (d : Expr-F Expr ProductPart SumPart). FineReading (reading_of (roll-Expr d))) h
    (layer_fine (map-Expr _ _ _ Expr ProductPart SumPart (λ e. e.0) (λ e. e.0) (λ e. e.0) y) (tree_fine (λ e. e.0) (λ e. e.0) (λ e. e.0) (λ e. e.1) (λ e. e.1) (λ e. e.1) y)))
    (λ x y h. times_fine (record { sign = x.sign; operand = x.operand }) y.operand.0 y.operand.1 (ap (λ p. p.operand) h))
    (λ x y h. plus_fine (record { minus = x.minus; operand = x.operand }) y.operand.0 y.operand.1 (ap (λ p. p.operand) h))
  where
    times_fine : (p : ProductPart) (e : Expr) → FineReading (reading_of e) → e ≡ p.operand → FineReading (read_product_part p)
    times_fine p e fine h = subst FineReading (ap reading_of h ∙ sym (product_part_is p)) fine

    plus_fine : (p : SumPart) (e : Expr) → FineReading (reading_of e) → e ≡ p.operand → FineReading (read_sum_part p)
    plus_fine p e fine h = subst FineReading (ap reading_of h ∙ sym (sum_part_is p)) fine

-- calls

pub arguments_fine : (params : List Param) (es : List Expr) → Fine (arguments params es)
arguments_fine params [] = none_fine
arguments_fine [] (e ∷ es) = append_fine (reading_of e).violations (arguments [] es) (read_fine e) (arguments_fine [] es)
arguments_fine (q ∷ params) (e ∷ es) = append_fine (wanted q.kind (reading_of e)) (arguments params es) (wanted_fine q.kind (reading_of e) (read_fine e)) (arguments_fine params es)

pub call_fine : (o : Option Function) (c : CallText) → Fine (call_of o c)
call_fine None c = append_fine (λ k p. unknown_function c.name) (arguments [] c.args) (same_fine (λ k. unknown_function c.name)) (arguments_fine [] c.args)
call_fine (Some f) c =
    append_fine (λ k p. wrong_number_of_arguments (nat_eq (length f.params) (length c.args)) c.name) (arguments f.params c.args)
    (same_fine (λ k. wrong_number_of_arguments (nat_eq (length f.params) (length c.args)) c.name)) (arguments_fine f.params c.args)

loop_arguments_fine : (params : List Param) (c : CallText) → Fine (loop_arguments params c)
loop_arguments_fine [] c = append_fine (λ k p. wrong_number_of_arguments false c.name) (arguments [] c.args) (same_fine (λ k. wrong_number_of_arguments false c.name)) (arguments_fine [] c.args)
loop_arguments_fine (q ∷ params) c =
    append_fine (λ k p. wrong_number_of_arguments (nat_eq (length params) (length c.args)) c.name ++ wrong_kind Int (Some q.kind) c.name.at) (arguments params c.args)
    (same_fine (λ k. wrong_number_of_arguments (nat_eq (length params) (length c.args)) c.name ++ wrong_kind Int (Some q.kind) c.name.at)) (arguments_fine params c.args)

pub loop_call_fine : (o : Option Function) (has_target : Bool) (c : CallText) → Fine (loop_call_of o has_target c)
loop_call_fine None has_target c = append_fine (λ k p. unknown_function c.name) (arguments [] c.args) (same_fine (λ k. unknown_function c.name)) (arguments_fine [] c.args)
loop_call_fine (Some f) has_target c =
    append_fine (λ k p. wrong_kind Int (received_kind has_target f.answer) c.name.at) (loop_arguments f.params c)
    (same_fine (λ k. wrong_kind Int (received_kind has_target f.answer) c.name.at)) (loop_arguments_fine f.params c)

pub target_fine : (target : Option Name) → Fine (target_use target)
target_fine None = none_fine
target_fine (Some x) = array_use_fine x

pub right_fine : (functions : List Function) (r : Right) → FineReading (read_right functions r)
right_fine functions (right.Value e) = read_fine e
right_fine functions (right.Draw at) = none_fine
right_fine functions (right.New at) = none_fine
right_fine functions (right.Call at c) = call_fine (function_named functions c.name.bytes) c
right_fine functions (right.Spawn at c) = call_fine (function_named functions c.name.bytes) c

pub wanted_as_fine : (kind : Option Kind) (r : Reading) → FineReading r → Fine (wanted_as kind r)
wanted_as_fine None r h = h
wanted_as_fine (Some kind) r h = wanted_fine kind r h
