-- What has no violation names known variables alone.
use Rattle.std.proofs.Common.{◌≡◌, Bool, true, false, List, [], ◌∷◌, ◌++◌, length, map, nat_eq, Option, Some, None, refl, sym, ap, subst, ◌∙◌, rules}
use Rattle.std.specs.Prelude.{is_some}
use Rattle.std.proofs.lemmas.Bool.{true≢false}
use Rattle.script_grammar.specs.declared.tree.Kind.{Kind}
use Rattle.script_grammar.specs.declared.tree.Kind.TheVariants.{Int, Id}
use Rattle.script_grammar.specs.declared.tree.Name.{Name}
use Rattle.script_grammar.specs.declared.tree.Param.{Param}
use Rattle.script_grammar.specs.declared.tree.Function.{Function}
use Rattle.script_grammar.specs.declared.tree.CallText.{CallText}
use Rattle.script_grammar.specs.declared.tree.Right.{Right}
use Rattle.script_grammar.specs.declared.tree.Right.TheVariants as right
use Rattle.script_grammar.specs.declared.tree.Expr.{Expr, roll-Expr, map-Expr, ind-Expr, fold-roll-Expr, the_lemmas}
use Rattle.script_grammar.specs.declared.tree.Expr.TheOpen as node
use Rattle.script_grammar.specs.declared.tree.Expr.TheOpen.{Expr-F}
use Rattle.script_grammar.specs.declared.tree.SumPart.{SumPart}
use Rattle.script_grammar.specs.declared.tree.ProductPart.{ProductPart}
use Rattle.script_check.specs.declared.variable.Variable.{Variable}
use Rattle.script_check.specs.Functions.{function_named}
use Rattle.script_check.specs.Names.{NameSet}
use Rattle.script_check.specs.Slots.{joined, named_at, named_in, named_in_summand, named_in_factor, named_in_all, named_in_right, named_in_target}
use Rattle.script_check.specs.Rules.{Declared, wrong_kind, unknown_function, wrong_number_of_arguments, scalar_use, array_use}
use Rattle.script_check.specs.Expressions.{Reading, wanted, two_wanted, all_wanted, read_at, reading_of, read_sum_part, read_product_part}
use Rattle.script_check.specs.Statements.{arguments, call_of, read_right, wanted_as, loop_arguments, loop_call_of, received_kind, target_use}
use Rattle.script_check.proofs.FewerPending.Fewer.{nothing_left, nothing_right}
use Rattle.script_check.proofs.FoundSlots.Parts.{named-factor, named-summand}
use Rattle.script_check.proofs.FoundSlots.Named.{each_is, each-true, true-both}
use Rattle.script_check.proofs.FoundSlots.Known.{not-broken}

-- each of these names is a known variable
abbrev pub AllKnown : Declared → List Name → Type 0
AllKnown known xs = each_is (λ x. is_some (known.what x.bytes)) xs ≡ true

pub known-append : (known : Declared) (xs ys : List Name) → AllKnown known xs → AllKnown known ys → AllKnown known (xs ++ ys)
known-append known = each-true (λ x. is_some (known.what x.bytes))

pub known-cons : (known : Declared) (x : Name) (xs : List Name) → is_some (known.what x.bytes) ≡ true → AllKnown known xs → AllKnown known (x ∷ xs)
known-cons known x xs h k = true-both (is_some (known.what x.bytes)) (each_is (λ x. is_some (known.what x.bytes)) xs) h k

pub scalar-known : (o : Option Variable) (p : NameSet) (x : Name) → scalar_use o p x ≡ [] → is_some o ≡ true
scalar-known (Some v) p x h = refl
scalar-known None p x h = absurd (true≢false (not-broken true 6 x.at h))

pub array-known : (o : Option Variable) (p : NameSet) (x : Name) → array_use o p x ≡ [] → is_some o ≡ true
array-known (Some v) p x h = refl
array-known None p x h = absurd (true≢false (not-broken true 6 x.at h))

-- Expressions

-- what is read without a violation names known variables
abbrev pub ReadsKnown : List Name → Reading → Type 0
ReadsKnown names r = (known : Declared) (p : NameSet) → r.violations known p ≡ [] → AllKnown known names

pub wanted-left : (kind : Kind) (r : Reading) (known : Declared) (p : NameSet) → wanted kind r known p ≡ [] → r.violations known p ≡ []
unfolding wanted
wanted-left kind r known p h = nothing_left (r.violations known p) (wrong_kind kind (r.kind known) r.at) h

two-left : (kind : Kind) (a b : Reading) (known : Declared) (p : NameSet) → two_wanted kind a b known p ≡ [] → a.violations known p ≡ []
unfolding two_wanted
two-left kind a b known p h = wanted-left kind a known p (nothing_left (wanted kind a known p) (wanted kind b known p) h)

two-right : (kind : Kind) (a b : Reading) (known : Declared) (p : NameSet) → two_wanted kind a b known p ≡ [] → b.violations known p ≡ []
unfolding two_wanted
two-right kind a b known p h = wanted-left kind b known p (nothing_right (wanted kind a known p) (wanted kind b known p) h)

pub two-known : (kind : Kind) (xs ys : List Name) (a b : Reading) → ReadsKnown xs a → ReadsKnown ys b → (known : Declared) (p : NameSet) → two_wanted kind a b known p ≡ [] → AllKnown known (xs ++ ys)
two-known kind xs ys a b f g known p h = known-append known xs ys (f known p (two-left kind a b known p h)) (g known p (two-right kind a b known p h))

abbrev node_map : {A B C : Type 0} → (A → Reading) → (B → Reading) → (C → Reading) → Expr-F A B C → Expr-F Reading Reading Reading
node_map {A} {B} {C} expr times plus = map-Expr A B C Reading Reading Reading expr times plus

abbrev node_names : {A B C : Type 0} → (A → List Name) → (B → List Name) → (C → List Name) → Expr-F A B C → Expr-F (List Name) (List Name) (List Name)
node_names {A} {B} {C} expr times plus = map-Expr A B C (List Name) (List Name) (List Name) expr times plus

abbrev LayerKnown : Expr-F Expr ProductPart SumPart → Type 0
LayerKnown d = ReadsKnown (named_at (node_names named_in named_in_factor named_in_summand d)) (read_at (node_map reading_of read_product_part read_sum_part d))

abbrev TreeKnown : Expr → Type 0
TreeKnown e = ReadsKnown (named_in e) (reading_of e)

layer-known : (d : Expr-F Expr ProductPart SumPart) → LayerKnown d → TreeKnown (roll-Expr d)
layer-known d h known p none =
    let names : named_in (roll-Expr d) ≡ named_at (node_names named_in named_in_factor named_in_summand d) = fold-roll-Expr (List Name) (List Name) (List Name) named_at (λ p. p.operand) (λ p. p.operand) d in
    let reading : reading_of (roll-Expr d) ≡ read_at (node_map reading_of read_product_part read_sum_part d) = fold-roll-Expr Reading Reading Reading read_at (λ p. p.operand) (λ p. p.operand) d in
    subst (AllKnown known) (sym names) (h known p (ap (λ (r : Reading). r.violations known p) (sym reading) ∙ none))

sum_part_is : (p : SumPart) → read_sum_part p ≡ reading_of p.operand
sum_part_is p = search (rules, the_lemmas)

product_part_is : (p : ProductPart) → read_product_part p ≡ reading_of p.operand
product_part_is p = search (rules, the_lemmas)

module _ {A B C : Type 0} (expr : A → Expr) (times : B → ProductPart) (plus : C → SumPart)
    (e : (a : A) → ReadsKnown (named_in (expr a)) (reading_of (expr a)))
    (t : (b : B) → ReadsKnown (named_in_factor (times b)) (read_product_part (times b)))
    (s : (c : C) → ReadsKnown (named_in_summand (plus c)) (read_sum_part (plus c))) where
  pluses-known : (xs : List C) (known : Declared) (p : NameSet) → all_wanted Int (map read_sum_part (map plus xs)) known p ≡ [] → AllKnown known (joined (map named_in_summand (map plus xs)))
  pluses-known [] known p h = refl
  pluses-known (x ∷ xs) known p h =
      known-append known (named_in_summand (plus x)) (joined (map named_in_summand (map plus xs)))
      (s x known p (wanted-left Int (read_sum_part (plus x)) known p (nothing_left (wanted Int (read_sum_part (plus x)) known p) (all_wanted Int (map read_sum_part (map plus xs)) known p) h)))
      (pluses-known xs known p (nothing_right (wanted Int (read_sum_part (plus x)) known p) (all_wanted Int (map read_sum_part (map plus xs)) known p) h))

  timeses-known : (xs : List B) (known : Declared) (p : NameSet) → all_wanted Int (map read_product_part (map times xs)) known p ≡ [] → AllKnown known (joined (map named_in_factor (map times xs)))
  timeses-known [] known p h = refl
  timeses-known (x ∷ xs) known p h =
      known-append known (named_in_factor (times x)) (joined (map named_in_factor (map times xs)))
      (t x known p (wanted-left Int (read_product_part (times x)) known p (nothing_left (wanted Int (read_product_part (times x)) known p) (all_wanted Int (map read_product_part (map times xs)) known p) h)))
      (timeses-known xs known p (nothing_right (wanted Int (read_product_part (times x)) known p) (all_wanted Int (map read_product_part (map times xs)) known p) h))

  node-known : (d : Expr-F A B C) → LayerKnown (map-Expr A B C Expr ProductPart SumPart expr times plus d)
  node-known (node.Number n) known p h = refl
  node-known (node.Var x) known p h = known-cons known x [] (scalar-known (known.what x.bytes) p x h) refl
  node-known (node.Item x i) known p h =
      known-cons known x (named_in (expr i))
      (array-known (known.what x.bytes) p x (nothing_left (array_use (known.what x.bytes) p x) (wanted Int (reading_of (expr i)) known p) h))
      (e i known p (wanted-left Int (reading_of (expr i)) known p (nothing_right (array_use (known.what x.bytes) p x) (wanted Int (reading_of (expr i)) known p) h)))
  node-known (node.Neg at x) known p h = e x known p (wanted-left Int (reading_of (expr x)) known p h)
  node-known (node.Same at x y) known p h = two-known Id (named_in (expr x)) (named_in (expr y)) (reading_of (expr x)) (reading_of (expr y)) (e x) (e y) known p h
  node-known (node.Older at x y) known p h = two-known Id (named_in (expr x)) (named_in (expr y)) (reading_of (expr x)) (reading_of (expr y)) (e x) (e y) known p h
  node-known (node.Compare x how y) known p h = two-known Int (named_in (expr x)) (named_in (expr y)) (reading_of (expr x)) (reading_of (expr y)) (e x) (e y) known p h
  node-known (node.Sum first rest) known p h =
      known-append known (named_in (expr first)) (joined (map named_in_summand (map plus rest)))
      (e first known p (wanted-left Int (reading_of (expr first)) known p (nothing_left (wanted Int (reading_of (expr first)) known p) (all_wanted Int (map read_sum_part (map plus rest)) known p) h)))
      (pluses-known rest known p (nothing_right (wanted Int (reading_of (expr first)) known p) (all_wanted Int (map read_sum_part (map plus rest)) known p) h))
  node-known (node.Product first rest) known p h =
      known-append known (named_in (expr first)) (joined (map named_in_factor (map times rest)))
      (e first known p (wanted-left Int (reading_of (expr first)) known p (nothing_left (wanted Int (reading_of (expr first)) known p) (all_wanted Int (map read_product_part (map times rest)) known p) h)))
      (timeses-known rest known p (nothing_right (wanted Int (reading_of (expr first)) known p) (all_wanted Int (map read_product_part (map times rest)) known p) h))

pub read-known : (e : Expr) → TreeKnown e
read-known =
    ind-Expr TreeKnown (λ p. ReadsKnown (named_in_factor p) (read_product_part p)) (λ p. ReadsKnown (named_in_summand p) (read_sum_part p))
    (λ x y h. subst (λ (d : Expr-F Expr ProductPart SumPart). TreeKnown (roll-Expr d)) h
    (layer-known (map-Expr _ _ _ Expr ProductPart SumPart (λ e. e.0) (λ e. e.0) (λ e. e.0) y) (node-known (λ e. e.0) (λ e. e.0) (λ e. e.0) (λ e. e.1) (λ e. e.1) (λ e. e.1) y)))
    (λ x y h. times_known (record { sign = x.sign; operand = x.operand }) y.operand.0 y.operand.1 (ap (λ p. p.operand) h))
    (λ x y h. plus_known (record { minus = x.minus; operand = x.operand }) y.operand.0 y.operand.1 (ap (λ p. p.operand) h))
  where
    times_known : (p : ProductPart) (e : Expr) → TreeKnown e → e ≡ p.operand → ReadsKnown (named_in_factor p) (read_product_part p)
    times_known p e known h = rw (product_part_is p, named-factor p, ← h) known

    plus_known : (p : SumPart) (e : Expr) → TreeKnown e → e ≡ p.operand → ReadsKnown (named_in_summand p) (read_sum_part p)
    plus_known p e known h = rw (sum_part_is p, named-summand p, ← h) known

-- Calls and right sides

arguments-known : (params : List Param) (es : List Expr) (known : Declared) (p : NameSet) → arguments params es known p ≡ [] → AllKnown known (named_in_all es)
arguments-known params [] known p h = refl
arguments-known [] (e ∷ es) known p h =
    known-append known (named_in e) (named_in_all es) (read-known e known p (nothing_left ((reading_of e).violations known p) (arguments [] es known p) h))
    (arguments-known [] es known p (nothing_right ((reading_of e).violations known p) (arguments [] es known p) h))
arguments-known (q ∷ params) (e ∷ es) known p h =
    known-append known (named_in e) (named_in_all es)
    (read-known e known p (wanted-left q.kind (reading_of e) known p (nothing_left (wanted q.kind (reading_of e) known p) (arguments params es known p) h)))
    (arguments-known params es known p (nothing_right (wanted q.kind (reading_of e) known p) (arguments params es known p) h))

pub call-known : (o : Option Function) (c : CallText) (known : Declared) (p : NameSet) → call_of o c known p ≡ [] → AllKnown known (named_in_all c.args)
call-known None c known p h = arguments-known [] c.args known p (nothing_right (unknown_function c.name) (arguments [] c.args known p) h)
call-known (Some f) c known p h =
    arguments-known f.params c.args known p (nothing_right (wrong_number_of_arguments (nat_eq (length f.params) (length c.args)) c.name) (arguments f.params c.args known p) h)

loop-arguments-known : (params : List Param) (c : CallText) (known : Declared) (p : NameSet) → loop_arguments params c known p ≡ [] → AllKnown known (named_in_all c.args)
loop-arguments-known [] c known p h = arguments-known [] c.args known p (nothing_right (wrong_number_of_arguments false c.name) (arguments [] c.args known p) h)
loop-arguments-known (q ∷ params) c known p h =
    arguments-known params c.args known p
    (nothing_right (wrong_number_of_arguments (nat_eq (length params) (length c.args)) c.name ++ wrong_kind Int (Some q.kind) c.name.at) (arguments params c.args known p) h)

pub loop-call-known : (o : Option Function) (has_target : Bool) (c : CallText) (known : Declared) (p : NameSet) → loop_call_of o has_target c known p ≡ [] → AllKnown known (named_in_all c.args)
loop-call-known None has_target c known p h = arguments-known [] c.args known p (nothing_right (unknown_function c.name) (arguments [] c.args known p) h)
loop-call-known (Some f) has_target c known p h =
    loop-arguments-known f.params c known p (nothing_right (wrong_kind Int (received_kind has_target f.answer) c.name.at) (loop_arguments f.params c known p) h)

pub target-known : (target : Option Name) (known : Declared) (p : NameSet) → target_use target known p ≡ [] → AllKnown known (named_in_target target)
target-known None known p h = refl
target-known (Some x) known p h = known-cons known x [] (array-known (known.what x.bytes) p x h) refl

pub right-known : (functions : List Function) (r : Right) → ReadsKnown (named_in_right r) (read_right functions r)
right-known functions (right.Value e) known p h = read-known e known p h
right-known functions (right.Draw at) known p h = refl
right-known functions (right.New at) known p h = refl
right-known functions (right.Call at c) known p h = call-known (function_named functions c.name.bytes) c known p h
right-known functions (right.Spawn at c) known p h = call-known (function_named functions c.name.bytes) c known p h

pub wanted-as-left : (kind : Option Kind) (r : Reading) (known : Declared) (p : NameSet) → wanted_as kind r known p ≡ [] → r.violations known p ≡ []
wanted-as-left None r known p h = h
wanted-as-left (Some kind) r known p h = wanted-left kind r known p h
