-- What has no violation reads no pending variable.
use Rattle.std.proofs.Common.{◌≡◌, ℕ, zero, suc, ◌<◌, Bool, true, false, ◌⊎◌, inl, inr, List, [], ◌∷◌, ◌++◌, length, get_or, map, nat_eq, Option, Some, None, refl, sym, ap, subst, ◌∙◌, rules, arith}
use Rattle.std.specs.Prelude.{Contains}
use Rattle.std.proofs.lemmas.List.Elements.{Contains-append_cases}
use Rattle.script_grammar.specs.declared.tree.Kind.{Kind}
use Rattle.script_grammar.specs.declared.tree.Kind.TheVariants.{Int, Id}
use Rattle.script_grammar.specs.declared.tree.Name.{Name}
use Rattle.script_grammar.specs.declared.tree.Param.{Param}
use Rattle.script_grammar.specs.declared.tree.Function.{Function}
use Rattle.script_grammar.specs.declared.tree.CallText.{CallText}
use Rattle.script_grammar.specs.declared.tree.Right.{Right}
use Rattle.script_grammar.specs.declared.tree.Right.TheVariants as right
use Rattle.script_grammar.specs.declared.tree.Expr.{Expr, roll-Expr, map-Expr, ind-Expr, fold-roll-Expr, the_lemmas}
use Rattle.script_grammar.specs.declared.tree.Expr.TheOpen as node
use Rattle.script_grammar.specs.declared.tree.Expr.TheOpen.{Expr-F}
use Rattle.script_grammar.specs.declared.tree.SumPart.{SumPart}
use Rattle.script_grammar.specs.declared.tree.ProductPart.{ProductPart}
use Rattle.script_check.specs.Functions.{function_named}
use Rattle.script_check.specs.Violations.{violation_if}
use Rattle.script_check.specs.Names as check
use Rattle.script_check.specs.Rules.{Declared, wrong_kind, unknown_function, wrong_number_of_arguments, scalar_use, array_use}
use Rattle.script_check.specs.Expressions.{Reading, wanted, two_wanted, all_wanted, read_at, reading_of, read_sum_part, read_product_part}
use Rattle.script_check.specs.Statements.{arguments, call_of, read_right, wanted_as, loop_arguments, loop_call_of, received_kind, target_use}
use Rattle.script_check.proofs.FewerPending.Fewer.{nothing_left, nothing_right}
use Rattle.serial_meaning.specs.Names.{Names, joined_names, names_at, names_in, names_in_sum_part, names_in_product_part}
use Rattle.strand_meaning.specs.Clear.{names_in_all, names_in_right, target_names}

-- none of these names is in the set
abbrev pub Free : check.NameSet → Names → Type 0
Free p names = (name : List ℕ) → Contains names name → p name ≡ false

pub free-none : (p : check.NameSet) → Free p []
free-none p name h = absurd (omega (arith, h.1))

pub single-name : (x name : List ℕ) → Contains (x ∷ []) name → x ≡ name
single-name x name h = by_index h.0 h.1 h.2
  where
    by_index : (i : ℕ) → i < length (x ∷ []) → get_or (x ∷ []) i name ≡ name → x ≡ name
    by_index zero d f = f
    by_index (suc i) d f = absurd (omega arith)

pub free-one : (p : check.NameSet) (x : List ℕ) → p x ≡ false → Free p (x ∷ [])
free-one p x h name c = ap p (sym (single-name x name c)) ∙ h

pub free-append : (p : check.NameSet) (xs ys : Names) → Free p xs → Free p ys → Free p (xs ++ ys)
free-append p xs ys f g name h = from (Contains-append_cases xs ys name h)
  where
    from : Contains xs name ⊎ Contains ys name → p name ≡ false
    from (inl c) = f name c
    from (inr c) = g name c

pub free-cons : (p : check.NameSet) (x : List ℕ) (ys : Names) → p x ≡ false → Free p ys → Free p (x ∷ ys)
free-cons p x ys h g = free-append p (x ∷ []) ys (free-one p x h) g

-- Rules

pub not-broken : (b : Bool) (number at : ℕ) → violation_if b number at ≡ [] → b ≡ false
not-broken true number at h = cc
not-broken false number at h = refl

scalar-here : (o : Option _) (p : check.NameSet) (x : Name) → scalar_use o p x ≡ scalar_use o (λ y. p x.bytes) x
scalar-here o p x = grind arith

scalar-at : (o : Option _) (b : Bool) (x : Name) → scalar_use o (λ y. b) x ≡ [] → b ≡ false
scalar-at o b x h = grind arith

pub scalar-free : (o : Option _) (p : check.NameSet) (x : Name) → scalar_use o p x ≡ [] → p x.bytes ≡ false
scalar-free o p x h = scalar-at o (p x.bytes) x (sym (scalar-here o p x) ∙ h)

array-here : (o : Option _) (p : check.NameSet) (x : Name) → array_use o p x ≡ array_use o (λ y. p x.bytes) x
array-here o p x = search rules

array-at : (o : Option _) (b : Bool) (x : Name) → array_use o (λ y. b) x ≡ [] → b ≡ false
array-at o b x h = search rules

pub array-free : (o : Option _) (p : check.NameSet) (x : Name) → array_use o p x ≡ [] → p x.bytes ≡ false
array-free o p x h = array-at o (p x.bytes) x (sym (array-here o p x) ∙ h)

-- Expressions

-- what is read without a violation names nothing that is pending
abbrev pub ReadsFree : Names → Reading → Type 0
ReadsFree names r = (known : Declared) (p : check.NameSet) → r.violations known p ≡ [] → Free p names

pub wanted-left : (kind : Kind) (r : Reading) (known : Declared) (p : check.NameSet) → wanted kind r known p ≡ [] → r.violations known p ≡ []
unfolding wanted
wanted-left kind r known p h = nothing_left (r.violations known p) (wrong_kind kind (r.kind known) r.at) h

two-left : (kind : Kind) (a b : Reading) (known : Declared) (p : check.NameSet) → two_wanted kind a b known p ≡ [] → a.violations known p ≡ []
unfolding two_wanted
two-left kind a b known p h = wanted-left kind a known p (nothing_left (wanted kind a known p) (wanted kind b known p) h)

two-right : (kind : Kind) (a b : Reading) (known : Declared) (p : check.NameSet) → two_wanted kind a b known p ≡ [] → b.violations known p ≡ []
unfolding two_wanted
two-right kind a b known p h = wanted-left kind b known p (nothing_right (wanted kind a known p) (wanted kind b known p) h)

pub two-free : (kind : Kind) (xs ys : Names) (a b : Reading) → ReadsFree xs a → ReadsFree ys b → (known : Declared) (p : check.NameSet) → two_wanted kind a b known p ≡ [] → Free p (xs ++ ys)
two-free kind xs ys a b f g known p h = free-append p xs ys (f known p (two-left kind a b known p h)) (g known p (two-right kind a b known p h))

abbrev node_map : {A B C : Type 0} → (A → Reading) → (B → Reading) → (C → Reading) → Expr-F A B C → Expr-F Reading Reading Reading
node_map {A} {B} {C} expr times plus = map-Expr A B C Reading Reading Reading expr times plus

abbrev node_names : {A B C : Type 0} → (A → Names) → (B → Names) → (C → Names) → Expr-F A B C → Expr-F Names Names Names
node_names {A} {B} {C} expr times plus = map-Expr A B C Names Names Names expr times plus

-- one node, of parts
abbrev LayerFree : Expr-F Expr ProductPart SumPart → Type 0
LayerFree d = ReadsFree (names_at (node_names names_in names_in_product_part names_in_sum_part d)) (read_at (node_map reading_of read_product_part read_sum_part d))

abbrev TreeFree : Expr → Type 0
TreeFree e = ReadsFree (names_in e) (reading_of e)

layer-free : (d : Expr-F Expr ProductPart SumPart) → LayerFree d → TreeFree (roll-Expr d)
layer-free d h known p none =
    let names : names_in (roll-Expr d) ≡ names_at (node_names names_in names_in_product_part names_in_sum_part d) = fold-roll-Expr Names Names Names names_at (λ p. p.operand) (λ p. p.operand) d in
    let reading : reading_of (roll-Expr d) ≡ read_at (node_map reading_of read_product_part read_sum_part d) = fold-roll-Expr Reading Reading Reading read_at (λ p. p.operand) (λ p. p.operand) d in
    subst (Free p) (sym names) (h known p (ap (λ (r : Reading). r.violations known p) (sym reading) ∙ none))

sum_part_is : (p : SumPart) → read_sum_part p ≡ reading_of p.operand
sum_part_is p = search (rules, the_lemmas)

product_part_is : (p : ProductPart) → read_product_part p ≡ reading_of p.operand
product_part_is p = search (rules, the_lemmas)

sum_part_names : (p : SumPart) → names_in_sum_part p ≡ names_in p.operand
sum_part_names p = search (rules, the_lemmas)

product_part_names : (p : ProductPart) → names_in_product_part p ≡ names_in p.operand
product_part_names p = search (rules, the_lemmas)

module _ {A B C : Type 0} (expr : A → Expr) (times : B → ProductPart) (plus : C → SumPart)
    (e : (a : A) → ReadsFree (names_in (expr a)) (reading_of (expr a)))
    (t : (b : B) → ReadsFree (names_in_product_part (times b)) (read_product_part (times b)))
    (s : (c : C) → ReadsFree (names_in_sum_part (plus c)) (read_sum_part (plus c))) where
  pluses-free : (xs : List C) (known : Declared) (p : check.NameSet) → all_wanted Int (map read_sum_part (map plus xs)) known p ≡ [] → Free p (joined_names (map names_in_sum_part (map plus xs)))
  pluses-free [] known p h = free-none p
  pluses-free (x ∷ xs) known p h =
      free-append p (names_in_sum_part (plus x)) (joined_names (map names_in_sum_part (map plus xs)))
      (s x known p (wanted-left Int (read_sum_part (plus x)) known p (nothing_left (wanted Int (read_sum_part (plus x)) known p) (all_wanted Int (map read_sum_part (map plus xs)) known p) h)))
      (pluses-free xs known p (nothing_right (wanted Int (read_sum_part (plus x)) known p) (all_wanted Int (map read_sum_part (map plus xs)) known p) h))

  timeses-free : (xs : List B) (known : Declared) (p : check.NameSet) → all_wanted Int (map read_product_part (map times xs)) known p ≡ [] → Free p (joined_names (map names_in_product_part (map times xs)))
  timeses-free [] known p h = free-none p
  timeses-free (x ∷ xs) known p h =
      free-append p (names_in_product_part (times x)) (joined_names (map names_in_product_part (map times xs)))
      (t x known p (wanted-left Int (read_product_part (times x)) known p (nothing_left (wanted Int (read_product_part (times x)) known p) (all_wanted Int (map read_product_part (map times xs)) known p) h)))
      (timeses-free xs known p (nothing_right (wanted Int (read_product_part (times x)) known p) (all_wanted Int (map read_product_part (map times xs)) known p) h))

  node-free : (d : Expr-F A B C) → LayerFree (map-Expr A B C Expr ProductPart SumPart expr times plus d)
  node-free (node.Number n) known p h = free-none p
  node-free (node.Var x) known p h = free-one p x.bytes (scalar-free (known.what x.bytes) p x h)
  node-free (node.Item x i) known p h =
      free-cons p x.bytes (names_in (expr i))
      (array-free (known.what x.bytes) p x (nothing_left (array_use (known.what x.bytes) p x) (wanted Int (reading_of (expr i)) known p) h))
      (e i known p (wanted-left Int (reading_of (expr i)) known p (nothing_right (array_use (known.what x.bytes) p x) (wanted Int (reading_of (expr i)) known p) h)))
  node-free (node.Neg at x) known p h = e x known p (wanted-left Int (reading_of (expr x)) known p h)
  node-free (node.Same at x y) known p h = two-free Id (names_in (expr x)) (names_in (expr y)) (reading_of (expr x)) (reading_of (expr y)) (e x) (e y) known p h
  node-free (node.Older at x y) known p h = two-free Id (names_in (expr x)) (names_in (expr y)) (reading_of (expr x)) (reading_of (expr y)) (e x) (e y) known p h
  node-free (node.Compare x how y) known p h = two-free Int (names_in (expr x)) (names_in (expr y)) (reading_of (expr x)) (reading_of (expr y)) (e x) (e y) known p h
  node-free (node.Sum first rest) known p h =
      free-append p (names_in (expr first)) (joined_names (map names_in_sum_part (map plus rest)))
      (e first known p (wanted-left Int (reading_of (expr first)) known p (nothing_left (wanted Int (reading_of (expr first)) known p) (all_wanted Int (map read_sum_part (map plus rest)) known p) h)))
      (pluses-free rest known p (nothing_right (wanted Int (reading_of (expr first)) known p) (all_wanted Int (map read_sum_part (map plus rest)) known p) h))
  node-free (node.Product first rest) known p h =
      free-append p (names_in (expr first)) (joined_names (map names_in_product_part (map times rest)))
      (e first known p (wanted-left Int (reading_of (expr first)) known p (nothing_left (wanted Int (reading_of (expr first)) known p) (all_wanted Int (map read_product_part (map times rest)) known p) h)))
      (timeses-free rest known p (nothing_right (wanted Int (reading_of (expr first)) known p) (all_wanted Int (map read_product_part (map times rest)) known p) h))

pub read-free : (e : Expr) → TreeFree e
read-free =
    ind-Expr TreeFree (λ p. ReadsFree (names_in_product_part p) (read_product_part p)) (λ p. ReadsFree (names_in_sum_part p) (read_sum_part p))
    (λ x y h. subst (λ (d : Expr-F Expr ProductPart SumPart). TreeFree (roll-Expr d)) h
    (layer-free (map-Expr _ _ _ Expr ProductPart SumPart (λ e. e.0) (λ e. e.0) (λ e. e.0) y) (node-free (λ e. e.0) (λ e. e.0) (λ e. e.0) (λ e. e.1) (λ e. e.1) (λ e. e.1) y)))
    (λ x y h. times_free (record { sign = x.sign; operand = x.operand }) y.operand.0 y.operand.1 (ap (λ p. p.operand) h))
    (λ x y h. plus_free (record { minus = x.minus; operand = x.operand }) y.operand.0 y.operand.1 (ap (λ p. p.operand) h))
  where
    times_free : (p : ProductPart) (e : Expr) → TreeFree e → e ≡ p.operand → ReadsFree (names_in_product_part p) (read_product_part p)
    times_free p e free h = rw (product_part_is p, product_part_names p, ← h) free

    plus_free : (p : SumPart) (e : Expr) → TreeFree e → e ≡ p.operand → ReadsFree (names_in_sum_part p) (read_sum_part p)
    plus_free p e free h = rw (sum_part_is p, sum_part_names p, ← h) free

-- Calls and right sides

pub arguments-free : (params : List Param) (es : List Expr) (known : Declared) (p : check.NameSet) → arguments params es known p ≡ [] → Free p (names_in_all es)
arguments-free params [] known p h = free-none p
arguments-free [] (e ∷ es) known p h =
    free-append p (names_in e) (names_in_all es) (read-free e known p (nothing_left ((reading_of e).violations known p) (arguments [] es known p) h))
    (arguments-free [] es known p (nothing_right ((reading_of e).violations known p) (arguments [] es known p) h))
arguments-free (q ∷ params) (e ∷ es) known p h =
    free-append p (names_in e) (names_in_all es)
    (read-free e known p (wanted-left q.kind (reading_of e) known p (nothing_left (wanted q.kind (reading_of e) known p) (arguments params es known p) h)))
    (arguments-free params es known p (nothing_right (wanted q.kind (reading_of e) known p) (arguments params es known p) h))

pub call-free : (o : Option Function) (c : CallText) (known : Declared) (p : check.NameSet) → call_of o c known p ≡ [] → Free p (names_in_all c.args)
call-free None c known p h = arguments-free [] c.args known p (nothing_right (unknown_function c.name) (arguments [] c.args known p) h)
call-free (Some f) c known p h =
    arguments-free f.params c.args known p (nothing_right (wrong_number_of_arguments (nat_eq (length f.params) (length c.args)) c.name) (arguments f.params c.args known p) h)

loop-arguments-free : (params : List Param) (c : CallText) (known : Declared) (p : check.NameSet) → loop_arguments params c known p ≡ [] → Free p (names_in_all c.args)
loop-arguments-free [] c known p h = arguments-free [] c.args known p (nothing_right (wrong_number_of_arguments false c.name) (arguments [] c.args known p) h)
loop-arguments-free (q ∷ params) c known p h =
    arguments-free params c.args known p
    (nothing_right (wrong_number_of_arguments (nat_eq (length params) (length c.args)) c.name ++ wrong_kind Int (Some q.kind) c.name.at) (arguments params c.args known p) h)

pub loop-call-free : (o : Option Function) (has_target : Bool) (c : CallText) (known : Declared) (p : check.NameSet) → loop_call_of o has_target c known p ≡ [] → Free p (names_in_all c.args)
loop-call-free None has_target c known p h = arguments-free [] c.args known p (nothing_right (unknown_function c.name) (arguments [] c.args known p) h)
loop-call-free (Some f) has_target c known p h =
    loop-arguments-free f.params c known p (nothing_right (wrong_kind Int (received_kind has_target f.answer) c.name.at) (loop_arguments f.params c known p) h)

pub target-free : (target : Option Name) (known : Declared) (p : check.NameSet) → target_use target known p ≡ [] → Free p (target_names target)
target-free None known p h = free-none p
target-free (Some x) known p h = free-one p x.bytes (array-free (known.what x.bytes) p x h)

pub right-free : (functions : List Function) (r : Right) → ReadsFree (names_in_right r) (read_right functions r)
right-free functions (right.Value e) known p h = read-free e known p h
right-free functions (right.Draw at) known p h = free-none p
right-free functions (right.New at) known p h = free-none p
right-free functions (right.Call at c) known p h = call-free (function_named functions c.name.bytes) c known p h
right-free functions (right.Spawn at c) known p h = call-free (function_named functions c.name.bytes) c known p h

pub wanted-as-left : (kind : Option Kind) (r : Reading) (known : Declared) (p : check.NameSet) → wanted_as kind r known p ≡ [] → r.violations known p ≡ []
wanted-as-left None r known p h = h
wanted-as-left (Some kind) r known p h = wanted-left kind r known p h
