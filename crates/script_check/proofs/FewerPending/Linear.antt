-- After statements a name is pending because they made it so, or because they keep what was pending.
use Rattle.std.proofs.Common.{◌≡◌, ℕ, Bool, true, false, ◌||◌, ◌&&◌, List, [], ◌∷◌, refl, sym, ap, ◌∙◌}
use Rattle.std.specs.Str.{bytes_eq}
use Rattle.script_grammar.specs.declared.tree.Name.{Name}
use Rattle.script_grammar.specs.declared.tree.Right.{Right}
use Rattle.script_grammar.specs.declared.tree.Right.TheVariants as right
use Rattle.script_grammar.specs.declared.tree.Stmt.{Stmt}
use Rattle.script_grammar.specs.declared.tree.Act.{Act, map-Act}
use Rattle.script_grammar.specs.declared.tree.Act.TheOpen as act
use Rattle.script_grammar.specs.declared.tree.Act.TheOpen.{Act-F}
use Rattle.script_check.specs.Names.{NameSet, no_names, union, after_right, after_each, IsWithin}
use Rattle.script_check.specs.Statements.{Judged, judge, judge_act, judge_what, after}
use Rattle.script_check.specs.Walk.{keeps_act, keeps, keeps_what, keeps_all}
use Rattle.script_check.proofs.FewerPending.Induction.{Each, Inside, statement, induct, induct_each, judge_open, keeps_open}

-- what is pending after is what the statements add to p, and of r what they keep
abbrev pub IsLinear : (NameSet → NameSet) → Bool → Type 0
IsLinear f kept = (p r : NameSet) (x : List ℕ) → f (union p r) x ≡ (f p x || (kept && r x))

-- the same for sets that are equal as tests
onto : (f : NameSet → NameSet) (p q : NameSet) → ((x : List ℕ) → p x ≡ q x) → (x : List ℕ) → f p x ≡ f q x
onto f p q h x = ap (λ (s : NameSet). f s x) (λ i y. h y i)

or_assoc : (a b c : Bool) → ((a || b) || c) ≡ (a || (b || c))
or_assoc true b c = refl
or_assoc false b c = refl

and_assoc : (a b c : Bool) → (a && (b && c)) ≡ ((a && b) && c)
and_assoc true b c = refl
and_assoc false b c = refl

bool_if : (g h k j p : Bool) → ((g || (k && p)) || (h || (j && p))) ≡ ((g || h) || ((k || j) && p))
bool_if true h k j p = refl
bool_if false true k j p = elim (k && p) as (λ z. (z || true) ≡ true) [ true ↦ refl | false ↦ refl ]
bool_if false false true true true = refl
bool_if false false true true false = refl
bool_if false false true false true = refl
bool_if false false true false false = refl
bool_if false false false j p = refl

bool_while : (p r g k : Bool) → ((p || r) || (g || (k && r))) ≡ ((p || g) || r)
bool_while true r g k = refl
bool_while false true true k = refl
bool_while false true false k = refl
bool_while false false true k = refl
bool_while false false false true = refl
bool_while false false false false = refl

or_false : (b c : Bool) → b ≡ (b || (c && false))
or_false true c = refl
or_false false true = refl
or_false false false = refl

linear_right : (x : Name) (r : Right) → IsLinear (after_right x r) true
linear_right x (right.Value e) p r y = refl
linear_right x (right.Draw at) p r y = refl
linear_right x (right.New at) p r y = refl
linear_right x (right.Call at c) p r y = refl
linear_right x (right.Spawn at c) p r y = sym (or_assoc (bytes_eq x.bytes y) (p y) (r y))

abbrev Linear : Stmt → Type 0
Linear s = IsLinear (judge s).after (keeps s)

abbrev after_list : List Judged → NameSet → NameSet
after_list = after_each (λ (j : Judged). j.after)

linear_each : (ss : List Stmt) → Each Linear ss → IsLinear (after ss) (keeps_all ss)
linear_each [] h p r x = refl
linear_each (s ∷ ss) h p r x =
    onto (after ss) ((judge s).after (union p r)) (union ((judge s).after p) (λ y. keeps s && r y)) (λ y. h.0 p r y) x
    ∙ linear_each ss h.1 ((judge s).after p) (λ y. keeps s && r y) x
    ∙ ap (λ b. after ss ((judge s).after p) x || b) (and_assoc (keeps_all ss) (keeps s) (r x) ∙ ap (λ b. b && r x) (swap (keeps_all ss) (keeps s)))
  where
    swap : (a b : Bool) → (a && b) ≡ (b && a)
    swap true true = refl
    swap true false = refl
    swap false true = refl
    swap false false = refl

linear_open : (at : ℕ) (d : Act-F Act Stmt) → Inside Linear d →
    IsLinear (judge_act (map-Act Act Stmt (ℕ → Judged) Judged judge_what judge d) at).after (keeps_act (map-Act Act Stmt Bool Bool keeps_what keeps d))
linear_open at (act.Let x r) h p q y = linear_right x r p q y
linear_open at (act.Array x n) h p r y = refl
linear_open at (act.Set x r) h p q y = linear_right x r p q y
linear_open at (act.Store x i e) h p r y = refl
linear_open at (act.Spawn c) h p r y = refl
linear_open at (act.Call c) h p r y = refl
linear_open at act.Sync h p r y = refl
linear_open at (act.Print e) h p r y = refl
linear_open at (act.If e a b) h p r y =
    ap (λ z. z || after b (union p r) y) (linear_each a h.0 p r y)
    ∙ ap (λ z. (after a p y || (keeps_all a && r y)) || z) (linear_each b h.1 p r y)
    ∙ bool_if (after a p y) (after b p y) (keeps_all a) (keeps_all b) (r y)
linear_open at (act.While e a) h p r y =
    ap (λ z. (p y || r y) || z) (linear_each a h p r y) ∙ bool_while (p y) (r y) (after a p y) (keeps_all a)
linear_open at (act.Pfor x lo hi target c) h p r y = refl
linear_open at (act.Scope a) h p r y = refl

pub linear : (s : Stmt) → IsLinear (judge s).after (keeps s)
linear =
    induct Linear
    (λ at d h p r x.
    ap (λ (j : Judged). j.after (union p r) x) (judge_open at d)
    ∙ linear_open at d h p r x
    ∙ ap (λ (j : Judged). j.after p x || (keeps_act (map-Act Act Stmt Bool Bool keeps_what keeps d) && r x)) (sym (judge_open at d))
    ∙ ap (λ b. (judge (statement at d)).after p x || (b && r x)) (sym (keeps_open at d)))

pub linear_all : (ss : List Stmt) → IsLinear (after ss) (keeps_all ss)
linear_all ss = linear_each ss (induct_each Linear linear ss)

-- what a loop is judged with
pub loop_set : (body : List Stmt) (p : NameSet) (x : List ℕ) → union p (after body p) x ≡ (after body no_names x || p x)
loop_set body p x =
    ap (λ z. p x || z) (onto (after body) p (union no_names p) (λ y. refl) x ∙ linear_all body no_names p x) ∙ cases (p x) (after body no_names x) (keeps_all body)
  where
    cases : (p g k : Bool) → (p || (g || (k && p))) ≡ (g || p)
    cases true true k = refl
    cases true false k = refl
    cases false true k = refl
    cases false false true = refl
    cases false false false = refl

pub loop_closed : (body : List Stmt) (p : NameSet) → IsWithin (after body (union p (after body p))) (union p (after body p))
loop_closed body p x h =
    loop_set body p x ∙ cases (after body no_names x) (p x) (keeps_all body)
    (sym (linear_all body no_names (λ y. after body no_names y || p y) x) ∙ onto (after body) (union no_names (λ y. after body no_names y || p y)) (union p (after body p)) (λ y. sym (loop_set body p y)) x ∙ h)
  where
    cases : (g p k : Bool) → (g || (k && (g || p))) ≡ true → (g || p) ≡ true
    cases true p k h = refl
    cases false p true h = h
    cases false true false h = refl
    cases false false false h = h
