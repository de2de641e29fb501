-- The variables of a function of a valid script are those that are declared in it, so that they are few.
use Rattle.std.proofs.Common.{◌≡◌, ◌≢◌, ℕ, ◌+◌, ◌≤◌, Bool, true, false, ◌&&◌, cond, List, [], ◌∷◌, ◌++◌, length, map, nat_eq, Option, Some, None, refl, sym, ap, subst, ◌∙◌, append_assoc, append-nil, length-append, arith}
use Rattle.std.specs.Prelude.{All, is_none, is_some}
use Rattle.std.specs.Str.{bytes_eq}
use Rattle.std.proofs.lemmas.Bool.{and_parts, cond-false, cond-true, eq-eqb, true≢false}
use Rattle.std.proofs.lemmas.List.Elements.{All-cons, All-nil}
use Rattle.script_grammar.specs.declared.tree.Kind.TheVariants.{Int}
use Rattle.script_grammar.specs.declared.tree.Name.{Name}
use Rattle.script_grammar.specs.declared.tree.Param.{Param}
use Rattle.script_grammar.specs.declared.tree.Function.{Function}
use Rattle.script_grammar.specs.declared.tree.Stmt.{Stmt}
use Rattle.script_grammar.specs.declared.tree.Act.{Act, map-Act}
use Rattle.script_grammar.specs.declared.tree.Act.TheOpen as act
use Rattle.script_grammar.specs.declared.tree.Act.TheOpen.{Act-F}
use Rattle.script_check.specs.declared.findings.Violation.{Violation}
use Rattle.script_check.specs.declared.variable.Variable.{Variable}
use Rattle.script_check.specs.declared.variable.Variable.TheVariants.{Array, Scalar}
use Rattle.script_check.specs.Expressions.{reading_of, two_wanted, wanted}
use Rattle.script_check.specs.Functions.{function_named, main_name}
use Rattle.script_check.specs.Laws.{VariablesAreFew}
use Rattle.script_check.specs.Names.{NameSet, union, no_names}
use Rattle.script_check.specs.Slots.{named_in, named_in_act, named_in_all, named_in_block, named_in_right, named_in_statement, named_in_target, slot_in, variable_names, with_new_name, with_new_names}
use Rattle.script_check.specs.Rules.{Declared, array_length, array_use, declaration, kind_of_variable, let_in_a_block, most_variables, scalar_use, too_many_variables, variable_twice}
use Rattle.script_check.specs.Statements.{Context, Judged, after, block_violations, violations_each, judge, judge_act, judge_all, judge_what, declared_kind, known_each, loop_call_of, context, read_right, target_use, wanted_as}
use Rattle.script_check.specs.Tables.{no_entries, with_first}
use Rattle.script_check.specs.Valid.{all_function_violations, function_violations, functions_twice, known_params, main_violations, param_violations}
use Rattle.script_check.proofs.FewerPending.Fewer.{nothing_left, nothing_right}
use Rattle.script_check.proofs.FewerPending.Induction.{Each, Inside, induct, induct_each, judge_open, statement}
use Rattle.script_check.proofs.Tables.Indexed.{or_else}
use Rattle.script_check.proofs.Tables.SlotIndex.{slot-snoc}
use Rattle.script_check.proofs.FoundSlots.Named.{each_is, named_open}
use Rattle.script_check.proofs.FoundSlots.Parts.{named_what}
use Rattle.script_check.proofs.FoundSlots.Known.{not-broken}
use Rattle.script_check.proofs.FoundSlots.Reads.{AllKnown, array-known, call-known, known-append, known-cons, loop-call-known, read-known, right-known, scalar-known, target-known, two-known, wanted-as-left, wanted-left}

-- the names are those that are known, and there are as many
record Lists (names : List (List ℕ)) (known : Declared) : Type 0 where
  same : (q : List ℕ) → is_some (slot_in names q) ≡ is_some (known.what q)
  count : known.count ≡ length names
  few : length names ≤ 256

-- what is known adds nothing
with-known : (names : List (List ℕ)) (known : Declared) → Lists names known → (xs : List Name) → AllKnown known xs → with_new_names names xs ≡ names
with-known names known l [] h = refl
with-known names known l (x ∷ xs) h =
    let first : is_some (slot_in names x.bytes) ≡ true = l.same x.bytes ∙ (and_parts (is_some (known.what x.bytes)) (each_is (λ x. is_some (known.what x.bytes)) xs) h).0 in
    ap (λ l. with_new_names l xs) (cond-true (is_some (slot_in names x.bytes)) names (names ++ x.bytes ∷ []) first)
    ∙ with-known names known l xs (and_parts (is_some (known.what x.bytes)) (each_is (λ x. is_some (known.what x.bytes)) xs) h).1

with-append : (names : List (List ℕ)) (xs ys : List Name) → with_new_names names (xs ++ ys) ≡ with_new_names (with_new_names names xs) ys
with-append names [] ys = refl
with-append names (x ∷ xs) ys = with-append (with_new_name names x.bytes) xs ys

-- One declaration more

new-known : (known : Declared) (x : Name) → declaration known x ≡ [] → is_some (known.what x.bytes) ≡ false
new-known known x h = not-broken (is_some (known.what x.bytes)) 4 x.at (nothing_left (variable_twice known x) (too_many_variables known x) h)

none-of : {A : Type 0} (o : Option A) → is_some o ≡ false → is_none o ≡ true
none-of None h = refl
none-of (Some v) h = absurd (true≢false h)

declared : (names : List (List ℕ)) (known : Declared) (x : Name) (v : Variable) → Lists names known → declaration known x ≡ [] → Lists (names ++ x.bytes ∷ []) (with_first known x.bytes v)
declared names known x v l h = record { same = same; count = count; few = few }
  where
    new : is_some (known.what x.bytes) ≡ false
    new = new-known known x h

    added : with_first known x.bytes v ≡ record { what = λ q. cond (bytes_eq x.bytes q) (Some v) (known.what q); count = known.count + 1 }
    added = cond-false (is_some (known.what x.bytes)) known _ new

    either : (o : Option ℕ) (w : Option Variable) (b : Bool) (n : ℕ) → is_some o ≡ is_some w → is_some (or_else o (cond b (Some n) None)) ≡ is_some (cond b (Some v) w)
    either None w true n e = refl
    either None w false n e = e
    either (Some k) w true n e = refl
    either (Some k) w false n e = e

    same : (q : List ℕ) → is_some (slot_in (names ++ x.bytes ∷ []) q) ≡ is_some ((with_first known x.bytes v).what q)
    same q =
        ap (λ (o : Option ℕ). is_some o) (slot-snoc names x.bytes q)
        ∙ either (slot_in names q) (known.what q) (bytes_eq x.bytes q) (length names) (l.same q)
        ∙ sym (ap (λ (t : Declared). is_some (t.what q)) added)

    long : length (names ++ x.bytes ∷ []) ≡ length names + 1
    long = length-append names (x.bytes ∷ [])

    count : (with_first known x.bytes v).count ≡ length (names ++ x.bytes ∷ [])
    count = ap (λ (t : Declared). t.count) added ∙ ap (λ n. n + 1) l.count ∙ sym long

    fewer : nat_eq known.count 256 ≡ false
    fewer =
        ap (λ b. b && nat_eq known.count 256) (sym (none-of (known.what x.bytes) new))
        ∙ not-broken (is_none (known.what x.bytes) && nat_eq known.count 256) 11 x.at (nothing_right (variable_twice known x) (too_many_variables known x) h)

    apart : known.count ≢ 256
    apart e = true≢false (sym (eq-eqb known.count 256 e) ∙ fewer)

    few : length (names ++ x.bytes ∷ []) ≤ 256
    few = omega (arith, long, l.few, l.count, apart)

first-keeps : (known : Declared) (x : Name) (v : Variable) → is_some (known.what x.bytes) ≡ false → (xs : List Name) → AllKnown known xs → AllKnown (with_first known x.bytes v) xs
first-keeps known x v new [] h = refl
first-keeps known x v new (y ∷ ys) h =
    let k = and_parts (is_some (known.what y.bytes)) (each_is (λ x. is_some (known.what x.bytes)) ys) h in
    known-cons (with_first known x.bytes v) y ys
    (ap (λ (t : Declared). is_some (t.what y.bytes)) (cond-false (is_some (known.what x.bytes)) known _ new) ∙ still (bytes_eq x.bytes y.bytes) (known.what y.bytes) k.0)
    (first-keeps known x v new ys k.1)
  where
    still : (b : Bool) (o : Option Variable) → is_some o ≡ true → is_some (cond b (Some v) o) ≡ true
    still true o h = refl
    still false o h = h

-- Statements

-- it declares nothing
abbrev IsPlain : Act-F Act Stmt → Type 0
IsPlain (act.Let x r) = ⊥
IsPlain (act.Array x n) = ⊥
IsPlain _ = Unit {0}

-- where it has no violation it makes nothing known, and names what is known
abbrev Stays : Judged → List Name → Context → Type 0
Stays j named where_it_is = (known : Declared) (p : NameSet) → j.violations where_it_is known p ≡ [] → (j.known where_it_is.functions known ≡ known) × AllKnown known named

abbrev InBlock : Stmt → Type 0
InBlock s = (at : Context) → at.in_block ≡ true → Stays (judge s) (named_in_statement s) at

abbrev pub told : Act-F Act Stmt → ℕ → Judged
told d at = judge_act (map-Act Act Stmt (ℕ → Judged) Judged judge_what judge d) at

abbrev names_of : Act-F Act Stmt → List Name
names_of d = named_in_act (map-Act Act Stmt (List Name) (List Name) named_what named_in_statement d)

all-stay : (ss : List Stmt) → Each InBlock ss → (at : Context) → at.in_block ≡ true → (known : Declared) (p : NameSet) → violations_each (judge_all ss) at known p ≡ [] →
    (known_each (judge_all ss) at.functions known ≡ known) × AllKnown known (named_in_block ss)
all-stay [] g at b known p h = (refl, refl)
all-stay (s ∷ ss) g at b known p h =
    let next = (judge s).known at.functions known in
    let rest = violations_each (judge_all ss) at next ((judge s).after p) in
    let here = g.0 at b known p (nothing_left ((judge s).violations at known p) rest h) in
    let there = all-stay ss g.1 at b next ((judge s).after p) (nothing_right ((judge s).violations at known p) rest h) in
    (there.0 ∙ here.0, known-append known (named_in_statement s) (named_in_block ss) here.1 (subst (λ k. AllKnown k (named_in_block ss)) here.0 there.1))

abbrev pub inside : Context → Context
inside at = record at { in_block = true }

plain-stays : (n : ℕ) (d : Act-F Act Stmt) → IsPlain d → Inside InBlock d → (at : Context) → Stays (told d n) (names_of d) at
plain-stays n (act.Let x r) c g at known p h = absurd c
plain-stays n (act.Array x m) c g at known p h = absurd c
plain-stays n (act.Set x r) c g at known p h = (
  refl,
  known-cons known x (named_in_right r)
      (scalar-known (known.what x.bytes) p x (nothing_left (scalar_use (known.what x.bytes) p x) (wanted_as (kind_of_variable (known.what x.bytes)) (read_right at.functions r) known p) h))
      (right-known at.functions r known p (wanted-as-left (kind_of_variable (known.what x.bytes)) (read_right at.functions r) known p
      (nothing_right (scalar_use (known.what x.bytes) p x) (wanted_as (kind_of_variable (known.what x.bytes)) (read_right at.functions r) known p) h))),
)
plain-stays n (act.Store x i e) c g at known p h = (
  refl,
  known-cons known x (named_in i ++ named_in e)
      (array-known (known.what x.bytes) p x (nothing_left (array_use (known.what x.bytes) p x) (two_wanted Int (reading_of i) (reading_of e) known p) h))
      (two-known Int (named_in i) (named_in e) (reading_of i) (reading_of e) (read-known i) (read-known e) known p (nothing_right (array_use (known.what x.bytes) p x) (two_wanted Int (reading_of i) (reading_of e) known p) h)),
)
plain-stays n (act.Spawn c) u g at known p h = (refl, call-known (function_named at.functions c.name.bytes) c known p h)
plain-stays n (act.Call c) u g at known p h = (refl, call-known (function_named at.functions c.name.bytes) c known p h)
plain-stays n act.Sync c g at known p h = (refl, refl)
plain-stays n (act.Print e) c g at known p h = (refl, read-known e known p h)
plain-stays n (act.If e a b) c g at known p h =
    let test = wanted Int (reading_of e) known p in
    let one = block_violations (judge_all a) at known p in
    let two = block_violations (judge_all b) at (known_each (judge_all a) at.functions known) p in
    let first = all-stay a g.0 (inside at) refl known p (nothing_right test one (nothing_left (test ++ one) two h)) in
    let last = all-stay b g.1 (inside at) refl (known_each (judge_all a) at.functions known) p (nothing_right (test ++ one) two h) in (
      last.0 ∙ first.0,
      known-append known (named_in e) (named_in_block a ++ named_in_block b)
          (read-known e known p (wanted-left Int (reading_of e) known p (nothing_left test one (nothing_left (test ++ one) two h))))
          (known-append known (named_in_block a) (named_in_block b) first.1 (subst (λ k. AllKnown k (named_in_block b)) first.0 last.1)),
    )
plain-stays n (act.While e a) c g at known p h =
    let q : NameSet = union p (after a p) in
    let test = wanted Int (reading_of e) known q in
    let body = all-stay a g (inside at) refl known q (nothing_right test (block_violations (judge_all a) at known q) h) in (
      body.0,
      known-append known (named_in e) (named_in_block a) (read-known e known q (wanted-left Int (reading_of e) known q (nothing_left test (block_violations (judge_all a) at known q) h))) body.1,
    )
plain-stays n (act.Pfor x lo hi target c) u g at known p h =
    let bounds = two_wanted Int (reading_of lo) (reading_of hi) known p in
    let into = target_use target known p in
    let call = loop_call_of (function_named at.functions c.name.bytes) (is_some target) c known p in
    let two = two-known Int (named_in lo) (named_in hi) (reading_of lo) (reading_of hi) (read-known lo) (read-known hi) known p (nothing_left bounds into (nothing_left (bounds ++ into) call h)) in
    let last =
    known-append known (named_in_target target) (named_in_all c.args) (target-known target known p (nothing_right bounds into (nothing_left (bounds ++ into) call h)))
    (loop-call-known (function_named at.functions c.name.bytes) (is_some target) c known p (nothing_right (bounds ++ into) call h)) in (
      refl,
      subst (AllKnown known) (append_assoc (named_in lo) (named_in hi) (named_in_target target ++ named_in_all c.args))
          (known-append known (named_in lo ++ named_in hi) (named_in_target target ++ named_in_all c.args) two last),
    )
plain-stays n (act.Scope a) c g at known p h = all-stay a g (inside at) refl known p h

not-in-block : {A : Type 0} (b : Bool) (at : ℕ) → b ≡ true → let_in_a_block b at ≡ [] → A
not-in-block b at e h = absurd (true≢false (sym e ∙ not-broken b 10 at h))

in-block-open : (n : ℕ) (d : Act-F Act Stmt) → Inside InBlock d → (at : Context) → at.in_block ≡ true → Stays (told d n) (names_of d) at
in-block-open n (act.Let x r) g at b known p h =
    not-in-block at.in_block n b (nothing_left (let_in_a_block at.in_block n) ((read_right at.functions r).violations known p)
    (nothing_left (let_in_a_block at.in_block n ++ (read_right at.functions r).violations known p) (declaration known x) h))
in-block-open n (act.Array x m) g at b known p h =
    not-in-block at.in_block n b (nothing_left (let_in_a_block at.in_block n) (declaration known x) (nothing_left (let_in_a_block at.in_block n ++ declaration known x) (array_length m) h))
in-block-open n (act.Set x r) g at b known p h = plain-stays n (act.Set x r) tt g at known p h
in-block-open n (act.Store x i e) g at b known p h = plain-stays n (act.Store x i e) tt g at known p h
in-block-open n (act.Spawn c) g at b known p h = plain-stays n (act.Spawn c) tt g at known p h
in-block-open n (act.Call c) g at b known p h = plain-stays n (act.Call c) tt g at known p h
in-block-open n act.Sync g at b known p h = plain-stays n act.Sync tt g at known p h
in-block-open n (act.Print e) g at b known p h = plain-stays n (act.Print e) tt g at known p h
in-block-open n (act.If e a c) g at b known p h = plain-stays n (act.If e a c) tt g at known p h
in-block-open n (act.While e a) g at b known p h = plain-stays n (act.While e a) tt g at known p h
in-block-open n (act.Pfor x lo hi target c) g at b known p h = plain-stays n (act.Pfor x lo hi target c) tt g at known p h
in-block-open n (act.Scope a) g at b known p h = plain-stays n (act.Scope a) tt g at known p h

all-in-block : (s : Stmt) → InBlock s
all-in-block =
    induct InBlock (λ n d g at b known p h.
    let stays = in-block-open n d g at b known p (ap (λ (j : Judged). j.violations at known p) (sym (judge_open n d)) ∙ h) in
    (ap (λ (j : Judged). j.known at.functions known) (judge_open n d) ∙ stays.0, subst (AllKnown known) (sym (named_open n d)) stays.1))

-- At the top of a body

abbrev Listed : Judged → List Name → Type 0
Listed j named = (functions : List Function) (names : List (List ℕ)) (known : Declared) (p : NameSet) → Lists names known → j.violations (context functions false) known p ≡ [] →
    Lists (with_new_names names named) (j.known functions known)

plain-listed : (j : Judged) (named : List Name) → ((at : Context) → Stays j named at) → Listed j named
plain-listed j named stays functions names known p l h =
    let k = stays (context functions false) known p h in
    subst (λ m. Lists (with_new_names names named) m) (sym k.0) (subst (λ m. Lists m known) (sym (with-known names known l named k.1)) l)

-- a declaration and what it names beside its variable
one-listed : (names : List (List ℕ)) (known : Declared) (x : Name) (v : Variable) (xs : List Name) → Lists names known → declaration known x ≡ [] → AllKnown known xs →
    Lists (with_new_names names (x ∷ xs)) (with_first known x.bytes v)
one-listed names known x v xs l h all =
    let more = declared names known x v l h in
    let new : is_some (slot_in names x.bytes) ≡ false = l.same x.bytes ∙ new-known known x h in
    let one : with_new_name names x.bytes ≡ names ++ x.bytes ∷ [] = cond-false (is_some (slot_in names x.bytes)) names (names ++ x.bytes ∷ []) new in
    let rest : with_new_names (names ++ x.bytes ∷ []) xs ≡ names ++ x.bytes ∷ [] = with-known (names ++ x.bytes ∷ []) (with_first known x.bytes v) more xs (first-keeps known x v (new-known known x h) xs all) in
    subst (λ m. Lists m (with_first known x.bytes v)) (sym (ap (λ m. with_new_names m xs) one ∙ rest)) more

open-listed : (n : ℕ) (d : Act-F Act Stmt) → Inside InBlock d → Listed (told d n) (names_of d)
open-listed n (act.Let x r) g functions names known p l h =
    one-listed names known x (Scalar (declared_kind ((read_right functions r).kind known))) (named_in_right r) l
    (nothing_right (let_in_a_block false n ++ (read_right functions r).violations known p) (declaration known x) h)
    (right-known functions r known p (nothing_right (let_in_a_block false n) ((read_right functions r).violations known p)
    (nothing_left (let_in_a_block false n ++ (read_right functions r).violations known p) (declaration known x) h)))
open-listed n (act.Array x m) g functions names known p l h =
    one-listed names known x Array [] l
    (nothing_right (let_in_a_block false n) (declaration known x) (nothing_left (let_in_a_block false n ++ declaration known x) (array_length m) h)) refl
open-listed n (act.Set x r) g functions names known p l h = plain-listed (told (act.Set x r) n) (names_of (act.Set x r)) (plain-stays n (act.Set x r) tt g) functions names known p l h
open-listed n (act.Store x i e) g functions names known p l h = plain-listed (told (act.Store x i e) n) (names_of (act.Store x i e)) (plain-stays n (act.Store x i e) tt g) functions names known p l h
open-listed n (act.Spawn c) g functions names known p l h = plain-listed (told (act.Spawn c) n) (names_of (act.Spawn c)) (plain-stays n (act.Spawn c) tt g) functions names known p l h
open-listed n (act.Call c) g functions names known p l h = plain-listed (told (act.Call c) n) (names_of (act.Call c)) (plain-stays n (act.Call c) tt g) functions names known p l h
open-listed n act.Sync g functions names known p l h = plain-listed (told act.Sync n) (names_of act.Sync) (plain-stays n act.Sync tt g) functions names known p l h
open-listed n (act.Print e) g functions names known p l h = plain-listed (told (act.Print e) n) (names_of (act.Print e)) (plain-stays n (act.Print e) tt g) functions names known p l h
open-listed n (act.If e a b) g functions names known p l h = plain-listed (told (act.If e a b) n) (names_of (act.If e a b)) (plain-stays n (act.If e a b) tt g) functions names known p l h
open-listed n (act.While e a) g functions names known p l h = plain-listed (told (act.While e a) n) (names_of (act.While e a)) (plain-stays n (act.While e a) tt g) functions names known p l h
open-listed n (act.Pfor x lo hi target c) g functions names known p l h = plain-listed (told (act.Pfor x lo hi target c) n) (names_of (act.Pfor x lo hi target c)) (plain-stays n (act.Pfor x lo hi target c) tt g) functions names known p l h
open-listed n (act.Scope a) g functions names known p l h = plain-listed (told (act.Scope a) n) (names_of (act.Scope a)) (plain-stays n (act.Scope a) tt g) functions names known p l h

-- what stands inside is in a block
inside-blocks : (d : Act-F Act Stmt) → Inside InBlock d
inside-blocks (act.Let x r) = tt
inside-blocks (act.Array x n) = tt
inside-blocks (act.Set x r) = tt
inside-blocks (act.Store x i e) = tt
inside-blocks (act.Spawn c) = tt
inside-blocks (act.Call c) = tt
inside-blocks act.Sync = tt
inside-blocks (act.Print e) = tt
inside-blocks (act.If e a b) = (induct_each InBlock all-in-block a, induct_each InBlock all-in-block b)
inside-blocks (act.While e a) = induct_each InBlock all-in-block a
inside-blocks (act.Pfor x lo hi target c) = tt
inside-blocks (act.Scope a) = induct_each InBlock all-in-block a

all-listed : (s : Stmt) → Listed (judge s) (named_in_statement s)
all-listed =
    induct (λ s. Listed (judge s) (named_in_statement s)) (λ n d g functions names known p l h.
    subst (λ m. Lists (with_new_names names m) ((judge (statement n d)).known functions known)) (sym (named_open n d))
    (subst (λ (j : Judged). Lists (with_new_names names (names_of d)) (j.known functions known)) (sym (judge_open n d))
    (open-listed n d (inside-blocks d) functions names known p l (ap (λ (j : Judged). j.violations (context functions false) known p) (sym (judge_open n d)) ∙ h))))

body-listed : (ss : List Stmt) (functions : List Function) (names : List (List ℕ)) (known : Declared) (p : NameSet) → Lists names known → violations_each (judge_all ss) (context functions false) known p ≡ [] →
    Lists (with_new_names names (named_in_block ss)) (known_each (judge_all ss) functions known)
body-listed [] functions names known p l h = l
body-listed (s ∷ ss) functions names known p l h =
    let next = (judge s).known functions known in
    let here = (judge s).violations (context functions false) known p in
    let rest = violations_each (judge_all ss) (context functions false) next ((judge s).after p) in
    subst (λ m. Lists m (known_each (judge_all ss) functions next)) (sym (with-append names (named_in_statement s) (named_in_block ss)))
    (body-listed ss functions (with_new_names names (named_in_statement s)) next ((judge s).after p) (all-listed s functions names known p l (nothing_left here rest h)) (nothing_right here rest h))

params-listed : (params : List Param) (names : List (List ℕ)) (known : Declared) → Lists names known → param_violations params known ≡ [] → Lists (names ++ map (λ q. q.name.bytes) params) (known_params params known)
params-listed [] names known l h = subst (λ m. Lists m known) (sym (append-nil names)) l
params-listed (q ∷ params) names known l h =
    let next = with_first known q.name.bytes (Scalar q.kind) in
    subst (λ m. Lists m (known_params params next)) (append_assoc names (q.name.bytes ∷ []) (map (λ q. q.name.bytes) params))
    (params-listed params (names ++ q.name.bytes ∷ []) next (declared names known q.name (Scalar q.kind) l (nothing_left (declaration known q.name) (param_violations params next) h))
    (nothing_right (declaration known q.name) (param_violations params next) h))

function-few : (functions : List Function) (f : Function) → function_violations functions f ≡ [] → length (variable_names f) ≤ most_variables
function-few functions f h =
    let known : Declared = known_params f.params no_entries in
    let ends : Declared = known_each (judge_all f.body) functions known in
    let start : List (List ℕ) = map (λ q. q.name.bytes) f.params in
    let params : List Violation = param_violations f.params no_entries in
    let body : List Violation = violations_each (judge_all f.body) (context functions false) known no_names in
    let last : List Violation = wanted f.answer (reading_of f.result) ends no_names in
    let none : Lists [] no_entries = record { same = λ q. refl; count = refl; few = omega arith } in
    let first = params-listed f.params [] no_entries none (nothing_left params body (nothing_left (params ++ body) last h)) in
    let ended_block = body-listed f.body functions start known no_names first (nothing_right params body (nothing_left (params ++ body) last h)) in
    let result = read-known f.result ends no_names (wanted-left f.answer (reading_of f.result) ends no_names (nothing_right (params ++ body) last h)) in
    subst (λ m. length m ≤ most_variables)
    (sym (with-append start (named_in_block f.body) (named_in f.result) ∙ with-known (with_new_names start (named_in_block f.body)) ends ended_block (named_in f.result) result)) ended_block.few

all-few : (functions fs : List Function) → all_function_violations functions fs ≡ [] → All (λ f. length (variable_names f) ≤ most_variables) fs
all-few functions [] h = All-nil (λ f. length (variable_names f) ≤ most_variables)
all-few functions (f ∷ fs) h =
    All-cons (λ f. length (variable_names f) ≤ most_variables) f fs (function-few functions f (nothing_left (function_violations functions f) (all_function_violations functions fs) h))
    (all-few functions fs (nothing_right (function_violations functions f) (all_function_violations functions fs) h))

pub variables_are_few : VariablesAreFew
variables_are_few script valid =
    all-few script.functions script.functions
    (nothing_right (main_violations (function_named script.functions main_name)) (all_function_violations script.functions script.functions)
    (nothing_right (functions_twice [] script.functions) (main_violations (function_named script.functions main_name) ++ all_function_violations script.functions script.functions) valid))
