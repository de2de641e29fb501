-- No function of a valid script touches a pending variable.
use Rattle.std.proofs.Common.{◌≡◌, ℕ, zero, suc, ◌+◌, ◌<◌, Bool, true, false, ◌||◌, ◌⊎◌, inl, inr, List, [], ◌∷◌, ◌++◌, length, get_or, cond, Option, Some, None, refl, sym, ap, subst, ◌∙◌, arith, if◌then◌else◌}
use Rattle.std.specs.Prelude.{Contains, is_some}
use Rattle.std.specs.Map.{update}
use Rattle.std.specs.Str.{bytes_eq}
use Rattle.std.proofs.lemmas.Bool.{true≢false}
use Rattle.std.proofs.lemmas.List.Elements.{Contains-append_cases, Contains-append_left, Contains-append_right}
use Rattle.script_grammar.specs.declared.tree.Kind.TheVariants.{Int}
use Rattle.script_grammar.specs.declared.tree.Name.{Name}
use Rattle.script_grammar.specs.declared.tree.Function.{Function}
use Rattle.script_grammar.specs.declared.tree.Right.{Right}
use Rattle.script_grammar.specs.declared.tree.Right.TheVariants as right
use Rattle.script_grammar.specs.declared.tree.Stmt.{Stmt, out-Stmt, out-roll-Stmt}
use Rattle.script_grammar.specs.declared.tree.Act.{Act, map-Act, out-Act, roll-Act, out-roll-Act}
use Rattle.script_grammar.specs.declared.tree.Act.TheOpen as act
use Rattle.script_grammar.specs.declared.tree.Act.TheOpen.{Act-F}
use Rattle.script_check.specs.Tables.{no_entries, with_first}
use Rattle.script_check.specs.Functions.{function_named}
use Rattle.script_check.specs.Names as check
use Rattle.script_check.specs.Names.{no_names, union, with_name, after_right}
use Rattle.script_check.specs.Rules.{Declared, kind_of_variable, scalar_use, array_use, declaration, variable_twice, too_many_variables, array_length, let_in_a_block}
use Rattle.script_check.specs.Expressions.{wanted, two_wanted, reading_of}
use Rattle.script_check.specs.Statements.{Context, context, Judged, judge, judge_what, judge_act, judge_all, read_right, wanted_as, target_use, loop_call_of, violations_each, block_violations, known_each, after}
use Rattle.script_check.specs.Valid.{IsValid, known_params, param_violations, function_violations, all_function_violations, functions_twice, main_violations}
use Rattle.script_check.specs.Functions.{main_name}
use Rattle.script_check.proofs.FewerPending.Fewer.{nothing_left, nothing_right}
use Rattle.script_check.proofs.FewerPending.FewerStatements.{fewer_pending_stays_valid}
use Rattle.script_check.proofs.FewerPending.Linear.{loop_closed}
use Rattle.script_check.proofs.FewerPending.Induction.{Each, Inside, statement, induct, induct_each, judge_open}
use Rattle.serial_meaning.specs.Names.{Names, names_in}
use Rattle.serial_meaning.specs.Plan.{PlanView, functions_of}
use Rattle.strand_meaning.specs.Clear.{IsWithin, IsApart, IsClear, Nothing, Simple, Branches, Repetitions, Levels, IsSimple, touched, pending_right, pending_after, names_in_all, names_in_right, target_names, IsClearFunction, IsClearPlan}
use Rattle.strand_meaning.proofs.Unfilled.Clears.{within-itself, clear-within, nothing-within}
use Rattle.strand_meaning.proofs.Unfilled.Variables.{is-itself, same-name}
use Rattle.strand_meaning.proofs.ClearPlans.FreeNames.{Free, free-none, free-append, free-cons, single-name, not-broken, scalar-free, array-free, wanted-left, two-free, read-free, call-free, loop-call-free, target-free, right-free, wanted-as-left}

-- Names of a list that are in a set

pub kept : check.NameSet → Names → Names
kept p [] = []
kept p (x ∷ xs) = if p x then x ∷ kept p xs else kept p xs

kept-in : (p : check.NameSet) (names : Names) (name : List ℕ) → Contains (kept p names) name → p name ≡ true
unfolding kept
kept-in p [] name h = absurd (omega (arith, h.1))
kept-in p (x ∷ xs) name h = from (p x) refl h (kept-in p xs name)
  where
    first : p x ≡ true → Contains (x ∷ []) name ⊎ Contains (kept p xs) name → (Contains (kept p xs) name → p name ≡ true) → p name ≡ true
    first e (inl c) later = ap p (sym (single-name x name c)) ∙ e
    first e (inr c) later = later c

    from : (b : Bool) → p x ≡ b → Contains (if b then x ∷ kept p xs else kept p xs) name → (Contains (kept p xs) name → p name ≡ true) → p name ≡ true
    from true e c later = first e (Contains-append_cases (x ∷ []) (kept p xs) name c) later
    from false e c later = later c

kept-has : (p : check.NameSet) (names : Names) (name : List ℕ) → Contains names name → p name ≡ true → Contains (kept p names) name
unfolding kept
kept-has p [] name h e = h
kept-has p (x ∷ xs) name h e = from (p x) refl (Contains-append_cases (x ∷ []) xs name h) (λ c. kept-has p xs name c e)
  where
    from : (b : Bool) → p x ≡ b → Contains (x ∷ []) name ⊎ Contains xs name → (Contains xs name → Contains (kept p xs) name) → Contains (if b then x ∷ kept p xs else kept p xs) name
    from true g (inl c) later = Contains-append_left (x ∷ []) (kept p xs) name c
    from true g (inr c) later = Contains-append_right (x ∷ []) (kept p xs) name (later c)
    from false g (inl c) later = absurd (true≢false (sym e ∙ ap p (sym (single-name x name c)) ∙ g))
    from false g (inr c) later = later c

kept-of : (p : check.NameSet) (names : Names) (name : List ℕ) → Contains (kept p names) name → Contains names name
unfolding kept
kept-of p [] name h = h
kept-of p (x ∷ xs) name h = from (p x) h (kept-of p xs name)
  where
    both-ways : Contains (x ∷ []) name ⊎ Contains (kept p xs) name → (Contains (kept p xs) name → Contains xs name) → Contains (x ∷ xs) name
    both-ways (inl d) later = Contains-append_left (x ∷ []) xs name d
    both-ways (inr d) later = Contains-append_right (x ∷ []) xs name (later d)

    from : (b : Bool) → Contains (if b then x ∷ kept p xs else kept p xs) name → (Contains (kept p xs) name → Contains xs name) → Contains (x ∷ xs) name
    from true c later = both-ways (Contains-append_cases (x ∷ []) (kept p xs) name c) later
    from false c later = Contains-append_right (x ∷ []) xs name (later c)

kept-within : (p q : check.NameSet) (names : Names) → check.IsWithin p q → IsWithin (kept p names) (kept q names)
kept-within p q names w name h = kept-has q names name (kept-of p names name h) (w name (kept-in p names name h))

free-apart : (p : check.NameSet) (names all : Names) → Free p names → IsApart names (kept p all)
free-apart p names all f name h k = true≢false (sym (kept-in p all name k) ∙ f name h)

clear-ends : {pending ends : Names} {sts : List Stmt} (more : Names) → IsWithin ends more → IsClear pending sts ends → IsClear pending sts more
clear-ends more w (Nothing h) = Nothing (λ name c. w name (h name c))
clear-ends more w (Simple a e s apart rest) = Simple a e s apart (clear-ends more w rest)
clear-ends more w (Branches e a b all h apart c d rest) = Branches e a b all h apart c d (clear-ends more w rest)
clear-ends more w (Repetitions e body all h g apart c rest) = Repetitions e body all h g apart c (clear-ends more w rest)
clear-ends more w (Levels block left h c rest) = Levels block left h c (clear-ends more w rest)

-- Known variables

-- what is pending is known
abbrev IsKnown : check.NameSet → Declared → Type 0
IsKnown p known = (x : List ℕ) → p x ≡ true → is_some (known.what x) ≡ true

first-has : (known : Declared) (x : List ℕ) (v : _) → is_some ((with_first known x v).what x) ≡ true
first-has known x v = from (is_some (known.what x)) refl
  where
    from : (b : Bool) → is_some (known.what x) ≡ b → is_some ((if b then known else record { what = update bytes_eq known.what x (Some v); count = known.count + 1 }).what x) ≡ true
    from true e = e
    from false e = ap (λ (b : Bool). is_some (cond b (Some v) (known.what x))) (is-itself x)

first-keeps : (known : Declared) (x : List ℕ) (v : _) (y : List ℕ) → is_some (known.what y) ≡ true → is_some ((with_first known x v).what y) ≡ true
first-keeps known x v y h = from (is_some (known.what x))
  where
    here : (b : Bool) → is_some (cond b (Some v) (known.what y)) ≡ true
    here true = refl
    here false = h

    from : (b : Bool) → is_some ((if b then known else record { what = update bytes_eq known.what x (Some v); count = known.count + 1 }).what y) ≡ true
    from true = h
    from false = here (bytes_eq x y)

scalar-known : (known : Declared) (p : check.NameSet) (x : Name) → scalar_use (known.what x.bytes) p x ≡ [] → is_some (known.what x.bytes) ≡ true
scalar-known known p x h = from (known.what x.bytes) h
  where
    from : (o : Option _) → scalar_use o p x ≡ [] → is_some o ≡ true
    from (Some v) g = refl
    from None g = absurd (true≢false (not-broken true 6 x.at g))

new-free : (p : check.NameSet) (known : Declared) (x : Name) → IsKnown p known → declaration known x ≡ [] → p x.bytes ≡ false
new-free p known x k h = from (p x.bytes) refl
  where
    unknown : is_some (known.what x.bytes) ≡ false
    unknown = not-broken (is_some (known.what x.bytes)) 4 x.at (nothing_left (variable_twice known x) (too_many_variables known x) h)

    from : (b : Bool) → p x.bytes ≡ b → b ≡ false
    from true e = absurd (true≢false (sym (k x.bytes e) ∙ unknown))
    from false e = refl

or-cases : (a b : Bool) → (a || b) ≡ true → (a ≡ true) ⊎ (b ≡ true)
or-cases true b h = inl refl
or-cases false b h = inr h

or-left : (a b : Bool) → a ≡ true → (a || b) ≡ true
or-left a b h = ap (λ c. c || b) h

or-right : (a b : Bool) → b ≡ true → (a || b) ≡ true
or-right true b h = refl
or-right false b h = h

-- a right side adds its target alone
right-known : (x : Name) (r : Right) (p : check.NameSet) (known : Declared) → is_some (known.what x.bytes) ≡ true → IsKnown p known → IsKnown (after_right x r p) known
right-known x (right.Value e) p known h k y g = k y g
right-known x (right.Draw at) p known h k y g = k y g
right-known x (right.New at) p known h k y g = k y g
right-known x (right.Call at c) p known h k y g = k y g
right-known x (right.Spawn at c) p known h k y g = from (or-cases (bytes_eq x.bytes y) (p y) g)
  where
    from : (bytes_eq x.bytes y ≡ true) ⊎ (p y ≡ true) → is_some (known.what y) ≡ true
    from (inl e) = ap (λ z. is_some (known.what z)) (sym (same-name x.bytes y e)) ∙ h
    from (inr e) = k y e

right-own : Name → Right → Names
right-own x (right.Value e) = []
right-own x (right.Draw at) = []
right-own x (right.New at) = []
right-own x (right.Call at c) = []
right-own x (right.Spawn at c) = x.bytes ∷ []

right-within : (x : Name) (r : Right) (p : check.NameSet) (all : Names) → IsWithin (right-own x r) all → IsWithin (pending_right x r (kept p all)) (kept (after_right x r p) all)
unfolding right-own
right-within x (right.Value e) p all w name h = h
right-within x (right.Draw at) p all w name h = h
right-within x (right.New at) p all w name h = h
right-within x (right.Call at c) p all w name h = h
right-within x (right.Spawn at c) p all w name h = from (Contains-append_cases (x.bytes ∷ []) (kept p all) name h)
  where
    from : Contains (x.bytes ∷ []) name ⊎ Contains (kept p all) name → Contains (kept (with_name x.bytes p) all) name
    from (inl d) =
        kept-has (with_name x.bytes p) all name (w name d)
        (or-left (bytes_eq x.bytes name) (p name) (ap (bytes_eq x.bytes) (sym (single-name x.bytes name d)) ∙ is-itself x.bytes))
    from (inr d) = kept-within p (with_name x.bytes p) all (λ y e. or-right (bytes_eq x.bytes y) (p y) e) name d

-- Statements

-- The names that it may add to the pending ones; a block makes nothing known; what is pending stays known; and it is clear where what
-- is after it is.
record IsGood (j : Judged) (s : Stmt) : Type 0 where
  own : Names
  stays : (context : Context) (known : Declared) (p : check.NameSet) → context.in_block ≡ true → j.violations context known p ≡ [] → j.known context.functions known ≡ known
  knows : (context : Context) (known : Declared) (p : check.NameSet) → IsKnown p known → j.violations context known p ≡ [] → IsKnown (j.after p) (j.known context.functions known)
  clears : (all : Names) → IsWithin own all → (context : Context) (known : Declared) (p : check.NameSet) → IsKnown p known → j.violations context known p ≡ [] →
      (sts : List Stmt) (ends : Names) → IsClear (kept (j.after p) all) sts ends → IsClear (kept p all) (s ∷ sts) ends

abbrev Good : Stmt → Type 0
Good s = IsGood (judge s) s

own-all : (ss : List Stmt) → Each Good ss → Names
own-all [] h = []
own-all (s ∷ ss) h = h.0.own ++ own-all ss h.1

stays-all : (ss : List Stmt) → Each Good ss → (context : Context) (known : Declared) (p : check.NameSet) → context.in_block ≡ true → violations_each (judge_all ss) context known p ≡ [] →
    known_each (judge_all ss) context.functions known ≡ known
stays-all [] h context known p b e = refl
stays-all (s ∷ ss) h context known p b e =
    let rest = violations_each (judge_all ss) context ((judge s).known context.functions known) ((judge s).after p) in
    stays-all ss h.1 context ((judge s).known context.functions known) ((judge s).after p) b (nothing_right ((judge s).violations context known p) rest e)
    ∙ h.0.stays context known p b (nothing_left ((judge s).violations context known p) rest e)

knows-all : (ss : List Stmt) → Each Good ss → (context : Context) (known : Declared) (p : check.NameSet) → IsKnown p known → violations_each (judge_all ss) context known p ≡ [] →
    IsKnown (after ss p) (known_each (judge_all ss) context.functions known)
knows-all [] h context known p k e = k
knows-all (s ∷ ss) h context known p k e =
    let rest = violations_each (judge_all ss) context ((judge s).known context.functions known) ((judge s).after p) in
    knows-all ss h.1 context ((judge s).known context.functions known) ((judge s).after p)
    (h.0.knows context known p k (nothing_left ((judge s).violations context known p) rest e)) (nothing_right ((judge s).violations context known p) rest e)

clears-all : (ss : List Stmt) (h : Each Good ss) (all : Names) → IsWithin (own-all ss h) all → (context : Context) (known : Declared) (p : check.NameSet) → IsKnown p known →
    violations_each (judge_all ss) context known p ≡ [] → IsClear (kept p all) ss (kept (after ss p) all)
unfolding own-all
clears-all [] h all w context known p k e = Nothing (within-itself (kept p all))
clears-all (s ∷ ss) h all w context known p k e =
    let rest = violations_each (judge_all ss) context ((judge s).known context.functions known) ((judge s).after p) in
    let here = nothing_left ((judge s).violations context known p) rest e in
    h.0.clears all (λ name c. w name (Contains-append_left h.0.own (own-all ss h.1) name c)) context known p k here ss (kept (after (s ∷ ss) p) all)
    (clears-all ss h.1 all (λ name c. w name (Contains-append_right h.0.own (own-all ss h.1) name c)) context ((judge s).known context.functions known) ((judge s).after p)
    (h.0.knows context known p k here) (nothing_right ((judge s).violations context known p) rest e))

opens : (at : ℕ) (d : Act-F Act Stmt) → out-Act (out-Stmt (statement at d)).act ≡ d
opens at d = ap (λ s. out-Act s.act) (out-roll-Stmt (record { at = at; act = roll-Act d })) ∙ out-roll-Act d

abbrev judgement : Act-F Act Stmt → ℕ → Judged
judgement d at = judge_act (map-Act Act Stmt (ℕ → Judged) Judged judge_what judge d) at

simple : (at : ℕ) (d : Act-F Act Stmt) → IsSimple d → (p next : check.NameSet) (all : Names) → Free p (touched d) → IsWithin (pending_after d (kept p all)) (kept next all) →
    (sts : List Stmt) (ends : Names) → IsClear (kept next all) sts ends → IsClear (kept p all) (statement at d ∷ sts) ends
simple at d s p next all free w sts ends rest = Simple d (opens at d) s (free-apart p (touched d) all free) (clear-within (pending_after d (kept p all)) (kept next all) w rest)

not-in-block : (b : Bool) (at : ℕ) → b ≡ true → let_in_a_block b at ≡ [] → ⊥
not-in-block b at e h = true≢false (sym e ∙ not-broken b 10 at h)

good-let : (at : ℕ) (x : Name) (r : Right) → IsGood (judgement (act.Let x r) at) (statement at (act.Let x r))
good-let at x r = record {
  own = right-own x r;
  stays = λ context known p b h. absurd (not-in-block context.in_block at b
      (nothing_left (let_in_a_block context.in_block at) ((read_right context.functions r).violations known p)
      (nothing_left (let_in_a_block context.in_block at ++ (read_right context.functions r).violations known p) (declaration known x) h)));
  knows = λ context known p k h. right-known x r p (with_first known x.bytes _) (first-has known x.bytes _) (λ y e. first-keeps known x.bytes _ y (k y e));
  clears = λ all w context known p k h.
      simple at (act.Let x r) tt p (after_right x r p) all
      (free-cons p x.bytes (names_in_right r)
      (new-free p known x k (nothing_right (let_in_a_block context.in_block at ++ (read_right context.functions r).violations known p) (declaration known x) h))
      (right-free context.functions r known p (nothing_right (let_in_a_block context.in_block at) ((read_right context.functions r).violations known p)
      (nothing_left (let_in_a_block context.in_block at ++ (read_right context.functions r).violations known p) (declaration known x) h))))
      (right-within x r p all w);
}

good-set : (at : ℕ) (x : Name) (r : Right) → IsGood (judgement (act.Set x r) at) (statement at (act.Set x r))
good-set at x r = record {
  own = right-own x r;
  stays = λ context known p b h. refl;
  knows = λ context known p k h.
      right-known x r p known (scalar-known known p x (nothing_left (scalar_use (known.what x.bytes) p x) (wanted_as (kind_of_variable (known.what x.bytes)) (read_right context.functions r) known p) h)) k;
  clears = λ all w context known p k h.
      simple at (act.Set x r) tt p (after_right x r p) all
      (free-cons p x.bytes (names_in_right r)
      (scalar-free (known.what x.bytes) p x (nothing_left (scalar_use (known.what x.bytes) p x) (wanted_as (kind_of_variable (known.what x.bytes)) (read_right context.functions r) known p) h))
      (right-free context.functions r known p (wanted-as-left (kind_of_variable (known.what x.bytes)) (read_right context.functions r) known p
      (nothing_right (scalar_use (known.what x.bytes) p x) (wanted_as (kind_of_variable (known.what x.bytes)) (read_right context.functions r) known p) h))))
      (right-within x r p all w);
}

good-array : (at : ℕ) (x : Name) (n : _) → IsGood (judgement (act.Array x n) at) (statement at (act.Array x n))
good-array at x n = record {
  own = [];
  stays = λ context known p b h. absurd (not-in-block context.in_block at b
      (nothing_left (let_in_a_block context.in_block at) (declaration known x) (nothing_left (let_in_a_block context.in_block at ++ declaration known x) (array_length n) h)));
  knows = λ context known p k h y e. first-keeps known x.bytes _ y (k y e);
  clears = λ all w context known p k h.
      simple at (act.Array x n) tt p p all
      (free-cons p x.bytes []
      (new-free p known x k (nothing_right (let_in_a_block context.in_block at) (declaration known x) (nothing_left (let_in_a_block context.in_block at ++ declaration known x) (array_length n) h)))
      (free-none p))
      (within-itself (kept p all));
}

-- a statement that adds nothing and makes nothing known
good-plain : (at : ℕ) (d : Act-F Act Stmt) → IsSimple d → ((p : check.NameSet) → (judgement d at).after p ≡ p) → ((functions : List Function) (known : Declared) → (judgement d at).known functions known ≡ known) →
    ((p : Names) → pending_after d p ≡ p) → ((context : Context) (known : Declared) (p : check.NameSet) → (judgement d at).violations context known p ≡ [] → Free p (touched d)) → IsGood (judgement d at) (statement at d)
good-plain at d s same still adds free = record {
  own = [];
  stays = λ context known p b h. still context.functions known;
  knows = λ context known p k h. subst (λ q. IsKnown q ((judgement d at).known context.functions known)) (sym (same p)) (subst (IsKnown p) (sym (still context.functions known)) k);
  clears = λ all w context known p k h.
      simple at d s p ((judgement d at).after p) all (free context known p h)
      (subst (λ q. IsWithin (pending_after d (kept p all)) (kept q all)) (sym (same p)) (subst (λ l. IsWithin l (kept p all)) (sym (adds (kept p all))) (within-itself (kept p all))));
}

good-sync : (at : ℕ) → IsGood (judgement act.Sync at) (statement at act.Sync)
good-sync at = record {
  own = [];
  stays = λ context known p b h. refl;
  knows = λ context known p k h y e. absurd (true≢false (sym e));
  clears = λ all w context known p k h. simple at act.Sync tt p no_names all (free-none p) (nothing-within (kept no_names all));
}

good-if : (at : ℕ) (e : _) (a b : List Stmt) → Each Good a → Each Good b → IsGood (judgement (act.If e a b) at) (statement at (act.If e a b))
good-if at e a b g h = record {
  own = own-all a g ++ own-all b h;
  stays = λ context known p o f.
      let inner = record context { in_block = true } in
      let first = first-of context known p f in
      stays-all b h inner (known_each (judge_all a) context.functions known) p refl (last-of context known p f) ∙ stays-all a g inner known p refl first;
  knows = λ context known p k f.
      let inner = record context { in_block = true } in
      let first = first-of context known p f in
      let still : known_each (judge_all a) context.functions known ≡ known = stays-all a g inner known p refl first in
      let last : violations_each (judge_all b) inner known p ≡ [] = subst (λ (m : Declared). violations_each (judge_all b) inner m p ≡ []) still (last-of context known p f) in
      let again : known_each (judge_all b) context.functions (known_each (judge_all a) context.functions known) ≡ known =
      stays-all b h inner (known_each (judge_all a) context.functions known) p refl (last-of context known p f) ∙ still in
      subst (IsKnown (union (after a p) (after b p))) (sym again)
      (λ y t. either-known (after a p y) (after b p y) (is_some (known.what y)) t
      (λ u. subst (IsKnown (after a p)) still (knows-all a g inner known p k first) y u)
      (λ u. subst (IsKnown (after b p)) (stays-all b h inner known p refl last) (knows-all b h inner known p k last) y u));
  clears = λ all w context known p k f sts ends rest.
      let inner = record context { in_block = true } in
      let first = first-of context known p f in
      let still : known_each (judge_all a) context.functions known ≡ known = stays-all a g inner known p refl first in
      let last : violations_each (judge_all b) inner known p ≡ [] = subst (λ (m : Declared). violations_each (judge_all b) inner m p ≡ []) still (last-of context known p f) in
      let more = kept (union (after a p) (after b p)) all in
      Branches e a b more (opens at (act.If e a b))
      (free-apart p (names_in e) all (read-free e known p (wanted-left Int (reading_of e) known p (test-of context known p f))))
      (clear-ends more (kept-within (after a p) (union (after a p) (after b p)) all (λ y u. or-left (after a p y) (after b p y) u))
      (clears-all a g all (λ name c. w name (Contains-append_left (own-all a g) (own-all b h) name c)) inner known p k first))
      (clear-ends more (kept-within (after b p) (union (after a p) (after b p)) all (λ y u. or-right (after a p y) (after b p y) u))
      (clears-all b h all (λ name c. w name (Contains-append_right (own-all a g) (own-all b h) name c)) inner known p k last))
      rest;
}
  where
    first-of : (context : Context) (known : Declared) (p : check.NameSet) → (judgement (act.If e a b) at).violations context known p ≡ [] → violations_each (judge_all a) (record context { in_block = true }) known p ≡ []
    first-of context known p f =
        nothing_right (wanted Int (reading_of e) known p) (block_violations (judge_all a) context known p)
        (nothing_left (wanted Int (reading_of e) known p ++ block_violations (judge_all a) context known p) (block_violations (judge_all b) context (known_each (judge_all a) context.functions known) p) f)

    last-of : (context : Context) (known : Declared) (p : check.NameSet) → (judgement (act.If e a b) at).violations context known p ≡ [] →
        violations_each (judge_all b) (record context { in_block = true }) (known_each (judge_all a) context.functions known) p ≡ []
    last-of context known p f =
        nothing_right (wanted Int (reading_of e) known p ++ block_violations (judge_all a) context known p) (block_violations (judge_all b) context (known_each (judge_all a) context.functions known) p) f

    test-of : (context : Context) (known : Declared) (p : check.NameSet) → (judgement (act.If e a b) at).violations context known p ≡ [] → wanted Int (reading_of e) known p ≡ []
    test-of context known p f =
        nothing_left (wanted Int (reading_of e) known p) (block_violations (judge_all a) context known p)
        (nothing_left (wanted Int (reading_of e) known p ++ block_violations (judge_all a) context known p) (block_violations (judge_all b) context (known_each (judge_all a) context.functions known) p) f)

    either-known : (x y z : Bool) → (x || y) ≡ true → (x ≡ true → z ≡ true) → (y ≡ true → z ≡ true) → z ≡ true
    either-known true y z t u v = u refl
    either-known false y z t u v = v t

good-while : (at : ℕ) (e : _) (a : List Stmt) → Each Good a → IsGood (judgement (act.While e a) at) (statement at (act.While e a))
good-while at e a g = record {
  own = own-all a g;
  stays = λ context known p o f. stays-all a g (record context { in_block = true }) known (union p (after a p)) refl (body-of context known p f);
  knows = λ context known p k f. subst (IsKnown (union p (after a p))) (sym (stays-all a g (record context { in_block = true }) known (union p (after a p)) refl (body-of context known p f))) (all-known context known p k f);
  clears = λ all w context known p k f sts ends rest.
      let q : check.NameSet = union p (after a p) in
      Repetitions e a (kept q all) (opens at (act.While e a)) (kept-within p q all (λ y u. or-left (p y) (after a p y) u))
      (free-apart q (names_in e) all (read-free e known q (wanted-left Int (reading_of e) known q (nothing_left (wanted Int (reading_of e) known q) (block_violations (judge_all a) context known q) f))))
      (clear-ends (kept q all) (kept-within (after a q) q all (loop_closed a p))
      (clears-all a g all w (record context { in_block = true }) known q (all-known context known p k f) (body-of context known p f)))
      rest;
}
  where
    body-of : (context : Context) (known : Declared) (p : check.NameSet) → (judgement (act.While e a) at).violations context known p ≡ [] → violations_each (judge_all a) (record context { in_block = true }) known (union p (after a p)) ≡ []
    body-of context known p f = nothing_right (wanted Int (reading_of e) known (union p (after a p))) (block_violations (judge_all a) context known (union p (after a p))) f

    all-known : (context : Context) (known : Declared) (p : check.NameSet) → IsKnown p known → (judgement (act.While e a) at).violations context known p ≡ [] → IsKnown (union p (after a p)) known
    all-known context known p k f y t =
        from ((fewer_pending_stays_valid a (record context { in_block = true }) known p (union p (after a p)) (λ z u. or-left (p z) (after a p z) u) (body-of context known p f)).0)
        (or-cases (p y) (after a p y) t)
      where
        from : violations_each (judge_all a) (record context { in_block = true }) known p ≡ [] → (p y ≡ true) ⊎ (after a p y ≡ true) → is_some (known.what y) ≡ true
        from once (inl u) = k y u
        from once (inr u) =
            subst (IsKnown (after a p)) (stays-all a g (record context { in_block = true }) known p refl once) (knows-all a g (record context { in_block = true }) known p k once) y u

good-scope : (at : ℕ) (a : List Stmt) → Each Good a → IsGood (judgement (act.Scope a) at) (statement at (act.Scope a))
good-scope at a g = record {
  own = own-all a g;
  stays = λ context known p o f. stays-all a g (record context { in_block = true }) known p refl f;
  knows = λ context known p k f y e. absurd (true≢false (sym e));
  clears = λ all w context known p k f sts ends rest.
      Levels a (kept (after a p) all) (opens at (act.Scope a)) (clears-all a g all w (record context { in_block = true }) known p k f)
      (clear-within [] (kept no_names all) (nothing-within (kept no_names all)) rest);
}

good : (at : ℕ) (d : Act-F Act Stmt) → Inside Good d → IsGood (judgement d at) (statement at d)
good at (act.Let x r) h = good-let at x r
good at (act.Array x n) h = good-array at x n
good at (act.Set x r) h = good-set at x r
good at (act.Store x i e) h =
    good-plain at (act.Store x i e) tt (λ p. refl) (λ functions known. refl) (λ p. refl)
    (λ context known p f. free-cons p x.bytes (names_in i ++ names_in e)
    (array-free (known.what x.bytes) p x (nothing_left (array_use (known.what x.bytes) p x) (two_wanted Int (reading_of i) (reading_of e) known p) f))
    (two-free Int (names_in i) (names_in e) (reading_of i) (reading_of e) (read-free i) (read-free e) known p (nothing_right (array_use (known.what x.bytes) p x) (two_wanted Int (reading_of i) (reading_of e) known p) f)))
good at (act.Spawn c) h =
    good-plain at (act.Spawn c) tt (λ p. refl) (λ functions known. refl) (λ p. refl) (λ context known p f. call-free (function_named context.functions c.name.bytes) c known p f)
good at (act.Call c) h =
    good-plain at (act.Call c) tt (λ p. refl) (λ functions known. refl) (λ p. refl) (λ context known p f. call-free (function_named context.functions c.name.bytes) c known p f)
good at act.Sync h = good-sync at
good at (act.Print e) h = good-plain at (act.Print e) tt (λ p. refl) (λ functions known. refl) (λ p. refl) (λ context known p f. read-free e known p f)
good at (act.If e a b) h = good-if at e a b h.0 h.1
good at (act.While e a) h = good-while at e a h
good at (act.Scope a) h = good-scope at a h
good at (act.Pfor x lo hi target c) h =
    good-plain at (act.Pfor x lo hi target c) tt (λ p. refl) (λ functions known. refl) (λ p. refl)
    (λ context known p f.
    let bounds = two_wanted Int (reading_of lo) (reading_of hi) known p in
    let into = target_use target known p in
    let called = loop_call_of (function_named context.functions c.name.bytes) (is_some target) c known p in
    let front = nothing_left (bounds ++ into) called f in
    let free-bounds = two-free Int (names_in lo) (names_in hi) (reading_of lo) (reading_of hi) (read-free lo) (read-free hi) known p (nothing_left bounds into front) in
    free-append p (names_in lo) (names_in hi ++ (names_in_all c.args ++ target_names target)) (λ name d. free-bounds name (Contains-append_left (names_in lo) (names_in hi) name d))
    (free-append p (names_in hi) (names_in_all c.args ++ target_names target) (λ name d. free-bounds name (Contains-append_right (names_in lo) (names_in hi) name d))
    (free-append p (names_in_all c.args) (target_names target)
    (loop-call-free (function_named context.functions c.name.bytes) (is_some target) c known p (nothing_right (bounds ++ into) called f))
    (target-free target known p (nothing_right bounds into front)))))

all-good : (s : Stmt) → Good s
all-good = induct Good (λ at d h. subst (λ (j : Judged). IsGood j (statement at d)) (sym (judge_open at d)) (good at d h))

-- Functions

valid-function : (functions : List Function) (f : Function) → function_violations functions f ≡ [] → IsClearFunction f
valid-function functions f h =
    let known = known_params f.params no_entries in
    let body = violations_each (judge_all f.body) (context functions false) known no_names in
    let front = nothing_left (param_violations f.params no_entries ++ body) (wanted f.answer (reading_of f.result) (known_each (judge_all f.body) functions known) no_names) h in
    let each = induct_each Good all-good f.body in
    let all = own-all f.body each in (
      kept (after f.body no_names) all,
      clear-within [] (kept no_names all) (nothing-within (kept no_names all))
          (clears-all f.body each all (within-itself all) (context functions false) known no_names (λ x e. absurd (true≢false (sym e))) (nothing_right (param_violations f.params no_entries) body front)),
    )

each-function : (functions fs : List Function) → all_function_violations functions fs ≡ [] → (f : Function) → Contains fs f → IsClearFunction f
each-function functions [] h f c = absurd (omega (arith, c.1))
each-function functions (g ∷ fs) h f c =
    from (Contains-append_cases (g ∷ []) fs f c) (each-function functions fs (nothing_right (function_violations functions g) (all_function_violations functions fs) h) f)
  where
    single : Contains (g ∷ []) f → g ≡ f
    single d = by_index d.0 d.1 d.2
      where
        by_index : (i : ℕ) → i < length (g ∷ []) → get_or (g ∷ []) i f ≡ f → g ≡ f
        by_index zero e k = k
        by_index (suc i) e k = absurd (omega arith)

    from : Contains (g ∷ []) f ⊎ Contains fs f → (Contains fs f → IsClearFunction f) → IsClearFunction f
    from (inl d) later = subst IsClearFunction (single d) (valid-function functions g (nothing_left (function_violations functions g) (all_function_violations functions fs) h))
    from (inr d) later = later d

-- A plan of a valid script touches no pending variable.
pub clear_of_valid : (plan : PlanView) → IsValid plan.script → IsClearPlan plan
clear_of_valid plan valid f c =
    let functions = functions_of plan in
    let others = main_violations (function_named functions main_name) in
    each-function functions functions
    (nothing_right others (all_function_violations functions functions) (nothing_right (functions_twice [] functions) (others ++ all_function_violations functions functions) valid)) f c
