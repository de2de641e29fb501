-- What statements leave pending, taken from the last to the first.
use Rattle.std.proofs.Common.{◌≡◌, ℕ, zero, suc, ◌+◌, ◌<◌, Bool, true, false, cond, ◌||◌, ◌&&◌, List, [], ◌∷◌, drop, length, get_or, Option, Some, refl, sym, ap, ◌∙◌, ⊎_elim}
use Rattle.std.specs.Prelude.{is_some}
use Rattle.std.specs.Str.{bytes_eq}
use Rattle.std.specs.Map.{update}
use Rattle.std.specs.Cmp.Lexicographic.{bytes_decides}
use Rattle.std.proofs.lemmas.Bool.{cases_Bool, cond-true, cond-false}
use Rattle.std.proofs.lemmas.Bool.{true≢false}
use Rattle.script_grammar.specs.declared.tree.Stmt.{Stmt}
use Rattle.script_check.specs.Tables.{Table, with_first}
use Rattle.script_check.specs.Names.{NameSet, no_names, union, with_name}
use Rattle.script_check.specs.Statements.{judge, after}
use Rattle.script_check.specs.Walk.{WalkState, names_of, keeps, keeps_all}
use Rattle.script_check.proofs.Walk.Reading.{at_index}
use Rattle.script_check.proofs.FewerPending.Linear.{linear_all}

-- one name more
pub names_added : {A : Type 0} (table : Table A) (x : List ℕ) (entry : A) → names_of (with_first table x entry) ≡ with_name x (names_of table)
names_added {A} table x entry i y = pointwise y i
  where
    known : (o : Option A) (y : List ℕ) → table.what x ≡ o → is_some o ≡ true → is_some (table.what y) ≡ (bytes_eq x y || is_some (table.what y))
    known o y e s =
        ⊎_elim
        (λ h. ap (λ (z : List ℕ). is_some (table.what z)) (sym ((bytes_decides x y).0 h)) ∙ ap (λ (z : Option A). is_some z) e ∙ s ∙ sym (ap (λ b. b || is_some (table.what y)) h))
        (λ h. sym (ap (λ b. b || is_some (table.what y)) h))
        (cases_Bool (bytes_eq x y))

    pick : (b : Bool) (o : Option A) → is_some (cond b (Some entry) o) ≡ (b || is_some o)
    pick true o = refl
    pick false o = refl

    pointwise : (y : List ℕ) → is_some ((with_first table x entry).what y) ≡ (bytes_eq x y || is_some (table.what y))
    pointwise y =
        ⊎_elim
        (λ h. ap (λ (t : Table A). is_some (t.what y)) (cond-true (is_some (table.what x)) table (record { what = update bytes_eq table.what x (Some entry); count = table.count + 1 }) h) ∙ known (table.what x) y refl h)
        (λ h. ap (λ (t : Table A). is_some (t.what y)) (cond-false (is_some (table.what x)) table (record { what = update bytes_eq table.what x (Some entry); count = table.count + 1 }) h) ∙ pick (bytes_eq x y) (table.what y))
        (cases_Bool (is_some (table.what x)))

-- a set that has what is added, first or last
pub alone : (x : List ℕ) (p : NameSet) → with_name x p ≡ union (with_name x no_names) p
alone x p i y = cases (bytes_eq x y) (p y) i
  where
    cases : (b c : Bool) → (b || c) ≡ ((b || false) || c)
    cases true c = refl
    cases false c = refl

pub two_sets : (a b p : NameSet) → union b (union a p) ≡ union (union a b) p
two_sets a b p i y = cases (a y) (b y) (p y) i
  where
    cases : (a b c : Bool) → (b || (a || c)) ≡ ((a || b) || c)
    cases true true c = refl
    cases true false c = refl
    cases false true c = refl
    cases false false c = refl

-- statements after which nothing earlier is pending
pub kept_more : (ss : List Stmt) (i j : ℕ) (s : Stmt) → i ≡ j + 1 → j < length ss → s ≡ get_or ss j s → keeps_all (drop j ss) ≡ (keeps s && keeps_all (drop i ss))
kept_more ss i j s n h e = ap keeps_all (at_index ss j s h e) ∙ ap (λ k. keeps s && keeps_all (drop k ss)) (sym n)

pub collected_more : (ss : List Stmt) (i j : ℕ) (s : Stmt) (before now next : NameSet) → i ≡ j + 1 → j < length ss → s ≡ get_or ss j s →
    keeps_all (drop i ss) ≡ true → now ≡ union (after (drop i ss) no_names) before → next ≡ union ((judge s).after no_names) now →
    next ≡ union (after (drop j ss) no_names) before
collected_more ss i j s before now next n h e kept was is =
    is ∙ ap (union ((judge s).after no_names)) was
    ∙ (λ t x. pointwise x t)
    ∙ ap (λ k. union (after (s ∷ drop k ss) no_names) before) n
    ∙ ap (λ l. union (after l no_names) before) (sym (at_index ss j s h e))
  where
    cases : (a b c k : Bool) → k ≡ true → (a || (b || c)) ≡ ((b || (k && a)) || c)
    cases a true c k e = elim a as (λ z. (z || true) ≡ true) [ true ↦ refl | false ↦ refl ]
    cases a false c k e = ap (λ z. z || c) (sym (ap (λ z. z && a) e))

    pointwise : (x : List ℕ) → ((judge s).after no_names x || (after (drop i ss) no_names x || before x)) ≡ (after (drop i ss) ((judge s).after no_names) x || before x)
    pointwise x =
        cases ((judge s).after no_names x) (after (drop i ss) no_names x) (before x) (keeps_all (drop i ss)) kept
        ∙ ap (λ b. b || before x) (sym (linear_all (drop i ss) no_names ((judge s).after no_names) x))

pub stops : (ss : List Stmt) (j : ℕ) (p : NameSet) (x : List ℕ) → keeps_all (drop j ss) ≡ false → after ss p x ≡ after (drop j ss) no_names x
stops ss zero p x h = linear_all ss no_names p x ∙ ap (λ b. after ss no_names x || (b && p x)) h ∙ cases (after ss no_names x)
  where
    cases : (b : Bool) → (b || false) ≡ b
    cases true = refl
    cases false = refl
stops [] (suc j) p x h = absurd (true≢false h)
stops (s ∷ ss) (suc j) p x h = stops ss j ((judge s).after p) x h

pub stops_all : (ss : List Stmt) (j : ℕ) (before now : NameSet) → keeps_all (drop j ss) ≡ false → now ≡ union (after (drop j ss) no_names) before → now ≡ union (after ss no_names) before
stops_all ss j before now h e = e ∙ (λ i x. sym (stops ss j no_names x h) i || before x)

pub keeps_none : (ss : List Stmt) (j : ℕ) → keeps_all (drop j ss) ≡ false → keeps_all ss ≡ false
keeps_none ss zero h = h
keeps_none [] (suc j) h = h
keeps_none (s ∷ ss) (suc j) h = ap (λ b. keeps s && b) (keeps_none ss j h) ∙ cases (keeps s)
  where
    cases : (b : Bool) → (b && false) ≡ false
    cases true = refl
    cases false = refl

-- the same of the walk's state, of which only the pending set changes
pub one_more : (ss : List Stmt) (i j : ℕ) (s : Stmt) (before now next : WalkState) → i ≡ j + 1 → j < length ss → s ≡ get_or ss j s →
    keeps_all (drop i ss) ≡ true → now ≡ record before { names = union (after (drop i ss) no_names) before.names } →
    next ≡ record now { names = union ((judge s).after no_names) now.names } →
    next ≡ record before { names = union (after (drop j ss) no_names) before.names }
one_more ss i j s before now next n h e kept was is =
    is ∙ ap (λ (t : WalkState). record t { names = union ((judge s).after no_names) t.names }) was
    ∙ ap (λ (p : NameSet). record before { names = p }) (collected_more ss i j s before.names _ _ n h e kept refl refl)

pub all_of_it : (ss : List Stmt) (j : ℕ) (before now : WalkState) → keeps_all (drop j ss) ≡ false →
    now ≡ record before { names = union (after (drop j ss) no_names) before.names } → now ≡ record before { names = union (after ss no_names) before.names }
all_of_it ss j before now h e = e ∙ ap (λ (p : NameSet). record before { names = p }) (stops_all ss j before.names _ h refl)
