-- Statements that touch no pending variable: with fewer pending, and one after another.
use Rattle.std.proofs.Common.{◌≡◌, ℕ, zero, suc, ◌<◌, Bool, true, false, ◌||◌, ◌⊎◌, nat_eq, List, [], ◌∷◌, ◌++◌, Option, inl, inr, refl, sym, ap, ◌∙◌, if◌then◌else◌, length, get_or, append_assoc, arith, subst}
use Rattle.std.specs.Prelude.{Contains}
use Rattle.std.proofs.lemmas.List.Elements.{Contains-append_left, Contains-append_right, Contains-append_cases}
use Rattle.script_grammar.specs.declared.tree.Name.{Name}
use Rattle.script_grammar.specs.declared.tree.Right.{Right}
use Rattle.script_grammar.specs.declared.tree.Right.TheVariants as right
use Rattle.script_grammar.specs.declared.tree.Stmt.{Stmt, out-Stmt}
use Rattle.script_grammar.specs.declared.tree.Act.{Act, out-Act}
use Rattle.script_grammar.specs.declared.tree.Act.TheOpen as act
use Rattle.script_grammar.specs.declared.tree.Act.TheOpen.{Act-F}
use Rattle.serial_meaning.specs.Names.{Names}
use Rattle.strand_meaning.specs.Clear.{IsWithin, IsApart, IsClear, Nothing, Simple, Branches, Repetitions, Levels, touched, pending_right, pending_after, target_names}
use Rattle.strand_meaning.specs.Machine.{Destination, Spawned, Looped, Half}
use Rattle.strand_meaning.specs.Trace.{AwaitedChild}
use Rattle.strand_meaning.specs.Sound.{unfilled_by, unfilled, is_by, any_by, IsDestination, AreDestinations}
use Rattle.strand_meaning.proofs.Unfilled.UntouchedStays.{later-contained}
use Rattle.strand_meaning.proofs.Unfilled.RestAfterEffects.{same-number}
use Rattle.strand_meaning.proofs.Unfilled.ChangesCommute.{other-number}

pub within-itself : (names : Names) → IsWithin names names
within-itself names name h = h

pub none-contained : (name : List ℕ) → Contains [] name → ⊥
none-contained name h = omega (arith, h.1)

pub nothing-within : (names : Names) → IsWithin [] names
nothing-within names name h = absurd (none-contained name h)

apart-within : (names some all : Names) → IsWithin some all → IsApart names all → IsApart names some
apart-within names some all w a name h k = a name h (w name k)

cons-within : (x : List ℕ) (some all : Names) → IsWithin some all → IsWithin (x ∷ some) (x ∷ all)
cons-within x some all w name h = from (Contains-append_cases (x ∷ []) some name h)
  where
    from : Contains (x ∷ []) name ⊎ Contains some name → Contains (x ∷ all) name
    from (inl g) = Contains-append_left (x ∷ []) all name g
    from (inr g) = later-contained x name all (w name g)

right-within : (x : Name) (r : Right) (some all : Names) → IsWithin some all → IsWithin (pending_right x r some) (pending_right x r all)
right-within x (right.Value e) some all w = w
right-within x (right.Draw at) some all w = w
right-within x (right.New at) some all w = w
right-within x (right.Call at c) some all w = w
right-within x (right.Spawn at c) some all w = cons-within x.bytes some all w

after-within : (a : Act-F Act Stmt) (some all : Names) → IsWithin some all → IsWithin (pending_after a some) (pending_after a all)
after-within (act.Let x r) some all w = right-within x r some all w
after-within (act.Array x n) some all w = w
after-within (act.Set x r) some all w = right-within x r some all w
after-within (act.Store x i e) some all w = w
after-within (act.Spawn c) some all w = w
after-within (act.Call c) some all w = w
after-within act.Sync some all w = within-itself []
after-within (act.Print e) some all w = w
after-within (act.If e a b) some all w = w
after-within (act.While e a) some all w = w
after-within (act.Pfor x lo hi target c) some all w = w
after-within (act.Scope a) some all w = within-itself []

-- Fewer pending variables are clear too.
pub clear-within : (some all : Names) {sts : List Stmt} {ends : Names} → IsWithin some all → IsClear all sts ends → IsClear some sts ends
clear-within some all w (Nothing h) = Nothing (λ name c. h name (w name c))
clear-within some all w (Simple a e s apart rest) =
    Simple a e s (apart-within (touched a) some all w apart) (clear-within (pending_after a some) (pending_after a all) (after-within a some all w) rest)
clear-within some all w (Branches e first second both h apart c d rest) =
    Branches e first second both h (apart-within _ some all w apart) (clear-within some all w c) (clear-within some all w d) rest
clear-within some all w (Repetitions e body more h g apart c rest) = Repetitions e body more h (λ name k. g name (w name k)) apart c rest
clear-within some all w (Levels block left h c rest) = Levels block left h (clear-within some all w c) rest

-- Statements in a row
pub clear-append : {pending both ends : Names} {xs ys : List Stmt} → IsClear pending xs both → IsClear both ys ends → IsClear pending (xs ++ ys) ends
clear-append {pending} {both} (Nothing h) d = clear-within pending both h d
clear-append (Simple a e s apart rest) d = Simple a e s apart (clear-append rest d)
clear-append (Branches e first second more h apart b c rest) d = Branches e first second more h apart b c (clear-append rest d)
clear-append (Repetitions e body more h g apart c rest) d = Repetitions e body more h g apart c (clear-append rest d)
clear-append (Levels block left h c rest) d = Levels block left h c (clear-append rest d)

-- The next statement touches nothing that is pending.
pub next-apart : {pending ends : Names} {st : Stmt} {sts : List Stmt} → IsClear pending (st ∷ sts) ends → IsApart (touched (out-Act (out-Stmt st).act)) pending
next-apart {pending} (Simple a e s apart rest) = rw e apart
next-apart {pending} (Branches e first second both h apart c d rest) = rw h apart
next-apart {pending} (Repetitions e body all h w apart c rest) = rw h (apart-within _ pending all w apart)
next-apart {pending} (Levels block left h c rest) = rw h (λ name g k. none-contained name g)

-- Unfilled variables of one frame

pub unfilled-append : (height : ℕ) (ps qs : List AwaitedChild) → unfilled height (ps ++ qs) ≡ unfilled height ps ++ unfilled height qs
unfilled-append height [] qs = refl
unfilled-append height (p ∷ ps) qs = ap (λ l. unfilled_by height p.destination ++ l) (unfilled-append height ps qs) ∙ sym (append_assoc (unfilled_by height p.destination) (unfilled height ps) (unfilled height qs))

pub or-assoc : (a b c : Bool) → (a || (b || c)) ≡ ((a || b) || c)
or-assoc true b c = refl
or-assoc false b c = refl

pub any-append : (height : ℕ) (ps qs : List AwaitedChild) → any_by height (ps ++ qs) ≡ (any_by height ps || any_by height qs)
any-append height [] qs = refl
any-append height (p ∷ ps) qs = ap (λ b. is_by height p.destination || b) (any-append height ps qs) ∙ or-assoc (is_by height p.destination) (any_by height ps) (any_by height qs)

pub or-false : (a : Bool) → (a || false) ≡ a
or-false true = refl
or-false false = refl

pub neither : (a b : Bool) → (a || b) ≡ false → (a ≡ false) × (b ≡ false)
neither false false h = (refl, refl)
neither true b h = absurd (cc)
neither false true h = absurd (cc)

unfilled-none : (height : ℕ) (destination : Destination) → is_by height destination ≡ false → unfilled_by height destination ≡ []
unfilled-none height (Spawned owner target) h = rw h refl
unfilled-none height (Looped target) h = refl
unfilled-none height Half h = refl

-- what isn't spawned has no unfilled variable
pub none-unfilled : (height : ℕ) (ps : List AwaitedChild) → any_by height ps ≡ false → unfilled height ps ≡ []
none-unfilled height [] h = refl
none-unfilled height (p ∷ ps) h =
    let n = neither (is_by height p.destination) (any_by height ps) h in ap (λ l. l ++ unfilled height ps) (unfilled-none height p.destination n.0) ∙ none-unfilled height ps n.1

-- no child of a frame that there isn't
pub none-above : (height : ℕ) (ps : List AwaitedChild) → AreDestinations height ps → any_by (suc height) ps ≡ false
none-above height [] h = refl
none-above height (p ∷ ps) h = rw (first p.destination h.0) (none-above height ps h.1)
  where
    first : (destination : Destination) → IsDestination height destination → is_by (suc height) destination ≡ false
    first (Spawned owner target) g = other-number owner (suc height) (omega arith)
    first (Looped target) g = absurd g
    first Half g = refl

pub target-unfilled : (height owner : ℕ) (target : Option Name) (ps : List AwaitedChild) (p : AwaitedChild) → Contains ps p → p.destination ≡ Spawned owner target → owner ≡ height → IsWithin (target_names target) (unfilled height ps)
target-unfilled height owner target [] p c e g name h = absurd (omega (arith, c.1))
target-unfilled height owner target (q ∷ ps) p c e g name h = from (Contains-append_cases (q ∷ []) ps p c) (λ k. target-unfilled height owner target ps p k e g name h)
  where
    here : q ≡ p → Contains (unfilled_by height q.destination) name
    here k =
        let same : q.destination ≡ Spawned owner target = ap (λ (r : AwaitedChild). r.destination) k ∙ e in
        let names : unfilled_by height q.destination ≡ target_names target = ap (unfilled_by height) same ∙ ap (λ (n : ℕ). if nat_eq owner n then target_names target else []) (sym g) ∙ ap (λ (b : Bool). if b then target_names target else []) (same-number owner) in
        subst (λ (l : Names). Contains l name) (sym names) h

    from : Contains (q ∷ []) p ⊎ Contains ps p → (Contains ps p → Contains (unfilled height ps) name) → Contains (unfilled_by height q.destination ++ unfilled height ps) name
    from (inl k) later = Contains-append_left (unfilled_by height q.destination) (unfilled height ps) name (here (single k))
      where
        single : Contains (q ∷ []) p → q ≡ p
        single k = by_index k.0 k.1 k.2
          where
            by_index : (i : ℕ) → i < length (q ∷ []) → get_or (q ∷ []) i p ≡ p → q ≡ p
            by_index zero d f = f
            by_index (suc i) d f = absurd (omega arith)
    from (inr k) later = Contains-append_right (unfilled_by height q.destination) (unfilled height ps) name (later k)
