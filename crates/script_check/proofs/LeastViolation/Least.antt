-- The earliest of violations is the least of them.
use Rattle.std.proofs.Common.{◌≡◌, ℕ, suc, Bool, true, false, ◌||◌, ◌&&◌, nat_eq, nat_lt, List, [], ◌∷◌, Option, Some, None, refl, sym, ap, subst, ◌∙◌, ◌⊎◌, inl, inr, ⊎_elim, arith}
use Rattle.std.specs.Prelude.{All, Contains, is_some, if◌then◌else◌}
use Rattle.std.proofs.lemmas.List.Elements.{All-cons}
use Rattle.std.proofs.lemmas.Bool.{cases_Bool, true≢false}
use Rattle.std.proofs.lemmas.Bool.Decides.{nat_tests}
use Rattle.script_check.specs.declared.findings.Violation.{Violation}
use Rattle.script_check.specs.Violations.{is_before, earliest}

-- the order, on offsets and numbers
before : ℕ → ℕ → ℕ → ℕ → Bool
before a m b n = nat_lt a b || (nat_eq a b && nat_lt m n)

chain : (a m b n c k : ℕ) → before a m b n ≡ true → before b n c k ≡ true → before a m c k ≡ true
unfolding before
chain a m b n c k g h = grind (arith, nat_tests)

chain_not : (a m b n c k : ℕ) → before a m b n ≡ true → before c k b n ≡ false → before c k a m ≡ false
unfolding before
chain_not a m b n c k g h = grind (arith, nat_tests)

not_later : (u v w : Violation) → is_before w u ≡ true → is_before w v ≡ false → is_before u v ≡ false
unfolding before
not_later u v w g h =
    ⊎_elim (λ y. absurd (true≢false (sym (chain w.at w.number u.at u.number v.at v.number g y) ∙ h))) (λ n. n) (cases_Bool (is_before u v))

not_earlier : (u v w : Violation) → is_before w u ≡ false → is_before u v ≡ false → is_before w v ≡ false
unfolding before
not_earlier u v w g h = grind (arith, nat_tests)

-- none of them is before v
abbrev None_before : Violation → List Violation → Type 0
None_before v [] = Unit {0}
None_before v (w ∷ ws) = (is_before w v ≡ false) × None_before v ws

-- v is u or one of them
abbrev Among : Violation → Violation → List Violation → Type 0
Among v u ws = (u ≡ v) ⊎ Contains ws v

abbrev IsLeast : Violation → Violation → List Violation → Type 0
IsLeast v u ws = (is_before u v ≡ false) × None_before v ws × Among v u ws

later : (v w : Violation) (ws : List Violation) → Contains ws v → Contains (w ∷ ws) v
later v w ws c = (suc c.0, omega (arith, c.1), c.2)

here : (v w : Violation) (ws : List Violation) → w ≡ v → Contains (w ∷ ws) v
here v w ws e = (0, omega arith, e)

irreflexive : (u : Violation) → is_before u u ≡ false
irreflexive u = grind (arith, nat_tests)

taken : (u v w : Violation) (ws : List Violation) (b : Bool) → is_before w u ≡ b → IsLeast v (if b then w else u) ws → IsLeast v u (w ∷ ws)
taken u v w ws true e l =
    (not_later u v w e l.0, (l.0, l.1), inr (⊎_elim (λ h. here v w ws h) (λ h. later v w ws h) l.2))
taken u v w ws false e l =
    (l.0, (not_earlier u v w e l.0, l.1), ⊎_elim (λ h. inl h) (λ h. inr (later v w ws h)) l.2)

some_inside : {A : Type 0} (x y : A) → Some x ≡ Some y → x ≡ y
some_inside x y h = cc

least_after : (u v : Violation) (ws : List Violation) → earliest (Some u) ws ≡ Some v → IsLeast v u ws
least_after u v [] h =
    let e : u ≡ v = some_inside u v h in
    (subst (λ (w : Violation). is_before u w ≡ false) e (irreflexive u), tt, inl e)
least_after u v (w ∷ ws) h = taken u v w ws (is_before w u) refl (least_after (if is_before w u then w else u) v ws h)

stays : (u : Violation) (ws : List Violation) → earliest (Some u) ws ≡ None → ⊥
stays u [] h = true≢false (ap (λ (o : Option Violation). is_some o) h)
stays u (w ∷ ws) h = stays (if is_before w u then w else u) ws h

pub earliest_of_none : (vs : List Violation) → earliest None vs ≡ None → vs ≡ []
earliest_of_none [] h = refl
earliest_of_none (v ∷ vs) h = absurd (stays v vs h)

all_of : (v : Violation) (ws : List Violation) → None_before v ws → All (λ w. is_before w v ≡ false) ws
all_of v [] n = λ k d h. absurd (omega (arith, h))
all_of v (w ∷ ws) n = All-cons (λ w. is_before w v ≡ false) w ws n.0 (all_of v ws n.1)

pub least_contained : (vs : List Violation) (v : Violation) → earliest None vs ≡ Some v → Contains vs v
least_contained [] v h = absurd (true≢false (sym (ap (λ (o : Option Violation). is_some o) h)))
least_contained (u ∷ vs) v h = ⊎_elim (λ e. here v u vs e) (λ c. later v u vs c) (least_after u v vs h).2

pub none_before_least : (vs : List Violation) (v : Violation) → earliest None vs ≡ Some v → All (λ w. is_before w v ≡ false) vs
none_before_least [] v h = λ k d l. absurd (omega (arith, l))
none_before_least (u ∷ vs) v h = let l = least_after u v vs h in all_of v (u ∷ vs) (l.0, l.1)
