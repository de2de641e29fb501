-- Which origins stand in a list, by counting, and where a list has one.
use Rattle.std.proofs.Common.{◌≡◌, ℕ, zero, suc, ◌<◌, ◌≤◌, Bool, true, false, ◌⊎◌, inl, inr, List, [], ◌∷◌, Some, All, Contains, length, slice_index_or, slice_get, refl, sym, ap, ◌∙◌, arith}
use Rattle.serial_meaning.specs.declared.origin.Origin.{Origin}
use Rattle.sched_meaning.specs.Core.{Core, answered, IsAnswered}
use Rattle.sched_meaning.specs.Same.{same_origin}
use Rattle.sched_meaning.proofs.OneCore.SameOrigin.{same-origin}
use Rattle.sched_meaning.proofs.BegunOnce.Changing.{total, Each}
use Rattle.sched_meaning.proofs.KeptByEvents.Good.{IsIn}

abbrev pub one_if : Bool → ℕ
one_if true = 1
one_if false = 0

-- one for this origin, and nothing for others
abbrev pub is_it : Origin → Origin → ℕ
is_it o p = one_if (same_origin o p)

pub is-it : (o : Origin) → is_it o o ≡ 1
is-it o = ap one_if ((same-origin o o).1 refl)

pub is-that : (o p : Origin) (n : ℕ) → is_it o p ≡ suc n → o ≡ p
is-that o p n h = by_test (same_origin o p) refl h
  where
    by_test : (b : Bool) → same_origin o p ≡ b → one_if b ≡ suc n → o ≡ p
    by_test true e k = (same-origin o p).0 e
    by_test false e k = absurd (cc)

-- a sum that isn't 0 has a place that isn't
pub record Some_at {A : Type 0} (f : A → ℕ) (xs : List A) : Type 0 where
  pub at : ℕ
  pub value : A
  pub there : slice_get xs at ≡ Some value
  pub more : ℕ
  pub is : f value ≡ suc more

pub find-some : {A : Type 0} (f : A → ℕ) (xs : List A) (n : ℕ) → total f xs ≡ suc n → Some_at f xs
find-some f [] n h = absurd (cc)
find-some f (x ∷ xs) n h = by_first (f x) refl (find-some f xs n)
  where
    by_first : (k : ℕ) → f x ≡ k → (total f xs ≡ suc n → Some_at f xs) → Some_at f (x ∷ xs)
    by_first (suc k) e later = record { at = 0; value = x; there = refl; more = k; is = e }
    by_first zero e later = let s : Some_at f xs = later (omega arith) in record { at = suc s.at; value = s.value; there = s.there; more = s.more; is = s.is }

pub in-counts : (o : Origin) (os : List Origin) → IsIn os o → 1 ≤ total (is_it o) os
in-counts o [] h = absurd h
in-counts o (p ∷ os) (inl h) = let e : is_it o p ≡ 1 = ap (is_it o) h ∙ is-it o in omega arith
in-counts o (p ∷ os) (inr h) = let e : 1 ≤ total (is_it o) os = in-counts o os h in omega arith

pub contains-at : (o : Origin) (os : List Origin) (k : ℕ) → slice_get os k ≡ Some o → Contains os o
contains-at o [] k h = absurd (cc)
contains-at o (p ∷ os) zero h = (0, omega arith, cc)
contains-at o (p ∷ os) (suc k) h = let c = contains-at o os k h in (suc c.0, omega (arith, c.1), c.2)

pub counts-contain : (o : Origin) (os : List Origin) (n : ℕ) → total (is_it o) os ≡ suc n → Contains os o
counts-contain o os n h = let s = find-some (is_it o) os n h in contains-at o os s.at (s.there ∙ ap (λ x. Some x) (sym (is-that o s.value s.more s.is)))

pub contains-counts : (o : Origin) (os : List Origin) → Contains os o → 1 ≤ total (is_it o) os
contains-counts o os c = by_place os c.0 c.1 c.2
  where
    by_place : (os : List Origin) (k : ℕ) → k < length os → slice_index_or os k o ≡ o → 1 ≤ total (is_it o) os
    by_place [] k lt e = absurd (omega arith)
    by_place (p ∷ os) zero lt e = let f : is_it o p ≡ 1 = ap (is_it o) e ∙ is-it o in omega arith
    by_place (p ∷ os) (suc k) lt e = let f : 1 ≤ total (is_it o) os = by_place os k (omega arith) e in omega arith

pub each-all : {A : Type 0} (P : A → Type 0) (xs : List A) → Each P xs → All P xs
each-all P [] h k d lt = absurd (omega arith)
each-all P (x ∷ xs) h zero d lt = h.0
each-all P (x ∷ xs) h (suc k) d lt = each-all P xs h.1 k d (omega arith)

-- an answer to an origin, or none
pub answered-or : (c : Core) (o : Origin) → IsAnswered c o ⊎ (total (is_it o) (answered c) ≡ 0)
answered-or c o = by_count (total (is_it o) (answered c)) refl
  where
    by_count : (n : ℕ) → total (is_it o) (answered c) ≡ n → IsAnswered c o ⊎ (total (is_it o) (answered c) ≡ 0)
    by_count zero h = inr h
    by_count (suc n) h = inl (counts-contain o (answered c) n h)

-- one of these that isn't answered
pub record Unanswered (P : Origin → Type 0) (c : Core) : Type 0 where
  pub child : Origin
  pub is : P child
  pub open_yet : total (is_it child) (answered c) ≡ 0

pub all-or : (P : Origin → Type 0) (c : Core) (os : List Origin) → Each P os → All (IsAnswered c) os ⊎ Unanswered P c
all-or P c os all = by_list os all
  where
    by_each : (os : List Origin) → Each P os → Each (IsAnswered c) os ⊎ Unanswered P c
    by_each [] h = inl tt
    by_each (o ∷ os) h = both (answered-or c o) (by_each os h.1)
      where
        both : IsAnswered c o ⊎ (total (is_it o) (answered c) ≡ 0) → Each (IsAnswered c) os ⊎ Unanswered P c → Each (IsAnswered c) (o ∷ os) ⊎ Unanswered P c
        both (inl a) (inl b) = inl (a, b)
        both (inl a) (inr u) = inr u
        both (inr n) r = inr (record { child = o; is = h.0; open_yet = n })

    by_list : (os : List Origin) → Each P os → All (IsAnswered c) os ⊎ Unanswered P c
    by_list os h = from (by_each os h)
      where
        from : Each (IsAnswered c) os ⊎ Unanswered P c → All (IsAnswered c) os ⊎ Unanswered P c
        from (inl a) = inl (each-all (IsAnswered c) os a)
        from (inr u) = inr u
