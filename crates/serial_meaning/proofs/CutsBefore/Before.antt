-- What stands before a path, and before what begins with it.
use Rattle.std.proofs.Common.{◌≡◌, ℕ, ◌<◌, ◌≤◌, Bool, true, false, nat_lt, List, [], ◌∷◌, ◌++◌, ◌⊎◌, inl, inr, refl, sym, ap, ◌∙◌, subst, append_assoc, append-nil, arith}
use Rattle.std.proofs.lemmas.Bool.Decides.{nat_tests}
use Rattle.std.specs.Cmp.Lexicographic.{slice_cmp}
use Rattle.std.specs.Ordering.{nat_cmp, ordering_then, MatchOrdering}
use Rattle.std.specs.declared.cmp.Ordering.{Ordering}
use Rattle.std.specs.declared.cmp.Ordering.TheVariants.{Less, Equal, Greater}
use Rattle.std.proofs.lemmas.Cmp.{ranked}
use Rattle.ped_path.specs.Path.{IsBefore}
use Rattle.serial_meaning.proofs.RisingPedigrees.Order.{before-by_rank, before-prefix, before-before, not_before-back}

then-less : (o r s : Ordering) → (r ≡ Less → s ≡ Less) → ordering_then o r ≡ Less → ordering_then o s ≡ Less
then-less Less r s f h = refl
then-less Equal r s f h = f h
then-less Greater r s f h = absurd (cc)

pub before-longer : (j p more : List ℕ) → IsBefore j p → IsBefore j (p ++ more)
before-longer [] [] more h = absurd (cc)
before-longer [] (y ∷ ys) more h = refl
before-longer (x ∷ xs) [] more h = absurd (cc)
before-longer (x ∷ xs) (y ∷ ys) more h = then-less (nat_cmp x y) (slice_cmp nat_cmp xs ys) (slice_cmp nat_cmp xs (ys ++ more)) (before-longer xs ys more) h

pub nothing-before : (j : List ℕ) → IsBefore j [] → ⊥
nothing-before [] h = absurd (cc)
nothing-before (x ∷ xs) h = absurd (cc)

-- it stands before the path, or begins with it
abbrev pub BeforeOrBegins : List ℕ → List ℕ → Type 0
BeforeOrBegins j p = IsBefore j p ⊎ ((rest : List ℕ) × (j ≡ p ++ rest))

pub before-begins : (j p more : List ℕ) → IsBefore j (p ++ more) → BeforeOrBegins j p
before-begins j [] more h = inr (j, refl)
before-begins [] (y ∷ ys) more h = inl refl
before-begins (x ∷ xs) (y ∷ ys) more h = by_rank (nat_cmp x y) (ranked x y (nat_cmp x y) refl) h (before-begins xs ys more)
  where
    same_rank : x ≡ y → BeforeOrBegins xs ys → (slice_cmp nat_cmp xs ys ≡ Less) ⊎ ((rest : List ℕ) × (x ∷ xs ≡ y ∷ ys ++ rest))
    same_rank e (inl b) = inl b
    same_rank e (inr r) = inr (r.0, ap (λ n. n ∷ xs) e ∙ ap (λ l. y ∷ l) r.1)

    by_rank : (o : Ordering) → MatchOrdering o (x < y) (x ≡ y) (y < x) → ordering_then o (slice_cmp nat_cmp xs (ys ++ more)) ≡ Less → (IsBefore xs (ys ++ more) → BeforeOrBegins xs ys) →
        (ordering_then o (slice_cmp nat_cmp xs ys) ≡ Less) ⊎ ((rest : List ℕ) × (x ∷ xs ≡ y ∷ ys ++ rest))
    by_rank Less m g later = inl refl
    by_rank Equal m g later = same_rank m (later g)
    by_rank Greater m g later = absurd (cc)

-- nothing that begins with a path stands before it
not-front : (front rest : List ℕ) → IsBefore (front ++ rest) front → ⊥
not-front front [] b = let c : IsBefore front front = subst (λ (l : List ℕ). IsBefore l front) (append-nil front) b in not_before-back front front c c
not-front front (x ∷ xs) b = not_before-back front (front ++ x ∷ xs) (before-prefix front x xs) b

pub ranks-before : (path : List ℕ) (j k : ℕ) (xs ys : List ℕ) → IsBefore (path ++ j ∷ xs) (path ++ k ∷ ys) → j ≤ k
ranks-before path j k xs ys b = by_rank (nat_lt k j) refl
  where
    by_rank : (c : Bool) → nat_lt k j ≡ c → j ≤ k
    by_rank false e = grind (arith, nat_tests)
    by_rank true e = absurd (not_before-back (path ++ j ∷ xs) (path ++ k ∷ ys) b (before-by_rank path k j ys xs (grind (arith, nat_tests))))

-- to stand before a rank's own place is to have a lower rank there
pub rank-below : (path : List ℕ) (j k : ℕ) (xs : List ℕ) → IsBefore (path ++ j ∷ xs) (path ++ k ∷ []) → j < k
rank-below path j k xs b = by_rank (nat_lt j k) refl
  where
    same : j ≡ k → ⊥
    same e = not-front (path ++ k ∷ []) xs (subst (λ (l : List ℕ). IsBefore l (path ++ k ∷ [])) (ap (λ (n : ℕ). path ++ n ∷ xs) e ∙ sym (append_assoc path (k ∷ []) xs)) b)

    by_rank : (c : Bool) → nat_lt j k ≡ c → j < k
    by_rank true e = grind (arith, nat_tests)
    by_rank false e = let low : j ≤ k = ranks-before path j k xs [] b in let high : k ≤ j = grind (arith, nat_tests) in absurd (same (omega (arith, low, high)))

-- to stand before a rank's own place is to stand before what begins with it or with a later one
pub before-later : (at path : List ℕ) (from k : ℕ) (more : List ℕ) → from ≤ k → IsBefore at (path ++ from ∷ []) → IsBefore at (path ++ k ∷ more)
before-later at path from k more h b = by_rank (nat_lt from k) refl
  where
    by_rank : (c : Bool) → nat_lt from k ≡ c → IsBefore at (path ++ k ∷ more)
    by_rank true e = before-before at (path ++ from ∷ []) (path ++ k ∷ more) b (before-by_rank path from k [] more (grind (arith, nat_tests)))
    by_rank false e =
        let high : k ≤ from = grind (arith, nat_tests) in
        let same : from ≡ k = omega (arith, high, h) in
        subst (IsBefore at) (append_assoc path (from ∷ []) more ∙ ap (λ (n : ℕ). path ++ n ∷ more) same) (before-longer at (path ++ from ∷ []) more b)
