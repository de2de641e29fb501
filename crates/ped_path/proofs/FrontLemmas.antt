-- Lists that begin with the ranks of another one.
use Rattle.std.proofs.Common.{◌≡◌, ℕ, zero, suc, ◌<◌, ◌≤◌, Bool, true, false, bytes_eq, List, [], ◌∷◌, length, take, get_or, refl, sym, ap, ◌∙◌, arith}
use Rattle.std.proofs.lemmas.List.{take_all}
use Rattle.std.proofs.lemmas.Slice.Eq.{bytes_eq-Decides}

not-true : (b : Bool) → (b ≡ true → ⊥) → b ≡ false
not-true true h = absurd (h refl)
not-true false h = refl

at-take : (xs : List ℕ) (n i : ℕ) → i < n → get_or (take n xs) i 0 ≡ get_or xs i 0
at-take xs zero i h = absurd (omega arith)
at-take [] (suc n) i h = refl
at-take (x ∷ xs) (suc n) zero h = refl
at-take (x ∷ xs) (suc n) (suc i) h = at-take xs n i (omega arith)

-- too few
pub front-short : (xs ys : List ℕ) → length xs < length ys → bytes_eq (take (length ys) xs) ys ≡ false
front-short xs ys l =
    not-true _ (λ e.
    let n = ap (λ (zs : List ℕ). length zs) (sym (take_all (length ys) xs (omega arith)) ∙ (bytes_eq-Decides (take (length ys) xs) ys).0 e) in
    absurd (omega (arith, n)))

-- one is another one
pub front-differs : (xs ys : List ℕ) (i : ℕ) → i < length ys → (get_or xs i 0 ≡ get_or ys i 0 → ⊥) → bytes_eq (take (length ys) xs) ys ≡ false
front-differs xs ys i l h =
    not-true _ (λ e. h (sym (at-take xs (length ys) i l) ∙ ap (λ (zs : List ℕ). get_or zs i 0) ((bytes_eq-Decides (take (length ys) xs) ys).0 e)))

-- all are the same
pub front-all : (xs ys : List ℕ) → take (length ys) xs ≡ take (length ys) ys → bytes_eq (take (length ys) xs) ys ≡ true
front-all xs ys h = (bytes_eq-Decides (take (length ys) xs) ys).1 (h ∙ take_all (length ys) ys (omega arith))
