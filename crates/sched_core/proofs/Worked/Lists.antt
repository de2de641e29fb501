-- Positions in lists: after a change, an addition and a removal, and under a map.
use Rattle.std.proofs.Common.{◌≡◌, ℕ, zero, suc, ◌⊎◌, inl, inr, List, [], ◌∷◌, ◌++◌, Some, None, slice_get, slice_set, remove, length, map, refl, sym, ap, ◌∙◌, subst, arith}
use Rattle.sched_meaning.proofs.OneCore.OneStep.{some-one}
use Rattle.sched_core.specs.Consistent.{Everywhere}

pub get-map : {A B : Type 0} (f : A → B) (xs : List A) (n : ℕ) (x : A) → slice_get xs n ≡ Some x → slice_get (map f xs) n ≡ Some (f x)
get-map f [] n x h = absurd (cc)
get-map f (y ∷ xs) zero x h = ap (λ z. Some (f z)) (some-one y x h)
get-map f (y ∷ xs) (suc n) x h = get-map f xs n x h

pub get-map-none : {A B : Type 0} (f : A → B) (xs : List A) (n : ℕ) → slice_get xs n ≡ None → slice_get (map f xs) n ≡ None
get-map-none f [] n h = refl
get-map-none f (y ∷ xs) zero h = absurd (cc)
get-map-none f (y ∷ xs) (suc n) h = get-map-none f xs n h

pub map-set : {A B : Type 0} (f : A → B) (xs : List A) (n : ℕ) (x : A) → map f (slice_set xs n x) ≡ slice_set (map f xs) n (f x)
map-set f [] n x = refl
map-set f (y ∷ xs) zero x = refl
map-set f (y ∷ xs) (suc n) x = ap (λ l. f y ∷ l) (map-set f xs n x)

pub map-remove : {A B : Type 0} (f : A → B) (xs : List A) (n : ℕ) → map f (remove xs n) ≡ remove (map f xs) n
map-remove f [] zero = refl
map-remove f [] (suc n) = refl
map-remove f (y ∷ xs) zero = refl
map-remove f (y ∷ xs) (suc n) = ap (λ l. f y ∷ l) (map-remove f xs n)

pub get-set : {A : Type 0} (xs : List A) (n : ℕ) (x y : A) → slice_get xs n ≡ Some x → slice_get (slice_set xs n y) n ≡ Some y
get-set [] n x y h = absurd (cc)
get-set (z ∷ xs) zero x y h = refl
get-set (z ∷ xs) (suc n) x y h = get-set xs n x y h

pub get-other : {A : Type 0} (xs : List A) (n k : ℕ) (y : A) → (k ≡ n → ⊥) → slice_get (slice_set xs n y) k ≡ slice_get xs k
get-other [] n k y h = refl
get-other (z ∷ xs) zero zero y h = absurd (h refl)
get-other (z ∷ xs) zero (suc k) y h = refl
get-other (z ∷ xs) (suc n) zero y h = refl
get-other (z ∷ xs) (suc n) (suc k) y h = get-other xs n k y (λ e. h (ap suc e))

pub set-set : {A : Type 0} (xs : List A) (n : ℕ) (x y : A) → slice_set (slice_set xs n x) n y ≡ slice_set xs n y
set-set [] n x y = refl
set-set (z ∷ xs) zero x y = refl
set-set (z ∷ xs) (suc n) x y = ap (λ l. z ∷ l) (set-set xs n x y)

pub get-front : {A : Type 0} (xs ys : List A) (n : ℕ) (x : A) → slice_get xs n ≡ Some x → slice_get (xs ++ ys) n ≡ Some x
get-front [] ys n x h = absurd (cc)
get-front (z ∷ xs) ys zero x h = h
get-front (z ∷ xs) ys (suc n) x h = get-front xs ys n x h

pub everywhere-set : {A : Type 0} (P : A → Type 0) (xs : List A) (n : ℕ) (y : A) → P y → Everywhere P xs → Everywhere P (slice_set xs n y)
everywhere-set P [] n y p all k x h = absurd (cc)
everywhere-set P (z ∷ xs) zero y p all zero x h = subst P (some-one y x h) p
everywhere-set P (z ∷ xs) zero y p all (suc k) x h = all (suc k) x h
everywhere-set P (z ∷ xs) (suc n) y p all zero x h = all zero x h
everywhere-set P (z ∷ xs) (suc n) y p all (suc k) x h = everywhere-set P xs n y p (λ j. all (suc j)) k x h

pub everywhere-end : {A : Type 0} (P : A → Type 0) (xs : List A) (y : A) → Everywhere P xs → P y → Everywhere P (xs ++ y ∷ [])
everywhere-end P [] y all p zero x h = subst P (some-one y x h) p
everywhere-end P [] y all p (suc k) x h = absurd (cc)
everywhere-end P (z ∷ xs) y all p zero x h = all zero x h
everywhere-end P (z ∷ xs) y all p (suc k) x h = everywhere-end P xs y (λ j. all (suc j)) p k x h

pub everywhere-remove : {A : Type 0} (P : A → Type 0) (xs : List A) (n : ℕ) → Everywhere P xs → Everywhere P (remove xs n)
everywhere-remove P [] zero all k x h = absurd (cc)
everywhere-remove P [] (suc n) all k x h = absurd (cc)
everywhere-remove P (z ∷ xs) zero all k x h = all (suc k) x h
everywhere-remove P (z ∷ xs) (suc n) all zero x h = all zero x h
everywhere-remove P (z ∷ xs) (suc n) all (suc k) x h = everywhere-remove P xs n (λ j. all (suc j)) k x h

pub everywhere-front : {A : Type 0} (P : A → Type 0) (xs ys : List A) → Everywhere P (xs ++ ys) → Everywhere P xs
everywhere-front P [] ys all k x h = absurd (cc)
everywhere-front P (z ∷ xs) ys all zero x h = all zero x h
everywhere-front P (z ∷ xs) ys all (suc k) x h = everywhere-front P xs ys (λ j. all (suc j)) k x h

pub everywhere-last : {A : Type 0} (P : A → Type 0) (xs : List A) (y : A) → Everywhere P (xs ++ y ∷ []) → P y
everywhere-last P [] y all = all zero y refl
everywhere-last P (z ∷ xs) y all = everywhere-last P xs y (λ j. all (suc j))

-- whether two numbers are the same
pub same-or : (k n : ℕ) → (k ≡ n) ⊎ (k ≡ n → ⊥)
same-or zero zero = inl refl
same-or zero (suc n) = inr (λ e. absurd (cc))
same-or (suc k) zero = inr (λ e. absurd (cc))
same-or (suc k) (suc n) = up (same-or k n)
  where
    down : suc k ≡ suc n → k ≡ n
    down e = omega arith

    up : (k ≡ n) ⊎ (k ≡ n → ⊥) → (suc k ≡ suc n) ⊎ (suc k ≡ suc n → ⊥)
    up (inl e) = inl (ap suc e)
    up (inr h) = inr (λ e. h (down e))

pub length-set : {A : Type 0} (xs : List A) (n : ℕ) (x : A) → length (slice_set xs n x) ≡ length xs
length-set [] n x = refl
length-set (y ∷ xs) zero x = refl
length-set (y ∷ xs) (suc n) x = ap suc (length-set xs n x)

pub length-map : {A B : Type 0} (f : A → B) (xs : List A) → length (map f xs) ≡ length xs
length-map f [] = refl
length-map f (x ∷ xs) = ap suc (length-map f xs)

pub get-end : {A : Type 0} (xs : List A) (y : A) → slice_get (xs ++ y ∷ []) (length xs) ≡ Some y
get-end [] y = refl
get-end (x ∷ xs) y = get-end xs y

-- what stands in a list with one more stood in it before, or is that one
pub end-or : {A : Type 0} (xs : List A) (y : A) (k : ℕ) (x : A) → slice_get (xs ++ y ∷ []) k ≡ Some x → (slice_get xs k ≡ Some x) ⊎ ((k ≡ length xs) × (y ≡ x))
end-or [] y zero x h = inr (refl, some-one y x h)
end-or [] y (suc k) x h = absurd (cc)
end-or (z ∷ xs) y zero x h = inl h
end-or (z ∷ xs) y (suc k) x h = up (end-or xs y k x h)
  where
    up : (slice_get xs k ≡ Some x) ⊎ ((k ≡ length xs) × (y ≡ x)) → (slice_get xs k ≡ Some x) ⊎ ((suc k ≡ suc (length xs)) × (y ≡ x))
    up (inl e) = inl e
    up (inr e) = inr (ap suc e.0, e.1)

-- what stands in a list with one change is the new one, or stood there
pub set-or : {A : Type 0} (xs : List A) (n : ℕ) (z y : A) (k : ℕ) (x : A) → slice_get xs n ≡ Some z → slice_get (slice_set xs n y) k ≡ Some x → ((k ≡ n) × (y ≡ x)) ⊎ ((k ≡ n → ⊥) × (slice_get xs k ≡ Some x))
set-or xs n z y k x there h = by_number (same-or k n)
  where
    by_number : (k ≡ n) ⊎ (k ≡ n → ⊥) → ((k ≡ n) × (y ≡ x)) ⊎ ((k ≡ n → ⊥) × (slice_get xs k ≡ Some x))
    by_number (inl e) = inl (e, some-one y x (sym (get-set xs n z y there) ∙ ap (λ m. slice_get (slice_set xs n y) m) (sym e) ∙ h))
    by_number (inr two) = inr (two, sym (get-other xs n k y two) ∙ h)

pub map-append-one : {A B : Type 0} (f : A → B) (xs : List A) (y : A) → map f (xs ++ y ∷ []) ≡ map f xs ++ f y ∷ []
map-append-one f [] y = refl
map-append-one f (x ∷ xs) y = ap (λ l. f x ∷ l) (map-append-one f xs y)

-- a map that doesn't see a change
pub map-set-same : {A B : Type 0} (f : A → B) (xs : List A) (n : ℕ) (x y : A) → slice_get xs n ≡ Some x → f y ≡ f x → map f (slice_set xs n y) ≡ map f xs
map-set-same f [] n x y h e = refl
map-set-same f (z ∷ xs) zero x y h e = ap (λ b. b ∷ map f xs) (e ∙ ap f (sym (some-one z x h)))
map-set-same f (z ∷ xs) (suc n) x y h e = ap (λ l. f z ∷ l) (map-set-same f xs n x y h e)
