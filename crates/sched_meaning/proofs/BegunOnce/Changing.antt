-- Lists in which one element changes: sums over them, and what holds of each element.
use Rattle.std.proofs.Common.{◌≡◌, ℕ, zero, suc, ◌+◌, List, [], ◌∷◌, ◌++◌, Some, slice_get, slice_set, remove, flat_map, map, refl, ap, subst, arith}
use Rattle.sched_meaning.proofs.OneCore.OneStep.{some-one}

abbrev pub total : {A : Type 0} → (A → ℕ) → List A → ℕ
total f [] = 0
total f (x ∷ xs) = f x + total f xs

abbrev pub Each : {A : Type 0} → (A → Type 0) → List A → Type 0
Each P [] = Unit {0}
Each P (x ∷ xs) = P x × Each P xs

pub total-append : {A : Type 0} (f : A → ℕ) (xs ys : List A) → total f (xs ++ ys) ≡ total f xs + total f ys
total-append f [] ys = omega arith
total-append f (x ∷ xs) ys = let h : total f (xs ++ ys) ≡ total f xs + total f ys = total-append f xs ys in omega arith

pub total-end : {A : Type 0} (f : A → ℕ) (xs : List A) (y : A) → total f (xs ++ y ∷ []) ≡ total f xs + f y
total-end f xs y = let h : total f (xs ++ y ∷ []) ≡ total f xs + total f (y ∷ []) = total-append f xs (y ∷ []) in omega arith

pub total-map : {A B : Type 0} (f : B → ℕ) (g : A → B) (xs : List A) → total f (map g xs) ≡ total (λ x. f (g x)) xs
total-map f g [] = refl
total-map f g (x ∷ xs) = let h : total f (map g xs) ≡ total (λ x. f (g x)) xs = total-map f g xs in omega arith

pub total-flat : {A B : Type 0} (f : B → ℕ) (g : A → List B) (xs : List A) → total f (flat_map g xs) ≡ total (λ x. total f (g x)) xs
total-flat f g [] = refl
total-flat f g (x ∷ xs) =
    let h : total f (flat_map g xs) ≡ total (λ x. total f (g x)) xs = total-flat f g xs in
    let k : total f (g x ++ flat_map g xs) ≡ total f (g x) + total f (flat_map g xs) = total-append f (g x) (flat_map g xs) in omega arith

-- one element changes
pub total-set : {A : Type 0} (f : A → ℕ) (xs : List A) (n : ℕ) (before after : A) → slice_get xs n ≡ Some before →
    total f (slice_set xs n after) + f before ≡ total f xs + f after
total-set f [] n before after h = absurd (cc)
total-set f (x ∷ xs) zero before after h = let e : f x ≡ f before = ap f (some-one x before h) in omega arith
total-set f (x ∷ xs) (suc n) before after h =
    let k : total f (slice_set xs n after) + f before ≡ total f xs + f after = total-set f xs n before after h in omega arith

-- one element leaves
pub total-remove : {A : Type 0} (f : A → ℕ) (xs : List A) (n : ℕ) (x : A) → slice_get xs n ≡ Some x → total f (remove xs n) + f x ≡ total f xs
total-remove f [] n x h = absurd (cc)
total-remove f (y ∷ xs) zero x h = let e : f y ≡ f x = ap f (some-one y x h) in omega arith
total-remove f (y ∷ xs) (suc n) x h = let k : total f (remove xs n) + f x ≡ total f xs = total-remove f xs n x h in omega arith

pub each-append : {A : Type 0} (P : A → Type 0) (xs ys : List A) → Each P xs → Each P ys → Each P (xs ++ ys)
each-append P [] ys p q = q
each-append P (x ∷ xs) ys p q = (p.0, each-append P xs ys p.1 q)

pub each-front : {A : Type 0} (P : A → Type 0) (xs ys : List A) → Each P (xs ++ ys) → Each P xs
each-front P [] ys p = tt
each-front P (x ∷ xs) ys p = (p.0, each-front P xs ys p.1)

pub each-back : {A : Type 0} (P : A → Type 0) (xs ys : List A) → Each P (xs ++ ys) → Each P ys
each-back P [] ys p = p
each-back P (x ∷ xs) ys p = each-back P xs ys p.1

pub each-map : {A : Type 0} (P Q : A → Type 0) → ((x : A) → P x → Q x) → (xs : List A) → Each P xs → Each Q xs
each-map P Q f [] p = tt
each-map P Q f (x ∷ xs) p = (f x p.0, each-map P Q f xs p.1)

pub each-get : {A : Type 0} (P : A → Type 0) (xs : List A) (n : ℕ) (x : A) → slice_get xs n ≡ Some x → Each P xs → P x
each-get P [] n x h p = absurd (cc)
each-get P (y ∷ xs) zero x h p = subst P (some-one y x h) p.0
each-get P (y ∷ xs) (suc n) x h p = each-get P xs n x h p.1

pub each-set : {A : Type 0} (P : A → Type 0) (xs : List A) (n : ℕ) (x : A) → P x → Each P xs → Each P (slice_set xs n x)
each-set P [] n x q p = tt
each-set P (y ∷ xs) zero x q p = (q, p.1)
each-set P (y ∷ xs) (suc n) x q p = (p.0, each-set P xs n x q p.1)

pub each-remove : {A : Type 0} (P : A → Type 0) (xs : List A) (n : ℕ) → Each P xs → Each P (remove xs n)
each-remove P [] zero p = tt
each-remove P [] (suc n) p = tt
each-remove P (y ∷ xs) zero p = p.1
each-remove P (y ∷ xs) (suc n) p = (p.0, each-remove P xs n p.1)
