-- Writes into the items of an array.
use Rattle.std.proofs.Common.{◌≡◌, ℕ, zero, suc, ◌<◌, ◌≤◌, min, true, false, Option, Some, None, List, [], ◌∷◌, ◌++◌, length, get_or, slice_set, take, drop, replicate, refl, sym, ap, subst, ◌∙◌, arith}
use Rattle.std.specs.Prelude.{ℤ, pos, negsuc, IsSome, slice_get}
use lib.IntN.{nat_abs}
use Rattle.std.proofs.lemmas.List.{take-append-drop}
use Rattle.serial_meaning.specs.Values.{as_integer, at_index, items_of}
use Rattle.serial_meaning.specs.Exec.{with_item, set_item, with_front, zeros}
use Rattle.serial_meaning.specs.declared.environment.Content.{Content}
use Rattle.serial_meaning.specs.declared.environment.Content.TheVariants.{Array}
use Rattle.serial_meaning.specs.declared.value.Value.{Value}

pub item_set : (xs : List ℤ) (i : ℕ) (n : ℤ) → slice_set xs i n ≡ with_item xs i n
item_set [] i n = refl
item_set (x ∷ xs) zero n = refl
item_set (x ∷ xs) (suc i) n = ap (λ l. x ∷ l) (item_set xs i n)

pub all_zero : (n : ℕ) → replicate n (pos 0) ≡ zeros n
all_zero zero = refl
all_zero (suc n) = ap (λ l. pos 0 ∷ l) (all_zero n)

pub front_of_none : (vs : List Value) → with_front [] vs ≡ []
front_of_none [] = refl
front_of_none (v ∷ vs) = refl

pub front_step : (i : ℕ) (xs : List ℤ) (vs : List Value) (v : Value) → i < length xs → i < length vs → v ≡ get_or vs i v →
    take i xs ++ with_front (drop i xs) (drop i vs) ≡ take (suc i) (slice_set xs i (as_integer v)) ++ with_front (drop (suc i) (slice_set xs i (as_integer v))) (drop (suc i) vs)
front_step i [] vs v h k e = absurd (omega arith)
front_step i (x ∷ xs) [] v h k e = absurd (omega arith)
front_step zero (x ∷ xs) (w ∷ ws) v h k e = ap (λ (u : Value). as_integer u ∷ with_front xs ws) (sym e)
front_step (suc i) (x ∷ xs) (w ∷ ws) v h k e = ap (λ l. x ∷ l) (front_step i xs ws v (omega arith) (omega arith) e)

pub front_done : (i : ℕ) (xs : List ℤ) (vs : List Value) → min (length xs) (length vs) ≤ i → take i xs ++ with_front (drop i xs) (drop i vs) ≡ xs
front_done zero [] vs h = front_of_none vs
front_done (suc i) [] vs h = front_of_none (drop (suc i) vs)
front_done zero (x ∷ xs) [] h = refl
front_done zero (x ∷ xs) (v ∷ vs) h = absurd (omega arith)
front_done (suc i) (x ∷ xs) [] h = ap (λ l. x ∷ l) (take-append-drop i xs)
front_done (suc i) (x ∷ xs) (v ∷ vs) h = ap (λ l. x ∷ l) (front_done i xs vs (omega arith))

-- an index in range
not_some : (X : Type 0) → IsSome {T = X} None → ⊥
not_some X h = let e : false ≡ true = h in absurd (cc)

within : (xs : List ℤ) (i : ℕ) → IsSome (slice_get xs i) → i < length xs
within [] i h = absurd (not_some ℤ h)
within (x ∷ xs) zero h = omega arith
within (x ∷ xs) (suc i) h = let r : i < length xs = within xs i h in omega arith

pub index_is_within : (xs : List ℤ) (k : ℤ) → IsSome (at_index xs k) → nat_abs k < length xs
index_is_within xs (pos i) h = within xs i h
index_is_within xs (negsuc i) h = absurd (not_some ℤ h)

no_index_of_none : (k : ℤ) → IsSome (at_index [] k) → ⊥
no_index_of_none (pos i) h = not_some ℤ h
no_index_of_none (negsuc i) h = not_some ℤ h

stored : (xs : List ℤ) (k : ℤ) (v : Value) → IsSome (at_index xs k) → with_item xs (nat_abs k) (as_integer v) ≡ set_item xs k v
stored xs (pos i) v h = refl
stored xs (negsuc i) v h = absurd (not_some ℤ h)

-- the same of the array that stands in a slot
pub item_there : (s t : Option Content) (k : ℤ) → s ≡ t → IsSome (at_index (items_of s) k) → IsSome (at_index (items_of t) k)
item_there s t k e h = let P : Option Content → Type 0 = λ u. IsSome (at_index (items_of u) k) in subst P e h

pub stored_there : (s t : Option Content) (k : ℤ) (v : Value) → s ≡ t → IsSome (at_index (items_of s) k) → Array (with_item (items_of t) (nat_abs k) (as_integer v)) ≡ Array (set_item (items_of s) k v)
stored_there s t k v e h = ap (λ xs. Array xs) (stored (items_of t) k v (item_there s t k e h) ∙ ap (λ u. set_item (items_of u) k v) (sym e))

-- which is there, since it has an item
pub array_there : (s : Option Content) (k : ℤ) → IsSome (at_index (items_of s) k) → IsSome s
array_there None k h = absurd (no_index_of_none k h)
array_there (Some t) k h = refl
