-- A dot product with one more rank.
use Rattle.std.proofs.Common.{◌≡◌, ℕ, zero, suc, ◌<◌, ◌≤◌, ◌+◌, ◌-◌, ◌*◌, ◌%◌, List, [], ◌∷◌, ◌++◌, length, take, refl, sym, ap, ◌∙◌, arith, add-one, take-suc, length-take}
use Rattle.std.specs.Prelude.{Some, None, slice_get, slice_index, sum_by}
use Rattle.std.specs.List.{zip}
use Rattle.std.proofs.Math.Nat.{mod-add-mod}
use Rattle.std.proofs.lemmas.List.{take_all}
use Rattle.std.proofs.lemmas.List.Sums.{sum_by-append}
use Rattle.std.proofs.lemmas.Option.{slice_get_within, get_or_from_slice_get}
use Rattle.dotmix.specs.Draws.{coefficient, dot, modulus, terms}

pub zip-none : (gamma : List ℕ) → zip {X = ℕ} gamma [] ≡ []
zip-none [] = refl
zip-none (c ∷ gamma) = refl

zip-append : (gamma p : List ℕ) (r : ℕ) → length p < length gamma → zip gamma (p ++ r ∷ []) ≡ zip gamma p ++ (slice_index gamma (length p), r) ∷ []
zip-append [] p r h = absurd (omega arith)
zip-append (c ∷ gamma) [] r h = ap (λ ts. (c, r) ∷ ts) (zip-none gamma)
zip-append (c ∷ gamma) (q ∷ p) r h = ap (λ ts. (c, q) ∷ ts) (zip-append gamma p r (omega arith))

terms-append : (gamma p : List ℕ) (r : ℕ) → length p < length gamma → terms gamma (p ++ r ∷ []) ≡ terms gamma p + slice_index gamma (length p) * (r + 1)
terms-append gamma p r h =
    ap (sum_by (λ (t : ℕ × ℕ). t.0 * (t.1 + 1))) (zip-append gamma p r h) ∙ sum_by-append (λ (t : ℕ × ℕ). t.0 * (t.1 + 1)) (zip gamma p) ((slice_index gamma (length p), r) ∷ []) ∙ omega arith

pub dot-append : (gamma p : List ℕ) (r i : ℕ) → length p ≡ i → i < length gamma → (dot gamma p + coefficient gamma (i + 1) * (r + 1)) % modulus ≡ dot gamma (p ++ r ∷ [])
dot-append gamma p r i e h =
    let place : i + 1 - 1 ≡ length p = omega arith in
    rw place (mod-add-mod (terms gamma p) modulus (slice_index gamma (length p) * (r + 1)) ∙ ap (λ n. n % modulus) (sym (terms-append gamma p r (omega arith))))

pub dot-take_more : (gamma p : List ℕ) (r i : ℕ) → slice_get p i ≡ Some r → i < length gamma → (dot gamma (take i p) + coefficient gamma (i + 1) * (r + 1)) % modulus ≡ dot gamma (take (i + 1) p)
dot-take_more gamma p r i e h =
    let within : i < length p = slice_get_within p i r e in
    let more : take (i + 1) p ≡ take i p ++ r ∷ [] = rw add-one (take-suc p i r within ∙ ap (λ x. take i p ++ x ∷ []) (get_or_from_slice_get p i r r e)) in
    dot-append gamma (take i p) r i (simp length-take (omega arith)) h ∙ ap (dot gamma) (sym more)

past-from_none : {A : Type 0} (xs : List A) (i : ℕ) → slice_get xs i ≡ None → length xs ≤ i
past-from_none [] i e = omega arith
past-from_none (x ∷ xs) zero e = absurd (cc)
past-from_none (x ∷ xs) (suc i) e = let h : length xs ≤ i = past-from_none xs i e in omega arith

pub dot-take_all : (gamma p : List ℕ) (i : ℕ) → slice_get p i ≡ None → dot gamma (take i p) ≡ dot gamma p
dot-take_all gamma p i e = ap (dot gamma) (take_all i p (past-from_none p i e))
