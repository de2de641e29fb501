-- The order of lists: where neither goes on beside the other, and where it says that they are the same.
use Rattle.std.proofs.Common.{◌≡◌, ◌≤◌, ℕ, ◌-◌, List, [], ◌∷◌, drop, length, min, refl, ◌∙◌, arith, length-drop}
use Rattle.std.specs.Bool.{Decides}
use Rattle.std.specs.Cmp.{nat_cmp_is}
use Rattle.std.specs.Cmp.Lexicographic.{slice_cmp}
use Rattle.std.specs.Ordering.{nat_cmp, is_eq}
use Rattle.std.specs.declared.cmp.Ordering.TheVariants.{Less, Greater}
use Rattle.std.proofs.lemmas.Bool.Decides.{nat_tests}
use Rattle.std.proofs.lemmas.Map.Text.{is_eq-slice_cmp}
use Rattle.std.proofs.lemmas.Slice.Eq.{bytes_eq-Decides}

-- where one list is empty
slice_cmp-empty : (p q : List ℕ) → min (length p) (length q) ≡ 0 → slice_cmp nat_cmp p q ≡ nat_cmp (length p) (length q)
slice_cmp-empty [] [] h = refl
slice_cmp-empty [] (s ∷ q) h = nat_cmp_is 0 (length (s ∷ q)) Less (omega arith)
slice_cmp-empty (r ∷ p) [] h = nat_cmp_is (length (r ∷ p)) 0 Greater (omega arith)
slice_cmp-empty (r ∷ p) (s ∷ q) h = absurd (omega arith)

nat_cmp-less : (i m n : ℕ) → i ≤ m → i ≤ n → nat_cmp (m - i) (n - i) ≡ nat_cmp m n
nat_cmp-less i m n h k = grind (arith, nat_tests)

-- where nothing is left of the shorter list
pub slice_cmp-drop_min : (i : ℕ) (p q : List ℕ) → min (length p) (length q) ≡ i → slice_cmp nat_cmp (drop i p) (drop i q) ≡ nat_cmp (length p) (length q)
slice_cmp-drop_min i p q h =
    slice_cmp-empty (drop i p) (drop i q) (simp length-drop (omega arith)) ∙ simp length-drop (nat_cmp-less i (length p) (length q) (omega arith) (omega arith))

pub is_eq-slice_cmp-decides : (p q : List ℕ) → Decides (is_eq (slice_cmp nat_cmp p q)) (p ≡ q)
is_eq-slice_cmp-decides p q = rw (is_eq-slice_cmp p q) (bytes_eq-Decides p q)
