-- The least of the violations is one, and stands first.
use Rattle.std.proofs.Common.{◌≡◌, ℕ, ◌<◌, ◌≤◌, false, ◌||◌, ◌&&◌, nat_eq, nat_lt, ◌⊎◌, inl, inr, arith}
use Rattle.std.proofs.lemmas.Bool.{cases_lt}
use Rattle.std.proofs.lemmas.Bool.Decides.{nat_tests}
use Rattle.std.proofs.lemmas.List.Elements.{All-contains}
use Rattle.script_check.specs.Violations.{violation, is_before}
use Rattle.script_check.specs.Valid.{violations}
use Rattle.script_check.specs.Laws.{FaultIsUnique, FaultIsFirst}

-- of a violation with the number m at a, and one with n at b
same_number : (a m b n : ℕ) → (nat_lt a b || (nat_eq a b && nat_lt m n)) ≡ false → (nat_lt b a || (nat_eq b a && nat_lt n m)) ≡ false → m ≡ n
same_number a m b n g h = grind (arith, nat_tests)

same_place : (a m b n : ℕ) → (nat_lt a b || (nat_eq a b && nat_lt m n)) ≡ false → (nat_lt b a || (nat_eq b a && nat_lt n m)) ≡ false → a ≡ b
same_place a m b n g h = grind (arith, nat_tests)

at_place : (a m b n : ℕ) → (nat_lt b a || (nat_eq b a && nat_lt n m)) ≡ false → b ≤ a → a ≡ b
at_place a m b n h g = grind (arith, nat_tests)

least_there : (a m b n : ℕ) → (nat_lt b a || (nat_eq b a && nat_lt n m)) ≡ false → a ≡ b → m ≤ n
least_there a m b n h e = grind (arith, nat_tests)

not_after : (a m b n : ℕ) → (nat_lt b a || (nat_eq b a && nat_lt n m)) ≡ false → (a < b) ⊎ ((a ≡ b) × (m ≤ n))
not_after a m b n h = elim (cases_lt a b) [ inl first ↦ inl first | inr later ↦ inr (at_place a m b n h later, least_there a m b n h (at_place a m b n h later)) ]

pub fault_unique : FaultIsUnique
fault_unique script number at other place f g =
    let v = violation number at in
    let w = violation other place in
    let right = All-contains (λ u. is_before u w ≡ false) (violations script) v g.least f.violated in
    let left = All-contains (λ u. is_before u v ≡ false) (violations script) w f.least g.violated in
    (same_number at number place other right left, same_place at number place other right left)

pub fault_first : FaultIsFirst
fault_first script number at f = λ k d h. not_after at number _ _ (f.least k d h)
