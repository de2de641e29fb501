-- Lists whose items are taken in order.
use Rattle.std.proofs.Common.{◌≡◌, ◌<◌, ◌≤◌, ◌+◌, ◌-◌, ℕ, zero, suc, Option, None, Some, List, [], ◌∷◌, ◌++◌, get_or, length, length-append, take, set, refl, sym, ap, ◌∙◌, arith}
use Rattle.std.specs.Prelude.{IfNone, IfSome, MatchOption, option_to_list, swap_remove}
use Rattle.std.proofs.lemmas.List.{nil_from_length}
use Rattle.strand_machine.specs.InTurn.{in_turn}

later : (n : ℕ) → suc n ≡ n + 1
later n = omega arith

module _ {A : Type 0} where
  pub turns-none : (taken : ℕ) → in_turn {A = A} taken [] ≡ []
  turns-none zero = refl
  turns-none (suc taken) = refl

  last-there : (xs : List A) (n : ℕ) (d : A) → length xs ≡ suc n → xs ≡ take n xs ++ get_or xs n d ∷ []
  last-there [] n d h = absurd (omega arith)
  last-there (x ∷ []) zero d h = refl
  last-there (x ∷ []) (suc n) d h = absurd (omega arith)
  last-there (x ∷ y ∷ ys) zero d h = absurd (omega arith)
  last-there (x ∷ y ∷ ys) (suc n) d h = ap (λ (l : List A). x ∷ l) (last-there (y ∷ ys) n d (omega arith))

  -- one from the first half, with the last item in its place
  pub turn-swaps : (xs : List A) (taken n : ℕ) (d : A) → length xs ≡ suc n → taken < n → in_turn taken xs ≡ get_or xs taken d ∷ in_turn (suc taken) (take n (set xs taken (get_or xs n d)))
  turn-swaps [] taken n d h k = absurd (omega arith)
  turn-swaps (x ∷ xs) taken zero d h k = absurd (omega arith)
  turn-swaps (x ∷ xs) zero (suc n) d h k = ap (λ (l : List A). x ∷ l) (last-there xs n d (omega arith))
  turn-swaps (x ∷ xs) (suc taken) (suc n) d h k = ap (λ (l : List A). l ++ x ∷ []) (turn-swaps xs taken n d (omega arith) (omega arith))

  -- one from the end
  pub turn-pops : (ys : List A) (x : A) (taken : ℕ) → length ys ≤ taken → in_turn taken (ys ++ x ∷ []) ≡ x ∷ in_turn (suc taken) ys
  turn-pops [] x zero h = refl
  turn-pops [] x (suc taken) h = ap (λ (l : List A). l ++ x ∷ []) (turns-none taken)
  turn-pops (y ∷ ys) x zero h = absurd (omega arith)
  turn-pops (y ∷ ys) x (suc taken) h = ap (λ (l : List A). l ++ y ∷ []) (turn-pops ys x taken (omega arith))

  -- the same of what `swap_remove` and `pop` give

  pub turn-of-swap : (xs ys : List A) (x : A) (taken : ℕ) → taken + 1 < length xs → x ≡ get_or xs taken x → ys ≡ swap_remove xs taken x → in_turn taken xs ≡ x ∷ in_turn (taken + 1) ys
  turn-of-swap xs ys x taken within is left =
      let n : ℕ = length xs - 1 in
      let long : length xs ≡ suc n = omega arith in
      let inside : taken < n = omega arith in
      turn-swaps xs taken n x long inside
      ∙ ap (λ (y : A). y ∷ in_turn (suc taken) (swap_remove xs taken x)) (sym is)
      ∙ ap (λ (l : List A). x ∷ in_turn (suc taken) l) (sym left)
      ∙ ap (λ (m : ℕ). x ∷ in_turn m ys) (later taken)

  pub turn-of-pop : (r : Option A) (xs ys : List A) (taken : ℕ) → xs ≡ ys ++ option_to_list r → length xs ≤ taken + 1 → IfSome r (λ x. in_turn taken xs ≡ x ∷ in_turn (taken + 1) ys)
  turn-of-pop None xs ys taken is few = tt
  turn-of-pop (Some x) xs ys taken is few =
      let shorter : length ys ≤ taken = omega (arith, few, ap length is, length-append ys (x ∷ [])) in
      ap (in_turn taken) is ∙ turn-pops ys x taken shorter ∙ ap (λ (m : ℕ). x ∷ in_turn m ys) (later taken)

  pub fewer-of-pop : (r : Option A) (xs ys : List A) → xs ≡ ys ++ option_to_list r → IfSome r (λ x. length xs ≡ length ys + 1)
  fewer-of-pop None xs ys is = tt
  fewer-of-pop (Some x) xs ys is = omega (arith, ap length is, length-append ys (x ∷ []))

  pub none-of-pop : (r : Option A) (xs : List A) (old new : ℕ) → old ≡ length xs → MatchOption r ((old ≡ 0) × (new ≡ 0)) (λ x. new + 1 ≡ old) → IfNone r (xs ≡ [])
  none-of-pop None xs old new is h = nil_from_length xs (sym is ∙ h.0)
  none-of-pop (Some x) xs old new is h = tt
