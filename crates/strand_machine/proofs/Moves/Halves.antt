-- The halves of a loop that is split.
use Rattle.std.proofs.Common.{◌≡◌, ℕ, zero, suc, ◌<◌, ◌≤◌, Option, Some, None, refl, arith}
use Rattle.std.specs.Prelude.{IsNone, IfSome, ◌↔◌}
use Rattle.std.proofs.lemmas.Bool.{true≢false}
use Rattle.loop_range.specs.Range.{Range, lower_half, upper_half}

at-least-two : (n : ℕ) → (n < 2 → ⊥) → 2 ≤ n
at-least-two zero h = absurd (h (omega arith))
at-least-two (suc zero) h = absurd (h (omega arith))
at-least-two (suc (suc n)) h = omega arith

pub many : (n : ℕ) (r : Option (Range × Range)) (p : Range × Range) → r ≡ Some p → (IsNone r ↔ (n < 2)) → 2 ≤ n
many n r p e h = at-least-two n (λ few. let none : IsNone (Some p) = rw e at (h.1 few) in absurd (true≢false none))

pub halves : (range : Range) (r : Option (Range × Range)) (p : Range × Range) → r ≡ Some p → IfSome r (λ q. (q.0 ≡ lower_half range) × (q.1 ≡ upper_half range)) → (p.0 ≡ lower_half range) × (p.1 ≡ upper_half range)
halves range r p e h = rw e at h

pub only-one : (n : ℕ) (r : Option (Range × Range)) → r ≡ None → (IsNone r ↔ (n < 2)) → (n ≡ 0 → ⊥) → n ≡ 1
only-one n r e h some = let few : n < 2 = h.0 (rw e refl) in one n few some
  where
    one : (n : ℕ) → n < 2 → (n ≡ 0 → ⊥) → n ≡ 1
    one zero few some = absurd (some refl)
    one (suc zero) few some = refl
    one (suc (suc n)) few some = absurd (omega arith)
