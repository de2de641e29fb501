use Rattle.std.proofs.Common.{◌≡◌, ◌≢◌, ℕ, zero, suc, ◌<◌, Bool, true, false, Some, List, [], ◌∷◌, replicate, set, slice_get, refl, ap, ◌∙◌, arith}
use Rattle.test_joins.proofs.tests.joins.take_64.Goals as goal

none_taken : (n k : ℕ) → k < n → slice_get (replicate n false) k ≡ Some false
none_taken zero k lt = absurd (omega arith)
none_taken (suc n) zero lt = refl
none_taken (suc n) (suc k) lt = none_taken n k (omega arith)

other_kept : (bs : List Bool) (i k : ℕ) → k ≢ i → slice_get (set bs i true) k ≡ slice_get bs k
other_kept [] i k ne = refl
other_kept (b ∷ bs) zero zero ne = absurd (ne refl)
other_kept (b ∷ bs) zero (suc k) ne = refl
other_kept (b ∷ bs) (suc i) zero ne = refl
other_kept (b ∷ bs) (suc i) (suc k) ne = other_kept bs i k (λ e. ne (ap suc e))

pub loop-i-init : goal.loop-i-init
loop-i-init g c = record { ready = c.requires.ready; left = λ k from lt. ap (λ bs. slice_get bs k) c.requires.left ∙ none_taken 64 k lt }

pub loop-i-preserved : goal.loop-i-preserved
loop-i-preserved g c = record {
  ready = ap (λ j. j.ready) c.take-taken.ensures.taken;
  left = λ k from lt. ap (λ j. slice_get j.taken k) c.take-taken.ensures.taken
      ∙ other_kept c.loop-i.join.children.taken c.loop-i.i-counter k (λ e. absurd (omega arith))
      ∙ c.loop-i.invariant.left k (omega arith) lt;
}
