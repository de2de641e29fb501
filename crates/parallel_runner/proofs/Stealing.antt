-- The first thief whose steal took a task.
use Rattle.std.proofs.Common.{◌≡◌, ℕ, ◌<◌, ◌≤◌, List, length, get_or, set, sym, ap, ◌∙◌, subst}
use Rattle.std.proofs.lemmas.List.{set-get_or, get_or-set_same, get_or-set_other, length-set}
use native.Mathlib.Omega.{arith}
use Rattle.steal_deck.specs.Ends.{ThiefEnd, Steals}
use Rattle.strand_machine.specs.Tasks.{TaskView}
use Rattle.parallel_runner.specs.Hands.{missed, FirstSteals}

-- what stands at a place that there is doesn't depend on what stands for the others
there : (xs : List (ThiefEnd TaskView)) (i : ℕ) (d e : ThiefEnd TaskView) → i < length xs → get_or xs i d ≡ get_or xs i e
there xs i d e h = ap (λ l. get_or l i d) (sym (set-get_or xs i e)) ∙ get_or-set_same xs i (get_or xs i e) d h

pub first-steals : (before now : List (ThiefEnd TaskView)) (i : ℕ) (t : TaskView) (x y : ThiefEnd TaskView) → length now ≡ length before →
    ((k : ℕ) (d : ThiefEnd TaskView) → k < i → get_or now k d ≡ missed (get_or before k d)) →
    ((k : ℕ) (d : ThiefEnd TaskView) → i ≤ k → get_or now k d ≡ get_or before k d) →
    i < length now → Steals (get_or now i x) t y → FirstSteals before t (set now i y)
first-steals before now i t x y count miss same within took = record {
  fruitless = i;
  within = subst (λ n. i < n) count within;
  count = length-set now i y ∙ count;
  miss = λ k d h. get_or-set_other now i k y d (λ e. omega (arith, h, e)) ∙ miss k d h;
  take = λ d.
      subst (λ z. Steals (get_or before i d) t z) (sym (get_or-set_same now i y d within))
      (subst (λ z. Steals z t y) (there now i x d within ∙ same i d (omega arith)) took);
  rest = λ k d h. get_or-set_other now i k y d (λ e. omega (arith, h, e)) ∙ same k d (omega (arith, h));
}
