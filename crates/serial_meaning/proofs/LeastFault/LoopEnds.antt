-- Of the faults of a loop's iterations the first is the least.
use Rattle.std.proofs.Common.{◌≡◌, ℕ, zero, suc, ◌+◌, ◌-◌, ◌≤◌, false, if◌then◌else◌, List, [], ◌∷◌, ◌++◌, Result, Ok, Err, refl, ap, ◌∙◌, subst, append_assoc, arith}
use Rattle.std.proofs.Common.{ℤ}
use Rattle.std.specs.Cmp.Lexicographic.{slice_cmp}
use Rattle.std.specs.Ordering.{nat_cmp, is_lt}
use Rattle.std.specs.declared.cmp.Ordering.{Ordering}
use Rattle.std.specs.declared.cmp.Ordering.TheVariants.{Less, Equal, Greater}
use Rattle.serial_meaning.specs.Runs.{done, continued, ◌then◌}
use Rattle.serial_meaning.specs.Plan.{PlanView}
use Rattle.serial_meaning.specs.Eval.{Evaluation, iteration, loop_evaluation, path_of, eval_below, depth_left}
use Rattle.serial_meaning.specs.Open.{lesser, loop_end, iterations, both, gathered, faults_below}
use Rattle.serial_meaning.specs.Laws.{LoopsEndAlike}
use Rattle.serial_meaning.proofs.RisingPedigrees.Order.{before-by_rank, not_before-back}
use Rattle.serial_meaning.proofs.Equations.Each.{each-contained}
use Rattle.serial_meaning.proofs.LeastFault.Least.{Under, LeastOf, faults_below-under, least-below}
use Rattle.serial_meaning.specs.declared.value.Value.{Value}
use Rattle.serial_meaning.specs.declared.event.Fault.{Fault}
use Rattle.serial_meaning.specs.declared.event.Event.{Event}
use Rattle.serial_meaning.specs.declared.origin.Origin.{Origin}
use Rattle.serial_meaning.specs.declared.origin.Origin.TheVariants.{Loop}

not_lt : (o : Ordering) → (o ≡ Less → ⊥) → is_lt o ≡ false
not_lt Less h = absurd (h refl)
not_lt Equal h = refl
not_lt Greater h = refl

-- below the path, at a rank from k on
abbrev From : List ℕ → ℕ → Fault → Type 0
From path k f = (j : ℕ) × (more : List ℕ) × (f.at ≡ path ++ j ∷ more) × (k ≤ j)

from-lower : (path : List ℕ) (k : ℕ) (f : Fault) → From path (k + 1) f → From path k f
from-lower path k f h = let low : k + 1 ≤ h.0 = h.3 in (h.0, h.1, h.2, omega arith)

-- Of two faults at different ranks the one at the lower rank is less.
lesser-first : (path : List ℕ) (k : ℕ) (more : List ℕ) (f g : Fault) → f.at ≡ path ++ k ∷ more → From path (k + 1) g → lesser f g ≡ f
lesser-first path k more f g e h =
    let low : k + 1 ≤ h.0 = h.3 in
    let before = before-by_rank path k h.0 more h.1 (omega arith) in
    ap (λ b. if b then g else f)
    (not_lt (slice_cmp nat_cmp g.at f.at) (λ x. not_before-back (path ++ k ∷ more) (path ++ h.0 ∷ h.1) before (subst (λ z. slice_cmp nat_cmp z (path ++ k ∷ more) ≡ Less) h.2 (subst (λ z. slice_cmp nat_cmp g.at z ≡ Less) e x))))

ok_or_err : (vs : List Value) (f : Fault) → ◌≡◌ {A = Result (List Value) Fault} (Ok vs) (Err f) → ⊥
ok_or_err vs f e = cc

one_err : (f g : Fault) → ◌≡◌ {A = Result (List Value) Fault} (Err f) (Err g) → f ≡ g
one_err f g e = cc

module _ (child : Origin → Evaluation) (under : (o : Origin) (f : Fault) → (child o).ending ≡ Err f → Under (path_of o) f) (function : ℕ) (rest : List Value) (first : ℤ) (path : List ℕ) where
  abbrev all : ℕ → ℕ → Evaluation
  all k n = loop_evaluation child function rest first path k n

  at-iteration : (k : ℕ) (f : Fault) → (child (iteration function rest first path k)).ending ≡ Err f → (more : List ℕ) × (f.at ≡ path ++ k ∷ more)
  at-iteration k f e = let u = under (iteration function rest first path k) f e in (u.0 ∷ u.1, u.2 ∙ append_assoc path (k ∷ []) (u.0 ∷ u.1))

  turns-from : (k n : ℕ) (f : Fault) → (all k n).ending ≡ Err f → From path k f
  turns-from k zero f e = absurd (ok_or_err [] f e)
  turns-from k (suc n) f e = by_end (child (iteration function rest first path k)).items (child (iteration function rest first path k)).ending refl e (turns-from (k + 1) n f)
    where
      later : (vs : List Value) (items : List Event) (q : Result (List Value) Fault) → (all (k + 1) n).ending ≡ q → (continued items q (λ ws. done (vs ++ ws))).ending ≡ Err f →
          ((all (k + 1) n).ending ≡ Err f → From path (k + 1) f) → From path k f
      later vs items (Ok ws) g h after = absurd (ok_or_err (vs ++ ws) f h)
      later vs items (Err x) g h after = from-lower path k f (after (g ∙ h))

      by_end : (items : List Event) (q : Result (List Value) Fault) → (child (iteration function rest first path k)).ending ≡ q →
          (continued items q (λ vs. all (k + 1) n then λ ws. done (vs ++ ws))).ending ≡ Err f → ((all (k + 1) n).ending ≡ Err f → From path (k + 1) f) → From path k f
      by_end items (Ok vs) g h after = later vs (all (k + 1) n).items (all (k + 1) n).ending refl h after
      by_end items (Err x) g h after = let a = at-iteration k f (g ∙ h) in (k, a.0, a.1, omega arith)

  gathered-turns : (k n : ℕ) → gathered child (iterations function rest first path k n) ≡ (all k n).ending
  gathered-turns k zero = refl
  gathered-turns k (suc n) =
      ap (both (child (iteration function rest first path k)).ending) (gathered-turns (k + 1) n)
      ∙ by_end (child (iteration function rest first path k)).items (child (iteration function rest first path k)).ending refl (all (k + 1) n).items (all (k + 1) n).ending refl
    where
      by_end : (items : List Event) (q : Result (List Value) Fault) → (child (iteration function rest first path k)).ending ≡ q → (more : List Event) (r : Result (List Value) Fault) → (all (k + 1) n).ending ≡ r →
          both q r ≡ (continued items q (λ vs. continued more r (λ ws. done (vs ++ ws)))).ending
      by_end items (Ok vs) e more (Ok ws) g = refl
      by_end items (Ok vs) e more (Err y) g = refl
      by_end items (Err x) e more (Ok ws) g = refl
      by_end items (Err x) e more (Err y) g = let a = at-iteration k x e in ap Err (lesser-first path k a.0 x y a.1 (turns-from (k + 1) n y g))

ends-under : (plan : PlanView) (left : ℕ) (o : Origin) (f : Fault) → (eval_below plan left o).ending ≡ Err f → Under (path_of o) f
ends-under plan left o f e =
    let l : LeastOf (faults_below plan left o) (Err f) = subst (LeastOf (faults_below plan left o)) e (least-below plan left o) in
    each-contained (Under (path_of o)) (faults_below plan left o) f (faults_below-under plan left o) l.0

pub loops_end_alike : LoopsEndAlike
loops_end_alike plan function rest first path range =
    let left = depth_left plan (Loop function rest first path range) in
    ap loop_end (gathered-turns (eval_below plan left) (ends-under plan left) function rest first path range.lo (range.hi - range.lo))
