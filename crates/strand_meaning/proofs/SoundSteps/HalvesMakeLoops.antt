-- Parts of loops.
use Rattle.std.proofs.Common.{◌≡◌, ℕ, zero, suc, ◌+◌, ◌-◌, ◌<◌, ◌≤◌, List, [], ◌++◌, Result, Ok, Err, length, map, refl, sym, ap, ◌∙◌, append_assoc, append-nil, subst, arith}
use Rattle.std.proofs.Common.{ℤ}
use Rattle.std.specs.Prelude.{Contains}
use Rattle.loop_range.specs.Range.{Range, middle, lower_half, upper_half}
use Rattle.serial_meaning.specs.Runs.{Run, done, continued, ◌then◌}
use Rattle.serial_meaning.specs.Plan.{PlanView}
use Rattle.serial_meaning.specs.Eval.{Evaluation, iteration, path_of, loop_evaluation, eval_with, eval_below, eval}
use Rattle.serial_meaning.specs.Open.{Child, iterations, node_of}
use Rattle.serial_meaning.specs.Laws.{IsOriginOf, Main, ChildOf, PartOf}
use Rattle.serial_meaning.proofs.OriginFaults.Levels.{enough}
use Rattle.serial_meaning.proofs.Equations.RunLaws.{then-then, then-same}
use Rattle.serial_meaning.specs.declared.value.Value.{Value}
use Rattle.serial_meaning.specs.declared.origin.Origin.{Origin}
use Rattle.serial_meaning.specs.declared.origin.Origin.TheVariants.{Instance, Loop}
use Rattle.strand_meaning.specs.Task.{own_instance}
use Rattle.strand_meaning.specs.Sound.{IsInstanceOrLoop}
use Rattle.strand_meaning.proofs.SoundSteps.OriginsFitDepth.{longer}
use Rattle.strand_meaning.proofs.Unfilled.UntouchedStays.{first-contained, later-contained}

pub then-done : {I E A : Type 0} (r : Run I E A) → (r then λ a. done a) ≡ r
then-done {I} {E} {A} r = from r.items r.ending
  where
    from : (items : List I) (e : Result A E) → continued items e (λ a. done a) ≡ record { items = items; ending = e }
    from items (Ok a) = ap (λ (l : List I). record { items = l; ending = Ok a }) (append-nil items)
    from items (Err e) = refl

module _ (function : ℕ) (rest : List Value) (first : ℤ) (path : List ℕ) where
  abbrev turn : ℕ → Origin
  turn k = iteration function rest first path k

  turns-same : (some other : Origin → Evaluation) → ((k : ℕ) → some (turn k) ≡ other (turn k)) → (k n : ℕ) → loop_evaluation some function rest first path k n ≡ loop_evaluation other function rest first path k n
  turns-same some other same k zero = refl
  turns-same some other same k (suc n) =
      ap (λ (r : Evaluation). r then λ vs. loop_evaluation some function rest first path (k + 1) n then λ ws. done (vs ++ ws)) (same k)
      ∙ then-same (other (turn k)) _ _ (λ vs h. ap (λ (r : Evaluation). r then λ ws. done (vs ++ ws)) (turns-same some other same (k + 1) n))

  -- A loop's iterations are those of its first part and then those of its second one.
  turns-split : (child : Origin → Evaluation) (k n m : ℕ) →
      loop_evaluation child function rest first path k (n + m) ≡ (loop_evaluation child function rest first path k n then λ vs. loop_evaluation child function rest first path (k + n) m then λ ws. done (vs ++ ws))
  turns-split child k zero m =
      let sum : zero + m ≡ m = omega arith in
      let place : k ≡ k + zero = omega arith in
      ap (loop_evaluation child function rest first path k) sum ∙ sym (then-done (loop_evaluation child function rest first path k m)) ∙ ap (λ (j : ℕ). loop_evaluation child function rest first path j m then λ ws. done ws) place
  turns-split child k (suc n) m =
      let sum : suc n + m ≡ suc (n + m) = omega arith in
      ap (loop_evaluation child function rest first path k) sum
      ∙ then-same (child (turn k)) _ _ (λ vs h. again vs (turns-split child (k + 1) n m))
      ∙ sym (then-then (child (turn k)) (λ vs. loop_evaluation child function rest first path (k + 1) n then λ ws. done (vs ++ ws)) (λ vs. loop_evaluation child function rest first path (k + suc n) m then λ ws. done (vs ++ ws)))
    where
      later : (k : ℕ) → Evaluation
      later j = loop_evaluation child function rest first path j m

      again : (vs : List Value) → loop_evaluation child function rest first path (k + 1) (n + m) ≡ (loop_evaluation child function rest first path (k + 1) n then λ us. later (k + 1 + n) then λ ws. done (us ++ ws)) →
          (loop_evaluation child function rest first path (k + 1) (n + m) then λ ws. done (vs ++ ws)) ≡ ((loop_evaluation child function rest first path (k + 1) n then λ ws. done (vs ++ ws)) then λ us. later (k + suc n) then λ ws. done (us ++ ws))
      again vs split =
          let place : k + 1 + n ≡ k + suc n = omega arith in
          ap (λ (r : Evaluation). r then λ ws. done (vs ++ ws)) split
          ∙ then-then (loop_evaluation child function rest first path (k + 1) n) (λ us. later (k + 1 + n) then λ ws. done (us ++ ws)) (λ ws. done (vs ++ ws))
          ∙ then-same (loop_evaluation child function rest first path (k + 1) n) _ _ (λ us h. then-then (later (k + 1 + n)) (λ ws. done (us ++ ws)) (λ ws. done (vs ++ ws))
          ∙ then-same (later (k + 1 + n)) _ _ (λ ws g. ap (λ (l : List Value). done l) (sym (append_assoc vs us ws)))
          ∙ ap (λ (j : ℕ). later j then λ ws. done ((vs ++ us) ++ ws)) place)
          ∙ sym (then-then (loop_evaluation child function rest first path (k + 1) n) (λ ws. done (vs ++ ws)) (λ us. later (k + suc n) then λ ws. done (us ++ ws)))

  -- The evaluation of a loop is that of its iterations in order.
  pub eval-loop : (plan : PlanView) (range : Range) → length path + 2 ≤ plan.limits.depth → eval plan (Loop function rest first path range) ≡ loop_evaluation (eval plan) function rest first path range.lo (range.hi - range.lo)
  eval-loop plan range deep = turns-same (eval_below plan (plan.limits.depth - length path)) (eval plan) below-is range.lo (range.hi - range.lo)
    where
      below-is : (k : ℕ) → eval_below plan (plan.limits.depth - length path) (turn k) ≡ eval plan (turn k)
      below-is k = enough plan (done []) (eval_with plan) (plan.limits.depth - length path) (turn k) (let n = longer path k in omega (arith, n))

  -- Two halves are the whole.
  pub halves-turns : (plan : PlanView) (left : Range) → left.lo + 2 ≤ left.hi → length path + 2 ≤ plan.limits.depth →
      loop_evaluation (eval plan) function rest first path left.lo (left.hi - left.lo)
      ≡ (eval plan (Loop function rest first path (lower_half left)) then λ vs. loop_evaluation (eval plan) function rest first path (upper_half left).lo ((upper_half left).hi - (upper_half left).lo) then λ ws. done (vs ++ ws))
  halves-turns plan left long deep =
      ap (loop_evaluation (eval plan) function rest first path left.lo) sizes
      ∙ turns-split (eval plan) left.lo (middle left - left.lo) (left.hi - middle left)
      ∙ ap (λ (j : ℕ). loop_evaluation (eval plan) function rest first path left.lo (middle left - left.lo) then λ vs. loop_evaluation (eval plan) function rest first path j (left.hi - middle left) then λ ws. done (vs ++ ws)) second
      ∙ ap (λ (r : Evaluation). r then λ vs. loop_evaluation (eval plan) function rest first path (middle left) (left.hi - middle left) then λ ws. done (vs ++ ws)) (sym (eval-loop plan (lower_half left) deep))
    where
      sizes : left.hi - left.lo ≡ (middle left - left.lo) + (left.hi - middle left)
      sizes = omega arith

      second : left.lo + (middle left - left.lo) ≡ middle left
      second = omega arith

  pub contains-turn : (k n i : ℕ) → k ≤ i → i < k + n → Contains (map Child (iterations function rest first path k n)) (Child (turn i))
  contains-turn k zero i a b = absurd (omega arith)
  contains-turn k (suc n) i a b = by_place (i - k) refl (λ h. contains-turn (k + 1) n i h (omega arith))
    where
      by_place : (d : ℕ) → i - k ≡ d → (k + 1 ≤ i → Contains (map Child (iterations function rest first path (k + 1) n)) (Child (turn i))) → Contains (map Child (iterations function rest first path k (suc n))) (Child (turn i))
      by_place zero e later = let same : k ≡ i = omega arith in subst (λ j. Contains (map Child (iterations function rest first path k (suc n))) (Child (turn j))) same (first-contained (Child (turn k)) (map Child (iterations function rest first path (k + 1) n)))
      by_place (suc d) e later = later-contained (Child (turn k)) (Child (turn i)) (map Child (iterations function rest first path (k + 1) n)) (later (omega arith))

-- the instance that a task runs itself is an origin of the plan
pub own-of-plan : (plan : PlanView) (o : Origin) → IsOriginOf plan o → IsInstanceOrLoop o → IsOriginOf plan (own_instance o)
own-of-plan plan (Instance function args path) h k = h
own-of-plan plan (Loop function rest first path range) h k =
    let o = Loop function rest first path range in
    ChildOf o (iteration function rest first path (range.hi - 1)) h
    (contains-turn function rest first path range.lo (range.hi - range.lo) (range.hi - 1) (omega arith) (omega arith))

-- What of an origin is a loop

abbrev function_in : ℕ → Origin → ℕ
function_in d (Instance function args path) = d
function_in d (Loop function rest first path range) = function

abbrev rest_in : List Value → Origin → List Value
rest_in d (Instance function args path) = d
rest_in d (Loop function rest first path range) = rest

abbrev first_in : ℤ → Origin → ℤ
first_in d (Instance function args path) = d
first_in d (Loop function rest first path range) = first

abbrev range_in : Range → Origin → Range
range_in d (Instance function args path) = d
range_in d (Loop function rest first path range) = range

-- a part of a loop is an origin of the plan
pub part-of-loop : (plan : PlanView) (function : ℕ) (rest : List Value) (first : ℤ) (path : List ℕ) (range part : Range) (o : Origin) → IsOriginOf plan o → o ≡ Loop function rest first path range →
    range.lo ≤ part.lo → part.lo ≤ part.hi → part.hi ≤ range.hi → IsOriginOf plan (Loop function rest first path part)
part-of-loop plan function rest first path range part o Main e a b c = absurd (cc)
part-of-loop plan function rest first path range part o (ChildOf parent child h k) e a b c =
    PartOf parent function rest first path range part h (subst (λ (d : Origin). Contains (node_of plan parent).items (Child d)) e k) a b c
part-of-loop plan function rest first path range part o (PartOf parent f r g p whole range' h k w x y) e a b c =
    let function-is : f ≡ function = ap (function_in f) e in
    let rest-is : r ≡ rest = ap (rest_in r) e in
    let first-is : g ≡ first = ap (first_in g) e in
    let path-is : p ≡ path = ap path_of e in
    let range-is : range' ≡ range = ap (range_in range') e in
    let there : Contains (node_of plan parent).items (Child (Loop function rest first path whole)) =
    subst (λ n. Contains (node_of plan parent).items (Child (Loop n rest first path whole))) function-is
    (subst (λ l. Contains (node_of plan parent).items (Child (Loop f l first path whole))) rest-is
    (subst (λ n. Contains (node_of plan parent).items (Child (Loop f r n path whole))) first-is
    (subst (λ l. Contains (node_of plan parent).items (Child (Loop f r g l whole))) path-is k))) in
    PartOf parent function rest first path whole part h there (within_lo range-is) b (within_hi range-is)
  where
    within_lo : range' ≡ range → whole.lo ≤ part.lo
    within_lo same = let lo : range'.lo ≡ range.lo = ap (λ (r : Range). r.lo) same in omega arith

    within_hi : range' ≡ range → part.hi ≤ whole.hi
    within_hi same = let hi : range'.hi ≡ range.hi = ap (λ (r : Range). r.hi) same in omega arith
