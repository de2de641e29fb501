-- What stands before an event of an origin of the plan, and what before the start of its child, stands before the origin's start.
use Rattle.std.proofs.Common.{◌≡◌, ℕ, zero, suc, ◌-◌, ◌<◌, ◌≤◌, Bool, true, false, nat_lt, List, [], ◌∷◌, ◌++◌, Result, Ok, Err, refl, sym, ◌∙◌, subst, append-nil, arith, ◌⊎◌, inl, inr}
use Rattle.std.proofs.Common.{ℤ}
use Rattle.std.specs.Prelude.{Contains}
use Rattle.std.proofs.lemmas.Bool.Decides.{nat_tests}
use Rattle.loop_range.specs.Range.{Range}
use Rattle.ped_path.specs.Path.{IsBefore}
use Rattle.serial_meaning.specs.Answer.{AnswersFor, start_of}
use Rattle.serial_meaning.specs.Laws.{IsOriginOf, raising_pedigrees}
use Rattle.serial_meaning.specs.Plan.{PlanView}
use Rattle.serial_meaning.specs.Eval.{path_of, loop_evaluation, eval_below, eval, depth_left}
use Rattle.serial_meaning.specs.Open.{faults, faults_in}
use Rattle.serial_meaning.proofs.CutsBefore.Before.{BeforeOrBegins, before-begins, before-longer, before-later, ranks-before, rank-below}
use Rattle.serial_meaning.proofs.Equations.Each.{each-contained}
use Rattle.serial_meaning.proofs.LeastFault.Least.{NotBefore, LeastOf, least-in}
use Rattle.serial_meaning.proofs.RisingPedigrees.Order.{before-by_rank, before-prefix, before-before}
use Rattle.serial_meaning.proofs.RisingPedigrees.Rising.{AtMost}
use Rattle.serial_meaning.proofs.RisingPedigrees.RisingExec.{EndsAfter, eval-rises}
use Rattle.serial_meaning.proofs.OriginFaults.Scopes.{in-scope, not-at-loop}
use Rattle.serial_meaning.specs.declared.value.Value.{Value}
use Rattle.serial_meaning.specs.declared.event.Fault.{Fault}
use Rattle.serial_meaning.specs.declared.origin.Origin.{Origin}
use Rattle.serial_meaning.specs.declared.origin.Origin.TheVariants.{Instance, Loop}

-- a pedigree at an instance's path or below it, or below that of an iteration before a loop's end
abbrev pub StandsBelow : Origin → List ℕ → Type 0
StandsBelow (Instance function args path) j = (more : List ℕ) × (j ≡ path ++ more)
StandsBelow (Loop function rest first path range) j = (k : ℕ) × (more : List ℕ) × (j ≡ path ++ k ∷ more) × (k < range.hi)

-- What stands before such a pedigree, and for which the origin doesn't answer, stands before the origin's start.
pub before-start : (o : Origin) (at j : List ℕ) → (AnswersFor o at → ⊥) → IsBefore at j → StandsBelow o j → IsBefore at (start_of o)
before-start (Instance function args path) at j other b below = from (before-begins at path below.0 (subst (IsBefore at) below.1 b))
  where
    from : BeforeOrBegins at path → IsBefore at path
    from (inl h) = h
    from (inr h) = absurd (other h)
before-start (Loop function rest first path range) at j other b below = from (before-begins at path (below.0 ∷ below.1) (subst (IsBefore at) below.2 b))
  where
    by_rank : (x : ℕ) (xs : List ℕ) → at ≡ path ++ x ∷ xs → (c : Bool) → nat_lt x range.lo ≡ c → IsBefore at (path ++ range.lo ∷ [])
    by_rank x xs e true h =
        subst (λ (l : List ℕ). IsBefore l (path ++ range.lo ∷ [])) (sym e) (before-by_rank path x range.lo xs [] (grind (arith, nat_tests)))
    by_rank x xs e false h =
        let high : x ≤ below.0 = ranks-before path x below.0 xs below.1 (subst (λ (l : List ℕ). IsBefore l (path ++ below.0 ∷ below.1)) e (subst (IsBefore at) below.2 b)) in
        let low : range.lo ≤ x = grind (arith, nat_tests) in
        absurd (other (x, xs, e, low, omega (arith, high, below.3)))

    by_rest : (rest : List ℕ) → at ≡ path ++ rest → IsBefore at (path ++ range.lo ∷ [])
    by_rest [] e = subst (λ (l : List ℕ). IsBefore l (path ++ range.lo ∷ [])) (sym (e ∙ append-nil path)) (before-prefix path range.lo [])
    by_rest (x ∷ xs) e = by_rank x xs e (nat_lt x range.lo) refl

    from : BeforeOrBegins at path → IsBefore at (path ++ range.lo ∷ [])
    from (inl h) = before-longer at path (range.lo ∷ []) h
    from (inr h) = by_rest h.0 h.1

-- No fault of an origin's part of the open tree stands before an event of the origin: it would stand before the one by which the origin ends.
not-inside : (plan : PlanView) (o : Origin) (by : Fault) → Contains (faults_in plan o) by → (j : List ℕ) → IsBefore by.at j → Contains (raising_pedigrees (eval plan o).items) j → ⊥
not-inside plan o by h j b there = from (eval plan o).ending (least-in plan o) (eval-rises plan o).ends
  where
    from : (q : Result (List Value) Fault) → LeastOf (faults_in plan o) q → EndsAfter (path_of o) (raising_pedigrees (eval plan o).items) q → ⊥
    from (Ok vs) l n = let g : Contains [] by = subst (λ (fs : List Fault). Contains fs by) l h in absurd (omega (arith, g.1))
    from (Err f) l n = each-contained (NotBefore f) (faults_in plan o) by l.1 h (first (each-contained (AtMost f.at) (raising_pedigrees (eval plan o).items) j n.3 there))
      where
        first : IsBefore j f.at ⊎ (j ≡ f.at) → IsBefore by.at f.at
        first (inl h) = before-before by.at j f.at b h
        first (inr e) = subst (IsBefore by.at) e b

pub before-event : (plan : PlanView) (o : Origin) → IsOriginOf plan o → (by : Fault) → Contains (faults plan) by → (j : List ℕ) → IsBefore by.at j → Contains (raising_pedigrees (eval plan o).items) j → StandsBelow o j →
    IsBefore by.at (start_of o)
before-event plan o known by of_plan j b there below = before-start o by.at j (λ s. not-inside plan o by (in-scope plan o known by of_plan s) j b there) b below

-- A loop with an event has an iteration.
pub has-iterations : (plan : PlanView) (function : ℕ) (rest : List Value) (first : ℤ) (path : List ℕ) (range : Range) (j : List ℕ) →
    Contains (raising_pedigrees (eval plan (Loop function rest first path range)).items) j → 0 < range.hi
has-iterations plan function rest first path range j there = by_size (range.hi - range.lo) refl
  where
    by_size : (n : ℕ) → range.hi - range.lo ≡ n → 0 < range.hi
    by_size zero e =
        let none : Contains [] j = subst (λ (n : ℕ). Contains (raising_pedigrees (loop_evaluation (eval_below plan (depth_left plan (Loop function rest first path range))) function rest first path range.lo n).items) j) e there in
        absurd (omega (arith, none.1))
    by_size (suc n) e = omega arith

-- What stands before an iteration of a loop that ends by no earlier fault stands before the loop's first iteration.
pub before-part : (plan : PlanView) (function : ℕ) (rest : List Value) (first : ℤ) (path : List ℕ) (range : Range) → IsOriginOf plan (Loop function rest first path range) → (by : Fault) → Contains (faults plan) by →
    (from : ℕ) → from < range.hi → ((f : Fault) → (eval plan (Loop function rest first path range)).ending ≡ Err f → (k : ℕ) × (more : List ℕ) × (f.at ≡ path ++ k ∷ more) × (from ≤ k)) →
    IsBefore by.at (path ++ from ∷ []) → IsBefore by.at (path ++ range.lo ∷ [])
before-part plan function rest first path range known by of_plan from within ends b =
    before-start o by.at (path ++ from ∷ []) (λ s. inside (in-scope plan o known by of_plan s) (eval plan o).ending refl (least-in plan o)) b (from, [], refl, within)
  where
    o : Origin
    o = Loop function rest first path range

    inside : Contains (faults_in plan o) by → (q : Result (List Value) Fault) → (eval plan o).ending ≡ q → LeastOf (faults_in plan o) q → ⊥
    inside h (Ok vs) e l = let g : Contains [] by = subst (λ (fs : List Fault). Contains fs by) l h in absurd (omega (arith, g.1))
    inside h (Err f) e l =
        let at = ends f e in
        each-contained (NotBefore f) (faults_in plan o) by l.1 h (subst (IsBefore by.at) (sym at.2) (before-later by.at path from at.0 at.1 at.3 b))

-- What stands before the first iteration of an undivided loop stands before the loop.
pub before-loop : (plan : PlanView) (function : ℕ) (rest : List Value) (first : ℤ) (path : List ℕ) (range : Range) → IsOriginOf plan (Loop function rest first path range) → range.lo ≡ 0 →
    (by : Fault) → Contains (faults plan) by → IsBefore by.at (path ++ range.lo ∷ []) → IsBefore by.at path
before-loop plan function rest first path range known undivided by of_plan b = from (before-begins by.at path (range.lo ∷ []) b)
  where
    by_rest : (more : List ℕ) → by.at ≡ path ++ more → ⊥
    by_rest [] e = not-at-loop plan (Loop function rest first path range) known by of_plan tt (e ∙ append-nil path)
    by_rest (x ∷ xs) e =
        let low : x < range.lo = rank-below path x range.lo xs (subst (λ (l : List ℕ). IsBefore l (path ++ range.lo ∷ [])) e b) in absurd (omega (arith, low, undivided))

    from : BeforeOrBegins by.at path → IsBefore by.at path
    from (inl h) = h
    from (inr h) = absurd (by_rest h.0 h.1)
