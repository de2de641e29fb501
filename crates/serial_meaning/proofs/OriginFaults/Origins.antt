-- A fault by which an origin of the plan ends is one of the open tree's.
use Rattle.std.proofs.Common.{◌≡◌, ℕ, zero, suc, ◌+◌, ◌-◌, ◌<◌, ◌≤◌, Bool, true, false, List, [], ◌∷◌, ◌++◌, Option, Some, None, Result, Ok, Err, length, length-append, map, slice_index_or, nat_lt, if◌then◌else◌, refl, sym, ap, ◌∙◌, subst, arith, ◌⊎◌, inl, inr}
use Rattle.std.proofs.Common.{ℤ}
use Rattle.std.specs.Prelude.{Contains}
use Rattle.std.proofs.lemmas.Bool.Decides.{nat_tests}
use Rattle.std.proofs.lemmas.List.Elements.{Contains-append_left, Contains-append_right, Contains-append_cases}
use Rattle.loop_range.specs.Range.{Range}
use Rattle.serial_meaning.specs.Laws.{IsOriginOf, Main, ChildOf, PartOf, EndsWithin}
use Rattle.serial_meaning.specs.Runs.{done}
use Rattle.serial_meaning.specs.Functions.{function_at}
use Rattle.serial_meaning.specs.Plan.{PlanView, functions_of}
use Rattle.serial_meaning.specs.Exec.{State, strand, loop_fits}
use Rattle.serial_meaning.specs.Eval.{Evaluation, iteration, path_of, eval_with, eval_below, eval, depth_left}
use Rattle.serial_meaning.specs.Open.{Item, Happened, Child, Opened, Closed, NodeFault, deferring, unless_child_faulted, loop_end, is_zero, iterations, gathered, node_with, node_of, own_fault, faults_of, faults_with, faults_below, faults_in, faults}
use Rattle.serial_meaning.proofs.Equations.Each.{Each, each-contained, Parts, instance-each}
use Rattle.serial_meaning.proofs.LeastFault.Children.{IsAt, children, node-spread}
use Rattle.serial_meaning.proofs.OriginFaults.Levels.{enough}
use Rattle.serial_meaning.proofs.LeastFault.Least.{LeastOf, least-in}
use Rattle.serial_meaning.specs.declared.value.Value.{Value}
use Rattle.serial_meaning.specs.declared.event.Fault.{Fault}
use Rattle.serial_meaning.specs.declared.origin.Origin.{Origin}
use Rattle.serial_meaning.specs.declared.origin.Origin.TheVariants.{Instance, Loop}

-- Elements of lists

pub cons-contained : {X : Type 0} (x y : X) (xs : List X) → Contains (x ∷ xs) y → (x ≡ y) ⊎ Contains xs y
cons-contained x y xs c = from c.0 c.1 c.2
  where
    from : (k : ℕ) → k < length (x ∷ xs) → slice_index_or (x ∷ xs) k y ≡ y → (x ≡ y) ⊎ Contains xs y
    from zero h e = inl e
    from (suc k) h e = inr (k, omega arith, e)

contained-cons : {X : Type 0} (x y : X) (xs : List X) → Contains xs y → Contains (x ∷ xs) y
contained-cons x y xs c = (suc c.0, omega (arith, c.1), c.2)

pub child-contained : (is : List Item) (c : Origin) → Contains is (Child c) → Contains (children is) c
child-contained [] c k = absurd (omega (arith, k.1))
child-contained (Happened e ∷ is) c k = elim (cons-contained (Happened e) (Child c) is k) [ inl h ↦ absurd (cc) | inr h ↦ child-contained is c h ]
child-contained (Child o ∷ is) c k = from (cons-contained (Child o) (Child c) is k) (child-contained is c)
  where
    origin_in : Item → Origin
    origin_in (Happened e) = o
    origin_in (Child d) = d
    origin_in (Opened j) = o
    origin_in (Closed j) = o

    from : (Child o ≡ Child c) ⊎ Contains is (Child c) → (Contains is (Child c) → Contains (children is) c) → Contains (o ∷ children is) c
    from (inl h) later = (0, omega arith, ap origin_in h)
    from (inr h) later = contained-cons o c (children is) (later h)
child-contained (Opened j ∷ is) c k = elim (cons-contained (Opened j) (Child c) is k) [ inl h ↦ absurd (cc) | inr h ↦ child-contained is c h ]
child-contained (Closed j ∷ is) c k = elim (cons-contained (Closed j) (Child c) is k) [ inl h ↦ absurd (cc) | inr h ↦ child-contained is c h ]

-- Depth

-- a child of an instance leaves room for a rank of its own, and a loop for its iterations' too
abbrev pub Fits : PlanView → Origin → Type 0
Fits plan (Instance function args path) = length path + 1 ≤ plan.limits.depth
Fits plan (Loop function rest first path range) = length path + 2 ≤ plan.limits.depth

abbrev ItemFits : PlanView → Item → Type 0
ItemFits plan (Happened e) = Unit {0}
ItemFits plan (Child o) = Fits plan o
ItemFits plan (Opened j) = Unit {0}
ItemFits plan (Closed j) = Unit {0}

-- what is known of an origin of the plan before
abbrev pub LoopFits : PlanView → Origin → Type 0
LoopFits plan (Instance function args path) = Unit {0}
LoopFits plan (Loop function rest first path range) = length path + 2 ≤ plan.limits.depth

loop-fits : (plan : PlanView) (o : Origin) → Fits plan o → LoopFits plan o
loop-fits plan (Instance function args path) h = tt
loop-fits plan (Loop function rest first path range) h = h

below-depth : (m n d : ℕ) → nat_lt m d ≡ true → n ≡ m + 1 → n ≤ d
below-depth m n d h e = grind (arith, nat_tests)

longer : (path : List ℕ) (r : ℕ) → length (path ++ r ∷ []) ≡ length path + 1
longer path r = simp length-append

module _ (plan : PlanView) (child : Origin → Evaluation) where
  abbrev S : Type 0
  S = State (Option Fault)

  loop-item-fits : (path : List ℕ) (function : ℕ) (vs : List Value) (lo : ℤ) (hi : ℕ) (s : S) → loop_fits plan path hi ≡ true →
      Each (ItemFits plan) ((deferring plan child).loop (Loop function vs lo (strand path s) (record { lo = 0; hi = hi }))).items
  loop-item-fits path function vs lo hi s h = by_size hi h (is_zero (hi - 0)) refl
    where
      by_size : (n : ℕ) → loop_fits plan path n ≡ true → (b : Bool) → is_zero (n - 0) ≡ b →
          Each (ItemFits plan) (if b then done {I = Item} {E = NodeFault} [] else record { items = Child (Loop function vs lo (strand path s) (record { lo = 0; hi = hi })) ∷ []; ending = loop_end (child (Loop function vs lo (strand path s) (record { lo = 0; hi = hi }))).ending }).items
      by_size n g true e = tt
      by_size zero g false e = absurd (cc)
      by_size (suc n) g false e = (rw (longer path s.rank) (below-depth (length path + 2) (length path + 1 + 2) plan.limits.depth g (omega arith)), tt)

  parts : Parts (deferring plan child) plan (ItemFits plan)
  parts = record {
    print = λ path s v. tt;
    draw = λ path s. tt;
    new = λ path s. tt;
    sync = λ path s. tt;
    spawn = λ path s. tt;
    loop = λ path s. tt;
    opens = λ here. (tt, tt);
    closes = λ here. (tt, tt);
    at_sync = at_sync;
    child = λ path n vs s h. (rw (longer path s.rank) (below-depth (length path + 1) (length path + 1 + 1) plan.limits.depth h refl), tt);
    iterations = loop-item-fits;
  }
    where
      at_sync : (k : Option Fault) → Each (ItemFits plan) (unless_child_faulted k).items
      at_sync None = tt
      at_sync (Some f) = tt

iterations-fit : (plan : PlanView) (function : ℕ) (rest : List Value) (first : ℤ) (path : List ℕ) (k n : ℕ) → length path + 2 ≤ plan.limits.depth →
    Each (ItemFits plan) (map Child (iterations function rest first path k n))
iterations-fit plan function rest first path k zero h = tt
iterations-fit plan function rest first path k (suc n) h =
    (rw (longer path k) (omega arith), iterations-fit plan function rest first path (k + 1) n h)

children-fit : (plan : PlanView) (child : Origin → Evaluation) (o : Origin) → LoopFits plan o → Each (ItemFits plan) (node_with plan child o).items
children-fit plan child (Instance function args path) h =
    instance-each (deferring plan child) plan (ItemFits plan) (parts plan child) path (function_at (functions_of plan) function) args
children-fit plan child (Loop function rest first path range) h = iterations-fit plan function rest first path range.lo (range.hi - range.lo) h

-- its path goes on from the other's
abbrev pub IsBelow : Origin → Origin → Type 0
IsBelow o c = (k : ℕ) × (more : List ℕ) × (path_of c ≡ path_of o ++ k ∷ more)

pub child-below : (plan : PlanView) (o c : Origin) → Contains (node_of plan o).items (Child c) → IsBelow o c
child-below plan o c k =
    let s = node-spread plan (eval_below plan (depth_left plan o)) o in
    let at = each-contained (IsAt (path_of o) 0 s.hi) (children (node_of plan o).items) c s.spread.within (child-contained (node_of plan o).items c k) in (at.0, at.1, at.2)

fewer-left : (plan : PlanView) (c : Origin) (n more : ℕ) → Fits plan c → length (path_of c) ≡ n + suc more → depth_left plan c < plan.limits.depth - n
fewer-left plan (Instance function args path) n more h e = omega arith
fewer-left plan (Loop function rest first path range) n more h e = omega arith

pub child-fits : (plan : PlanView) (o c : Origin) → LoopFits plan o → Contains (node_of plan o).items (Child c) → Fits plan c
child-fits plan o c h k = each-contained (ItemFits plan) (node_of plan o).items (Child c) (children-fit plan (eval_below plan (depth_left plan o)) o h) k

-- a child has fewer ranks left than its parent
pub deeper : (plan : PlanView) (o c : Origin) → LoopFits plan o → Contains (node_of plan o).items (Child c) → depth_left plan c < depth_left plan o
deeper plan o c h k =
    let below = child-below plan o c k in
    fewer-left plan c (length (path_of o)) (length below.1) (child-fits plan o c h k) (ap length below.2 ∙ length-append (path_of o) (below.0 ∷ below.1))

-- Faults of a child are its parent's

child-faults : (below : Origin → List Fault) (is : List Item) (c : Origin) (f : Fault) → Contains is (Child c) → Contains (below c) f → Contains (faults_of below is) f
child-faults below [] c f k h = absurd (omega (arith, k.1))
child-faults below (Happened e ∷ is) c f k h = from (cons-contained (Happened e) (Child c) is k) (λ g. child-faults below is c f g h)
  where
    from : (Happened e ≡ Child c) ⊎ Contains is (Child c) → (Contains is (Child c) → Contains (faults_of below is) f) → Contains (faults_of below is) f
    from (inl g) later = absurd (cc)
    from (inr g) later = later g
child-faults below (Child o ∷ is) c f k h = from (cons-contained (Child o) (Child c) is k) (λ g. child-faults below is c f g h)
  where
    origin_in : Item → Origin
    origin_in (Happened e) = o
    origin_in (Child d) = d
    origin_in (Opened j) = o
    origin_in (Closed j) = o

    from : (Child o ≡ Child c) ⊎ Contains is (Child c) → (Contains is (Child c) → Contains (faults_of below is) f) → Contains (below o ++ faults_of below is) f
    from (inl g) later = let e : c ≡ o = sym (ap origin_in g) in Contains-append_left (below o) (faults_of below is) f (rw e at h)
    from (inr g) later = Contains-append_right (below o) (faults_of below is) f (later g)
child-faults below (Opened j ∷ is) c f k h = elim (cons-contained (Opened j) (Child c) is k) [ inl g ↦ absurd (cc) | inr g ↦ child-faults below is c f g h ]
child-faults below (Closed j ∷ is) c f k h = elim (cons-contained (Closed j) (Child c) is k) [ inl g ↦ absurd (cc) | inr g ↦ child-faults below is c f g h ]

-- Faults of a part of a loop are the loop's

module _ (below : Origin → List Fault) (function : ℕ) (rest : List Value) (first : ℤ) (path : List ℕ) where
  abbrev turn : ℕ → Origin
  turn k = iteration function rest first path k

  abbrev loop_faults : ℕ → ℕ → List Fault
  loop_faults k n = faults_of below (map Child (iterations function rest first path k n))

  pub from-iteration : (k n : ℕ) (f : Fault) → Contains (loop_faults k n) f → (i : ℕ) × (k ≤ i) × (i < k + n) × Contains (below (turn i)) f
  from-iteration k zero f h = absurd (omega (arith, h.1))
  from-iteration k (suc n) f h = by_place (Contains-append_cases (below (turn k)) (loop_faults (k + 1) n) f h) (from-iteration (k + 1) n f)
    where
      by_place : Contains (below (turn k)) f ⊎ Contains (loop_faults (k + 1) n) f → (Contains (loop_faults (k + 1) n) f → (i : ℕ) × (k + 1 ≤ i) × (i < k + 1 + n) × Contains (below (turn i)) f) → (i : ℕ) × (k ≤ i) × (i < k + suc n) × Contains (below (turn i)) f
      by_place (inl g) later = (k, omega arith, omega arith, g)
      by_place (inr g) later = let p = later g in (p.0, omega (arith, p.1), omega (arith, p.2), p.3)

  pub of-iteration : (k n i : ℕ) (f : Fault) → k ≤ i → i < k + n → Contains (below (turn i)) f → Contains (loop_faults k n) f
  of-iteration k zero i f a b h = absurd (omega arith)
  of-iteration k (suc n) i f a b h = by_place (nat_lt k i) refl (λ g. of-iteration (k + 1) n i f g (omega arith) h)
    where
      by_place : (c : Bool) → nat_lt k i ≡ c → (k + 1 ≤ i → Contains (loop_faults (k + 1) n) f) → Contains (below (turn k) ++ loop_faults (k + 1) n) f
      by_place true e later = Contains-append_right (below (turn k)) (loop_faults (k + 1) n) f (later (below-depth k (k + 1) i e refl))
      by_place false e later = let same : i ≡ k = grind (arith, nat_tests) in Contains-append_left (below (turn k)) (loop_faults (k + 1) n) f (rw same at h)

no_own : (q : Result (List Value) Fault) → own_fault (loop_end q) ≡ []
no_own (Ok vs) = refl
no_own (Err f) = refl

-- a loop has no fault of its own
pub loop-own : (plan : PlanView) (function : ℕ) (rest : List Value) (first : ℤ) (path : List ℕ) (range : Range) → own_fault (node_of plan (Loop function rest first path range)).ending ≡ []
loop-own plan function rest first path range = no_own (gathered (eval_below plan (depth_left plan (Loop function rest first path range))) (iterations function rest first path range.lo (range.hi - range.lo)))

-- where a fault of a loop is
pub in-iteration : (plan : PlanView) (function : ℕ) (rest : List Value) (first : ℤ) (path : List ℕ) (range : Range) (f : Fault) → Contains (faults_in plan (Loop function rest first path range)) f →
    (i : ℕ) × (range.lo ≤ i) × (i < range.lo + (range.hi - range.lo)) × Contains (faults_below plan (plan.limits.depth - length path) (iteration function rest first path i)) f
in-iteration plan function rest first path range f h =
    from (Contains-append_cases (loop_faults below function rest first path range.lo (range.hi - range.lo)) (own_fault (node_of plan (Loop function rest first path range)).ending) f h)
  where
    below : Origin → List Fault
    below = faults_below plan (plan.limits.depth - length path)

    from : Contains (loop_faults below function rest first path range.lo (range.hi - range.lo)) f ⊎ Contains (own_fault (node_of plan (Loop function rest first path range)).ending) f →
        (i : ℕ) × (range.lo ≤ i) × (i < range.lo + (range.hi - range.lo)) × Contains (below (iteration function rest first path i)) f
    from (inl g) = from-iteration below function rest first path range.lo (range.hi - range.lo) f g
    from (inr g) = let k : Contains [] f = subst (λ (l : List Fault). Contains l f) (loop-own plan function rest first path range) g in absurd (omega (arith, k.1))

pub of-iteration-in : (plan : PlanView) (function : ℕ) (rest : List Value) (first : ℤ) (path : List ℕ) (range : Range) (i : ℕ) (f : Fault) → range.lo ≤ i → i < range.hi →
    Contains (faults_below plan (plan.limits.depth - length path) (iteration function rest first path i)) f → Contains (faults_in plan (Loop function rest first path range)) f
of-iteration-in plan function rest first path range i f a b h =
    let below : Origin → List Fault = faults_below plan (plan.limits.depth - length path) in
    Contains-append_left (loop_faults below function rest first path range.lo (range.hi - range.lo)) (own_fault (node_of plan (Loop function rest first path range)).ending) f
    (of-iteration below function rest first path range.lo (range.hi - range.lo) i f a (omega (arith, a, b)) h)

part-faults : (plan : PlanView) (function : ℕ) (rest : List Value) (first : ℤ) (path : List ℕ) (whole part : Range) → whole.lo ≤ part.lo → part.lo ≤ part.hi → part.hi ≤ whole.hi →
    (f : Fault) → Contains (faults_in plan (Loop function rest first path part)) f → Contains (faults_in plan (Loop function rest first path whole)) f
part-faults plan function rest first path whole part a b c f h =
    let i = in-iteration plan function rest first path part f h in
    of-iteration-in plan function rest first path whole i.0 f (omega (arith, i.1)) (omega (arith, i.1, i.2)) i.3

-- Origins of the plan

abbrev pub IsPartOfPlan : PlanView → Origin → Type 0
IsPartOfPlan plan o = LoopFits plan o × ((f : Fault) → Contains (faults_in plan o) f → Contains (faults plan) f)

pub child-of : (plan : PlanView) (parent child : Origin) → IsPartOfPlan plan parent → Contains (node_of plan parent).items (Child child) →
    Fits plan child × ((f : Fault) → Contains (faults_in plan child) f → Contains (faults plan) f)
child-of plan parent child h k = (fits, inside)
  where
    fits : Fits plan child
    fits = child-fits plan parent child h.0 k

    same : faults_below plan (depth_left plan parent) child ≡ faults_in plan child
    same = enough plan [] (faults_with plan) (depth_left plan parent) child (deeper plan parent child h.0 k)

    inside : (f : Fault) → Contains (faults_in plan child) f → Contains (faults plan) f
    inside f g =
        h.1 f (Contains-append_left (faults_of (faults_below plan (depth_left plan parent)) (node_of plan parent).items) (own_fault (node_of plan parent).ending) f
        (child-faults (faults_below plan (depth_left plan parent)) (node_of plan parent).items child f k (subst (λ (fs : List Fault). Contains fs f) (sym same) g)))

pub part-of-plan : (plan : PlanView) (o : Origin) → IsOriginOf plan o → IsPartOfPlan plan o
part-of-plan plan o Main = (tt, λ f g. g)
part-of-plan plan o (ChildOf parent child h k) =
    let c = child-of plan parent child (part-of-plan plan parent h) k in (loop-fits plan child c.0, c.1)
part-of-plan plan o (PartOf parent function rest first path whole part h k a b d) =
    let c = child-of plan parent (Loop function rest first path whole) (part-of-plan plan parent h) k in
    (c.0, λ f g. c.1 f (part-faults plan function rest first path whole part a b d f g))

-- a child has fewer ranks left below the depth
pub fewer-left-below : (plan : PlanView) (parent child : Origin) → IsOriginOf plan parent → Contains (node_of plan parent).items (Child child) → depth_left plan child < depth_left plan parent
fewer-left-below plan parent child h k = deeper plan parent child (part-of-plan plan parent h).0 k

-- What a child gives its parent is what it gives by itself.
pub child-evaluated : (plan : PlanView) (parent child : Origin) → IsOriginOf plan parent → Contains (node_of plan parent).items (Child child) → eval_below plan (depth_left plan parent) child ≡ eval plan child
child-evaluated plan parent child h k = enough plan (done []) (eval_with plan) (depth_left plan parent) child (fewer-left-below plan parent child h k)

-- and so are its faults
pub child-faulting : (plan : PlanView) (parent child : Origin) → IsOriginOf plan parent → Contains (node_of plan parent).items (Child child) → faults_below plan (depth_left plan parent) child ≡ faults_in plan child
child-faulting plan parent child h k = enough plan [] (faults_with plan) (depth_left plan parent) child (fewer-left-below plan parent child h k)

ends_within : (fs gs : List Fault) (q : Result (List Value) Fault) → LeastOf fs q → ((f : Fault) → Contains fs f → Contains gs f) → EndsWithin gs q
ends_within fs gs (Ok vs) l h = tt
ends_within fs gs (Err f) l h = h f l.0

pub origins_end_within_faults : (plan : PlanView) (o : Origin) → IsOriginOf plan o → EndsWithin (faults plan) (eval plan o).ending
origins_end_within_faults plan o h =
    ends_within (faults_in plan o) (faults plan) (eval plan o).ending (least-in plan o) (part-of-plan plan o h).1
