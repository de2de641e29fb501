-- Origins of the plan are told by their paths, and which of its faults stand in an origin's part of the open tree is told by the
-- faults' pedigrees.
use Rattle.std.proofs.Common.{◌≡◌, ℕ, zero, suc, ◌+◌, ◌-◌, ◌<◌, ◌≤◌, List, [], ◌∷◌, ◌++◌, Result, Ok, Err, map, length, length-append, refl, sym, ap, ◌∙◌, subst, arith, append_assoc, append-nil, ◌⊎◌, inl, inr}
use Rattle.std.proofs.Common.{ℤ}
use Rattle.std.specs.Prelude.{Contains}
use Rattle.std.proofs.lemmas.List.Elements.{Contains-append_cases}
use Rattle.loop_range.specs.Range.{Range}
use Rattle.serial_meaning.specs.Laws.{IsOriginOf, Main, ChildOf, PartOf}
use Rattle.serial_meaning.specs.Answer.{AnswersFor}
use Rattle.serial_meaning.specs.Plan.{PlanView}
use Rattle.serial_meaning.specs.Eval.{iteration, path_of, eval_below, depth_left}
use Rattle.serial_meaning.specs.Open.{Item, Happened, Child, Opened, Closed, NodeFault, Own, ChildFaulted, iterations, node_of, own_fault, faults_of, faults_below, faults_in, faults}
use Rattle.serial_meaning.proofs.LeastFault.Children.{Rise, NodeStops, children, node-spread}
use Rattle.serial_meaning.proofs.Equations.Each.{each-contained}
use Rattle.serial_meaning.proofs.LeastFault.Least.{Under, faults_below-under}
use Rattle.serial_meaning.proofs.LeastFault.Left.{LeftOf, rank-same, left-apart}
use Rattle.serial_meaning.proofs.OriginFaults.Origins.{cons-contained, child-contained, child-below, child-faulting, in-iteration, of-iteration-in}
use Rattle.serial_meaning.specs.declared.value.Value.{Value}
use Rattle.serial_meaning.specs.declared.event.Fault.{Fault}
use Rattle.serial_meaning.specs.declared.origin.Origin.{Origin}
use Rattle.serial_meaning.specs.declared.origin.Origin.TheVariants.{Instance, Loop}

-- The children of a node

abbrev origin_or : Origin → Item → Origin
origin_or o (Happened e) = o
origin_or o (Child d) = d
origin_or o (Opened j) = o
origin_or o (Closed j) = o

-- one is the other, or stands left of it
data Beside (c d : Origin) : Type 0 where
  same : c ≡ d → Beside c d
  left : LeftOf (path_of c) (path_of d) → Beside c d
  right : LeftOf (path_of d) (path_of c) → Beside c d

rising-beside : (os : List Origin) (c d : Origin) → Rise os → Contains os c → Contains os d → Beside c d
rising-beside [] c d r k m = absurd (omega (arith, k.1))
rising-beside (o ∷ os) c d r k m = from (cons-contained o c os k) (cons-contained o d os m) (rising-beside os c d r.1)
  where
    from : (o ≡ c) ⊎ Contains os c → (o ≡ d) ⊎ Contains os d → (Contains os c → Contains os d → Beside c d) → Beside c d
    from (inl h) (inl n) later = same (sym h ∙ n)
    from (inl h) (inr n) later = left (subst (λ (x : Origin). LeftOf (path_of x) (path_of d)) h (each-contained (λ x. LeftOf (path_of o) (path_of x)) os d r.0 n))
    from (inr h) (inl n) later = right (subst (λ (x : Origin). LeftOf (path_of x) (path_of c)) n (each-contained (λ x. LeftOf (path_of o) (path_of x)) os c r.0 h))
    from (inr h) (inr n) later = later h n

node-beside : (plan : PlanView) (o c d : Origin) → Contains (node_of plan o).items (Child c) → Contains (node_of plan o).items (Child d) → Beside c d
node-beside plan o c d k m =
    let s = node-spread plan (eval_below plan (depth_left plan o)) o in
    let items = (node_of plan o).items in rising-beside (children items) c d s.spread.rise (child-contained items c k) (child-contained items d m)

-- Iterations

module _ (function : ℕ) (rest : List Value) (first : ℤ) (path : List ℕ) where
  iteration-in : (lo n : ℕ) (c : Origin) → Contains (map Child (iterations function rest first path lo n)) (Child c) → (k : ℕ) × (c ≡ iteration function rest first path k) × (lo ≤ k) × (k < lo + n)
  iteration-in lo zero c k = absurd (omega (arith, k.1))
  iteration-in lo (suc n) c k = from (cons-contained (Child o) (Child c) (map Child (iterations function rest first path (lo + 1) n)) k) (iteration-in (lo + 1) n c)
    where
      o : Origin
      o = iteration function rest first path lo

      from : (Child o ≡ Child c) ⊎ Contains (map Child (iterations function rest first path (lo + 1) n)) (Child c) →
          (Contains (map Child (iterations function rest first path (lo + 1) n)) (Child c) → (k : ℕ) × (c ≡ iteration function rest first path k) × (lo + 1 ≤ k) × (k < lo + 1 + n)) →
          (k : ℕ) × (c ≡ iteration function rest first path k) × (lo ≤ k) × (k < lo + suc n)
      from (inl h) later = (lo, sym (ap (origin_or o) h), omega arith, omega arith)
      from (inr h) later = let p = later h in (p.0, p.1, omega (arith, p.2), omega (arith, p.3))

  loop-child : (plan : PlanView) (range : Range) (c : Origin) → Contains (node_of plan (Loop function rest first path range)).items (Child c) →
      (k : ℕ) × (c ≡ iteration function rest first path k) × (range.lo ≤ k) × (k < range.lo + (range.hi - range.lo))
  loop-child plan range c k = iteration-in range.lo (range.hi - range.lo) c k

-- Faults

scope-begins : (o : Origin) (j : List ℕ) → AnswersFor o j → (more : List ℕ) × (j ≡ path_of o ++ more)
scope-begins (Instance function args path) j s = s
scope-begins (Loop function rest first path range) j s = (s.0 ∷ s.1, s.2)

-- what a child answers for its parent does too
parent-scope : (plan : PlanView) (p c : Origin) (j : List ℕ) → Contains (node_of plan p).items (Child c) → AnswersFor c j → AnswersFor p j
parent-scope plan (Instance function args path) c j k s =
    let r = child-below plan (Instance function args path) c k in
    let b = scope-begins c j s in ((r.0 ∷ r.1) ++ b.0, b.1 ∙ ap (λ l. l ++ b.0) r.2 ∙ append_assoc path (r.0 ∷ r.1) b.0)
parent-scope plan (Loop function rest first path range) c j k s =
    let r = loop-child function rest first path plan range c k in
    let b = scope-begins c j s in (r.0, b.0, b.1 ∙ ap (λ (x : Origin). path_of x ++ b.0) r.1 ∙ append_assoc path (r.0 ∷ []) b.0, r.2, omega (arith, r.2, r.3))

-- where a fault of a node's children is
child-of-fault : (below : Origin → List Fault) (is : List Item) (f : Fault) → Contains (faults_of below is) f → (c : Origin) × Contains is (Child c) × Contains (below c) f
child-of-fault below [] f h = absurd (omega (arith, h.1))
child-of-fault below (Happened e ∷ is) f h = let p = child-of-fault below is f h in (p.0, (suc p.1.0, omega (arith, p.1.1), p.1.2), p.2)
child-of-fault below (Child o ∷ is) f h = from (Contains-append_cases (below o) (faults_of below is) f h) (child-of-fault below is f)
  where
    from : Contains (below o) f ⊎ Contains (faults_of below is) f → (Contains (faults_of below is) f → (c : Origin) × Contains is (Child c) × Contains (below c) f) → (c : Origin) × Contains (Child o ∷ is) (Child c) × Contains (below c) f
    from (inl g) later = (o, (0, omega arith, refl), g)
    from (inr g) later = let p = later g in (p.0, (suc p.1.0, omega (arith, p.1.1), p.1.2), p.2)
child-of-fault below (Opened j ∷ is) f h = let p = child-of-fault below is f h in (p.0, (suc p.1.0, omega (arith, p.1.1), p.1.2), p.2)
child-of-fault below (Closed j ∷ is) f h = let p = child-of-fault below is f h in (p.0, (suc p.1.0, omega (arith, p.1.1), p.1.2), p.2)

-- an own fault stands after all children
not-own : (path : List ℕ) (os : List Origin) (c : Origin) (e : Result (List Value) NodeFault) (f : Fault) (more : List ℕ) → NodeStops path os e → Contains os c → f.at ≡ path_of c ++ more → Contains (own_fault e) f → ⊥
not-own path os c (Ok vs) f more n k at g = omega (arith, g.1)
not-own path os c (Err (ChildFaulted x)) f more n k at g = omega (arith, g.1)
not-own path os c (Err (Own x)) f more n k at g = from (only g)
  where
    only : Contains (x ∷ []) f → x ≡ f
    only d = elim (cons-contained x f [] d) [ inl a ↦ a | inr a ↦ absurd (omega (arith, a.1)) ]

    from : x ≡ f → ⊥
    from e =
        let l : LeftOf (path_of c) x.at = each-contained (λ o. LeftOf (path_of o) x.at) os c n.left k in
        left-apart (path_of c) x.at more [] l (sym at ∙ ap (λ (y : Fault). y.at) (sym e) ∙ sym (append-nil x.at))

-- a fault of a node that begins with a child's path is one of the child's
in-child : (plan : PlanView) (p c : Origin) (f : Fault) → Contains (node_of plan p).items (Child c) → (more : List ℕ) × (f.at ≡ path_of c ++ more) → Contains (faults_in plan p) f → Contains (faults_below plan (depth_left plan p) c) f
in-child plan p c f k at h = from (Contains-append_cases (faults_of below items) (own_fault (node_of plan p).ending) f h)
  where
    items : List Item
    items = (node_of plan p).items

    below : Origin → List Fault
    below = faults_below plan (depth_left plan p)

    -- it is in no other child's part
    same-child : (d : Origin) → Contains items (Child d) → Contains (below d) f → Contains (below c) f
    same-child d m g = by (node-beside plan p c d k m)
      where
        u : Under (path_of d) f
        u = each-contained (Under (path_of d)) (below d) f (faults_below-under plan (depth_left plan p) d) g

        by : Beside c d → Contains (below c) f
        by (same e) = subst (λ (x : Origin). Contains (below x) f) (sym e) g
        by (left l) = absurd (left-apart (path_of c) (path_of d) at.0 (u.0 ∷ u.1) l (sym at.1 ∙ u.2))
        by (right l) = absurd (left-apart (path_of d) (path_of c) (u.0 ∷ u.1) at.0 l (sym u.2 ∙ at.1))

    from : Contains (faults_of below items) f ⊎ Contains (own_fault (node_of plan p).ending) f → Contains (below c) f
    from (inl g) = let d = child-of-fault below items f g in same-child d.0 d.1 d.2
    from (inr g) =
        let n = node-spread plan (eval_below plan (depth_left plan p)) p in
        absurd (not-own (path_of p) (children items) c (node_of plan p).ending f at.0 n.stops (child-contained items c k) at.1 g)

-- a fault of a loop for which a part of it answers is one of the part's
in-part : (plan : PlanView) (function : ℕ) (rest : List Value) (first : ℤ) (path : List ℕ) (whole part : Range) (f : Fault) → AnswersFor (Loop function rest first path part) f.at →
    Contains (faults_in plan (Loop function rest first path whole)) f → Contains (faults_in plan (Loop function rest first path part)) f
in-part plan function rest first path whole part f s h =
    let i = in-iteration plan function rest first path whole f h in
    let u : Under (path ++ i.0 ∷ []) f = each-contained (Under (path ++ i.0 ∷ [])) (faults_below plan (plan.limits.depth - length path) (iteration function rest first path i.0)) f (faults_below-under plan (plan.limits.depth - length path) (iteration function rest first path i.0)) i.3 in
    let same : s.0 ≡ i.0 = rank-same path s.0 i.0 s.1 (u.0 ∷ u.1) (sym s.2 ∙ u.2 ∙ append_assoc path (i.0 ∷ []) (u.0 ∷ u.1)) in
    of-iteration-in plan function rest first path part i.0 f (omega (arith, s.3, same)) (omega (arith, s.4, same)) i.3

below-parent : (plan : PlanView) (parent child : Origin) → IsOriginOf plan parent → Contains (node_of plan parent).items (Child child) → (f : Fault) → AnswersFor child f.at →
    (AnswersFor parent f.at → Contains (faults_in plan parent) f) → Contains (faults_in plan child) f
below-parent plan parent child p k f s above =
    subst (λ (fs : List Fault). Contains fs f) (child-faulting plan parent child p k) (in-child plan parent child f k (scope-begins child f.at s) (above (parent-scope plan parent child f.at k s)))

-- The faults of the plan for which an origin answers are those of its part of the open tree.
pub in-scope : (plan : PlanView) (o : Origin) → IsOriginOf plan o → (f : Fault) → Contains (faults plan) f → AnswersFor o f.at → Contains (faults_in plan o) f
in-scope plan o Main f h s = h
in-scope plan o (ChildOf parent child p k) f h s = below-parent plan parent child p k f s (λ g. in-scope plan parent p f h g)
in-scope plan o (PartOf parent function rest first path whole part p k a b c) f h s =
    let wide : AnswersFor (Loop function rest first path whole) f.at = (s.0, s.1, s.2, omega (arith, s.3, a), omega (arith, s.4, c)) in
    in-part plan function rest first path whole part f s (below-parent plan parent (Loop function rest first path whole) p k f wide (λ g. in-scope plan parent p f h g))

-- a path that goes on is another
not-longer : (a b : List ℕ) (k : ℕ) (more : List ℕ) → b ≡ a ++ k ∷ more → a ≡ b → ⊥
not-longer a b k more e f = let longer : length b ≡ length a + length (k ∷ more) = ap length e ∙ length-append a (k ∷ more) in let same : length a ≡ length b = ap length f in absurd (omega (arith, longer, same))

-- an instance or a loop
abbrev pub IsLoop : Origin → Type 0
IsLoop (Instance function args path) = ⊥
IsLoop (Loop function rest first path range) = Unit {0}

not-at-child : (plan : PlanView) (parent child : Origin) → IsOriginOf plan parent → Contains (node_of plan parent).items (Child child) → (f : Fault) → Contains (faults plan) f → IsLoop child → f.at ≡ path_of child → ⊥
not-at-child plan (Loop function rest first path range) child p k f h loop e =
    let i = loop-child function rest first path plan range child k in absurd (subst IsLoop i.1 loop)
not-at-child plan (Instance function args path) child p k f h loop e =
    let b = child-below plan (Instance function args path) child k in
    let mine : Contains (faults_in plan (Instance function args path)) f = in-scope plan (Instance function args path) p f h (b.0 ∷ b.1, e ∙ b.2) in
    let below : Contains (faults_below plan (depth_left plan (Instance function args path)) child) f = in-child plan (Instance function args path) child f k ([], e ∙ sym (append-nil (path_of child))) mine in
    let under : Under (path_of child) f = each-contained (Under (path_of child)) (faults_below plan (depth_left plan (Instance function args path)) child) f (faults_below-under plan (depth_left plan (Instance function args path)) child) below in
    not-longer (path_of child) f.at under.0 under.1 under.2 (sym e)

-- No fault of the plan stands at a loop's own strand: what an instance does after the loop has a later rank.
pub not-at-loop : (plan : PlanView) (o : Origin) → IsOriginOf plan o → (f : Fault) → Contains (faults plan) f → IsLoop o → f.at ≡ path_of o → ⊥
not-at-loop plan o Main f h loop e = absurd loop
not-at-loop plan o (ChildOf parent child p k) f h loop e = not-at-child plan parent o p k f h loop e
not-at-loop plan o (PartOf parent function rest first path whole part p k a b c) f h loop e = not-at-child plan parent (Loop function rest first path whole) p k f h tt e
