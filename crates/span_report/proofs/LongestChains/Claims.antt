-- The walk along the events of a run keeps the lengths of the longest chains.
use Rattle.std.proofs.Common.{◌≡◌, ◌≤◌, ◌<◌, ◌+◌, ◌⊎◌, inl, inr, ℕ, List, [], ◌∷◌, ◌++◌, Some, length, length-append, refl, sym, ◌∙◌, ap, subst, arith, append_assoc}
use Rattle.std.specs.Prelude.{Contains}
use Rattle.serial_meaning.specs.Laws.{raising_pedigrees}
use Rattle.serial_meaning.specs.Plan.{PlanView}
use Rattle.serial_meaning.specs.Eval.{elision}
use Rattle.serial_meaning.proofs.Equations.Each.{Each}
use Rattle.serial_meaning.proofs.RisingPedigrees.Rising.{Rise}
use Rattle.serial_meaning.specs.declared.event.Event.{Event}
use Rattle.serial_meaning.specs.declared.event.Event.TheVariants as event
use Rattle.serial_meaning.specs.declared.value.Value.{Value}
use Rattle.span_report.specs.declared.instance.OpenInstance.{OpenInstance}
use Rattle.span_report.specs.declared.instance.Begun.{Begun}
use Rattle.span_report.specs.declared.instance.Begun.TheVariants.{Spawned, Iterated}
use Rattle.span_report.specs.Series.{pedigree_of, Begins, BeginsProperly, IsEvent, IsInstancePath, Main, Child, Iteration, IsHome, IsEventOf, PrecedesFrom, IsSpan}
use Rattle.span_report.proofs.LongestChains.Chains.{IsMost}
use Rattle.span_report.specs.Nested.{RaisesWithoutChild, Draw, New, Sync, Whose, Instance, Iterations}
use Rattle.span_report.specs.Opens.{new_open_instance, after_child_end, went_on, synced, looping_at}
use Rattle.span_report.specs.Walks.{OpenInstances, main_alone, closed_to, after_ends, instances_after, opened_to, path_of, walked, walked_all, walked_span}
use Rattle.span_report.proofs.Nested.Clear.{NotAt, IsClear, Ends, Prints, Steps, Spawns, Loops, Iterates, Scopes, all-clear}
use Rattle.span_report.proofs.Nested.Coming.{Past, Coming, coming-here, coming-next, coming-in, past-rank, past-apart}
use Rattle.span_report.proofs.Belonging.Homes.{begins-begins, event-unique, get-contained, IsPresent}
use Rattle.span_report.proofs.LongestChains.Most.{most-none, most-as, most-span}
use Rattle.span_report.proofs.Belonging.Places.{own-present, scope-present}
use Rattle.span_report.proofs.Nested.Apart.{elision-rise, longest, home-is}
use Rattle.span_report.proofs.Nested.Nesting.{elision_is_nested}
use Rattle.span_report.proofs.LongestChains.Ready.{ready-inside, ready-outside}
use Rattle.span_report.proofs.Belonging.Positions.{split-at, nested-begins, At, at-front, at-back, at-all, at-each, home-begins, Fresh, fresh-start, fresh-on, fresh-same, fresh-below, fresh-child, none-below}
use Rattle.span_report.proofs.LongestChains.Ranges.{Between, AreBelow, AreTurns, synced-below}
use Rattle.span_report.proofs.LongestChains.Standing.{Holds, HoldsLoop, holds-went, holds-synced, holds-begun, loop-begun, loop-turned, child-ended, turn-before, loop-ended}
use Rattle.span_report.proofs.LongestChains.Stacks.{stack, leads-below, leads-not, left-here, left-up, ended-left, Same, path-is, path-below, IsSilent, silent-none, silent-loop, entered-turn, walked_append, walked-own}

module _ (all : List Event) (nested : IsClear all (Instance []) [] 0 all) (rise : Rise (raising_pedigrees all)) where
  own : (home path : List ℕ) (rank n : ℕ) (e : Event) → IsPresent all home path → pedigree_of e ≡ path ++ rank ∷ [] → IsEvent all n e → IsEventOf all home n e
  own home path rank n e i p g = record { numbered = g; belongs = subst (λ (j : List ℕ). IsHome all j home) (sym p) (home-is all nested rise home path rank i) }

  -- what stands after some events of an instance at a present path and below it
  record After (from n : ℕ) (home path : List ℕ) (w : OpenInstances) (under : List OpenInstance) (how : Begun) : Type 0 where
    o : OpenInstance
    m : ℕ
    holds : Holds all from n m o home
    began : o.begun ≡ how
    silent : (p : List ℕ) → Past path p → IsSilent o p
    same : Same (Past path) w (stack o under)

  -- what stands after some iterations of a loop that event number c began
  record AfterTurns (from c n : ℕ) (home path : List ℕ) (rank : ℕ) (here : IsPresent all home path) (f : Fresh all c path rank) (m : ℕ) (w : OpenInstances) (under : List OpenInstance) (how : Begun) : Type 0 where
    o : OpenInstance
    k : ℕ
    holds : HoldsLoop all from (c + 1) n m o home (path ++ rank ∷ [])
    turns : AreTurns all nested rise c n home path rank here f k
    began : o.begun ≡ how
    same : Same (Past (path ++ rank ∷ [])) w (stack o under)

  abbrev Claim : Whose → List ℕ → ℕ → List Event → Type 0
  Claim (Instance home) path rank es = (from n to m : ℕ) (w : OpenInstances) (o : OpenInstance) (under : List OpenInstance) → IsPresent all home path → from ≤ n → to ≡ n + length es → Fresh all n path rank → At all n es → Holds all from n m o home →
      ((p : List ℕ) → Coming path rank p → IsSilent o p) → Same (Coming path rank) w (stack o under) → After from to home path (walked_all w es) under o.begun
  Claim Iterations j k es = (home path : List ℕ) (rank from c n to m : ℕ) (w : OpenInstances) (o : OpenInstance) (under : List OpenInstance) (here : IsPresent all home path) (f : Fresh all c path rank) → j ≡ path ++ rank ∷ [] →
      IsEventOf all home c (event.Loop (path ++ rank ∷ [])) → from ≤ c → c + 1 ≤ n → to ≡ n + length es → Fresh all n j k → At all n es → HoldsLoop all from (c + 1) n m o home (path ++ rank ∷ []) →
      AreTurns all nested rise c n home path rank here f k → Same (Coming j k) w (stack o under) → AfterTurns from c to home path rank here f m (walked_all w es) under o.begun

  claim-ends : (home path : List ℕ) (rank : ℕ) → Claim (Instance home) path rank []
  claim-ends home path rank from n to m w o under i l t f a h q s =
      record { o = o; m = m; holds = subst (λ (k : ℕ). Holds all from k m o home) (let q : n ≡ to = omega (arith, t) in q) h; began = refl; silent = λ p z. q p (inl z); same = λ p z. s p (inl z) }

  -- an event that begins nothing
  claim-own : (home path : List ℕ) (rank next m2 : ℕ) (e : Event) (es : List Event) (from n to m : ℕ) (w : OpenInstances) (o o2 : OpenInstance) (under : List OpenInstance) → pedigree_of e ≡ path ++ rank ∷ [] → IsPresent all home path → from ≤ n →
      to ≡ n + length (e ∷ es) → At all (n + 1) es → Holds all from n m o home → ((p : List ℕ) → Coming path rank p → IsSilent o p) → Same (Coming path rank) w (stack o under) → ((p : List ℕ) → IsSilent o2 p) →
      instances_after (stack o under) e ≡ stack o2 under → o2.begun ≡ o.begun → Fresh all (n + 1) path next → Holds all from (n + 1) m2 o2 home → Claim (Instance home) path next es → After from to home path (walked_all w (e ∷ es)) under o.begun
  claim-own home path rank next m2 e es from n to m w o o2 under p i l t a h q s still g b f h2 later =
      subst (λ (k : Begun). After from to home path (walked_all w (e ∷ es)) under k) b
      (later from (n + 1) to m2 (walked w e) o2 under i (omega (arith, l)) (omega (arith, t)) f a h2 (λ p z. still p) (λ p z. ap (λ (v : OpenInstances). closed_to p v.top v.under) (goes ∙ g)))
    where
      goes : walked w e ≡ instances_after (stack o under) e
      goes = walked-own (Coming path rank) w o under home path e (path-is e path rank p) h.at i.begins (coming-here path rank) (q path (coming-here path rank)) s

  claim-prints : (home path : List ℕ) (rank : ℕ) (v : Value) (es : List Event) → Claim (Instance home) path rank es → Claim (Instance home) path rank (event.Print (path ++ rank ∷ []) v ∷ es)
  claim-prints home path rank v es later from n to m w o under i l t f a h q s =
      let e = event.Print (path ++ rank ∷ []) v in
      let g = own home path rank n e i refl a.0 in
      claim-own home path rank rank m e es from n to m w o (went_on o) under refl i l t a.1 h q s (silent-none (went_on o) refl) refl refl (fresh-same all n home path rank e i.begins f g (λ j z. absurd (cc)))
      (holds-went all from n m o home path rank e i.begins g refl f l h (λ at z. absurd (cc))) later

  -- past an event of the instance itself
  fresh-past : (path : List ℕ) (rank n : ℕ) (e : Event) → pedigree_of e ≡ path ++ rank ∷ [] → IsEvent all n e → Fresh all n path rank → Fresh all (n + 1) path (rank + 1)
  fresh-past path rank n e p g f =
      fresh-on all n (n + 1) path rank f (λ i x l u h. ([], subst (λ (y : Event). pedigree_of y ≡ path ++ rank ∷ []) (event-unique all n e x g (subst (λ (k : ℕ). IsEvent all k x) (omega (arith, l, u)) h)) p))

  claim-steps : (home path : List ℕ) (rank : ℕ) (j : List ℕ) (e : Event) (es : List Event) → j ≡ path ++ rank ∷ [] → RaisesWithoutChild j e → Claim (Instance home) path (rank + 1) es → Claim (Instance home) path rank (e ∷ es)
  claim-steps home path rank j e es z (Draw i d) later from n to m w o under inst l t f a h q s =
      let g = own home path rank n (event.Draw i d) inst z a.0 in
      claim-own home path rank (rank + 1) m (event.Draw i d) es from n to m w o (went_on o) under z inst l t a.1 h q s (silent-none (went_on o) refl) refl refl (fresh-past path rank n (event.Draw i d) z a.0 f)
      (holds-went all from n m o home path rank (event.Draw i d) inst.begins g z f l h (λ at y. absurd (cc))) later
  claim-steps home path rank j e es z (New i) later from n to m w o under inst l t f a h q s =
      let g = own home path rank n (event.New i) inst z a.0 in
      claim-own home path rank (rank + 1) m (event.New i) es from n to m w o (went_on o) under z inst l t a.1 h q s (silent-none (went_on o) refl) refl refl (fresh-past path rank n (event.New i) z a.0 f)
      (holds-went all from n m o home path rank (event.New i) inst.begins g z f l h (λ at y. absurd (cc))) later
  claim-steps home path rank j e es z (Sync i) later from n to m w o under inst l t f a h q s =
      let g = own home path rank n (event.Sync i) inst z a.0 in
      claim-own home path rank (rank + 1) (n + 1) (event.Sync i) es from n to m w o (synced o) under z inst l t a.1 h q s (silent-none (synced o) refl) refl refl (fresh-past path rank n (event.Sync i) z a.0 f)
      (holds-synced all from n m o home path rank (event.Sync i) inst.begins g z f l h i g) later

  -- events at and below a rank, as those of a child
  tail-of : (path : List ℕ) (rank n to : ℕ) (whose : Whose) (first : ℕ) (es : List Event) → IsClear all whose (path ++ rank ∷ []) first es → At all n es → to ≡ n + length es →
      (i : ℕ) (e : Event) → n ≤ i → i < to → IsEvent all i e → BeginsProperly (path ++ rank ∷ []) (pedigree_of e)
  tail-of path rank n to whose first es d a t i e l u g = at-each all (λ e. BeginsProperly (path ++ rank ∷ []) (pedigree_of e)) es n a (nested-begins all whose (path ++ rank ∷ []) first es d) i e l (omega (arith, u, t)) g

  -- after all that stands below a rank
  fresh-under : (path : List ℕ) (rank n to : ℕ) (whose : Whose) (first : ℕ) (es : List Event) → IsClear all whose (path ++ rank ∷ []) first es → At all n es → to ≡ n + length es → Fresh all n path rank → Fresh all to path (rank + 1)
  fresh-under path rank n to whose first es d a t f =
      fresh-on all n to path rank f (λ i x l u h. (let b = tail-of path rank n to whose first es d a t i x l u h in (b.0 ∷ b.1, b.2 ∙ append_assoc path (rank ∷ []) (b.0 ∷ b.1))))

  -- An event, what it begins, and what goes on after that.
  fresh-after : (path : List ℕ) (rank n to : ℕ) (whose : Whose) (first : ℕ) (e : Event) (es : List Event) → pedigree_of e ≡ path ++ rank ∷ [] → IsEvent all n e → IsClear all whose (path ++ rank ∷ []) first es → At all (n + 1) es →
      to ≡ n + 1 + length es → Fresh all n path rank → Fresh all to path (rank + 1)
  fresh-after path rank n to whose first e es p g d a t f = fresh-on all n to path rank f tails
    where
      tails : (i : ℕ) (x : Event) → n ≤ i → i < to → IsEvent all i x → (tail : List ℕ) × (pedigree_of x ≡ path ++ rank ∷ tail)
      tails i x l u h = by (split-at n i)
        where
          by : (n < i) ⊎ (i ≤ n) → (tail : List ℕ) × (pedigree_of x ≡ path ++ rank ∷ tail)
          by (inl s) = let b = tail-of path rank (n + 1) to whose first es d a t i x (omega (arith, s)) u h in (b.0 ∷ b.1, b.2 ∙ append_assoc path (rank ∷ []) (b.0 ∷ b.1))
          by (inr s) = ([], subst (λ (y : Event). pedigree_of y ≡ path ++ rank ∷ []) (event-unique all n e x g (subst (λ (k : ℕ). IsEvent all k x) (omega (arith, l, s)) h)) p)

  claim-spawns : (home path : List ℕ) (rank : ℕ) (child es : List Event) → IsClear all (Instance (path ++ rank ∷ [])) (path ++ rank ∷ []) 0 child → Claim (Instance (path ++ rank ∷ [])) (path ++ rank ∷ []) 0 child →
      Claim (Instance home) path (rank + 1) es → Claim (Instance home) path rank (event.Spawn (path ++ rank ∷ []) ∷ (child ++ es))
  claim-spawns home path rank child es d inner later from n to m w o under i l t f a h q s =
      subst (λ (v : OpenInstances). After from to home path v under o.begun) (sym (walked_append (walked w e) child es))
      (later from mid to m (walked_all (walked w e) child) o2 under i (omega (arith, l)) (let z = length-append child es in omega (arith, t, z)) f2 (at-back all (n + 1) mid child es a.1 refl) still_holds (λ p z. silent-none o2 refl p) same)
    where
      j : List ℕ
      j = path ++ rank ∷ []

      e : Event
      e = event.Spawn j

      mid : ℕ
      mid = n + 1 + length child

      g : IsEventOf all home n e
      g = own home path rank n e i refl a.0

      o1 : OpenInstance
      o1 = went_on o

      c0 : OpenInstance
      c0 = new_open_instance j Spawned o1.before

      w1 : walked w e ≡ stack c0 (o1 ∷ under)
      w1 = walked-own (Coming path rank) w o under home path e (path-is e path rank refl) h.at i.begins (coming-here path rank) (q path (coming-here path rank)) s

      h1 : Holds all from (n + 1) m o1 home
      h1 = holds-went all from n m o home path rank e i.begins g refl f l h (λ at z. absurd (cc))

      fresh-j : Fresh all (n + 1) j 0
      fresh-j = fresh-child all n home path rank e i.begins f g refl

      b : IsMost all (λ i. PrecedesFrom all i (n + 1) j) o1.before
      b = most-as all (λ i. PrecedesFrom all i (n + 1) home) (λ i. PrecedesFrom all i (n + 1) j) o1.before (subst (IsMost all (λ i. PrecedesFrom all i (n + 1) home)) (omega arith) h1.ready)
          (λ k r. ready-inside all k (n + 1) home path rank [] i (longest all nested rise home path i) (none-below all n home path rank e i.begins f g k r.earlier) r)
          (λ k r. ready-outside all k (n + 1) home path rank [] i (longest all nested rise home path i) (none-below all n home path rank e i.begins f g k r.earlier) r)

      at-child : At all (n + 1) child
      at-child = at-front all (n + 1) child es a.1

      child-is : IsInstancePath all j
      child-is = Child j (get-contained all n e a.0)

      c : After (n + 1) mid j j (walked_all (walked w e) child) (o1 ∷ under) Spawned
      c = inner (n + 1) (n + 1) mid 0 (walked w e) c0 (o1 ∷ under) (own-present all j child-is) (omega arith) refl fresh-j at-child (holds-begun all (n + 1) o1.before j Spawned fresh-j b)
          (λ p z. silent-none c0 refl p) (λ p z. ap (λ (v : OpenInstances). closed_to p v.top v.under) w1)

      o2 : OpenInstance
      o2 = after_child_end o1 Spawned c.o.within

      below : AreBelow all (n + 1) mid j
      below k x y u v z = home-begins all j x k y child-is (tail-of path rank (n + 1) mid (Instance j) 0 child d at-child refl k y u v z.numbered) z

      still_holds : Holds all from mid m o2 home
      still_holds = child-ended all nested rise from n mid m home path rank i f l (omega arith) o1 c.o.within (synced-below all m n home h.synced) g below h1 c.holds.within

      f2 : Fresh all mid path (rank + 1)
      f2 = fresh-after path rank n mid (Instance j) 0 e child refl a.0 d at-child refl f

      same : Same (Coming path (rank + 1)) (walked_all (walked w e) child) (stack o2 under)
      same p z = c.same p (past-rank path rank p z) ∙ left-up p c.o o1 under (leads-not c.o j p c.holds.at (past-apart path rank p z)) ∙ ap (λ (y : Begun). closed_to p (after_child_end o1 y c.o.within) under) c.began

  claim-loops : (home path : List ℕ) (rank : ℕ) (inner es : List Event) → IsClear all Iterations (path ++ rank ∷ []) 0 inner → Claim Iterations (path ++ rank ∷ []) 0 inner → Claim (Instance home) path (rank + 1) es →
      Claim (Instance home) path rank (event.Loop (path ++ rank ∷ []) ∷ (inner ++ es))
  claim-loops home path rank inner es d turns later from n to m w o under i l t f a h q s =
      subst (λ (v : OpenInstances). After from to home path v under o.begun) (sym (walked_append (walked w e) inner es))
      (subst (λ (k : Begun). After from to home path (walked_all (walked_all (walked w e) inner) es) under k) c.began
      (later from mid to m (walked_all (walked w e) inner) c.o under i (omega (arith, l)) (let z = length-append inner es in omega (arith, t, z)) f2 (at-back all (n + 1) mid inner es a.1 refl) still_holds
      (λ p z. silent-loop c.o j p c.holds.looping (past-apart path rank p z)) (λ p z. c.same p (past-rank path rank p z))))
    where
      j : List ℕ
      j = path ++ rank ∷ []

      e : Event
      e = event.Loop j

      mid : ℕ
      mid = n + 1 + length inner

      g : IsEventOf all home n e
      g = own home path rank n e i refl a.0

      o1 : OpenInstance
      o1 = looping_at j (went_on o)

      w1 : walked w e ≡ stack o1 under
      w1 = walked-own (Coming path rank) w o under home path e (path-is e path rank refl) h.at i.begins (coming-here path rank) (q path (coming-here path rank)) s

      h1 : Holds all from (n + 1) m (went_on o) home
      h1 = holds-went all from n m o home path rank e i.begins g refl f l h (λ at z. absurd (cc))

      at-inner : At all (n + 1) inner
      at-inner = at-front all (n + 1) inner es a.1

      c : AfterTurns from n mid home path rank i f m (walked_all (walked w e) inner) under o1.begun
      c = turns home path rank from n (n + 1) mid m (walked w e) o1 under i f refl g l (omega arith) refl (fresh-child all n home path rank e i.begins f g refl) at-inner (loop-begun all from (n + 1) m (went_on o) home j refl h1)
          (λ k x y u v z. absurd (omega (arith, u, v))) (λ p z. ap (λ (v : OpenInstances). closed_to p v.top v.under) w1)

      still_holds : Holds all from mid m c.o home
      still_holds = loop-ended all nested rise from n mid m home path rank i f l (omega arith) c.k c.o g c.turns c.holds

      f2 : Fresh all mid path (rank + 1)
      f2 = fresh-after path rank n mid Iterations 0 e inner refl a.0 d at-inner refl f

  -- a scope: the instance goes on one rank deeper
  claim-scopes : (home path : List ℕ) (rank : ℕ) (inner es : List Event) → Each (NotAt (path ++ rank ∷ [])) all → IsClear all (Instance home) (path ++ rank ∷ []) 0 inner → Claim (Instance home) (path ++ rank ∷ []) 0 inner →
      Claim (Instance home) path (rank + 1) es → Claim (Instance home) path rank (inner ++ es)
  claim-scopes home path rank inner es free d inside later from n to m w o under i l t f a h q s =
      subst (λ (v : OpenInstances). After from to home path v under o.begun) (sym (walked_append w inner es))
      (subst (λ (k : Begun). After from to home path (walked_all (walked_all w inner) es) under k) c.began
      (later from mid to c.m (walked_all w inner) c.o under i (omega (arith, l)) (let z = length-append inner es in omega (arith, t, z)) (fresh-under path rank n mid (Instance home) 0 inner d at-inner refl f) (at-back all n mid inner es a refl) c.holds
      (λ p z. c.silent p (past-rank path rank p z)) (λ p z. c.same p (past-rank path rank p z))))
    where
      mid : ℕ
      mid = n + length inner

      at-inner : At all n inner
      at-inner = at-front all n inner es a

      c : After from mid home (path ++ rank ∷ []) (walked_all w inner) under o.begun
      c = inside from n mid m w o under (scope-present all home path rank free i) l refl (fresh-below all n path rank f) at-inner h (λ p z. q p (coming-in path rank p z)) (λ p z. s p (coming-in path rank p z))

  claim-done : (j : List ℕ) (k : ℕ) → Claim Iterations j k []
  claim-done j k home path rank from c n to m w o under here f q g l u t fr a h turns same = subst (λ (z : ℕ). AfterTurns from c z home path rank here f m w under o.begun) (let y : n ≡ to = omega (arith, t) in y)
      (record { o = o; k = k; holds = h; turns = turns; began = refl; same = λ p z. same p (inl (subst (λ (l : List ℕ). Past l p) (sym q) z)) })

  -- an iteration in which nothing happens
  claim-idle : (j : List ℕ) (k : ℕ) (es : List Event) → Claim Iterations j (k + 1) es → Claim Iterations j k es
  claim-idle j k es later home path rank from c n to m w o under here f q g l u t fr a h turns same =
      later home path rank from c n to m w o under here f q g l u t (fresh-on all n n j k fr (λ i e x y h. absurd (omega (arith, x, y)))) a h
      (λ s own e x y z. (let t = turns s own e x y z in (t.0, t.1, t.2, (let d = t.3 in omega (arith, d))))) (λ p z. same p (coming-next j k p z))

  claim-turn : (j : List ℕ) (k : ℕ) (e : Event) (rest es : List Event) → IsClear all (Instance (j ++ k ∷ [])) (j ++ k ∷ []) 0 (e ∷ rest) → Claim (Instance (j ++ k ∷ [])) (j ++ k ∷ []) 0 (e ∷ rest) → Claim Iterations j (k + 1) es →
      Claim Iterations j k (e ∷ rest ++ es)
  claim-turn j k e rest es d inner later home path rank from c n to m w o under here f q g l u t fr a h turns same =
      subst (λ (v : OpenInstances). AfterTurns from c to home path rank here f m v under o.begun) (sym (ap (λ (v : OpenInstances). walked_all v (rest ++ es)) first ∙ walked_append (walked v0 e) rest es))
      (later home path rank from c mid to m (walked_all v0 (e ∷ rest)) o2 under here f q g l (omega (arith, u)) (let z = length-append rest es in omega (arith, t, z)) f2 (at-back all n mid (e ∷ rest) es a refl) still_holds turns2 same2)
    where
      turn : List ℕ
      turn = j ++ k ∷ []

      turn-as : turn ≡ path ++ rank ∷ k ∷ []
      turn-as = ap (λ (l : List ℕ). l ++ k ∷ []) q ∙ append_assoc path (rank ∷ []) (k ∷ [])

      mid : ℕ
      mid = n + length (e ∷ rest)

      t0 : OpenInstance
      t0 = new_open_instance turn Iterated o.before

      v0 : OpenInstances
      v0 = stack t0 (o ∷ under)

      -- The iteration's first event may be in a scope.
      there : Begins turn (path_of e)
      there = path-below e turn (nested-begins all (Instance turn) turn 0 (e ∷ rest) d).0

      comes : Coming j k (path_of e)
      comes = inr (k, there.0, there.1 ∙ append_assoc j (k ∷ []) there.0, omega arith)

      home-there : Begins home (path_of e)
      home-there = begins-begins home turn (path_of e) (begins-begins home path turn here.begins (rank ∷ k ∷ [], turn-as)) there

      first : walked w e ≡ walked v0 e
      first =
          ap (λ (v : OpenInstances). instances_after (opened_to (path_of e) v) e) (same (path_of e) comes ∙ left-here (path_of e) o under (leads-below o home (path_of e) h.at home-there))
          ∙ ap (λ (v : OpenInstances). instances_after v e) (entered-turn j k (path_of e) o under (h.looping ∙ ap (λ (l : List ℕ). Some l) (sym q)) there)
          ∙ sym (walked-own (λ p. Unit {0}) v0 t0 (o ∷ under) turn (path_of e) e refl refl there tt (silent-none t0 refl (path_of e)) (λ p z. refl))

      loop : Contains all (event.Loop j)
      loop = subst (λ (p : List ℕ). Contains all (event.Loop p)) (sym q) (get-contained all c (event.Loop (path ++ rank ∷ [])) g.numbered)

      turn-is : IsInstancePath all turn
      turn-is = Iteration j k loop

      at-turn : At all n (e ∷ rest)
      at-turn = at-front all n (e ∷ rest) es a

      fresh-turn : Fresh all n turn 0
      fresh-turn = fresh-below all n j k fr

      b : IsMost all (λ i. PrecedesFrom all i n turn) o.before
      b = subst (λ (p : List ℕ). IsMost all (λ i. PrecedesFrom all i n p) o.before) (sym turn-as) (turn-before all nested rise from c n m home path rank here f l u k o.before g turns h.before)

      ct : After n mid turn turn (walked_all v0 (e ∷ rest)) (o ∷ under) Iterated
      ct = inner n n mid 0 v0 t0 (o ∷ under) (own-present all turn turn-is) (omega arith) refl fresh-turn at-turn (holds-begun all n o.before turn Iterated fresh-turn b) (λ p z. silent-none t0 refl p) (λ p z. refl)

      o2 : OpenInstance
      o2 = after_child_end o Iterated ct.o.within

      tails : (i : ℕ) (x : Event) → n ≤ i → i < mid → IsEvent all i x → BeginsProperly turn (pedigree_of x)
      tails = tail-of j k n mid (Instance turn) 0 (e ∷ rest) d at-turn refl

      f2 : Fresh all mid j (k + 1)
      f2 = fresh-under j k n mid (Instance turn) 0 (e ∷ rest) d at-turn refl fr

      still_holds : HoldsLoop all from (c + 1) mid m o2 home (path ++ rank ∷ [])
      still_holds = loop-turned all from (c + 1) n mid m o home (path ++ rank ∷ []) ct.o.within (omega (arith, l, u)) u (omega arith) h ct.holds.within

      turns2 : AreTurns all nested rise c mid home path rank here f (k + 1)
      turns2 s x y u v z = by (split-at s n)
        where
          by : (s < n) ⊎ (n ≤ s) → (t : ℕ) × (rest : List ℕ) × (x ≡ path ++ rank ∷ t ∷ rest) × (t < k + 1)
          by (inl p) = let t = turns s x y u p z in (t.0, t.1, t.2, (let d = t.3 in omega (arith, d)))
          by (inr p) = let b = home-begins all turn x s y turn-is (tails s y p v z.numbered) z in (k, b.0, b.1 ∙ ap (λ (l : List ℕ). l ++ b.0) turn-as ∙ append_assoc path (rank ∷ k ∷ []) b.0, omega arith)

      same2 : Same (Coming j (k + 1)) (walked_all v0 (e ∷ rest)) (stack o2 under)
      same2 p z = ct.same p (past-rank j k p z) ∙ left-up p ct.o o under (leads-not ct.o turn p ct.holds.at (past-apart j k p z)) ∙ ap (λ (y : Begun). closed_to p (after_child_end o y ct.o.within) under) ct.began

  claim-iterates : (j : List ℕ) (k : ℕ) (turn es : List Event) → IsClear all (Instance (j ++ k ∷ [])) (j ++ k ∷ []) 0 turn → Claim (Instance (j ++ k ∷ [])) (j ++ k ∷ []) 0 turn → Claim Iterations j (k + 1) es → Claim Iterations j k (turn ++ es)
  claim-iterates j k [] es d inner later = claim-idle j k es later
  claim-iterates j k (e ∷ rest) es d inner later = claim-turn j k e rest es d inner later

  walks : (whose : Whose) (path : List ℕ) (rank : ℕ) (es : List Event) → IsClear all whose path rank es → Claim whose path rank es
  walks w p r es (Ends (Instance home) path rank) = claim-ends home path rank
  walks w p r es (Ends Iterations path rank) = claim-done path rank
  walks w p r es (Prints home path rank v rest n) = claim-prints home path rank v rest (walks (Instance home) path rank rest n)
  walks w p r es (Steps home path rank e rest s n) = claim-steps home path rank (path ++ rank ∷ []) e rest refl s (walks (Instance home) path (rank + 1) rest n)
  walks w p r es (Spawns home path rank child rest c n) = claim-spawns home path rank child rest c (walks (Instance (path ++ rank ∷ [])) (path ++ rank ∷ []) 0 child c) (walks (Instance home) path (rank + 1) rest n)
  walks w p r es (Loops home path rank inner rest i n) = claim-loops home path rank inner rest i (walks Iterations (path ++ rank ∷ []) 0 inner i) (walks (Instance home) path (rank + 1) rest n)
  walks w p r es (Iterates path k turn rest t n) = claim-iterates path k turn rest t (walks (Instance (path ++ k ∷ [])) (path ++ k ∷ []) 0 turn t) (walks Iterations path (k + 1) rest n)
  walks w p r es (Scopes home path rank inner rest free i n) = claim-scopes home path rank inner rest free i (walks (Instance home) (path ++ rank ∷ []) 0 inner i) (walks (Instance home) path (rank + 1) rest n)

  -- What the walk comes to is the span.
  pub walk-spans : IsSpan all (walked_span all)
  walk-spans = subst (λ (o : OpenInstance). IsSpan all o.within) (sym last) (most-span all a.o.within (most-as all (λ i. Between all 0 (length all) i) (λ i. i < length all) a.o.within a.holds.within (λ i b. b.2) (λ i l. (omega arith, l, l))))
    where
      w : OpenInstances
      w = walked_all main_alone all

      main : OpenInstance
      main = new_open_instance [] Spawned 0

      a : After 0 (length all) [] [] w [] Spawned
      a = walks (Instance []) [] 0 all nested 0 0 (length all) 0 main_alone main [] (own-present all [] Main) (omega arith) (omega arith) (fresh-start all) (at-all all 0 [] all refl refl)
          (holds-begun all 0 0 [] Spawned (fresh-start all) (most-none all (λ i. PrecedesFrom all i 0 []) (λ i r. (let l = r.earlier in absurd (omega (arith, l)))))) (λ p z. silent-none main refl p) (λ p z. refl)

      last : after_ends w.top w.under ≡ a.o
      last = sym (ended-left [] w.top w.under) ∙ ap (λ (v : OpenInstances). after_ends v.top v.under) (a.same [] (inl ([], refl)))

pub spans_are_walked : (plan : PlanView) → IsSpan (elision plan).items (walked_span (elision plan).items)
spans_are_walked plan = let es = (elision plan).items in walk-spans es (all-clear es (elision_is_nested plan)) (elision-rise plan)
