-- What an evaluation has of a pedigree, by the children of its node: of one below a child what the child's evaluation has, and of one below
-- none what the instance's own events are.
use Rattle.std.proofs.Common.{◌≡◌, ℕ, suc, List, [], ◌∷◌, ◌++◌, Option, Some, None, Result, Ok, Err, ◌⊎◌, inl, inr, refl, sym, ap, ◌∙◌, subst, append-nil, if◌then◌else◌, arith}
use Rattle.std.specs.Prelude.{Contains}
use Rattle.std.specs.Str.{bytes_eq}
use Rattle.ped_path.specs.Path.{IsBefore}
use Rattle.serial_meaning.specs.Eval.{Evaluation, path_of}
use Rattle.serial_meaning.specs.Open.{Item, Happened, Child, Opened, Closed, NodeFault, Own, ChildFaulted}
use Rattle.serial_meaning.proofs.LeastFault.Children.{NodeStops, children}
use Rattle.serial_meaning.proofs.LeastFault.Cut.{Matches, cut, child_first}
use Rattle.serial_meaning.proofs.Equations.Each.{Each, each-map, each-contained}
use Rattle.serial_meaning.proofs.LeastFault.Left.{LeftOf, left-longer, left-before, left-apart}
use Rattle.serial_meaning.proofs.OriginFaults.Origins.{cons-contained, child-contained}
use Rattle.serial_meaning.specs.declared.value.Value.{Value}
use Rattle.serial_meaning.specs.declared.event.Fault.{Fault}
use Rattle.serial_meaning.specs.declared.event.Event.{Event}
use Rattle.serial_meaning.specs.declared.origin.Origin.{Origin}
use Rattle.strand_meaning.specs.Strands.{pedigree_of, events_at, own_events, own_fault_at}
use Rattle.strand_meaning.specs.StrandLaws.{IsWholeUpTo, fault_at, strand_in}
use Rattle.strand_meaning.proofs.Unfilled.Variables.{is-other}
use Rattle.strand_meaning.proofs.ElisionsStrands.ItemsRise.{NotBelow, RightOf, ClearOf, ItemsRise}
use Rattle.strand_meaning.proofs.ElisionsStrands.EventsBelowPath.{IsUnder, EndUnder, StaysUnder}

-- Events of one pedigree

pub events_at-skip : (j : List ℕ) (e : Event) (es : List Event) → (pedigree_of e ≡ j → ⊥) → events_at j (e ∷ es) ≡ events_at j es
events_at-skip j e es h = ap (λ b. if b then e ∷ events_at j es else events_at j es) (is-other (pedigree_of e) j h)

pub events_at-same : (j : List ℕ) (e : Event) (xs ys : List Event) → events_at j xs ≡ events_at j ys → events_at j (e ∷ xs) ≡ events_at j (e ∷ ys)
events_at-same j e xs ys h = ap (λ l. if bytes_eq (pedigree_of e) j then e ∷ l else l) h

pub events_at-none : (j : List ℕ) (es : List Event) → Each (λ e. pedigree_of e ≡ j → ⊥) es → events_at j es ≡ []
events_at-none j [] h = refl
events_at-none j (e ∷ es) h = events_at-skip j e es h.0 ∙ events_at-none j es h.1

-- events before which none is at the pedigree
pub events_at-after : (j : List ℕ) (xs ys : List Event) → Each (λ e. pedigree_of e ≡ j → ⊥) xs → events_at j (xs ++ ys) ≡ events_at j ys
events_at-after j [] ys h = refl
events_at-after j (e ∷ xs) ys h = events_at-skip j e (xs ++ ys) h.0 ∙ events_at-after j xs ys h.1

pub events_at-before : (j : List ℕ) (xs ys : List Event) → events_at j ys ≡ [] → events_at j (xs ++ ys) ≡ events_at j xs
events_at-before j [] ys h = h
events_at-before j (e ∷ xs) ys h = events_at-same j e (xs ++ ys) xs (events_at-before j xs ys h)

pub fault_at-other : (j : List ℕ) (f : Fault) → (f.at ≡ j → ⊥) → fault_at j (Err f) ≡ None
fault_at-other j f h = ap (λ b. if b then Some f else None) (is-other f.at j h)

-- An evaluation has of a pedigree what another has, and no fault ended the other before it.
pub record Agree (j : List ℕ) (r s : Evaluation) : Type 0 where
  pub events : events_at j r.items ≡ events_at j s.items
  pub fault : fault_at j r.ending ≡ fault_at j s.ending
  pub whole : IsWholeUpTo j s.ending

-- what stands left of what a pedigree begins with is before it
left-under : (a b j : List ℕ) (x : List ℕ) → LeftOf a b → j ≡ b ++ x → LeftOf a j
left-under a b j x l e = subst (λ z. LeftOf z j) (append-nil a) (subst (LeftOf (a ++ [])) (sym e) (left-longer a b [] x l))

module _ (child : Origin → Evaluation) (under : (c : Origin) → StaysUnder (path_of c) (child c)) (j : List ℕ) where
  abbrev NotHere : Event → Type 0
  NotHere e = pedigree_of e ≡ j → ⊥

  -- of a child below which it isn't
  child-not_here : (o : Origin) → NotBelow j (path_of o) → Each NotHere (child o).items
  child-not_here o n = each-map (child o).items (λ i u e. n u.0 u.1 (sym e ∙ u.2)) (under o).events

  child-fault : (o : Origin) (f : Fault) → (child o).ending ≡ Err f → IsUnder (path_of o) f.at
  child-fault o f e = let u : EndUnder (path_of o) (child o).ending = (under o).ends in rw e at u

  -- where a child stands left of the pedigree, it isn't below the child, and the child's fault is before it
  left-not_below : (a : List ℕ) → LeftOf a j → NotBelow j a
  left-not_below a l k more e = left-apart a j (k ∷ more) [] l (sym e ∙ sym (append-nil j))

  left-fault : (o : Origin) (f : Fault) → LeftOf (path_of o) j → (child o).ending ≡ Err f → IsBefore f.at j
  left-fault o f l e =
      let u = child-fault o f e in
      let before : IsBefore (path_of o ++ u.0 ∷ u.1) (j ++ []) = left-before (path_of o ++ u.0 ∷ u.1) (j ++ []) (left-longer (path_of o) j (u.0 ∷ u.1) [] l) in
      subst (λ z. IsBefore z j) (sym u.2) (subst (IsBefore (path_of o ++ u.0 ∷ u.1)) (append-nil j) before)

  -- Below a child

  abbrev NoFaultHere : Option Fault → Type 0
  NoFaultHere None = Unit {0}
  NoFaultHere (Some f) = fault_at j (Err f) ≡ None

  module _ (a : List ℕ) (x : ℕ) (more : List ℕ) (below : j ≡ a ++ x ∷ more) where
    -- right of the child nothing is of the pedigree
    right-not_below : (b : List ℕ) → LeftOf a b → NotBelow j b
    right-not_below b l k rest e = left-apart a b (x ∷ more) (k ∷ rest) l (sym below ∙ e)

    right-not : (b : List ℕ) → LeftOf a b → b ≡ j → ⊥
    right-not b l e = left-apart a b (x ∷ more) [] l (sym below ∙ sym e ∙ sym (append-nil b))

    later : (is : List Item) → RightOf a is → (events_at j (cut child is).events ≡ []) × NoFaultHere (cut child is).cut_by
    later [] r = (refl, tt)
    later (Happened e ∷ is) r = let ih = later is r.1 in (events_at-skip j e (cut child is).events (right-not (pedigree_of e) r.0) ∙ ih.0, ih.1)
    later (Child o ∷ is) r = by_end (child o).ending refl (later is r.1)
      where
        by_end : (q : Result (List Value) Fault) → (child o).ending ≡ q → (events_at j (cut child is).events ≡ []) × NoFaultHere (cut child is).cut_by →
            (events_at j (child_first (child o).items q (cut child is)).events ≡ []) × NoFaultHere (child_first (child o).items q (cut child is)).cut_by
        by_end (Ok vs) e ih = (events_at-after j (child o).items (cut child is).events (child-not_here o (right-not_below (path_of o) r.0)) ∙ ih.0, ih.1)
        by_end (Err f) e ih =
            let u = child-fault o f e in
            (events_at-none j (child o).items (child-not_here o (right-not_below (path_of o) r.0)), fault_at-other j f (λ g. right-not_below (path_of o) r.0 u.0 u.1 (sym g ∙ u.2)))
    later (Opened k ∷ is) r = later is r
    later (Closed k ∷ is) r = later is r

  -- What the prefix of the items has of the pedigree: all that the child's evaluation has, unless a fault before it cut it off.
  abbrev Through : List Event → Option Fault → Evaluation → Type 0
  Through es None s = (events_at j es ≡ events_at j s.items) × (vs : List Value) × (s.ending ≡ Ok vs)
  Through es (Some f) s =
      (IsBefore f.at j → ⊥) → (events_at j es ≡ events_at j s.items) × (fault_at j (Err f) ≡ fault_at j s.ending) × IsWholeUpTo j s.ending

  through-front : (xs es : List Event) (c : Option Fault) (s : Evaluation) → events_at j (xs ++ es) ≡ events_at j es → Through es c s → Through (xs ++ es) c s
  through-front xs es None s h t = (h ∙ t.0, t.1, t.2)
  through-front xs es (Some f) s h t = λ n. let a = t n in (h ∙ a.0, a.1, a.2)

  clear-of : (k : List ℕ) (is : List Item) (c : Origin) → ClearOf k is → Contains is (Child c) → NotBelow k (path_of c)
  clear-of k [] c r m = absurd (omega (arith, m.1))
  clear-of k (Happened e ∷ is) c r m = elim (cons-contained (Happened e) (Child c) is m) [ inl h ↦ absurd (cc) | inr h ↦ clear-of k is c r h ]
  clear-of k (Child o ∷ is) c r m = from (cons-contained (Child o) (Child c) is m) (λ h. clear-of k is c r.1 h)
    where
      from : (Child o ≡ Child c) ⊎ Contains is (Child c) → (Contains is (Child c) → NotBelow k (path_of c)) → NotBelow k (path_of c)
      from (inl h) go = let same : o ≡ c = cc in subst (λ (d : Origin). NotBelow k (path_of d)) same r.0
      from (inr h) go = go h
  clear-of k (Opened i ∷ is) c r m = elim (cons-contained (Opened i) (Child c) is m) [ inl h ↦ absurd (cc) | inr h ↦ clear-of k is c r h ]
  clear-of k (Closed i ∷ is) c r m = elim (cons-contained (Closed i) (Child c) is m) [ inl h ↦ absurd (cc) | inr h ↦ clear-of k is c r h ]

  right-of : (k : List ℕ) (is : List Item) (c : Origin) → RightOf k is → Contains is (Child c) → LeftOf k (path_of c)
  right-of k [] c r m = absurd (omega (arith, m.1))
  right-of k (Happened e ∷ is) c r m = elim (cons-contained (Happened e) (Child c) is m) [ inl h ↦ absurd (cc) | inr h ↦ right-of k is c r.1 h ]
  right-of k (Child o ∷ is) c r m = from (cons-contained (Child o) (Child c) is m) (λ h. right-of k is c r.1 h)
    where
      from : (Child o ≡ Child c) ⊎ Contains is (Child c) → (Contains is (Child c) → LeftOf k (path_of c)) → LeftOf k (path_of c)
      from (inl h) go = let same : o ≡ c = cc in subst (λ (d : Origin). LeftOf k (path_of d)) same r.0
      from (inr h) go = go h
  right-of k (Opened i ∷ is) c r m = elim (cons-contained (Opened i) (Child c) is m) [ inl h ↦ absurd (cc) | inr h ↦ right-of k is c r h ]
  right-of k (Closed i ∷ is) c r m = elim (cons-contained (Closed i) (Child c) is m) [ inl h ↦ absurd (cc) | inr h ↦ right-of k is c r h ]

  through : (is : List Item) (c : Origin) (x : ℕ) (more : List ℕ) → j ≡ path_of c ++ x ∷ more → ItemsRise is → Contains is (Child c) → Through (cut child is).events (cut child is).cut_by (child c)
  through [] c x more below r m = absurd (omega (arith, m.1))
  through (Happened i ∷ is) c x more below r m = from (cons-contained (Happened i) (Child c) is m) (λ h. through is c x more below r.1 h)
    where
      from : (Happened i ≡ Child c) ⊎ Contains is (Child c) → (Contains is (Child c) → Through (cut child is).events (cut child is).cut_by (child c)) → Through (i ∷ (cut child is).events) (cut child is).cut_by (child c)
      from (inl h) go = absurd (cc)
      from (inr h) go =
          through-front (i ∷ []) (cut child is).events (cut child is).cut_by (child c) (events_at-skip j i (cut child is).events (λ e. clear-of (pedigree_of i) is c r.0 h x more (e ∙ below))) (go h)
  through (Child o ∷ is) c x more below r m = from (cons-contained (Child o) (Child c) is m) (λ h. through is c x more below r.2 h)
    where
      -- the child itself
      found : (q : Result (List Value) Fault) → (child o).ending ≡ q → (p : List Event) (d : Option Fault) → (events_at j p ≡ []) × NoFaultHere d →
          Through (child_first (child o).items q (record { events = p; cut_by = d })).events (child_first (child o).items q (record { events = p; cut_by = d })).cut_by (child o)
      found (Ok vs) h p None none = (events_at-before j (child o).items p none.0, vs, h)
      found (Ok vs) h p (Some f) none = λ n. rw h (events_at-before j (child o).items p none.0, none.1, tt)
      found (Err f) h p d none = λ n. rw h (refl, refl, n)

      -- another one before it
      passed : LeftOf (path_of o) j → (q : Result (List Value) Fault) → (child o).ending ≡ q → Through (cut child is).events (cut child is).cut_by (child c) →
          Through (child_first (child o).items q (cut child is)).events (child_first (child o).items q (cut child is)).cut_by (child c)
      passed l (Ok vs) h ih = through-front (child o).items (cut child is).events (cut child is).cut_by (child c) (events_at-after j (child o).items (cut child is).events (child-not_here o (left-not_below (path_of o) l))) ih
      passed l (Err f) h ih = λ n. absurd (n (left-fault o f l h))

      from : (Child o ≡ Child c) ⊎ Contains is (Child c) → (Contains is (Child c) → Through (cut child is).events (cut child is).cut_by (child c)) →
          Through (child_first (child o).items (child o).ending (cut child is)).events (child_first (child o).items (child o).ending (cut child is)).cut_by (child c)
      from (inl h) go =
          let same : o ≡ c = cc in
          let here : j ≡ path_of o ++ x ∷ more = below ∙ ap (λ (d : Origin). path_of d ++ x ∷ more) (sym same) in
          rw (sym same) (found (child o).ending refl (cut child is).events (cut child is).cut_by (later (path_of o) x more here is r.0))
      from (inr h) go = passed (left-under (path_of o) (path_of c) j (x ∷ more) (right-of (path_of o) is c r.0 h) below) (child o).ending refl (go h)
  through (Opened k ∷ is) c x more below r m = elim (cons-contained (Opened k) (Child c) is m) [ inl h ↦ absurd (cc) | inr h ↦ through is c x more below r h ]
  through (Closed k ∷ is) c x more below r m = elim (cons-contained (Closed k) (Child c) is m) [ inl h ↦ absurd (cc) | inr h ↦ through is c x more below r h ]

  agree-at : (path : List ℕ) (os : List Origin) (es : List Event) (d : Option Fault) (r : Evaluation) (c : Origin) (x : ℕ) (more : List ℕ) (e : Result (List Value) NodeFault) → j ≡ path_of c ++ x ∷ more → Contains os c →
      Through es d (child c) → Matches child (λ (vs : List Value). vs) es d r e → NodeStops path os e → IsWholeUpTo j r.ending → Agree j r (child c)
  agree-at path os es (Some f) r c x more e below k t m n w =
      let v : IsWholeUpTo j (Err f) = rw m at w in let a = t v in rw m (record { events = a.0; fault = a.1; whole = a.2 })
  agree-at path os es None r c x more (Ok vs) below k t m n w = rw (m.2, t.2) (record { events = t.0; fault = refl; whole = tt })
  agree-at path os es None r c x more (Err (Own f)) below k t m n w =
      rw (m, t.2) (record { events = t.0; fault = fault_at-other j f (right-not (path_of c) x more below f.at (each-contained (λ o. LeftOf (path_of o) f.at) os c n.left k)); whole = tt })
  agree-at path os es None r c x more (Err (ChildFaulted f)) below k t m n w = absurd m

  -- The evaluation r of a node, of which c is a child, and the pedigree is below c.
  pub agree : (path : List ℕ) (is : List Item) (c : Origin) (x : ℕ) (more : List ℕ) (r : Evaluation) (e : Result (List Value) NodeFault) → j ≡ path_of c ++ x ∷ more → ItemsRise is → NodeStops path (children is) e →
      Contains is (Child c) → Matches child (λ (vs : List Value). vs) (cut child is).events (cut child is).cut_by r e → IsWholeUpTo j r.ending → Agree j r (child c)
  agree path is c x more r e below rise n k m w =
      agree-at path (children is) (cut child is).events (cut child is).cut_by r c x more e below (child-contained is c k) (through is c x more below rise k) m n w

  -- Below no child

  -- right of what stands left of it nothing is cut off that is of the pedigree
  own-right : (a : List ℕ) (is : List Item) → RightOf a is → (LeftOf a j → ⊥) → events_at j (own_events is) ≡ []
  own-right a [] r n = refl
  own-right a (Happened e ∷ is) r n = events_at-skip j e (own_events is) (λ g. n (subst (LeftOf a) g r.0)) ∙ own-right a is r.1 n
  own-right a (Child o ∷ is) r n = own-right a is r.1 n
  own-right a (Opened k ∷ is) r n = own-right a is r n
  own-right a (Closed k ∷ is) r n = own-right a is r n

  abbrev BelowNone : List Origin → Type 0
  BelowNone os = Each (λ o. NotBelow j (path_of o)) os

  -- What the prefix of the items has of the pedigree: the own events, unless the fault of a child left of it cut it off.
  abbrev OwnAlone : List Event → List Item → Option Fault → Type 0
  OwnAlone es is None = events_at j es ≡ events_at j (own_events is)
  OwnAlone es is (Some f) = (IsBefore f.at j → ⊥) → (events_at j es ≡ events_at j (own_events is)) × (f.at ≡ j → ⊥) × ((c : Origin) × Contains (children is) c × (LeftOf (path_of c) j → ⊥))

  event-front : (i : Event) (es : List Event) (is : List Item) (c : Option Fault) → OwnAlone es is c → OwnAlone (i ∷ es) (Happened i ∷ is) c
  event-front i es is None h = events_at-same j i es (own_events is) h
  event-front i es is (Some f) h = λ n. let a = h n in (events_at-same j i es (own_events is) a.0, a.1, a.2)

  child-front : (xs es : List Event) (is : List Item) (o : Origin) (c : Option Fault) → Each NotHere xs → OwnAlone es is c → OwnAlone (xs ++ es) (Child o ∷ is) c
  child-front xs es is o None n h = events_at-after j xs es n ∙ h
  child-front xs es is o (Some f) n h = λ b. let a = h b in (events_at-after j xs es n ∙ a.0, a.1, (a.2.0, later-one a.2.1, a.2.2))
    where
      later-one : {d : Origin} → Contains (children is) d → Contains (o ∷ children is) d
      later-one k = (suc k.0, omega (arith, k.1), k.2)

  own : (is : List Item) → ItemsRise is → BelowNone (children is) → OwnAlone (cut child is).events is (cut child is).cut_by
  own [] r b = refl
  own (Happened i ∷ is) r b = event-front i (cut child is).events is (cut child is).cut_by (own is r.1 b)
  own (Child o ∷ is) r b = by_end (child o).ending refl (own is r.2 b.1)
    where
      by_end : (q : Result (List Value) Fault) → (child o).ending ≡ q → OwnAlone (cut child is).events is (cut child is).cut_by →
          OwnAlone (child_first (child o).items q (cut child is)).events (Child o ∷ is) (child_first (child o).items q (cut child is)).cut_by
      by_end (Ok vs) e ih = child-front (child o).items (cut child is).events is o (cut child is).cut_by (child-not_here o b.0) ih
      by_end (Err f) e ih = λ n.
          let left : LeftOf (path_of o) j → ⊥ = λ l. n (left-fault o f l e) in
          let u = child-fault o f e in
          (events_at-none j (child o).items (child-not_here o b.0) ∙ sym (own-right (path_of o) is r.0 left), λ g. b.0 u.0 u.1 (sym g ∙ u.2), (o, (0, omega arith, refl), left))
  own (Opened k ∷ is) r b = own is r b
  own (Closed k ∷ is) r b = own is r b

  no_own-fault : (path : List ℕ) (os : List Origin) (c : Origin) (e : Result (List Value) NodeFault) → NodeStops path os e → Contains os c → (LeftOf (path_of c) j → ⊥) → own_fault_at j e ≡ None
  no_own-fault path os c (Ok vs) n k l = refl
  no_own-fault path os c (Err (Own f)) n k l =
      ap (λ b. if b then Some f else None) (is-other f.at j (λ g. l (subst (LeftOf (path_of c)) g (each-contained (λ o. LeftOf (path_of o) f.at) os c n.left k))))
  no_own-fault path os c (Err (ChildFaulted f)) n k l = refl

  own-at : (path : List ℕ) (es : List Event) (is : List Item) (d : Option Fault) (r : Evaluation) (e : Result (List Value) NodeFault) →
      OwnAlone es is d → Matches child (λ (vs : List Value). vs) es d r e → NodeStops path (children is) e → IsWholeUpTo j r.ending →
      record { events = events_at j (own_events is); fault = own_fault_at j e } ≡ strand_in j r
  own-at path es is None r (Ok vs) o m n w = rw m.2 (ap (λ l. record { events = l; fault = None }) (sym o))
  own-at path es is None r (Err (Own f)) o m n w = rw m (ap (λ l. record { events = l; fault = fault_at j (Err f) }) (sym o))
  own-at path es is None r (Err (ChildFaulted f)) o m n w = absurd m
  own-at path es is (Some f) r e o m n w =
      let v : IsWholeUpTo j (Err f) = rw m at w in
      let a = o v in
      rw (m, no_own-fault path (children is) a.2.0 e n a.2.1 a.2.2, fault_at-other j f a.1) (ap (λ l. record { events = l; fault = None }) (sym a.0))

  -- The evaluation r of a node, where the pedigree is below none of its children.
  pub own-strand : (path : List ℕ) (is : List Item) (r : Evaluation) (e : Result (List Value) NodeFault) → ItemsRise is → NodeStops path (children is) e → BelowNone (children is) →
      Matches child (λ (vs : List Value). vs) (cut child is).events (cut child is).cut_by r e → IsWholeUpTo j r.ending → record { events = events_at j (own_events is); fault = own_fault_at j e } ≡ strand_in j r
  own-strand path is r e rise n b m w = own-at path (cut child is).events is (cut child is).cut_by r e (own is rise b) m n w
