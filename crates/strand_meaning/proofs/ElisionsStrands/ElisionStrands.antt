-- A strand of the open tree is what the elision has of its pedigree, where no fault ends the elision before it.
use Rattle.std.proofs.Common.{◌≡◌, ℕ, zero, suc, ◌+◌, ◌-◌, ◌<◌, Bool, true, false, ◌&&◌, List, [], ◌∷◌, ◌++◌, Option, Some, None, length, length-append, take, drop, refl, sym, ap, ◌∙◌, subst, append_assoc, nat_lt, if◌then◌else◌, arith}
use Rattle.std.proofs.Common.{ℤ}
use Rattle.std.specs.Prelude.{Contains, slice_get}
use Rattle.std.specs.Str.{bytes_eq}
use Rattle.std.proofs.lemmas.Bool.Decides.{nat_tests}
use Rattle.std.proofs.lemmas.List.{take-append-drop, take-append-le, take_all}
use Rattle.serial_meaning.specs.Laws.{IsOriginOf, Main, ChildOf}
use Rattle.serial_meaning.specs.Plan.{PlanView}
use Rattle.serial_meaning.specs.Eval.{Evaluation, iteration, path_of, eval, depth_left, main_origin, elision}
use Rattle.serial_meaning.specs.Open.{Item, Happened, Child, Opened, Closed, node_of, strand_pedigrees}
use Rattle.serial_meaning.proofs.LeastFault.Children.{children, node-spread}
use Rattle.serial_meaning.proofs.Equations.Each.{Each}
use Rattle.serial_meaning.proofs.LeastFault.Sim.{eval-cuts}
use Rattle.serial_meaning.specs.declared.value.Value.{Value}
use Rattle.serial_meaning.specs.declared.event.Fault.{Fault}
use Rattle.serial_meaning.specs.declared.origin.Origin.{Origin}
use Rattle.serial_meaning.specs.declared.origin.Origin.TheVariants.{Instance, Loop}
use Rattle.strand_meaning.specs.Strands.{events_at, own_events, own_fault_at, is_below, child_on_way, Strand, Found, FoundStrand, Missing, Blocked, strand_of, last_step, blocking_fault, entered_child, iteration_on_way, next_step, by_child, is_one_of, walk_in, strand_at}
use Rattle.strand_meaning.specs.Rest.{children_of}
use Rattle.strand_meaning.specs.StrandLaws.{IsWholeUpTo, fault_at, strand_in}
use Rattle.strand_meaning.proofs.SoundSteps.OriginsFitDepth.{loop-of-plan, same-answer}
use Rattle.strand_meaning.proofs.SoundSteps.HalvesMakeLoops.{contains-turn}
use Rattle.strand_meaning.proofs.Unfilled.Variables.{same-name, is-itself}
use Rattle.strand_meaning.proofs.ElisionsStrands.ItemsRise.{NotBelow, IsWholeLoop, ItemsRise, items-rise}
use Rattle.strand_meaning.proofs.ElisionsStrands.EventsSplitByChildren.{Agree, agree, own-strand}
use Rattle.strand_meaning.proofs.ElisionsStrands.EventsBelowPath.{children-under}

-- Below a path

both : (a b : Bool) → (a && b) ≡ true → (a ≡ true) × (b ≡ true)
both true b e = (refl, e)
both false b e = absurd (cc)

below-true : (path : List ℕ) (k : ℕ) (more : List ℕ) (j : List ℕ) → j ≡ path ++ k ∷ more → is_below path j ≡ true
below-true path k more j e =
    let front : take (length path) j ≡ path = ap (take (length path)) e ∙ take-append-le (length path) path (k ∷ more) (omega arith) ∙ take_all (length path) path (omega arith) in
    let size : length j ≡ length path + length (k ∷ more) = ap length e ∙ length-append path (k ∷ more) in
    let longer : nat_lt (length path) (length j) ≡ true = grind (arith, nat_tests, size) in
    ap (λ b. b && bytes_eq (take (length path) j) path) longer ∙ ap (λ l. bytes_eq l path) front ∙ is-itself path

some-left : (ranks : List ℕ) (n : ℕ) → n < length ranks → (k : ℕ) × (more : List ℕ) × (drop n ranks ≡ k ∷ more)
some-left [] n h = absurd (omega arith)
some-left (r ∷ ranks) zero h = (r, ranks, refl)
some-left (r ∷ ranks) (suc n) h = some-left ranks n (omega arith)

below-of : (path j : List ℕ) → is_below path j ≡ true → (k : ℕ) × (more : List ℕ) × (j ≡ path ++ k ∷ more)
below-of path j e =
    let b = both (nat_lt (length path) (length j)) (bytes_eq (take (length path) j) path) e in
    let longer : length path < length j = grind (arith, nat_tests, b.0) in
    let rest = some-left j (length path) longer in
    (rest.0, rest.1, sym (take-append-drop (length path) j) ∙ ap (λ l. take (length path) j ++ l) rest.2 ∙ ap (λ l. l ++ rest.0 ∷ rest.1) (same-name (take (length path) j) path b.1))

-- The child on the way

none-below : (j : List ℕ) (is : List Item) → child_on_way j is ≡ None → Each (λ o. NotBelow j (path_of o)) (children is)
none-below j [] e = tt
none-below j (Happened x ∷ is) e = none-below j is e
none-below j (Child o ∷ is) e = by_test (is_below (path_of o) j) refl e (none-below j is)
  where
    by_test : (b : Bool) → is_below (path_of o) j ≡ b → (if b then Some o else child_on_way j is) ≡ None → (child_on_way j is ≡ None → Each (λ o. NotBelow j (path_of o)) (children is)) →
        NotBelow j (path_of o) × Each (λ o. NotBelow j (path_of o)) (children is)
    by_test true t h go = absurd (cc)
    by_test false t h go = (λ k more e. clash (sym (below-true (path_of o) k more j e) ∙ t), go h)
      where
        clash : true ≡ false → ⊥
        clash h = absurd (cc)
none-below j (Opened k ∷ is) e = none-below j is e
none-below j (Closed k ∷ is) e = none-below j is e

-- a child on the way is one of the items, and begins a longer pedigree
pub record OnWay (j : List ℕ) (is : List Item) (c : Origin) : Type 0 where
  pub among : Contains is (Child c)
  pub below : is_below (path_of c) j ≡ true
  pub whole : IsWholeLoop c

later-one : (i : Item) (is : List Item) (c : Origin) → Contains is (Child c) → Contains (i ∷ is) (Child c)
later-one i is c k = (suc k.0, omega (arith, k.1), k.2)

pub on-way : (j : List ℕ) (is : List Item) (c : Origin) → ItemsRise is → child_on_way j is ≡ Some c → OnWay j is c
on-way j [] c r e = absurd (cc)
on-way j (Happened x ∷ is) c r e = let w = on-way j is c r.1 e in record { among = later-one (Happened x) is c w.among; below = w.below; whole = w.whole }
on-way j (Child o ∷ is) c r e = by_test (is_below (path_of o) j) refl e (on-way j is c r.2)
  where
    by_test : (b : Bool) → is_below (path_of o) j ≡ b → (if b then Some o else child_on_way j is) ≡ Some c → (child_on_way j is ≡ Some c → OnWay j is c) → OnWay j (Child o ∷ is) c
    by_test true t h go = let same : o ≡ c = cc in subst (OnWay j (Child o ∷ is)) same (record { among = (0, omega arith, refl); below = t; whole = r.1 })
    by_test false t h go = let w = go h in record { among = later-one (Child o) is c w.among; below = w.below; whole = w.whole }
on-way j (Opened k ∷ is) c r e = let w = on-way j is c r e in record { among = later-one (Opened k) is c w.among; below = w.below; whole = w.whole }
on-way j (Closed k ∷ is) c r e = let w = on-way j is c r e in record { among = later-one (Closed k) is c w.among; below = w.below; whole = w.whole }

-- The walk

abbrev IsElisions : PlanView → List ℕ → Origin → Strand → Type 0
IsElisions plan j o strand = strand ≡ strand_in j (eval plan o)

-- of a pedigree below a child the parent's evaluation has what the child's has
into-child : (plan : PlanView) (j : List ℕ) (o c : Origin) (k : ℕ) (more : List ℕ) → IsOriginOf plan o → Contains (node_of plan o).items (Child c) → j ≡ path_of c ++ k ∷ more →
    IsWholeUpTo j (eval plan o).ending → Agree j (eval plan o) (eval plan c)
into-child plan j o c k more known among below w =
    let child : Origin → Evaluation = children_of plan o in
    let s = node-spread plan child o in
    subst (Agree j (eval plan o)) (same-answer plan o c (loop-of-plan plan o known) among)
    (agree child (children-under plan (depth_left plan o)) j (path_of o) (node_of plan o).items c k more (eval plan o) (node_of plan o).ending below (items-rise plan child o) s.stops among (eval-cuts plan o) w)

agreed : (j : List ℕ) (r s : Evaluation) (strand : Strand) → Agree j r s → strand ≡ strand_in j s → strand ≡ strand_in j r
agreed j r s strand a h = h ∙ ap (λ l. record { events = l; fault = fault_at j s.ending }) (sym a.events) ∙ ap (λ f. record { events = events_at j r.items; fault = f }) (sym a.fault)

-- the strand of the last instance on the way
last-walked : (plan : PlanView) (j : List ℕ) (o : Origin) (strand : Strand) → child_on_way j (node_of plan o).items ≡ None → IsWholeUpTo j (eval plan o).ending →
    last_step (blocking_fault (node_of plan o) j) (strand_of o (node_of plan o) j) ≡ FoundStrand strand → IsElisions plan j o strand
last-walked plan j o strand none w e = by_blocks (blocking_fault (node_of plan o) j) (strand_of o (node_of plan o) j) refl e
  where
    elisions : record { events = events_at j (own_events (node_of plan o).items); fault = own_fault_at j (node_of plan o).ending } ≡ strand_in j (eval plan o)
    elisions =
        let child : Origin → Evaluation = children_of plan o in
        let s = node-spread plan child o in
        own-strand child (children-under plan (depth_left plan o)) j (path_of o) (node_of plan o).items (eval plan o) (node_of plan o).ending (items-rise plan child o) s.stops (none-below j (node_of plan o).items none) (eval-cuts plan o) w

    strand-or : Found → Strand
    strand-or (FoundStrand s) = s
    strand-or Missing = strand
    strand-or (Blocked f) = strand

    by_one : (b : Bool) (s : Strand) → (if b then Some (record { events = events_at j (own_events (node_of plan o).items); fault = own_fault_at j (node_of plan o).ending }) else None) ≡ Some s →
        s ≡ record { events = events_at j (own_events (node_of plan o).items); fault = own_fault_at j (node_of plan o).ending }
    by_one true s h = sym (ap or_this h)
      where
        or_this : Option Strand → Strand
        or_this None = s
        or_this (Some t) = t
    by_one false s h = absurd (cc)

    by_blocks : (f : Option Fault) (s : Option Strand) → strand_of o (node_of plan o) j ≡ s → last_step f s ≡ FoundStrand strand → IsElisions plan j o strand
    by_blocks (Some f) s t h = absurd (cc)
    by_blocks None None t h = absurd (cc)
    by_blocks None (Some s) t h = sym (ap strand-or h) ∙ by_one (is_one_of j (strand_pedigrees o (node_of plan o))) s t ∙ elisions

next-is : (o : Option Origin) (go : Origin → Found) (strand : Strand) → next_step o go ≡ FoundStrand strand → (c : Origin) × (o ≡ Some c) × (go c ≡ FoundStrand strand)
next-is None go strand h = absurd (cc)
next-is (Some c) go strand h = (c, refl, h)

-- the iteration that is entered
rank-there : (path : List ℕ) (k : ℕ) (more : List ℕ) → slice_get (path ++ k ∷ more) (length path) ≡ Some k
rank-there [] k more = refl
rank-there (x ∷ path) k more = rank-there path k more

pub record Enters (j : List ℕ) (function : ℕ) (rest : List Value) (first : ℤ) (path : List ℕ) (count : ℕ) (c : Origin) : Type 0 where
  pub turn : ℕ
  pub within : turn < count
  pub is : c ≡ iteration function rest first path turn
  pub next : ℕ
  pub more : List ℕ
  pub below : j ≡ path_of c ++ next ∷ more

pub enters-turn : (j : List ℕ) (function : ℕ) (rest : List Value) (first : ℤ) (path : List ℕ) (count : ℕ) (k : ℕ) (more : List ℕ) (c : Origin) → j ≡ path ++ k ∷ more →
    iteration_on_way j function rest first path count (slice_get j (length path)) ≡ Some c → Enters j function rest first path count c
enters-turn j function rest first path count k more c e h = by_test (nat_lt k count && nat_lt (length path + 1) (length j)) refl named
  where
    named : (if nat_lt k count && nat_lt (length path + 1) (length j) then Some (iteration function rest first path k) else None) ≡ Some c
    named = sym (ap (iteration_on_way j function rest first path count) (ap (λ l. slice_get l (length path)) e ∙ rank-there path k more)) ∙ h

    more-left : nat_lt (length path + 1) (length j) ≡ true → 0 < length more
    more-left t = let size : length j ≡ length path + length (k ∷ more) = ap length e ∙ length-append path (k ∷ more) in grind (arith, nat_tests, t, size)

    or_this : Option Origin → Origin
    or_this None = c
    or_this (Some d) = d

    by_more : (rest_ranks : List ℕ) → more ≡ rest_ranks → 0 < length more → k < count → iteration function rest first path k ≡ c → Enters j function rest first path count c
    by_more [] g size low same = let none : length more ≡ 0 = ap length g in absurd (omega (arith, none, size))
    by_more (i ∷ ranks) g size low same = record {
      turn = k;
      within = low;
      is = sym same;
      next = i;
      more = ranks;
      below = e ∙ ap (λ l. path ++ k ∷ l) g ∙ sym (append_assoc path (k ∷ []) (i ∷ ranks)) ∙ ap (λ (d : Origin). path_of d ++ i ∷ ranks) same;
    }

    by_test : (b : Bool) → (nat_lt k count && nat_lt (length path + 1) (length j)) ≡ b → (if b then Some (iteration function rest first path k) else None) ≡ Some c → Enters j function rest first path count c
    by_test true t g =
        let b = both (nat_lt k count) (nat_lt (length path + 1) (length j)) t in
        by_more more refl (more-left b.1) (grind (arith, nat_tests, b.0)) (ap or_this g)
    by_test false t g = absurd (cc)

-- so many steps from an origin lead to what the elision has
abbrev Walks : PlanView → ℕ → List ℕ → Strand → Type 0
Walks plan steps j strand = (o : Origin) → IsOriginOf plan o → IsWholeUpTo j (eval plan o).ending → walk_in plan steps j o ≡ FoundStrand strand → IsElisions plan j o strand

walked : (plan : PlanView) (steps : ℕ) (j : List ℕ) (o : Origin) (strand : Strand) → IsOriginOf plan o → IsWholeUpTo j (eval plan o).ending → walk_in plan steps j o ≡ FoundStrand strand → IsElisions plan j o strand
walked plan zero j o strand known w e = absurd (cc)
walked plan (suc steps) j o strand known w e = by_way (λ c. walked plan steps j c strand) (child_on_way j (node_of plan o).items) refl e
  where
    -- by the child's evaluation
    by-child : (c : Origin) → Contains (node_of plan o).items (Child c) → (k : ℕ) (more : List ℕ) → j ≡ path_of c ++ k ∷ more → (IsWholeUpTo j (eval plan c).ending → IsElisions plan j c strand) → IsElisions plan j o strand
    by-child c among k more below go = let a = into-child plan j o c k more known among below w in agreed j (eval plan o) (eval plan c) strand a (go a.whole)

    by_kind : Walks plan steps j strand → (c : Origin) → OnWay j (node_of plan o).items c → next_step (entered_child j c) (walk_in plan steps j) ≡ FoundStrand strand → IsElisions plan j o strand
    by_kind later (Instance function args path) way h =
        let c : Origin = Instance function args path in
        let b = below-of path j way.below in
        by-child c way.among b.0 b.1 b.2 (λ v. later c (ChildOf o c known way.among) v h)
    by_kind later (Loop function rest first path range) way h =
        let c : Origin = Loop function rest first path range in
        let b = below-of path j way.below in
        let next = next-is (entered_child j c) (walk_in plan steps j) strand h in
        let turn = enters-turn j function rest first path (range.hi - range.lo) b.0 b.1 next.0 b.2 next.1 in
        let i : Origin = iteration function rest first path turn.turn in
        let of_plan : IsOriginOf plan c = ChildOf o c known way.among in
        let there : Contains (node_of plan c).items (Child i) = contains-turn function rest first path range.lo (range.hi - range.lo) turn.turn (let whole = way.whole in omega (arith, whole)) (let whole = way.whole in let low = turn.within in omega (arith, whole, low)) in
        let below_turn : j ≡ path_of i ++ turn.next ∷ turn.more = turn.below ∙ ap (λ (d : Origin). path_of d ++ turn.next ∷ turn.more) turn.is in
        by-child c way.among b.0 b.1 b.2 (λ v.
        let a = into-child plan j c i turn.next turn.more of_plan there below_turn v in
        agreed j (eval plan c) (eval plan i) strand a
        (later i (ChildOf c i of_plan there) a.whole (ap (walk_in plan steps j) (sym turn.is) ∙ next.2)))

    by_way : Walks plan steps j strand → (q : Option Origin) → child_on_way j (node_of plan o).items ≡ q →
        by_child q j (last_step (blocking_fault (node_of plan o) j) (strand_of o (node_of plan o) j)) (walk_in plan steps j) ≡ FoundStrand strand → IsElisions plan j o strand
    by_way later None t h = last-walked plan j o strand t w h
    by_way later (Some c) t h = by_kind later c (on-way j (node_of plan o).items c (items-rise plan (children_of plan o) o) t) h

pub strands_are_the_elisions : (plan : PlanView) (j : List ℕ) (strand : Strand) → IsWholeUpTo j (elision plan).ending → strand_at plan j ≡ FoundStrand strand →
    strand ≡ strand_in j (elision plan)
strands_are_the_elisions plan j strand w e = walked plan (length j) j (main_origin plan) strand Main w e
