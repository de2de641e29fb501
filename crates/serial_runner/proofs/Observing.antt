-- What is seen of an instance, by what is observed of it.
use Rattle.std.proofs.Common.{◌≡◌, ℕ, Bool, true, false, ◌||◌, ◌&&◌, List, [], ◌∷◌, ◌++◌, Option, Some, None, Result, Ok, Err, append-nil, if◌then◌else◌, refl, sym, ap, ◌∙◌, subst, arith}
use Rattle.serial_meaning.specs.Eval.{path_of}
use Rattle.serial_meaning.specs.Open as open_tree
use Rattle.serial_meaning.specs.Open.{Item, Happened, Child, Opened, Closed, NodeFault, Own, ChildFaulted, node_of, strand_pedigrees}
use Rattle.serial_meaning.specs.Runs.{after_items}
use Rattle.serial_meaning.specs.Plan.{PlanView}
use Rattle.serial_meaning.specs.declared.value.Value.{Value}
use Rattle.serial_meaning.specs.declared.event.Fault.{Fault}
use Rattle.serial_meaning.specs.declared.event.Event.{Event}
use Rattle.serial_meaning.specs.declared.origin.Origin.{Origin}
use Rattle.serial_meaning.specs.declared.origin.Origin.TheVariants.{Instance, Loop}
use Rattle.strand_meaning.specs.Observation.{IsInstanceOrigin, Observation, also, newest, own_fault_of, node_left, IsOnWay, IsAllObserved}
use Rattle.strand_meaning.specs.Task.{Task}
use Rattle.strand_meaning.specs.Strands.{Strand, is_below, events_at, own_events, own_fault_at, fault_of_child, last_pedigree, ended_before, child_on_way, is_one_of, strand_of, blocking_fault}
use Rattle.strand_meaning.proofs.NodesObserved.EventsOfPedigree.{events_at-append}
use Rattle.strand_machine.specs.Probes.{new_probe, probe_after, is_none_ahead}
use Rattle.strand_machine.specs.declared.probe.StrandProbe.{StrandProbe}
use Rattle.strand_machine.proofs.NodesObserved.Probes.{looks-append, own-append, places-seen, places-without, past-seen}
use Rattle.serial_runner.specs.Nodes.{IsBelow, node_by, node_at, fault_at, is_none, came_to, strand_seen, child_fault_before, node_seen}
use Rattle.serial_runner.specs.Observed.{with_observation, first_child, with_child, observed_on, IsSeen, is_some, is_over}
use Rattle.serial_runner.specs.declared.observed.ObservedInstance.{ObservedInstance}
use Rattle.serial_runner.proofs.Over.{IsOver, stays, comes, none-later, fault-later, not-ended, last-led, came-stays}
use Rattle.serial_runner.proofs.Places.{stands, came_by, stands-append, by-append, follow-front, follow-rest, NodeFollows, NodeEnds, node-follows}

-- What observations one after another say, over lists put together

pub child-append : (j : List ℕ) (xs ys : List Item) → child_on_way j (xs ++ ys) ≡ first_child (child_on_way j xs) (child_on_way j ys)
child-append j [] ys = refl
child-append j (Happened e ∷ xs) ys = child-append j xs ys
child-append j (Child o ∷ xs) ys = by_path (is_below (path_of o) j) (child-append j xs ys)
  where
    by_path : (b : Bool) → child_on_way j (xs ++ ys) ≡ first_child (child_on_way j xs) (child_on_way j ys) →
        (if b then Some o else child_on_way j (xs ++ ys)) ≡ first_child (if b then Some o else child_on_way j xs) (child_on_way j ys)
    by_path true h = refl
    by_path false h = h
child-append j (Opened k ∷ xs) ys = child-append j xs ys
child-append j (Closed k ∷ xs) ys = child-append j xs ys

-- Children among items

abbrev pub item_children : List Item → List Origin
item_children [] = []
item_children (Happened e ∷ is) = item_children is
item_children (Child o ∷ is) = o ∷ item_children is
item_children (Opened k ∷ is) = item_children is
item_children (Closed k ∷ is) = item_children is

pub children-append : (xs ys : List Item) → item_children (xs ++ ys) ≡ item_children xs ++ item_children ys
children-append [] ys = refl
children-append (Happened e ∷ xs) ys = children-append xs ys
children-append (Child o ∷ xs) ys = ap (λ l. o ∷ l) (children-append xs ys)
children-append (Opened k ∷ xs) ys = children-append xs ys
children-append (Closed k ∷ xs) ys = children-append xs ys

abbrev origin_on_way : List ℕ → List Origin → Option Origin
origin_on_way j [] = None
origin_on_way j (o ∷ os) = if is_below (path_of o) j then Some o else origin_on_way j os

child-among : (j : List ℕ) (is : List Item) → child_on_way j is ≡ origin_on_way j (item_children is)
child-among j [] = refl
child-among j (Happened e ∷ is) = child-among j is
child-among j (Child o ∷ is) = ap (λ (d : Option Origin). if is_below (path_of o) j then Some o else d) (child-among j is)
child-among j (Opened k ∷ is) = child-among j is
child-among j (Closed k ∷ is) = child-among j is

pub first-only : (o : Option Origin) → first_child o None ≡ o
first-only None = refl
first-only (Some o) = refl

-- What is seen once more is observed

module _ (path j : List ℕ) (observation later : Observation) where
  abbrev observed_so_far : Option Origin → ObservedInstance
  observed_so_far child = record {
    probe = probe_after j (new_probe path j) (observation.items ++ later.items);
    events = events_at j (own_events (observation.items ++ later.items));
    fault = newest observation.fault later.fault;
    child = child;
    child_fault = newest observation.child_fault later.child_fault;
  }

  with-events : (so_far events : List Event) → so_far ≡ events_at j (own_events observation.items) → events ≡ events_at j (own_events later.items) → so_far ++ events ≡ events_at j (own_events (observation.items ++ later.items))
  with-events so_far events e h =
      ap (λ (l : List Event). l ++ events) e ∙ ap (λ (l : List Event). events_at j (own_events observation.items) ++ l) h ∙ sym (events_at-append j (own_events observation.items) (own_events later.items))
      ∙ ap (events_at j) (sym (own-append observation.items later.items))

  pub seen-with : (s : ObservedInstance) (probe : StrandProbe) (events : List Event) (fault child_fault : Option Fault) → s ≡ observed_on path j observation → probe ≡ probe_after j s.probe later.items → events ≡ events_at j (own_events later.items) →
      fault ≡ later.fault → child_fault ≡ later.child_fault → with_observation probe events fault child_fault s ≡ observed_so_far (child_on_way j observation.items)
  seen-with s probe events fault child_fault e r v f g =
      ap (with_observation probe events fault child_fault) e
      ∙ ap (λ (b : StrandProbe). record (with_observation probe events fault child_fault (observed_on path j observation)) { probe = b }) (r ∙ ap (λ (t : ObservedInstance). probe_after j t.probe later.items) e ∙ sym (looks-append j (new_probe path j) observation.items later.items))
      ∙ ap (λ (l : List Event). record (observed_so_far (child_on_way j observation.items)) { events = l; fault = newest observation.fault fault; child_fault = newest observation.child_fault child_fault }) (with-events (events_at j (own_events observation.items)) events refl v)
      ∙ ap (λ (x : Option Fault). record (observed_so_far (child_on_way j observation.items)) { fault = newest observation.fault x; child_fault = newest observation.child_fault child_fault }) f
      ∙ ap (λ (x : Option Fault). record (observed_so_far (child_on_way j observation.items)) { child_fault = newest observation.child_fault x }) g

  -- where a child was begun, and where none was
  pub seen_child : (c : Origin) (s : ObservedInstance) → item_children later.items ≡ c ∷ [] → s ≡ observed_so_far (child_on_way j observation.items) → with_child j c s ≡ observed_on path j (also observation later)
  seen_child c s h e =
      ap (with_child j c) e
      ∙ ap (λ (x : Option Origin). observed_so_far (first_child (child_on_way j observation.items) x)) (sym (child-among j later.items ∙ ap (origin_on_way j) h))
      ∙ ap observed_so_far (sym (child-append j observation.items later.items))

  pub seen_none : (s : ObservedInstance) → item_children later.items ≡ [] → s ≡ observed_so_far (child_on_way j observation.items) → s ≡ observed_on path j (also observation later)
  seen_none s h e =
      e ∙ ap observed_so_far (sym (child-append j observation.items later.items ∙ ap (first_child (child_on_way j observation.items)) (child-among j later.items ∙ ap (origin_on_way j) h) ∙ first-only (child_on_way j observation.items)))

-- What is seen of a whole instance

abbrev a_strand : List Event → Option Fault → Strand
a_strand events fault = record { events = events; fault = fault }

abbrev an_observed : StrandProbe → List Event → Option Fault → Option Origin → Option Fault → ObservedInstance
an_observed probe events fault child child_fault = record { probe = probe; events = events; fault = fault; child = child; child_fault = child_fault }

own-at : (j : List ℕ) (e : Result (List Value) NodeFault) → fault_at j (own_fault_of e) ≡ own_fault_at j e
own-at j (Ok vs) = refl
own-at j (Err (Own f)) = refl
own-at j (Err (ChildFaulted f)) = refl

and-true : (a b : Bool) → (a || (b && true)) ≡ (a || b)
and-true true b = refl
and-true false true = refl
and-true false false = refl

and-false : (a b : Bool) → (a || (b && false)) ≡ a
and-false true b = refl
and-false false true = refl
and-false false false = refl

if-none : (b : Bool) → ◌≡◌ {A = Option Fault} (if b then None else None) None
if-none true = refl
if-none false = refl

some-rank : (path j : List ℕ) → IsBelow path j → (r : ℕ) × (more : List ℕ) × (j ≡ r ∷ more)
some-rank path [] h = absurd (let l = h.longer in omega (arith, l))
some-rank path (r ∷ more) h = (r, more, refl)

module _ (function : ℕ) (args : List Value) (path : List ℕ) (r : ℕ) (more : List ℕ) (n : open_tree.Node) where
  abbrev o : Origin
  o = Instance function args path

  abbrev j : List ℕ
  j = r ∷ more

  abbrev start : List ℕ
  start = path ++ 0 ∷ []

  abbrev observed_of : List Item → Result (List Value) NodeFault → ObservedInstance
  observed_of items e = an_observed (probe_after j (new_probe path j) items) (events_at j (own_events items)) (own_fault_of e) (child_on_way j items) (fault_of_child e)

  -- whether the instance came to the strand
  came-is : (e : Result (List Value) NodeFault) → came_to (observed_of n.items e) ≡ is_one_of j (strand_pedigrees o (record n { ending = e }))
  came-is (Ok vs) = let probe = probe_after j (new_probe path j) n.items in and-true probe.came (is_none_ahead probe.ahead) ∙ sym (places-seen r more start (new_probe path j) n.items refl)
  came-is (Err (Own f)) = let probe = probe_after j (new_probe path j) n.items in and-true probe.came (is_none_ahead probe.ahead) ∙ sym (places-seen r more start (new_probe path j) n.items refl)
  came-is (Err (ChildFaulted f)) = let probe = probe_after j (new_probe path j) n.items in and-false probe.came (is_none_ahead probe.ahead) ∙ sym (places-without r more start (new_probe path j) n.items refl)

  child_fault-is : (e : Result (List Value) NodeFault) → child_fault_before (observed_of n.items e) ≡ blocking_fault (record n { ending = e }) j
  child_fault-is (Ok vs) = if-none (probe_after j (new_probe path j) n.items).past
  child_fault-is (Err (Own f)) = if-none (probe_after j (new_probe path j) n.items).past
  child_fault-is (Err (ChildFaulted f)) = ap (λ (b : Bool). if b then Some f else None) (past-seen j [] (new_probe path j) n.items refl)

  strand-is : strand_seen j (observed_of n.items n.ending) ≡ strand_of o n j
  strand-is =
      ap (λ (b : Bool). if b then Some (a_strand (events_at j (own_events n.items)) (fault_at j (own_fault_of n.ending))) else None) (came-is n.ending)
      ∙ ap (λ (f : Option Fault). if is_one_of j (strand_pedigrees o n) then Some (a_strand (events_at j (own_events n.items)) f) else None) (own-at j n.ending)

  pub node-is : node_seen j (observed_of n.items n.ending) ≡ node_at o n j
  node-is = ap (λ (t : Option Strand). node_by (child_on_way j n.items) t (child_fault_before (observed_of n.items n.ending))) strand-is ∙ ap (λ (f : Option Fault). node_by (child_on_way j n.items) (strand_of o n j) f) (child_fault-is n.ending)

  -- Where a strand of its own was over before some of its items, the others tell no more.
  module _ (follows : NodeFollows path n) (xs ys : List Item) (parts : n.items ≡ xs ++ ys) (came : (probe_after j (new_probe path j) xs).came ≡ true) where
    whole : NodeFollows path (record n { items = xs ++ ys })
    whole = subst (λ (l : List Item). NodeFollows path (record n { items = l })) parts follows

    abbrev here : List ℕ
    here = stands start (xs ++ ys)

    abbrev by : List ℕ
    by = came_by [] (xs ++ ys)

    over : IsOver j (stands start xs) (came_by [] xs)
    over = comes j start [] xs (follow-front start [] xs ys (whole.follow [])) (places-without r more start (new_probe path j) xs refl ∙ came)

    at-end : IsOver j here by
    at-end =
        subst (λ (l : List ℕ). IsOver j l by) (sym (stands-append start xs ys)) (subst (IsOver j (stands (stands start xs) ys)) (sym (by-append [] xs ys))
        (stays j (stands start xs) (came_by [] xs) ys (follow-rest start [] xs ys (whole.follow [])) over))

    later : (events_at j (own_events ys) ≡ []) × (child_on_way j ys ≡ None)
    later = none-later j (stands start xs) (came_by [] xs) ys (follow-rest start [] xs ys (whole.follow [])) over

    same-child : child_on_way j n.items ≡ child_on_way j xs
    same-child = ap (child_on_way j) parts ∙ child-append j xs ys ∙ ap (first_child (child_on_way j xs)) later.1 ∙ first-only (child_on_way j xs)

    same-events : events_at j (own_events n.items) ≡ events_at j (own_events xs)
    same-events =
        ap (λ (l : List Item). events_at j (own_events l)) parts ∙ ap (events_at j) (own-append xs ys) ∙ events_at-append j (own_events xs) (own_events ys)
        ∙ ap (λ (l : List Event). events_at j (own_events xs) ++ l) later.0 ∙ append-nil (events_at j (own_events xs))

    still : (probe_after j (new_probe path j) n.items).came ≡ true
    still = ap (λ (l : List Item). (probe_after j (new_probe path j) l).came) parts ∙ ap (λ (e : StrandProbe). e.came) (looks-append j (new_probe path j) xs ys) ∙ came-stays j (probe_after j (new_probe path j) xs) ys came

    no-fault : (e : Result (List Value) NodeFault) → NodeEnds here by e → fault_at j (own_fault_of e) ≡ None
    no-fault (Ok vs) h = refl
    no-fault (Err (Own f)) h = ap (λ (b : Bool). if b then Some f else None) (fault-later j here f.at h.0 at-end.before)
    no-fault (Err (ChildFaulted f)) h = refl

    no-block : (e : Result (List Value) NodeFault) → NodeEnds here by e → child_fault_before (observed_of n.items e) ≡ None
    no-block (Ok vs) h = if-none (probe_after j (new_probe path j) n.items).past
    no-block (Err (Own f)) h = if-none (probe_after j (new_probe path j) n.items).past
    no-block (Err (ChildFaulted f)) h =
        ap (λ (b : Bool). if b then Some f else None)
        (past-seen j [] (new_probe path j) n.items refl
        ∙ ap (λ (l : List ℕ). ended_before l j) (ap (λ (l : List Item). last_pedigree [] (own_events l)) parts ∙ last-led [] [] (xs ++ ys) (λ q. refl) h.1)
        ∙ not-ended j by (at-end.after h.1))

    abbrev strand : Option Fault → Option Strand
    strand fault = Some (a_strand (events_at j (own_events xs)) fault)

    strand-there : strand_of o n j ≡ strand None
    strand-there =
        sym strand-is
        ∙ ap (λ (b : Bool). if b || (is_none_ahead (probe_after j (new_probe path j) n.items).ahead && is_none (fault_of_child n.ending)) then Some (a_strand (events_at j (own_events n.items)) (fault_at j (own_fault_of n.ending))) else None) still
        ∙ ap (λ (l : List Event). Some (a_strand l (fault_at j (own_fault_of n.ending)))) same-events
        ∙ ap strand (no-fault n.ending (whole.ends []))

    pub over-is : (s : ObservedInstance) → s.probe ≡ probe_after j (new_probe path j) xs → s.events ≡ events_at j (own_events xs) → s.fault ≡ None → s.child ≡ child_on_way j xs → s.child_fault ≡ None → node_seen j s ≡ node_at o n j
    over-is s probe events fault child child_fault =
        ap (λ (c : Option Origin). node_by c (strand_seen j s) (child_fault_before s)) (child ∙ sym same-child)
        ∙ ap (λ (t : Option Strand). node_by (child_on_way j n.items) t (child_fault_before s)) (here-strand ∙ sym strand-there)
        ∙ ap (λ (f : Option Fault). node_by (child_on_way j n.items) (strand_of o n j) f) (here-child_fault ∙ sym (sym (child_fault-is n.ending) ∙ no-block n.ending (whole.ends [])))
      where
        here-strand : strand_seen j s ≡ strand None
        here-strand =
            ap (λ (b : Bool). if b || (is_none_ahead s.probe.ahead && is_none s.child_fault) then Some (a_strand s.events (fault_at j s.fault)) else None) (ap (λ (e : StrandProbe). e.came) probe ∙ came)
            ∙ ap (λ (l : List Event). Some (a_strand l (fault_at j s.fault))) events
            ∙ ap (λ (f : Option Fault). strand (fault_at j f)) fault

        here-child_fault : child_fault_before s ≡ None
        here-child_fault = ap (λ (f : Option Fault). if s.probe.past then f else None) child_fault ∙ if-none s.probe.past

-- The node

-- a child on the way is told alone
pub by-child : (j : List ℕ) (s : ObservedInstance) (c : Origin) → s.child ≡ Some c → node_seen j s ≡ record { strand = None; child = Some c; child_fault = None }
by-child j s c e = ap (λ (d : Option Origin). node_by d (strand_seen j s) (child_fault_before s)) e

module _ (plan : PlanView) (o : Origin) (j : List ℕ) (i : IsInstanceOrigin o) (below : IsBelow (path_of o) j) where
  -- what is seen of the whole instance
  pub whole_seen : (observation : Observation) → IsAllObserved plan o observation → (s : ObservedInstance) → s ≡ observed_on (path_of o) j observation → IsSeen plan o j s
  whole_seen observation w s e = ap (node_seen j) (e ∙ same) ∙ from o i j below (node_of plan o)
    where
      n : open_tree.Node
      n = node_of plan o

      same : observed_on (path_of o) j observation ≡ an_observed (probe_after j (new_probe (path_of o) j) n.items) (events_at j (own_events n.items)) (own_fault_of n.ending) (child_on_way j n.items) (fault_of_child n.ending)
      same =
          ap (λ (l : List Item). an_observed (probe_after j (new_probe (path_of o) j) l) (events_at j (own_events l)) observation.fault (child_on_way j l) observation.child_fault) (sym w.items)
          ∙ ap (λ (f : Option Fault). an_observed (probe_after j (new_probe (path_of o) j) n.items) (events_at j (own_events n.items)) f (child_on_way j n.items) observation.child_fault) (sym w.fault)
          ∙ ap (λ (f : Option Fault). an_observed (probe_after j (new_probe (path_of o) j) n.items) (events_at j (own_events n.items)) (own_fault_of n.ending) (child_on_way j n.items) f) (sym w.child_fault)

      from : (o : Origin) → IsInstanceOrigin o → (j : List ℕ) → IsBelow (path_of o) j → (n : open_tree.Node) →
          node_seen j (an_observed (probe_after j (new_probe (path_of o) j) n.items) (events_at j (own_events n.items)) (own_fault_of n.ending) (child_on_way j n.items) (fault_of_child n.ending)) ≡ node_at o n j
      from (Instance function args path) i [] b n = absurd (let l = b.longer in omega (arith, l))
      from (Instance function args path) i (r ∷ more) b n = node-is function args path r more n
      from (Loop function rest first path range) i j b n = absurd i

  -- what is seen once nothing more counts
  pub over_seen : (observation : Observation) (u : Task) → u.plan ≡ plan → u.origin ≡ o → IsOnWay observation u → (s : ObservedInstance) → s ≡ observed_on (path_of o) j observation → is_over s ≡ true → IsSeen plan o j s
  over_seen observation u plan_is origin_is way s e h = by_child s.child refl
    where
      node : node_of plan o ≡ after_items observation.items (node_left u)
      node = subst (λ (p : PlanView). node_of p o ≡ after_items observation.items (node_left u)) plan_is (subst (λ (d : Origin). node_of u.plan d ≡ after_items observation.items (node_left u)) origin_is way.node)

      parts : (node_of plan o).items ≡ observation.items ++ (node_left u).items
      parts = ap (λ (n : open_tree.Node). n.items) node

      child : s.child ≡ child_on_way j observation.items
      child = ap (λ (t : ObservedInstance). t.child) e

      found : (c : Origin) → s.child ≡ Some c → IsSeen plan o j s
      found c g = by-child j s c g ∙ sym (ap (λ (d : Option Origin). node_by d (strand_of o (node_of plan o) j) (blocking_fault (node_of plan o) j)) there)
        where
          there : child_on_way j (node_of plan o).items ≡ Some c
          there = ap (child_on_way j) parts ∙ child-append j observation.items (node_left u).items ∙ ap (λ (d : Option Origin). first_child d (child_on_way j (node_left u).items)) (sym child ∙ g)

      came : s.child ≡ None → (s.probe.came ≡ true) × (s.fault ≡ None)
      came g = split s.probe.came s.fault (sym (ap (λ (d : Option Origin). is_some d || (s.probe.came && is_none s.fault)) g) ∙ h)
        where
          split : (b : Bool) (f : Option Fault) → (b && is_none f) ≡ true → (b ≡ true) × (f ≡ None)
          split true None k = (refl, refl)
          split true (Some f) k = absurd (cc)
          split false f k = absurd (cc)

      from : (o : Origin) → IsInstanceOrigin o → (j : List ℕ) → IsBelow (path_of o) j → (n : open_tree.Node) → NodeFollows (path_of o) n → n.items ≡ observation.items ++ (node_left u).items → (probe_after j (new_probe (path_of o) j) observation.items).came ≡ true →
          s.probe ≡ probe_after j (new_probe (path_of o) j) observation.items → s.events ≡ events_at j (own_events observation.items) → s.fault ≡ None → s.child ≡ child_on_way j observation.items → s.child_fault ≡ None → node_seen j s ≡ node_at o n j
      from (Instance function args path) i [] b n follows p c probe events fault one child_fault = absurd (let l = b.longer in omega (arith, l))
      from (Instance function args path) i (r ∷ more) b n follows p c probe events fault one child_fault = over-is function args path r more n follows observation.items (node_left u).items p c s probe events fault one child_fault
      from (Loop function rest first path range) i j b n follows p c probe events fault one child_fault = absurd i

      by_child : (c : Option Origin) → s.child ≡ c → IsSeen plan o j s
      by_child (Some c) g = found c g
      by_child None g =
          let k = came g in
          let probe : s.probe ≡ probe_after j (new_probe (path_of o) j) observation.items = ap (λ (t : ObservedInstance). t.probe) e in
          from o i j below (node_of plan o) (node-follows plan o i) parts (sym (ap (λ (y : StrandProbe). y.came) probe) ∙ k.0) probe (ap (λ (t : ObservedInstance). t.events) e) k.1 child (ap (λ (t : ObservedInstance). t.child_fault) e ∙ way.child_fault)
