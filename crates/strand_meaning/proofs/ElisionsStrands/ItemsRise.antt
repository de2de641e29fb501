-- The items of a node stand below its path; what stands after a child is right of it, and no event before a child is below it.
use Rattle.std.proofs.Common.{◌≡◌, ℕ, zero, suc, ◌+◌, ◌-◌, ◌≤◌, Bool, true, false, List, [], ◌∷◌, ◌++◌, Option, Some, None, Result, Ok, Err, map, length, length-append, refl, sym, ap, ◌∙◌, subst, append-nil, append_assoc, if◌then◌else◌, arith}
use Rattle.std.proofs.Common.{ℤ}
use Rattle.std.proofs.lemmas.List.{append_cancel_left}
use Rattle.script_grammar.specs.declared.tree.Function.{Function}
use Rattle.serial_meaning.specs.Runs.{Run, done, after_items, continued, ◌then◌}
use Rattle.serial_meaning.specs.Values.{Env}
use Rattle.serial_meaning.specs.Functions.{function_at}
use Rattle.serial_meaning.specs.Plan.{PlanView, functions_of}
use Rattle.serial_meaning.specs.Exec.{State, strand, goes_out, frame, exec, instance, with_loop_values}
use Rattle.serial_meaning.specs.Eval.{Evaluation, path_of, iteration}
use Rattle.serial_meaning.specs.Open.{Item, Happened, Child, Opened, Closed, NodeFault, Node, deferring, unless_child_faulted, loop_end, is_empty_loop, iterations, node_with}
use Rattle.serial_meaning.proofs.Equations.RunLaws.{then-then}
use Rattle.serial_meaning.proofs.RisingPedigrees.Closed.{closed-exec, returned-q}
use Rattle.serial_meaning.proofs.RisingPedigrees.Closed as Of
use Rattle.serial_meaning.proofs.LeastFault.Children.{IsAt}
use Rattle.serial_meaning.proofs.LeastFault.Left.{LeftOf, left-ranks, rank-same}
use Rattle.serial_meaning.specs.declared.value.Value.{Value}
use Rattle.serial_meaning.specs.declared.event.Fault.{Fault}
use Rattle.serial_meaning.specs.declared.event.Event.{Event}
use Rattle.serial_meaning.specs.declared.event.Event.TheVariants as event
use Rattle.serial_meaning.specs.declared.origin.Origin.{Origin}
use Rattle.serial_meaning.specs.declared.origin.Origin.TheVariants as origin
use Rattle.strand_meaning.specs.Strands.{pedigree_of}

-- a loop that is begun from its first iteration on
abbrev pub IsWholeLoop : Origin → Type 0
IsWholeLoop (origin.Instance function args path) = Unit {0}
IsWholeLoop (origin.Loop function rest first path range) = range.lo ≡ 0

-- it doesn't go on from the path
abbrev pub NotBelow : List ℕ → List ℕ → Type 0
NotBelow j path = (k : ℕ) (more : List ℕ) → j ≡ path ++ k ∷ more → ⊥

-- all events and children here are right of a path
abbrev pub RightOf : List ℕ → List Item → Type 0
RightOf j [] = Unit {0}
RightOf j (Happened e ∷ is) = LeftOf j (pedigree_of e) × RightOf j is
RightOf j (Child o ∷ is) = LeftOf j (path_of o) × RightOf j is
RightOf j (Opened k ∷ is) = RightOf j is
RightOf j (Closed k ∷ is) = RightOf j is

-- a pedigree is below no child here
abbrev pub ClearOf : List ℕ → List Item → Type 0
ClearOf j [] = Unit {0}
ClearOf j (Happened e ∷ is) = ClearOf j is
ClearOf j (Child o ∷ is) = NotBelow j (path_of o) × ClearOf j is
ClearOf j (Opened k ∷ is) = ClearOf j is
ClearOf j (Closed k ∷ is) = ClearOf j is

abbrev pub ItemsRise : List Item → Type 0
ItemsRise [] = Unit {0}
ItemsRise (Happened e ∷ is) = ClearOf (pedigree_of e) is × ItemsRise is
ItemsRise (Child o ∷ is) = RightOf (path_of o) is × IsWholeLoop o × ItemsRise is
ItemsRise (Opened k ∷ is) = ItemsRise is
ItemsRise (Closed k ∷ is) = ItemsRise is

-- an event stands below the path from the rank lo on, and at the rank hi only in its own strand
abbrev EventAt : List ℕ → ℕ → ℕ → List ℕ → Type 0
EventAt path lo hi j = (k : ℕ) × (more : List ℕ) × (j ≡ path ++ k ∷ more) × (lo ≤ k) × (k ≤ hi) × (k ≡ hi → more ≡ [])

abbrev Placed : List ℕ → ℕ → ℕ → List Item → Type 0
Placed path lo hi [] = Unit {0}
Placed path lo hi (Happened e ∷ is) = EventAt path lo hi (pedigree_of e) × Placed path lo hi is
Placed path lo hi (Child o ∷ is) = IsAt path lo hi o × Placed path lo hi is
Placed path lo hi (Opened k ∷ is) = Placed path lo hi is
Placed path lo hi (Closed k ∷ is) = Placed path lo hi is

event-wider : (path : List ℕ) (lo lo' hi hi' : ℕ) (j : List ℕ) → lo' ≤ lo → hi ≤ hi' → EventAt path lo hi j → EventAt path lo' hi' j
event-wider path lo lo' hi hi' j a b e = (e.0, e.1, e.2, omega (arith, e.3), omega (arith, e.4), λ h. e.5 (omega (arith, h, e.4, b)))

placed-wider : (path : List ℕ) (lo lo' hi hi' : ℕ) (is : List Item) → lo' ≤ lo → hi ≤ hi' → Placed path lo hi is → Placed path lo' hi' is
placed-wider path lo lo' hi hi' [] a b p = tt
placed-wider path lo lo' hi hi' (Happened e ∷ is) a b p = (event-wider path lo lo' hi hi' (pedigree_of e) a b p.0, placed-wider path lo lo' hi hi' is a b p.1)
placed-wider path lo lo' hi hi' (Child o ∷ is) a b p = (let c = p.0 in (c.0, c.1, c.2, omega (arith, c.3), omega (arith, c.4)), placed-wider path lo lo' hi hi' is a b p.1)
placed-wider path lo lo' hi hi' (Opened k ∷ is) a b p = placed-wider path lo lo' hi hi' is a b p
placed-wider path lo lo' hi hi' (Closed k ∷ is) a b p = placed-wider path lo lo' hi hi' is a b p

placed-append : (path : List ℕ) (lo hi : ℕ) (xs ys : List Item) → Placed path lo hi xs → Placed path lo hi ys → Placed path lo hi (xs ++ ys)
placed-append path lo hi [] ys p q = q
placed-append path lo hi (Happened e ∷ xs) ys p q = (p.0, placed-append path lo hi xs ys p.1 q)
placed-append path lo hi (Child o ∷ xs) ys p q = (p.0, placed-append path lo hi xs ys p.1 q)
placed-append path lo hi (Opened k ∷ xs) ys p q = placed-append path lo hi xs ys p q
placed-append path lo hi (Closed k ∷ xs) ys p q = placed-append path lo hi xs ys p q

right-append : (j : List ℕ) (xs ys : List Item) → RightOf j xs → RightOf j ys → RightOf j (xs ++ ys)
right-append j [] ys a b = b
right-append j (Happened e ∷ xs) ys a b = (a.0, right-append j xs ys a.1 b)
right-append j (Child o ∷ xs) ys a b = (a.0, right-append j xs ys a.1 b)
right-append j (Opened k ∷ xs) ys a b = right-append j xs ys a b
right-append j (Closed k ∷ xs) ys a b = right-append j xs ys a b

clear-append : (j : List ℕ) (xs ys : List Item) → ClearOf j xs → ClearOf j ys → ClearOf j (xs ++ ys)
clear-append j [] ys a b = b
clear-append j (Happened e ∷ xs) ys a b = clear-append j xs ys a b
clear-append j (Child o ∷ xs) ys a b = (a.0, clear-append j xs ys a.1 b)
clear-append j (Opened k ∷ xs) ys a b = clear-append j xs ys a b
clear-append j (Closed k ∷ xs) ys a b = clear-append j xs ys a b

-- what stands from a rank on is right of a child below it
right-placed : (path : List ℕ) (lo mid hi : ℕ) (o : Origin) → IsAt path lo mid o → (is : List Item) → Placed path mid hi is → RightOf (path_of o) is
right-placed path lo mid hi o c [] p = tt
right-placed path lo mid hi o c (Happened e ∷ is) p =
    (let x = p.0 in subst (λ z. LeftOf z (pedigree_of e)) (sym c.2) (subst (LeftOf (path ++ c.0 ∷ c.1)) (sym x.2) (left-ranks path c.0 x.0 c.1 x.1 (omega (arith, c.4, x.3)))), right-placed path lo mid hi o c is p.1)
right-placed path lo mid hi o c (Child d ∷ is) p =
    (let x = p.0 in subst (λ z. LeftOf z (path_of d)) (sym c.2) (subst (LeftOf (path ++ c.0 ∷ c.1)) (sym x.2) (left-ranks path c.0 x.0 c.1 x.1 (omega (arith, c.4, x.3)))), right-placed path lo mid hi o c is p.1)
right-placed path lo mid hi o c (Opened k ∷ is) p = right-placed path lo mid hi o c is p
right-placed path lo mid hi o c (Closed k ∷ is) p = right-placed path lo mid hi o c is p

-- and no child from there on has an event below it that stands up to the rank
clear-placed : (path : List ℕ) (lo mid hi : ℕ) (j : List ℕ) → EventAt path lo mid j → (is : List Item) → Placed path mid hi is → ClearOf j is
clear-placed path lo mid hi j e [] p = tt
clear-placed path lo mid hi j e (Happened x ∷ is) p = clear-placed path lo mid hi j e is p.1
clear-placed path lo mid hi j e (Child d ∷ is) p = (not-below, clear-placed path lo mid hi j e is p.1)
  where
    not-below : NotBelow j (path_of d)
    not-below i rest h =
        let c = p.0 in
        let whole : path ++ e.0 ∷ e.1 ≡ path ++ c.0 ∷ (c.1 ++ i ∷ rest) = sym e.2 ∙ h ∙ ap (λ z. z ++ i ∷ rest) c.2 ∙ append_assoc path (c.0 ∷ c.1) (i ∷ rest) in
        let rank : e.0 ≡ c.0 = rank-same path e.0 c.0 e.1 (c.1 ++ i ∷ rest) whole in
        let none : e.1 ≡ [] = e.5 (omega (arith, rank, e.4, c.3)) in
        let size : length (e.0 ∷ e.1) ≡ length (c.0 ∷ (c.1 ++ i ∷ rest)) = ap length (append_cancel_left path (e.0 ∷ e.1) (c.0 ∷ (c.1 ++ i ∷ rest)) whole) in
        let empty : length e.1 ≡ 0 = ap length none in
        let more = length-append c.1 (i ∷ rest) in
        absurd (omega (arith, size, empty, more))
clear-placed path lo mid hi j e (Opened k ∷ is) p = clear-placed path lo mid hi j e is p
clear-placed path lo mid hi j e (Closed k ∷ is) p = clear-placed path lo mid hi j e is p

rise-append : (path : List ℕ) (lo mid hi : ℕ) (xs ys : List Item) → Placed path lo mid xs → Placed path mid hi ys → ItemsRise xs → ItemsRise ys → ItemsRise (xs ++ ys)
rise-append path lo mid hi [] ys p q r t = t
rise-append path lo mid hi (Happened e ∷ xs) ys p q r t =
    (clear-append (pedigree_of e) xs ys r.0 (clear-placed path lo mid hi (pedigree_of e) p.0 ys q), rise-append path lo mid hi xs ys p.1 q r.1 t)
rise-append path lo mid hi (Child o ∷ xs) ys p q r t =
    (right-append (path_of o) xs ys r.0 (right-placed path lo mid hi o p.0 ys q), r.1, rise-append path lo mid hi xs ys p.1 q r.2 t)
rise-append path lo mid hi (Opened k ∷ xs) ys p q r t = rise-append path lo mid hi xs ys p q r t
rise-append path lo mid hi (Closed k ∷ xs) ys p q r t = rise-append path lo mid hi xs ys p q r t

abbrev EndsAtRank : {A : Type 0} → (A → ℕ) → ℕ → Result A NodeFault → Type 0
EndsAtRank rank hi (Ok a) = hi ≡ rank a
EndsAtRank rank hi (Err e) = Unit {0}

record Spread {A : Type 0} (path : List ℕ) (rank : A → ℕ) (lo : ℕ) (r : Run Item NodeFault A) : Type 0 where
  hi : ℕ
  up : lo ≤ hi
  ends : EndsAtRank rank hi r.ending
  placed : Placed path lo hi r.items
  rise : ItemsRise r.items

spread-then : {A B : Type 0} (path : List ℕ) (f-rank : A → ℕ) (g-rank : B → ℕ) (lo : ℕ) (r : Run Item NodeFault A) (f : A → Run Item NodeFault B) →
    Spread path f-rank lo r → ((a : A) → Spread path g-rank (f-rank a) (f a)) → Spread path g-rank lo (r then f)
spread-then {A = A} {B = B} path f-rank g-rank lo r f h k = from r.items r.ending h.hi h.up h.ends h.placed h.rise
  where
    from : (items : List Item) (e : Result A NodeFault) (hi : ℕ) → lo ≤ hi → EndsAtRank f-rank hi e → Placed path lo hi items → ItemsRise items → Spread path g-rank lo (continued items e f)
    from items (Err e) hi u n p s = record { hi = hi; up = u; ends = tt; placed = p; rise = s }
    from items (Ok a) hi u n p s = record {
      hi = (k a).hi;
      up = higher (k a).up;
      ends = (k a).ends;
      placed = placed-append path lo (k a).hi items (f a).items (placed-wider path lo lo hi (k a).hi items (omega arith) (same (k a).up) p) (placed-wider path (f-rank a) lo (k a).hi (k a).hi (f a).items (higher (omega arith)) (omega arith) (k a).placed);
      rise = rise-append path lo hi (k a).hi items (f a).items p (rw n (k a).placed) s (k a).rise;
    }
      where
        higher : {m : ℕ} → f-rank a ≤ m → lo ≤ m
        higher g = omega arith

        same : {m : ℕ} → f-rank a ≤ m → hi ≤ m
        same g = omega arith

-- below a rank
placed-under : (path : List ℕ) (k hi : ℕ) (is : List Item) → Placed (path ++ k ∷ []) 0 hi is → Placed path k (k + 1) is
placed-under path k hi [] p = tt
placed-under path k hi (Happened e ∷ is) p =
    (let x = p.0 in (k, x.0 ∷ x.1, x.2 ∙ append_assoc path (k ∷ []) (x.0 ∷ x.1), omega arith, omega arith, λ h. absurd (omega (arith, h))), placed-under path k hi is p.1)
placed-under path k hi (Child o ∷ is) p = (let x = p.0 in (k, x.0 ∷ x.1, x.2 ∙ append_assoc path (k ∷ []) (x.0 ∷ x.1), omega arith, omega arith), placed-under path k hi is p.1)
placed-under path k hi (Opened j ∷ is) p = placed-under path k hi is p
placed-under path k hi (Closed j ∷ is) p = placed-under path k hi is p

-- nothing goes on from itself
not-itself : (j path : List ℕ) → j ≡ path → NotBelow j path
not-itself j path e k more h = let size : length j ≡ length path + length (k ∷ more) = ap length h ∙ length-append path (k ∷ more) in let same : length j ≡ length path = ap length e in absurd (omega (arith, size, same))

module _ (plan : PlanView) (child : Origin → Evaluation) where
  abbrev S : Type 0
  S = State (Option Fault)

  abbrev rank_of : S → ℕ
  rank_of s = s.rank

  abbrev pair_rank : Value × S → ℕ
  pair_rank p = p.1.rank

  abbrev P : List ℕ → ℕ → Run Item NodeFault S → Type 0
  P path lo r = Spread path rank_of lo r

  abbrev Q : List ℕ → ℕ → Run Item NodeFault (Value × S) → Type 0
  Q path lo r = Spread path pair_rank lo r

  -- an event of the strand at this rank, before which so many are left
  event-at : (path : List ℕ) (k hi : ℕ) → k ≤ hi → EventAt path k hi (path ++ k ∷ [])
  event-at path k hi h = (k, [], refl, omega arith, h, λ e. refl)

  silent : {A : Type 0} (path : List ℕ) (rank : A → ℕ) (lo : ℕ) (a : A) → lo ≡ rank a → Spread path rank lo (done a)
  silent path rank lo a e = record { hi = lo; up = omega arith; ends = e; placed = tt; rise = tt }

  prefix : {A : Type 0} (path : List ℕ) (rank : A → ℕ) (lo hi : ℕ) (e : Event) (q : Result A NodeFault) → pedigree_of e ≡ path ++ lo ∷ [] → lo ≤ hi → EndsAtRank rank hi q → Spread path rank lo (record { items = Happened e ∷ []; ending = q })
  prefix path rank lo hi e q h up ends = record { hi = hi; up = up; ends = ends; placed = (subst (EventAt path lo hi) (sym h) (event-at path lo hi up), tt); rise = (tt, tt) }

  -- an event and the child that it begins
  begins_child : {A : Type 0} (path : List ℕ) (rank : A → ℕ) (lo : ℕ) (e : Event) (o : Origin) (q : Result A NodeFault) → pedigree_of e ≡ path ++ lo ∷ [] → path_of o ≡ path ++ lo ∷ [] → IsWholeLoop o → EndsAtRank rank (lo + 1) q →
      Spread path rank lo (record { items = Happened e ∷ Child o ∷ []; ending = q })
  begins_child path rank lo e o q h g w ends = record {
    hi = lo + 1;
    up = omega arith;
    ends = ends;
    placed = (subst (EventAt path lo (lo + 1)) (sym h) (event-at path lo (lo + 1) (omega arith)), ((lo, [], g, omega arith, omega arith), tt));
    rise = ((not-itself (pedigree_of e) (path_of o) (h ∙ sym g), tt), (tt, w, tt));
  }

  sync-spread : (path : List ℕ) (s : S) (k : Option Fault) → P path s.rank (after_items (Happened (event.Sync (strand path s)) ∷ []) (unless_child_faulted k then λ k. done (record s { rank = s.rank + 1; spawned = k })))
  sync-spread path s None = prefix path rank_of s.rank (s.rank + 1) (event.Sync (strand path s)) (Ok (record s { rank = s.rank + 1; spawned = None })) refl (omega arith) refl
  sync-spread path s (Some f) = record { hi = s.rank; up = omega arith; ends = tt; placed = (event-at path s.rank s.rank (omega arith), tt); rise = (tt, tt) }

  loop-spread : (path : List ℕ) (b : Bool) (q : Result (List Value) Fault) (o : Origin) (s : S) (target : List Value → Env) → path_of o ≡ path ++ s.rank ∷ [] → IsWholeLoop o →
      P path s.rank (after_items (Happened (event.Loop (strand path s)) ∷ []) ((if b then done [] else record { items = Child o ∷ []; ending = loop_end q }) then λ ws. done (record s { rank = s.rank + 1; env = target ws })))
  loop-spread path true q o s target h w = prefix path rank_of s.rank (s.rank + 1) (event.Loop (strand path s)) (Ok (record s { rank = s.rank + 1; env = target [] })) refl (omega arith) refl
  loop-spread path false (Ok ws) o s target h w = begins_child path rank_of s.rank (event.Loop (strand path s)) o (Ok (record s { rank = s.rank + 1; env = target ws })) refl h w refl
  loop-spread path false (Err f) o s target h w = begins_child path rank_of s.rank (event.Loop (strand path s)) o _ refl h w tt

  scope-spread : (path : List ℕ) (s : S) (r : Run Item NodeFault S) → P (path ++ s.rank ∷ []) 0 r → P path s.rank (after_items (Opened (path ++ s.rank ∷ []) ∷ []) r then goes_out (deferring plan child) plan path s.rank)
  scope-spread path s r h = from r.items r.ending h.hi h.placed h.rise
    where
      here : List ℕ
      here = path ++ s.rank ∷ []

      from : (items : List Item) (e : Result S NodeFault) (hi : ℕ) → Placed here 0 hi items → ItemsRise items → P path s.rank (continued (Opened here ∷ items) e (goes_out (deferring plan child) plan path s.rank))
      from items (Ok a) hi p t = record {
        hi = s.rank + 1;
        up = omega arith;
        ends = refl;
        placed = placed-append path s.rank (s.rank + 1) items (Closed here ∷ []) (placed-under path s.rank hi items p) tt;
        rise = rise-append path s.rank (s.rank + 1) (s.rank + 1) items (Closed here ∷ []) (placed-under path s.rank hi items p) tt t tt;
      }
      from items (Err e) hi p t = record { hi = s.rank + 1; up = omega arith; ends = tt; placed = placed-under path s.rank hi items p; rise = t }

  rules : Of.Closed (deferring plan child) plan P Q
  rules = record {
    p-done = λ path s. silent path rank_of s.rank s refl;
    q-done = λ path v s. silent path pair_rank s.rank (v, s) refl;
    p-stop = λ path k s. record { hi = s.rank; up = omega arith; ends = tt; placed = tt; rise = tt };
    q-stop = λ path k s. record { hi = s.rank; up = omega arith; ends = tt; placed = tt; rise = tt };
    p-print = λ path v s. prefix path rank_of s.rank s.rank (event.Print (strand path s) v) (Ok s) refl (omega arith) refl;
    q-draw = λ path s. prefix path pair_rank s.rank (s.rank + 1) (event.Draw (strand path s) _) (Ok (_, record s { rank = s.rank + 1 })) refl (omega arith) refl;
    q-new = λ path s. prefix path pair_rank s.rank (s.rank + 1) (event.New (strand path s)) (Ok (_, record s { rank = s.rank + 1 })) refl (omega arith) refl;
    p-join = λ path s. sync-spread path s s.spawned;
    q-child = λ path n vs s _. begins_child path pair_rank s.rank (event.Spawn (strand path s)) (origin.Instance n vs (strand path s)) _ refl refl tt refl;
    p-loop = λ path n vs lo hi target s _. let o = origin.Loop n vs lo (strand path s) (record { lo = 0; hi = hi }) in loop-spread path (is_empty_loop o) (child o).ending o s (λ ws. with_loop_values target ws s.env) refl refl;
    p-scope = λ path s r _ h. scope-spread path s r h;
    pp = λ path n r f h k. spread-then path rank_of rank_of n r f h k;
    pq = λ path n r f h k. spread-then path rank_of pair_rank n r f h k;
    qp = λ path n r f h k. spread-then path pair_rank rank_of n r f h k;
    qq = λ path n r f h k. spread-then path pair_rank pair_rank n r f h k;
  }

  frame-spread : (path : List ℕ) (o : Option Function) (vs : List Value) (s : S) → Q path s.rank (frame (deferring plan child) plan path (exec (deferring plan child) plan) 0 o vs s)
  frame-spread path None vs s = silent path pair_rank s.rank _ refl
  frame-spread path (Some f) vs s =
      spread-then path rank_of pair_rank s.rank _ _ (closed-exec (deferring plan child) plan P Q rules path 0 f.body _) (λ a. returned-q (deferring plan child) plan P Q rules path f a)

  abbrev begins : S
  begins = record { env = []; rank = 0; steps = plan.limits.budget; spawned = None }

  items-kept : {A : Type 0} (r : Run Item NodeFault A) (g : A → List Value) → ItemsRise r.items → ItemsRise (r then λ a. done (g a)).items
  items-kept {A} r g h = from r.items r.ending h
    where
      from : (items : List Item) (e : Result A NodeFault) → ItemsRise items → ItemsRise (continued items e (λ a. done (g a))).items
      from items (Err e) h = h
      from items (Ok a) h = rw append-nil h

  instance-rises : (path : List ℕ) (o : Option Function) (vs : List Value) → ItemsRise (instance (deferring plan child) plan path o vs then λ v. done (v ∷ [])).items
  instance-rises path o vs =
      let run : Run Item NodeFault (Value × S) = frame (deferring plan child) plan path (exec (deferring plan child) plan) 0 o vs begins in
      subst (λ (n : Node). ItemsRise n.items) (sym (then-then run (λ p. done p.0) (λ v. done (v ∷ [])))) (items-kept run (λ p. p.0 ∷ []) (frame-spread path o vs begins).rise)

iterations-placed : (function : ℕ) (rest : List Value) (first : ℤ) (path : List ℕ) (k n : ℕ) → Placed path k (k + n) (map Child (iterations function rest first path k n))
iterations-placed function rest first path k zero = tt
iterations-placed function rest first path k (suc n) =
    ((k, [], refl, omega arith, omega arith), placed-wider path (k + 1) k (k + 1 + n) (k + suc n) (map Child (iterations function rest first path (k + 1) n)) (omega arith) (omega arith) (iterations-placed function rest first path (k + 1) n))

iterations-rise : (function : ℕ) (rest : List Value) (first : ℤ) (path : List ℕ) (k n : ℕ) → ItemsRise (map Child (iterations function rest first path k n))
iterations-rise function rest first path k zero = tt
iterations-rise function rest first path k (suc n) = (
  right-placed path k (k + 1) (k + 1 + n) (iteration function rest first path k) (k, [], refl, omega arith, omega arith) (map Child (iterations function rest first path (k + 1) n)) (iterations-placed function rest first path (k + 1) n),
  tt,
  iterations-rise function rest first path (k + 1) n,
)

pub items-rise : (plan : PlanView) (child : Origin → Evaluation) (o : Origin) → ItemsRise (node_with plan child o).items
items-rise plan child (origin.Instance function args path) = instance-rises plan child path (function_at (functions_of plan) function) args
items-rise plan child (origin.Loop function rest first path range) = iterations-rise function rest first path range.lo (range.hi - range.lo)
