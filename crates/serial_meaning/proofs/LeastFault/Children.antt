-- The children of a node of the open tree stand below its path, each left of all later ones, and its own fault stands after them.
use Rattle.std.proofs.Common.{◌≡◌, ℕ, zero, suc, ◌+◌, ◌-◌, ◌<◌, ◌≤◌, Bool, true, false, List, [], ◌∷◌, ◌++◌, Option, Some, None, Result, Ok, Err, map, refl, sym, ap, ◌∙◌, subst, append-nil, append_assoc, if◌then◌else◌, arith}
use Rattle.std.proofs.Common.{ℤ}
use Rattle.script_grammar.specs.declared.tree.Function.{Function}
use Rattle.serial_meaning.specs.Runs.{Run, done, after_items, continued, ◌then◌}
use Rattle.serial_meaning.specs.Values.{Env}
use Rattle.serial_meaning.specs.Functions.{function_at}
use Rattle.serial_meaning.specs.Plan.{PlanView, functions_of}
use Rattle.serial_meaning.specs.Exec.{State, strand, goes_out, frame, exec, instance, with_loop_values}
use Rattle.serial_meaning.specs.Eval.{Evaluation, iteration, path_of}
use Rattle.serial_meaning.specs.Open.{Item, Happened, Child, Opened, Closed, NodeFault, Own, ChildFaulted, Node, deferring, unless_child_faulted, loop_end, is_empty_loop, iterations, gathered, node_with}
use Rattle.serial_meaning.proofs.Equations.RunLaws.{then-then}
use Rattle.serial_meaning.proofs.RisingPedigrees.Closed.{closed-exec, returned-q}
use Rattle.serial_meaning.proofs.RisingPedigrees.Closed as Of
use Rattle.serial_meaning.proofs.Equations.Each.{Each, each-append, each-map}
use Rattle.serial_meaning.proofs.LeastFault.Left.{LeftOf, left-ranks}
use Rattle.serial_meaning.specs.declared.value.Value.{Value}
use Rattle.serial_meaning.specs.declared.event.Fault.{Fault}
use Rattle.serial_meaning.specs.declared.event.Event.{Event}
use Rattle.serial_meaning.specs.declared.event.Event.TheVariants as event
use Rattle.serial_meaning.specs.declared.origin.Origin.{Origin}
use Rattle.serial_meaning.specs.declared.origin.Origin.TheVariants as origin

-- the children among these items
abbrev pub children : List Item → List Origin
children [] = []
children (Happened e ∷ is) = children is
children (Child o ∷ is) = o ∷ children is
children (Opened j ∷ is) = children is
children (Closed j ∷ is) = children is

pub children-append : (xs ys : List Item) → children (xs ++ ys) ≡ children xs ++ children ys
children-append [] ys = refl
children-append (Happened e ∷ xs) ys = children-append xs ys
children-append (Child o ∷ xs) ys = ap (λ os. o ∷ os) (children-append xs ys)
children-append (Opened j ∷ xs) ys = children-append xs ys
children-append (Closed j ∷ xs) ys = children-append xs ys

pub children-map : (os : List Origin) → children (map Child os) ≡ os
children-map [] = refl
children-map (o ∷ os) = ap (λ cs. o ∷ cs) (children-map os)

-- its path goes on from the path with a rank from lo on and below hi
abbrev pub IsAt : List ℕ → ℕ → ℕ → Origin → Type 0
IsAt path lo hi o = (k : ℕ) × (more : List ℕ) × (path_of o ≡ path ++ k ∷ more) × (lo ≤ k) × (k < hi)

at-wider : (path : List ℕ) (lo lo' hi hi' : ℕ) → lo' ≤ lo → hi ≤ hi' → (o : Origin) → IsAt path lo hi o → IsAt path lo' hi' o
at-wider path lo lo' hi hi' a b o h = (h.0, h.1, h.2, omega (arith, h.3), omega (arith, h.4))

-- each stands left of all later ones
abbrev pub Rise : List Origin → Type 0
Rise [] = Unit {0}
Rise (o ∷ os) = Each (λ c. LeftOf (path_of o) (path_of c)) os × Rise os

pub record ChildrenRise (path : List ℕ) (lo hi : ℕ) (os : List Origin) : Type 0 where
  pub within : Each (IsAt path lo hi) os
  pub rise : Rise os

left-of_all : (path : List ℕ) (lo mid hi : ℕ) (o : Origin) (os : List Origin) → IsAt path lo mid o → Each (IsAt path mid hi) os → Each (λ c. LeftOf (path_of o) (path_of c)) os
left-of_all path lo mid hi o os h w = each-map os left w
  where
    left : (c : Origin) → IsAt path mid hi c → LeftOf (path_of o) (path_of c)
    left c g =
        subst (λ z. LeftOf z (path_of c)) (sym h.2) (subst (LeftOf (path ++ h.0 ∷ h.1)) (sym g.2) (left-ranks path h.0 g.0 h.1 g.1 (omega (arith, h.4, g.3))))

rise-append : (path : List ℕ) (lo mid hi : ℕ) (xs ys : List Origin) → Each (IsAt path lo mid) xs → Each (IsAt path mid hi) ys → Rise xs → Rise ys → Rise (xs ++ ys)
rise-append path lo mid hi [] ys w v r t = t
rise-append path lo mid hi (x ∷ xs) ys w v r t =
    (each-append (λ c. LeftOf (path_of x) (path_of c)) xs ys r.0 (left-of_all path lo mid hi x ys w.0 v), rise-append path lo mid hi xs ys w.1 v r.1 t)

pub children_rise-wider : (path : List ℕ) (lo lo' hi hi' : ℕ) (os : List Origin) → lo' ≤ lo → hi ≤ hi' → ChildrenRise path lo hi os → ChildrenRise path lo' hi' os
children_rise-wider path lo lo' hi hi' os a b c = record { within = each-map os (at-wider path lo lo' hi hi' a b) c.within; rise = c.rise }

children_rise-append : (path : List ℕ) (lo mid hi : ℕ) (xs ys : List Origin) → lo ≤ mid → mid ≤ hi → ChildrenRise path lo mid xs → ChildrenRise path mid hi ys → ChildrenRise path lo hi (xs ++ ys)
children_rise-append path lo mid hi xs ys a b c d = record {
  within = each-append (IsAt path lo hi) xs ys (each-map xs (at-wider path lo lo mid hi (omega arith) b) c.within) (each-map ys (at-wider path mid lo hi hi a (omega arith)) d.within);
  rise = rise-append path lo mid hi xs ys c.within d.within c.rise d.rise;
}

-- a fault below the path and from the rank lo on, of which these children all stand left
pub record StopsAfter (path : List ℕ) (lo : ℕ) (os : List Origin) (f : Fault) : Type 0 where
  pub rank : ℕ
  pub more : List ℕ
  pub at : f.at ≡ path ++ rank ∷ more
  pub from : lo ≤ rank
  pub left : Each (λ o. LeftOf (path_of o) f.at) os

-- an own fault stands so
abbrev pub Stops : List ℕ → ℕ → List Origin → NodeFault → Type 0
Stops path lo os (Own f) = StopsAfter path lo os f
Stops path lo os (ChildFaulted f) = Unit {0}

abbrev EndsAtRank : {A : Type 0} → List ℕ → (A → ℕ) → ℕ → ℕ → List Origin → Result A NodeFault → Type 0
EndsAtRank path rank lo hi os (Ok a) = hi ≡ rank a
EndsAtRank path rank lo hi os (Err e) = Stops path lo os e

record Spread {A : Type 0} (path : List ℕ) (rank : A → ℕ) (lo : ℕ) (r : Run Item NodeFault A) : Type 0 where
  hi : ℕ
  up : lo ≤ hi
  ends : EndsAtRank path rank lo hi (children r.items) r.ending
  spread : ChildrenRise path lo hi (children r.items)

-- more children before a fault
stops-later : (path : List ℕ) (lo mid : ℕ) (xs ys : List Origin) (e : NodeFault) → lo ≤ mid → Each (IsAt path lo mid) xs → Stops path mid ys e → Stops path lo (xs ++ ys) e
stops-later path lo mid xs ys (Own f) h w s = record {
  rank = s.rank;
  more = s.more;
  at = s.at;
  from = let from = s.from in omega arith;
  left = each-append (λ o. LeftOf (path_of o) f.at) xs ys (each-map xs left w) s.left;
}
  where
    left : (o : Origin) → IsAt path lo mid o → LeftOf (path_of o) f.at
    left o g =
        let from = s.from in
        subst (λ z. LeftOf z f.at) (sym g.2) (subst (LeftOf (path ++ g.0 ∷ g.1)) (sym s.at) (left-ranks path g.0 s.rank g.1 s.more (omega (arith, g.4, from))))
stops-later path lo mid xs ys (ChildFaulted f) h w s = tt

spread-then : {A B : Type 0} (path : List ℕ) (f-rank : A → ℕ) (g-rank : B → ℕ) (lo : ℕ) (r : Run Item NodeFault A) (f : A → Run Item NodeFault B) →
    Spread path f-rank lo r → ((a : A) → Spread path g-rank (f-rank a) (f a)) → Spread path g-rank lo (r then f)
spread-then {A = A} {B = B} path f-rank g-rank lo r f h k = from r.items r.ending h.hi h.up h.ends h.spread
  where
    from : (items : List Item) (e : Result A NodeFault) (hi : ℕ) → lo ≤ hi → EndsAtRank path f-rank lo hi (children items) e → ChildrenRise path lo hi (children items) → Spread path g-rank lo (continued items e f)
    from items (Err e) hi u n c = record { hi = hi; up = u; ends = n; spread = c }
    from items (Ok a) hi u n c = record {
      hi = (k a).hi;
      up = higher (k a).up;
      ends = rw (children-append items (f a).items) (later (f a).ending (k a).ends);
      spread = rw (children-append items (f a).items) (children_rise-append path lo hi (k a).hi (children items) (children (f a).items) u (same (k a).up) c (rw n (k a).spread));
    }
      where
        higher : {m : ℕ} → f-rank a ≤ m → lo ≤ m
        higher g = omega arith

        same : {m : ℕ} → f-rank a ≤ m → hi ≤ m
        same g = omega arith

        within : Each (IsAt path lo (f-rank a)) (children items)
        within = subst (λ z. Each (IsAt path lo z) (children items)) n c.within

        later : (e : Result B NodeFault) → EndsAtRank path g-rank (f-rank a) (k a).hi (children (f a).items) e → EndsAtRank path g-rank lo (k a).hi (children items ++ children (f a).items) e
        later (Ok b) x = x
        later (Err e) x = stops-later path lo (f-rank a) (children items) (children (f a).items) e (higher (omega arith)) within x

-- the same of a whole node
abbrev pub NodeStops : List ℕ → List Origin → Result (List Value) NodeFault → Type 0
NodeStops path os (Ok vs) = Unit {0}
NodeStops path os (Err e) = Stops path 0 os e

pub record NodeSpread (path : List ℕ) (node : Node) : Type 0 where
  pub hi : ℕ
  pub stops : NodeStops path (children node.items) node.ending
  pub spread : ChildrenRise path 0 hi (children node.items)

node-from_spread : {A : Type 0} (path : List ℕ) (rank : A → ℕ) (r : Run Item NodeFault A) (g : A → List Value) → Spread path rank 0 r → NodeSpread path (r then λ a. done (g a))
node-from_spread {A} path rank r g h = from r.items r.ending h.hi h.ends h.spread
  where
    from : (items : List Item) (e : Result A NodeFault) (hi : ℕ) → EndsAtRank path rank 0 hi (children items) e → ChildrenRise path 0 hi (children items) → NodeSpread path (continued items e (λ a. done (g a)))
    from items (Err e) hi n c = record { hi = hi; stops = n; spread = c }
    from items (Ok a) hi n c = record { hi = hi; stops = tt; spread = rw append-nil c }

-- below a rank
at-under : (path : List ℕ) (k hi : ℕ) (o : Origin) → IsAt (path ++ k ∷ []) 0 hi o → IsAt path k (k + 1) o
at-under path k hi o h = (k, h.0 ∷ h.1, h.2 ∙ append_assoc path (k ∷ []) (h.0 ∷ h.1), omega arith, omega arith)

stops-under : (path : List ℕ) (k : ℕ) (os : List Origin) (e : NodeFault) → Stops (path ++ k ∷ []) 0 os e → Stops path k os e
stops-under path k os (Own f) s = record { rank = k; more = s.rank ∷ s.more; at = s.at ∙ append_assoc path (k ∷ []) (s.rank ∷ s.more); from = omega arith; left = s.left }
stops-under path k os (ChildFaulted f) s = tt

module _ (plan : PlanView) (child : Origin → Evaluation) where
  abbrev S : Type 0
  S = State (Option Fault)

  abbrev rank_of : S → ℕ
  rank_of s = s.rank

  abbrev pair_rank : Value × S → ℕ
  pair_rank p = p.1.rank

  abbrev P : List ℕ → ℕ → Run Item NodeFault S → Type 0
  P path lo r = Spread path rank_of lo r

  abbrev Q : List ℕ → ℕ → Run Item NodeFault (Value × S) → Type 0
  Q path lo r = Spread path pair_rank lo r

  -- no child
  silent : {A : Type 0} (path : List ℕ) (rank : A → ℕ) (lo : ℕ) (items : List Item) (a : A) → children items ≡ [] → lo ≤ rank a → Spread path rank lo (record { items = items; ending = Ok a })
  silent path rank lo items a none up = record { hi = rank a; up = up; ends = refl; spread = rw none (record { within = tt; rise = tt }) }

  stop : {A : Type 0} (path : List ℕ) (rank : A → ℕ) (lo : ℕ) (f : Fault) → f.at ≡ path ++ lo ∷ [] → Spread {A = A} path rank lo (record { items = []; ending = Err (Own f) })
  stop path rank lo f at = record {
    hi = lo;
    up = omega arith;
    ends = record { rank = lo; more = []; at = at; from = omega arith; left = tt };
    spread = record { within = tt; rise = tt };
  }

  alone : (path : List ℕ) (k : ℕ) (o : Origin) → path_of o ≡ path ++ k ∷ [] → ChildrenRise path k (k + 1) (o ∷ [])
  alone path k o h = record { within = ((k, [], h, omega arith, omega arith), tt); rise = (tt, tt) }

  sync-spread : (path : List ℕ) (s : S) (e : Event) (k : Option Fault) → P path s.rank (after_items (Happened e ∷ []) (unless_child_faulted k then λ k. done (record s { rank = s.rank + 1; spawned = k })))
  sync-spread path s e None = silent path rank_of s.rank (Happened e ∷ []) (record s { rank = s.rank + 1; spawned = None }) refl (omega arith)
  sync-spread path s e (Some f) = record { hi = s.rank; up = omega arith; ends = tt; spread = record { within = tt; rise = tt } }

  loop-spread : (path : List ℕ) (b : Bool) (q : Result (List Value) Fault) (o : Origin) (s : S) (e : Event) (target : List Value → Env) → path_of o ≡ path ++ s.rank ∷ [] →
      P path s.rank (after_items (Happened e ∷ []) ((if b then done [] else record { items = Child o ∷ []; ending = loop_end q }) then λ ws. done (record s { rank = s.rank + 1; env = target ws })))
  loop-spread path true q o s e target h = record { hi = s.rank + 1; up = omega arith; ends = refl; spread = record { within = tt; rise = tt } }
  loop-spread path false (Ok ws) o s e target h = record { hi = s.rank + 1; up = omega arith; ends = refl; spread = alone path s.rank o h }
  loop-spread path false (Err f) o s e target h = record { hi = s.rank + 1; up = omega arith; ends = tt; spread = alone path s.rank o h }

  -- all children of a scope stand below its rank
  scope-spread : (path : List ℕ) (s : S) (r : Run Item NodeFault S) → P (path ++ s.rank ∷ []) 0 r → P path s.rank (after_items (Opened (path ++ s.rank ∷ []) ∷ []) r then goes_out (deferring plan child) plan path s.rank)
  scope-spread path s r h = from r.items r.ending h.hi h.ends h.spread
    where
      here : List ℕ
      here = path ++ s.rank ∷ []

      up : (hi : ℕ) (os : List Origin) → ChildrenRise here 0 hi os → ChildrenRise path s.rank (s.rank + 1) os
      up hi os c = record { within = each-map os (at-under path s.rank hi) c.within; rise = c.rise }

      out : (items : List Item) → children (items ++ Closed here ∷ []) ≡ children items
      out items = children-append items (Closed here ∷ []) ∙ append-nil (children items)

      from : (items : List Item) (e : Result S NodeFault) (hi : ℕ) → EndsAtRank here rank_of 0 hi (children items) e → ChildrenRise here 0 hi (children items) →
          P path s.rank (continued (Opened here ∷ items) e (goes_out (deferring plan child) plan path s.rank))
      from items (Ok a) hi n c = record { hi = s.rank + 1; up = omega arith; ends = refl; spread = rw (out items) (up hi (children items) c) }
      from items (Err e) hi n c = record { hi = s.rank + 1; up = omega arith; ends = stops-under path s.rank (children items) e n; spread = up hi (children items) c }

  rules : Of.Closed (deferring plan child) plan P Q
  rules = record {
    p-done = λ path s. silent path rank_of s.rank [] s refl (omega arith);
    q-done = λ path v s. silent path pair_rank s.rank [] (v, s) refl (omega arith);
    p-stop = λ path k s. stop path rank_of s.rank (record { kind = k; at = strand path s }) refl;
    q-stop = λ path k s. stop path pair_rank s.rank (record { kind = k; at = strand path s }) refl;
    p-print = λ path v s. silent path rank_of s.rank (Happened (event.Print (strand path s) v) ∷ []) s refl (omega arith);
    q-draw = λ path s. record { hi = s.rank + 1; up = omega arith; ends = refl; spread = record { within = tt; rise = tt } };
    q-new = λ path s. record { hi = s.rank + 1; up = omega arith; ends = refl; spread = record { within = tt; rise = tt } };
    p-join = λ path s. sync-spread path s (event.Sync (strand path s)) s.spawned;
    q-child = λ path n vs s _. record { hi = s.rank + 1; up = omega arith; ends = refl; spread = alone path s.rank (origin.Instance n vs (strand path s)) refl };
    p-loop = λ path n vs lo hi target s _. let o = origin.Loop n vs lo (strand path s) (record { lo = 0; hi = hi }) in loop-spread path (is_empty_loop o) (child o).ending o s (event.Loop (strand path s)) (λ ws. with_loop_values target ws s.env) refl;
    p-scope = λ path s r _ h. scope-spread path s r h;
    pp = λ path n r f h k. spread-then path rank_of rank_of n r f h k;
    pq = λ path n r f h k. spread-then path rank_of pair_rank n r f h k;
    qp = λ path n r f h k. spread-then path pair_rank rank_of n r f h k;
    qq = λ path n r f h k. spread-then path pair_rank pair_rank n r f h k;
  }

  frame-spread : (path : List ℕ) (o : Option Function) (vs : List Value) (s : S) → Q path s.rank (frame (deferring plan child) plan path (exec (deferring plan child) plan) 0 o vs s)
  frame-spread path None vs s = silent path pair_rank s.rank [] _ refl (omega arith)
  frame-spread path (Some f) vs s =
      spread-then path rank_of pair_rank s.rank _ _ (closed-exec (deferring plan child) plan P Q rules path 0 f.body _) (λ a. returned-q (deferring plan child) plan P Q rules path f a)

  abbrev begins : S
  begins = record { env = []; rank = 0; steps = plan.limits.budget; spawned = None }

  instance-spread : (path : List ℕ) (o : Option Function) (vs : List Value) → NodeSpread path (instance (deferring plan child) plan path o vs then λ v. done (v ∷ []))
  instance-spread path o vs =
      let run : Run Item NodeFault (Value × S) = frame (deferring plan child) plan path (exec (deferring plan child) plan) 0 o vs begins in
      subst (NodeSpread path) (sym (then-then run (λ p. done p.0) (λ v. done (v ∷ [])))) (node-from_spread path pair_rank run (λ p. p.0 ∷ []) (frame-spread path o vs begins))

iterations-rise : (function : ℕ) (rest : List Value) (first : ℤ) (path : List ℕ) (k n : ℕ) → ChildrenRise path k (k + n) (iterations function rest first path k n)
iterations-rise function rest first path k zero = record { within = tt; rise = tt }
iterations-rise function rest first path k (suc n) =
    let later = iterations-rise function rest first path (k + 1) n in
    let here : IsAt path k (k + 1) (iteration function rest first path k) = (k, [], refl, omega arith, omega arith) in
    record {
      within = (at-wider path k k (k + 1) (k + suc n) (omega arith) (omega arith) (iteration function rest first path k) here, each-map (iterations function rest first path (k + 1) n) (at-wider path (k + 1) k (k + 1 + n) (k + suc n) (omega arith) (omega arith)) later.within);
      rise = (left-of_all path k (k + 1) (k + 1 + n) (iteration function rest first path k) (iterations function rest first path (k + 1) n) here later.within, later.rise);
    }

loop_end-stops : (path : List ℕ) (os : List Origin) (q : Result (List Value) Fault) → NodeStops path os (loop_end q)
loop_end-stops path os (Ok vs) = tt
loop_end-stops path os (Err f) = tt

pub node-spread : (plan : PlanView) (child : Origin → Evaluation) (o : Origin) → NodeSpread (path_of o) (node_with plan child o)
node-spread plan child (origin.Instance function args path) = instance-spread plan child path (function_at (functions_of plan) function) args
node-spread plan child (origin.Loop function rest first path range) =
    let n = range.hi - range.lo in
    let os = iterations function rest first path range.lo n in
    record {
      hi = range.lo + n;
      stops = loop_end-stops path (children (map Child os)) (gathered child os);
      spread = rw (children-map os) (children_rise-wider path range.lo 0 (range.lo + n) (range.lo + n) os (omega arith) (omega arith) (iterations-rise function rest first path range.lo n));
    }
