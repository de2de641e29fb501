-- The strands of an instance in their order: each event is of the strand that the items before it led to, and a child is begun by the event
-- before it.
use Rattle.std.proofs.Common.{◌≡◌, ℕ, ◌+◌, Bool, true, false, List, [], ◌∷◌, ◌++◌, Option, Some, None, Result, Ok, Err, refl, sym, ap, ◌∙◌, subst, append-nil, if◌then◌else◌}
use Rattle.script_grammar.specs.declared.tree.Function.{Function}
use Rattle.serial_meaning.specs.Runs.{Run, done, after_items, continued, ◌then◌}
use Rattle.serial_meaning.specs.Functions.{function_at}
use Rattle.serial_meaning.specs.Plan.{PlanView, functions_of}
use Rattle.serial_meaning.specs.Exec.{State, goes_out, frame, exec, with_loop_values}
use Rattle.serial_meaning.specs.Eval.{Evaluation, path_of, eval_below, depth_left}
use Rattle.serial_meaning.specs.Open.{Item, Happened, Child, Opened, Closed, NodeFault, Own, ChildFaulted, Node, deferring, unless_child_faulted, loop_end, is_empty_loop, raised, strand_after, last_of, node_of}
use Rattle.serial_meaning.proofs.RisingPedigrees.Closed.{Closed as Rules, closed-exec, returned-q}
use Rattle.serial_meaning.specs.declared.value.Value.{Value}
use Rattle.serial_meaning.specs.declared.event.Fault.{Fault}
use Rattle.serial_meaning.specs.declared.event.Event.{Event}
use Rattle.serial_meaning.specs.declared.event.Event.TheVariants as event
use Rattle.serial_meaning.specs.declared.origin.Origin.{Origin}
use Rattle.serial_meaning.specs.declared.origin.Origin.TheVariants as origin
use Rattle.strand_meaning.specs.Observation.{IsInstanceOrigin}
use Rattle.strand_meaning.specs.Strands.{pedigree_of}
use Rattle.strand_machine.proofs.NodesObserved.Probes.{risen-last}

-- a strand's pedigree: a path and a rank
abbrev pub IsStrand : List ℕ → Type 0
IsStrand place = (path : List ℕ) × (rank : ℕ) × (place ≡ path ++ rank ∷ [])

-- where the instance stands after these items
abbrev pub stands : List ℕ → List Item → List ℕ
stands here [] = here
stands here (Happened e ∷ items) = stands (last_of here (strand_after here e)) items
stands here (Child o ∷ items) = stands here items
stands here (Opened j ∷ items) = stands (j ++ 0 ∷ []) items
stands here (Closed j ∷ items) = stands (raised j) items

-- the pedigree of an event that raises the rank
abbrev pub raised_by : Event → List ℕ
raised_by (event.Print j v) = []
raised_by (event.Draw j n) = j
raised_by (event.New j) = j
raised_by (event.Spawn j) = j
raised_by (event.Sync j) = j
raised_by (event.Loop j) = j

-- of the event that led to where the instance stands, if an event did
abbrev pub came_by : List ℕ → List Item → List ℕ
came_by by [] = by
came_by by (Happened e ∷ items) = came_by (raised_by e) items
came_by by (Child o ∷ items) = came_by by items
came_by by (Opened j ∷ items) = came_by [] items
came_by by (Closed j ∷ items) = came_by [] items

-- These items come from the strand `here`, to which an event of the pedigree `by` led.
abbrev pub Follow : List ℕ → List ℕ → List Item → Type 0
Follow here by [] = Unit {0}
Follow here by (Happened e ∷ items) = (pedigree_of e ≡ here) × IsStrand here × Follow (last_of here (strand_after here e)) (raised_by e) items
Follow here by (Child o ∷ items) = (path_of o ≡ by) × (IsStrand by) × Follow here by items
Follow here by (Opened j ∷ items) = (j ≡ here) × IsStrand here × Follow (j ++ 0 ∷ []) [] items
Follow here by (Closed j ∷ items) = IsStrand j × ((rank : ℕ) × (here ≡ j ++ rank ∷ [])) × Follow (raised j) [] items

pub stands-append : (here : List ℕ) (xs ys : List Item) → stands here (xs ++ ys) ≡ stands (stands here xs) ys
stands-append here [] ys = refl
stands-append here (Happened e ∷ xs) ys = stands-append (last_of here (strand_after here e)) xs ys
stands-append here (Child o ∷ xs) ys = stands-append here xs ys
stands-append here (Opened j ∷ xs) ys = stands-append (j ++ 0 ∷ []) xs ys
stands-append here (Closed j ∷ xs) ys = stands-append (raised j) xs ys

pub by-append : (by : List ℕ) (xs ys : List Item) → came_by by (xs ++ ys) ≡ came_by (came_by by xs) ys
by-append by [] ys = refl
by-append by (Happened e ∷ xs) ys = by-append (raised_by e) xs ys
by-append by (Child o ∷ xs) ys = by-append by xs ys
by-append by (Opened j ∷ xs) ys = by-append [] xs ys
by-append by (Closed j ∷ xs) ys = by-append [] xs ys

pub follow-append : (here by : List ℕ) (xs ys : List Item) → Follow here by xs → Follow (stands here xs) (came_by by xs) ys → Follow here by (xs ++ ys)
follow-append here by [] ys f g = g
follow-append here by (Happened e ∷ xs) ys f g = (f.0, f.1, follow-append (last_of here (strand_after here e)) (raised_by e) xs ys f.2 g)
follow-append here by (Child o ∷ xs) ys f g = (f.0, f.1, follow-append here by xs ys f.2 g)
follow-append here by (Opened j ∷ xs) ys f g = (f.0, f.1, follow-append (j ++ 0 ∷ []) [] xs ys f.2 g)
follow-append here by (Closed j ∷ xs) ys f g = (f.0, f.1, follow-append (raised j) [] xs ys f.2 g)

pub follow-front : (here by : List ℕ) (xs ys : List Item) → Follow here by (xs ++ ys) → Follow here by xs
follow-front here by [] ys f = tt
follow-front here by (Happened e ∷ xs) ys f = (f.0, f.1, follow-front (last_of here (strand_after here e)) (raised_by e) xs ys f.2)
follow-front here by (Child o ∷ xs) ys f = (f.0, f.1, follow-front here by xs ys f.2)
follow-front here by (Opened j ∷ xs) ys f = (f.0, f.1, follow-front (j ++ 0 ∷ []) [] xs ys f.2)
follow-front here by (Closed j ∷ xs) ys f = (f.0, f.1, follow-front (raised j) [] xs ys f.2)

pub follow-rest : (here by : List ℕ) (xs ys : List Item) → Follow here by (xs ++ ys) → Follow (stands here xs) (came_by by xs) ys
follow-rest here by [] ys f = f
follow-rest here by (Happened e ∷ xs) ys f = follow-rest (last_of here (strand_after here e)) (raised_by e) xs ys f.2
follow-rest here by (Child o ∷ xs) ys f = follow-rest here by xs ys f.2
follow-rest here by (Opened j ∷ xs) ys f = follow-rest (j ++ 0 ∷ []) [] xs ys f.2
follow-rest here by (Closed j ∷ xs) ys f = follow-rest (raised j) [] xs ys f.2

-- Where a run ends: by its own fault at the strand where it stands, and by a child's after the event that led there.
abbrev EndsAt : {A : Type 0} → List ℕ → (A → ℕ) → List ℕ → List ℕ → Result A NodeFault → Type 0
EndsAt path rank here by (Ok a) = here ≡ path ++ rank a ∷ []
EndsAt path rank here by (Err (Own f)) = (f.at ≡ here) × IsStrand here
EndsAt path rank here by (Err (ChildFaulted f)) = (here ≡ raised by) × IsStrand by

-- a run of an instance at a present path from a rank on
record Follows {A : Type 0} (path : List ℕ) (rank : A → ℕ) (lo : ℕ) (r : Run Item NodeFault A) : Type 0 where
  follow : (by : List ℕ) → Follow (path ++ lo ∷ []) by r.items
  ends : (by : List ℕ) → EndsAt path rank (stands (path ++ lo ∷ []) r.items) (came_by by r.items) r.ending

follows-then : {A B : Type 0} (path : List ℕ) (f-rank : A → ℕ) (g-rank : B → ℕ) (lo : ℕ) (r : Run Item NodeFault A) (f : A → Run Item NodeFault B) →
    Follows path f-rank lo r → ((a : A) → Follows path g-rank (f-rank a) (f a)) → Follows path g-rank lo (r then f)
follows-then {A = A} {B = B} path f-rank g-rank lo r f h k = from r.items r.ending h.follow h.ends
  where
    start : List ℕ
    start = path ++ lo ∷ []

    from : (items : List Item) (q : Result A NodeFault) → ((by : List ℕ) → Follow start by items) → ((by : List ℕ) → EndsAt path f-rank (stands start items) (came_by by items) q) → Follows path g-rank lo (continued items q f)
    from items (Err (Own x)) g e = record { follow = g; ends = e }
    from items (Err (ChildFaulted x)) g e = record { follow = g; ends = e }
    from items (Ok a) g e = record { follow = follow; ends = ends }
      where
        more : List Item
        more = (f a).items

        follow : (by : List ℕ) → Follow start by (items ++ more)
        follow by = follow-append start by items more (g by) (subst (λ (l : List ℕ). Follow l (came_by by items) more) (sym (e by)) ((k a).follow (came_by by items)))

        place : (by : List ℕ) → stands start (items ++ more) ≡ stands (path ++ f-rank a ∷ []) more
        place by = stands-append start items more ∙ ap (λ (l : List ℕ). stands l more) (e by)

        ends : (by : List ℕ) → EndsAt path g-rank (stands start (items ++ more)) (came_by by (items ++ more)) (f a).ending
        ends by =
            subst (λ (l : List ℕ). EndsAt path g-rank l (came_by by (items ++ more)) (f a).ending) (sym (place by))
            (subst (λ (l : List ℕ). EndsAt path g-rank (stands (path ++ f-rank a ∷ []) more) l (f a).ending) (sym (by-append by items more)) ((k a).ends (came_by by items)))

module _ (plan : PlanView) (child : Origin → Evaluation) where
  abbrev S : Type 0
  S = State (Option Fault)

  abbrev rank_of : S → ℕ
  rank_of s = s.rank

  abbrev pair_rank : Value × S → ℕ
  pair_rank p = p.1.rank

  abbrev P : List ℕ → ℕ → Run Item NodeFault S → Type 0
  P path lo r = Follows path rank_of lo r

  abbrev Q : List ℕ → ℕ → Run Item NodeFault (Value × S) → Type 0
  Q path lo r = Follows path pair_rank lo r

  strand-is : (path : List ℕ) (rank : ℕ) → IsStrand (path ++ rank ∷ [])
  strand-is path rank = (path, rank, refl)

  -- one event that raises the rank
  one : {A : Type 0} (path : List ℕ) (rank : A → ℕ) (lo : ℕ) (e : Event) (a : A) → pedigree_of e ≡ path ++ lo ∷ [] → strand_after (path ++ lo ∷ []) e ≡ raised (path ++ lo ∷ []) ∷ [] → rank a ≡ lo + 1 →
      Follows path rank lo (record { items = Happened e ∷ []; ending = Ok a })
  one path rank lo e a at raises r = record {
    follow = λ by. (at, strand-is path lo, tt);
    ends = λ by. ap (last_of (path ++ lo ∷ [])) raises ∙ risen-last path lo ∙ ap (λ (n : ℕ). path ++ n ∷ []) (sym r);
  }

  join-follows : (path : List ℕ) (s : S) (known : Option Fault) → P path s.rank (after_items (Happened (event.Sync (path ++ s.rank ∷ [])) ∷ []) (unless_child_faulted known then λ k. done (record s { rank = s.rank + 1; spawned = k })))
  join-follows path s None = one path rank_of s.rank (event.Sync (path ++ s.rank ∷ [])) (record s { rank = s.rank + 1; spawned = None }) refl refl refl
  join-follows path s (Some f) = record { follow = λ by. (refl, strand-is path s.rank, tt); ends = λ by. (refl, strand-is path s.rank) }

  -- an event, and the child that it begins
  begun : {A : Type 0} (path : List ℕ) (rank : A → ℕ) (lo : ℕ) (e : Event) (o : Origin) (q : Result A NodeFault) → pedigree_of e ≡ path ++ lo ∷ [] → raised_by e ≡ path ++ lo ∷ [] → strand_after (path ++ lo ∷ []) e ≡ raised (path ++ lo ∷ []) ∷ [] →
      path_of o ≡ path ++ lo ∷ [] → EndsAt path rank (raised (path ++ lo ∷ [])) (path ++ lo ∷ []) q → Follows path rank lo (record { items = Happened e ∷ Child o ∷ []; ending = q })
  begun {A = A} path rank lo e o q at by raises below ends = record {
    follow = λ l. (at, strand-is path lo, (below ∙ sym by, (path, lo, by), tt));
    ends = λ l. subst (λ (k : List ℕ). EndsAt path rank k (raised_by e) q) (sym place) (subst (λ (k : List ℕ). EndsAt path rank (raised (path ++ lo ∷ [])) k q) (sym by) ends);
  }
    where
      place : last_of (path ++ lo ∷ []) (strand_after (path ++ lo ∷ []) e) ≡ raised (path ++ lo ∷ [])
      place = ap (last_of (path ++ lo ∷ [])) raises

  loop-follows : (path : List ℕ) (s : S) (o : Origin) (env : List Value → S) → ((ws : List Value) → (env ws).rank ≡ s.rank + 1) → path_of o ≡ path ++ s.rank ∷ [] → (b : Result (List Value) Fault) (empty : Bool) →
      P path s.rank (after_items (Happened (event.Loop (path ++ s.rank ∷ [])) ∷ []) ((if empty then done [] else record { items = Child o ∷ []; ending = loop_end b }) then λ ws. done (env ws)))
  loop-follows path s o env r below b true = one path rank_of s.rank (event.Loop (path ++ s.rank ∷ [])) (env []) refl refl (r [])
  loop-follows path s o env r below (Ok vs) false =
      begun path rank_of s.rank (event.Loop (path ++ s.rank ∷ [])) o (Ok (env vs)) refl refl refl below (risen-last path s.rank ∙ ap (λ (n : ℕ). path ++ n ∷ []) (sym (r vs)))
  loop-follows path s o env r below (Err f) false = begun path rank_of s.rank (event.Loop (path ++ s.rank ∷ [])) o (Err (ChildFaulted f)) refl refl refl below (refl, strand-is path s.rank)

  -- a scope, by what its block and the sync at its end do
  scope-follows : (path : List ℕ) (s : S) (r : Run Item NodeFault S) → P (path ++ s.rank ∷ []) 0 r → P path s.rank (after_items (Opened (path ++ s.rank ∷ []) ∷ []) r then goes_out (deferring plan child) plan path s.rank)
  scope-follows path s r h = from r.items r.ending h.follow h.ends
    where
      j : List ℕ
      j = path ++ s.rank ∷ []

      first : List ℕ
      first = j ++ 0 ∷ []

      from : (items : List Item) (q : Result S NodeFault) → ((by : List ℕ) → Follow first by items) → ((by : List ℕ) → EndsAt j rank_of (stands first items) (came_by by items) q) →
          P path s.rank (continued (Opened j ∷ items) q (goes_out (deferring plan child) plan path s.rank))
      from items (Err (Own f)) g e = record { follow = λ by. (refl, strand-is path s.rank, g []); ends = λ by. e [] }
      from items (Err (ChildFaulted f)) g e = record { follow = λ by. (refl, strand-is path s.rank, g []); ends = λ by. e [] }
      from items (Ok a) g e = record {
        follow = λ by. (refl, strand-is path s.rank, follow-append first [] items (Closed j ∷ []) (g []) (strand-is path s.rank, (a.rank, e []), tt));
        ends = λ by. stands-append first items (Closed j ∷ []) ∙ risen-last path s.rank;
      }

  rules_hold : Rules (deferring plan child) plan P Q
  rules_hold = record {
    p-done = λ path s. record { follow = λ by. tt; ends = λ by. refl };
    q-done = λ path v s. record { follow = λ by. tt; ends = λ by. refl };
    p-stop = λ path k s. record { follow = λ by. tt; ends = λ by. (refl, strand-is path s.rank) };
    q-stop = λ path k s. record { follow = λ by. tt; ends = λ by. (refl, strand-is path s.rank) };
    p-print = λ path v s. record { follow = λ by. (refl, strand-is path s.rank, tt); ends = λ by. refl };
    q-draw = λ path s. one path pair_rank s.rank _ _ refl refl refl;
    q-new = λ path s. one path pair_rank s.rank (event.New (path ++ s.rank ∷ [])) _ refl refl refl;
    p-join = λ path s. join-follows path s s.spawned;
    q-child = λ path n vs s _. let o = origin.Instance n vs (path ++ s.rank ∷ []) in begun path pair_rank s.rank (event.Spawn (path ++ s.rank ∷ [])) o _ refl refl refl refl (risen-last path s.rank);
    p-loop = λ path n vs lo hi target s _. let o = origin.Loop n vs lo (path ++ s.rank ∷ []) (record { lo = 0; hi = hi }) in
        loop-follows path s o (λ ws. record s { rank = s.rank + 1; env = with_loop_values target ws s.env }) (λ ws. refl) refl (child o).ending (is_empty_loop o);
    p-scope = λ path s r _ h. scope-follows path s r h;
    pp = λ path n r f h k. follows-then path rank_of rank_of n r f h k;
    pq = λ path n r f h k. follows-then path rank_of pair_rank n r f h k;
    qp = λ path n r f h k. follows-then path pair_rank rank_of n r f h k;
    qq = λ path n r f h k. follows-then path pair_rank pair_rank n r f h k;
  }

  abbrev start : S
  start = record { env = []; rank = 0; steps = plan.limits.budget; spawned = None }

  frame-follows : (path : List ℕ) (o : Option Function) (vs : List Value) → Q path 0 (frame (deferring plan child) plan path (exec (deferring plan child) plan) 0 o vs start)
  frame-follows path None vs = record { follow = λ by. tt; ends = λ by. refl }
  frame-follows path (Some f) vs =
      follows-then path rank_of pair_rank 0 _ _ (closed-exec (deferring plan child) plan P Q rules_hold path 0 f.body _) (λ a. returned-q (deferring plan child) plan P Q rules_hold path f a)

-- how an instance ends, by where it stands and its by event
abbrev pub NodeEnds : List ℕ → List ℕ → Result (List Value) NodeFault → Type 0
NodeEnds here by (Ok vs) = Unit {0}
NodeEnds here by (Err (Own f)) = (f.at ≡ here) × IsStrand here
NodeEnds here by (Err (ChildFaulted f)) = (here ≡ raised by) × IsStrand by

pub record NodeFollows (path : List ℕ) (node : Node) : Type 0 where
  pub follow : (by : List ℕ) → Follow (path ++ 0 ∷ []) by node.items
  pub ends : (by : List ℕ) → NodeEnds (stands (path ++ 0 ∷ []) node.items) (came_by by node.items) node.ending

-- what shows nothing more
mapped : {A B : Type 0} (path : List ℕ) (rank : A → ℕ) (r : Run Item NodeFault A) (f : A → B) (g : B → List Value) → Follows path rank 0 r → NodeFollows path (r then (λ a. done (f a)) then λ b. done (g b))
mapped {A = A} path rank r f g h = from r.items r.ending h.follow h.ends
  where
    here : List ℕ
    here = path ++ 0 ∷ []

    from : (items : List Item) (q : Result A NodeFault) → ((by : List ℕ) → Follow here by items) → ((by : List ℕ) → EndsAt path rank (stands here items) (came_by by items) q) →
        NodeFollows path (continued items q (λ a. done (f a)) then λ b. done (g b))
    from items (Ok a) k e = record { follow = λ by. subst (Follow here by) (sym (append-nil (items ++ []) ∙ append-nil items)) (k by); ends = λ by. tt }
    from items (Err (Own x)) k e = record { follow = k; ends = e }
    from items (Err (ChildFaulted x)) k e = record { follow = k; ends = e }

-- The node of an instance is such.
pub node-follows : (plan : PlanView) (o : Origin) → IsInstanceOrigin o → NodeFollows (path_of o) (node_of plan o)
node-follows plan (origin.Instance function args path) i =
    let child : Origin → Evaluation = eval_below plan (depth_left plan (origin.Instance function args path)) in
    mapped path (pair_rank plan child) (frame (deferring plan child) plan path (exec (deferring plan child) plan) 0 (function_at (functions_of plan) function) args (start plan child)) (λ r. r.0) (λ v. v ∷ []) (frame-follows plan child path (function_at (functions_of plan) function) args)
node-follows plan (origin.Loop function rest first path range) i = absurd i
