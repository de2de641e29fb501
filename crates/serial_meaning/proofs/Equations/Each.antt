-- What holds of each item of a run.
use Rattle.std.proofs.Common.{◌≡◌, ℕ, zero, suc, ◌+◌, ◌<◌, true, List, [], ◌∷◌, ◌++◌, Option, Some, None, Result, Ok, Err, length, get_or, nat_lt, arith}
use Rattle.std.proofs.Common.{ℤ}
use Rattle.std.specs.Prelude.{Contains}
use Rattle.script_grammar.specs.declared.tree.Function.{Function}
use Rattle.serial_meaning.specs.Runs.{Run, done, after_items, continued, ◌then◌}
use Rattle.serial_meaning.specs.Plan.{PlanView, drawn}
use Rattle.serial_meaning.specs.Exec.{State, Interpretation, strand, goes_out, frame, exec, instance, with_loop_values, loop_fits, bound}
use Rattle.serial_meaning.proofs.RisingPedigrees.Closed.{Closed, closed-exec, returned-q}
use Rattle.serial_meaning.specs.declared.value.Value.{Value}
use Rattle.serial_meaning.specs.declared.event.Event.TheVariants as event
use Rattle.serial_meaning.specs.declared.origin.Origin.TheVariants as origin

module _ {X : Type 0} (T : X → Type 0) where
  abbrev pub Each : List X → Type 0
  Each [] = Unit {0}
  Each (x ∷ xs) = T x × Each xs

  pub each-append : (xs ys : List X) → Each xs → Each ys → Each (xs ++ ys)
  each-append [] ys a b = b
  each-append (x ∷ xs) ys a b = (a.0, each-append xs ys a.1 b)

  pub each-at : (xs : List X) (k : ℕ) (d : X) → Each xs → k < length xs → T (get_or xs k d)
  each-at [] k d a h = absurd (omega arith)
  each-at (x ∷ xs) zero d a h = a.0
  each-at (x ∷ xs) (suc k) d a h = each-at xs k d a.1 (omega arith)

  pub each-contained : (xs : List X) (x : X) → Each xs → Contains xs x → T x
  each-contained xs x a c = let t : T (get_or xs c.0 x) = each-at xs c.0 x a c.1 in rw c.2 at t

  module _ {E A B : Type 0} where
    pub each-goes_on : (items : List X) (r : Result A E) (f : A → Run X E B) → Each items → ((a : A) → Each (f a).items) → Each (continued items r f).items
    each-goes_on items (Ok a) f h k = each-append items (f a).items h (k a)
    each-goes_on items (Err e) f h k = h

    pub each-then : (r : Run X E A) (f : A → Run X E B) → Each r.items → ((a : A) → Each (f a).items) → Each (r then f).items
    each-then r f h k = each-goes_on r.items r.ending f h k

pub each-map : {X : Type 0} {T U : X → Type 0} (xs : List X) → ((x : X) → T x → U x) → Each T xs → Each U xs
each-map [] f h = tt
each-map (x ∷ xs) f h = (f x h.0, each-map xs f h.1)

-- the parts of a run of which T holds, at each present path
module _ {I E K : Type 0} (how : Interpretation I E K) (plan : PlanView) (T : I → Type 0) where
  pub record Parts : Type 0 where
    pub print : (path : List ℕ) (s : State K) (v : Value) → T (how.event (event.Print (strand path s) v))
    pub draw : (path : List ℕ) (s : State K) → T (how.event (event.Draw (strand path s) (drawn plan (strand path s))))
    pub new : (path : List ℕ) (s : State K) → T (how.event (event.New (strand path s)))
    pub sync : (path : List ℕ) (s : State K) → T (how.event (event.Sync (strand path s)))
    pub spawn : (path : List ℕ) (s : State K) → T (how.event (event.Spawn (strand path s)))
    pub loop : (path : List ℕ) (s : State K) → T (how.event (event.Loop (strand path s)))
    pub opens : (here : List ℕ) → Each T (how.opens here)
    pub closes : (here : List ℕ) → Each T (how.closes here)
    pub at_sync : (k : K) → Each T (how.sync k).items
    pub child : (path : List ℕ) (function : ℕ) (vs : List Value) (s : State K) → nat_lt (length path + 1) plan.limits.depth ≡ true → Each T (how.spawn (origin.Instance function vs (strand path s)) s.spawned).items
    pub iterations : (path : List ℕ) (function : ℕ) (vs : List Value) (lo : ℤ) (hi : ℕ) (s : State K) → loop_fits plan path hi ≡ true → Each T (how.loop (origin.Loop function vs lo (strand path s) (record { lo = 0; hi = hi }))).items

  module _ (parts : Parts) where
    abbrev P : List ℕ → ℕ → Run I E (State K) → Type 0
    P path n r = Each T r.items

    abbrev Q : List ℕ → ℕ → Run I E (Value × State K) → Type 0
    Q path n r = Each T r.items

    scope-each : (path : List ℕ) (s : State K) (r : Run I E (State K)) → Each T r.items → Each T (after_items (how.opens (strand path s)) r then goes_out how plan path s.rank).items
    scope-each path s r h =
        each-then T (after_items (how.opens (strand path s)) r) (goes_out how plan path s.rank) (each-append T (how.opens (strand path s)) r.items (parts.opens (strand path s)) h) (λ a. parts.closes (strand path s))

    rules : Closed how plan P Q
    rules = record {
      p-done = λ path s. tt;
      q-done = λ path v s. tt;
      p-stop = λ path k s. tt;
      q-stop = λ path k s. tt;
      p-print = λ path v s. (parts.print path s v, tt);
      q-draw = λ path s. (parts.draw path s, tt);
      q-new = λ path s. (parts.new path s, tt);
      p-join = λ path s. (parts.sync path s, each-then T (how.sync s.spawned) (λ k. done (record s { rank = s.rank + 1; spawned = k })) (parts.at_sync s.spawned) (λ k. tt));
      q-child = λ path n vs s h. (parts.spawn path s, each-then T (how.spawn (origin.Instance n vs (strand path s)) s.spawned) (λ r. done (r.0, record s { rank = s.rank + 1; spawned = r.1 })) (parts.child path n vs s h) (λ r. tt));
      p-loop = λ path n vs lo hi target s h. (parts.loop path s, each-then T (how.loop (origin.Loop n vs lo (strand path s) (record { lo = 0; hi = hi }))) (λ ws. done (record s { rank = s.rank + 1; env = with_loop_values target ws s.env })) (parts.iterations path n vs lo hi s h) (λ ws. tt));
      p-scope = λ path s r _ h. scope-each path s r h;
      pp = λ path n r f h k. each-then T r f h k;
      pq = λ path n r f h k. each-then T r f h k;
      qp = λ path n r f h k. each-then T r f h k;
      qq = λ path n r f h k. each-then T r f h k;
    }

    frame-each : (path : List ℕ) (o : Option Function) (vs : List Value) (s : State K) → Each T (frame how plan path (exec how plan) 0 o vs s).items
    frame-each path None vs s = tt
    frame-each path (Some f) vs s =
        each-then T (exec how plan path 0 f.body (start f)) _ (closed-exec how plan P Q rules path 0 f.body (start f)) (λ a. returned-q how plan P Q rules path f a)
      where
        start : Function → State K
        start f = record s { env = bound f.params vs; spawned = how.none }

    pub instance-each : (path : List ℕ) (o : Option Function) (vs : List Value) → Each T (instance how plan path o vs then λ v. done (v ∷ [])).items
    instance-each path o vs =
        each-then T (instance how plan path o vs) (λ v. done (v ∷ [])) (each-then T (frame how plan path (exec how plan) 0 o vs begins) (λ r. done r.0) (frame-each path o vs begins) (λ r. tt)) (λ v. tt)
      where
        begins : State K
        begins = record { env = []; rank = 0; steps = plan.limits.budget; spawned = how.none }
