-- What holds of each small part of a run, and of two runs in a row, holds of all that statements do.
use Rattle.std.proofs.Common.{refl, ap, sym, subst, ◌∙◌, length, ◌≡◌, ℕ, zero, suc, ◌+◌, Bool, true, false, List, [], ◌∷◌, Option, Some, None, Result, Ok, Err, nat_lt, if◌then◌else◌}
use Rattle.std.proofs.Common.{ℤ, pos, ◌-ℤ◌}
use Rattle.std.specs.Int.{w64, cast_signed}
use Rattle.serial_meaning.proofs.Equations.RunLaws.{then-then}
use Rattle.serial_meaning.specs.Runs.{Run, done, happens, after_items, ◌then◌}
use Rattle.serial_meaning.specs.Values.{value_of, values_of, content_of, items_of, as_integer, is_true, at_index}
use Rattle.serial_meaning.specs.Functions.{function_number, function_at, any_spawns}
use Rattle.serial_meaning.specs.Exec.{State, Interpretation, BlockMeaning, strand, fault, emit_and_raise, unless_fault, paid_from, tested, has_room, loop_fits, with_loop_values, spawn, sync_here, leaves, goes_out, all_happen, implied, function_end, frame, called, right_side, found, looped, does, statement, each, statements, exec, count_of, set_scalar, set_array, bound}
use Rattle.script_grammar.specs.declared.tree.Name.{Name}
use Rattle.script_grammar.specs.declared.tree.Function.{Function}
use Rattle.script_grammar.specs.declared.tree.CallText.{CallText}
use Rattle.script_grammar.specs.declared.tree.Right.{Right}
use Rattle.script_grammar.specs.declared.tree.Right.TheVariants as right
use Rattle.script_grammar.specs.declared.tree.Stmt.{Stmt, out-Stmt}
use Rattle.script_grammar.specs.declared.tree.Act.{Act, out-Act}
use Rattle.script_grammar.specs.declared.tree.Act.TheOpen as act
use Rattle.script_grammar.specs.declared.tree.Act.TheOpen.{Act-F, Stmt-F}
use Rattle.serial_meaning.specs.declared.value.Value.{Value}
use Rattle.serial_meaning.specs.declared.value.Value.TheVariants.{Int, Id}
use Rattle.serial_meaning.specs.declared.event.FaultKind.{FaultKind}
use Rattle.serial_meaning.specs.declared.event.FaultKind.TheVariants.{Index, Depth, Calls, Budget}
use Rattle.serial_meaning.specs.declared.event.Event.TheVariants as event
use Rattle.serial_meaning.specs.declared.origin.Origin.TheVariants as origin
use Rattle.serial_meaning.specs.Plan.{PlanView, functions_of, drawn}

module _ {I E K : Type 0} (how : Interpretation I E K) (plan : PlanView) where
  abbrev pub Goes : Type 0
  Goes = Run I E (State K)

  abbrev pub Gives : Type 0
  Gives = Run I E (Value × State K)

  -- P of a run at a present path from a rank, and Q of one that also gives a value
  pub record Closed (P : List ℕ → ℕ → Goes → Type 0) (Q : List ℕ → ℕ → Gives → Type 0) : Type 0 where
    pub p-done : (path : List ℕ) (s : State K) → P path s.rank (done s)
    pub q-done : (path : List ℕ) (v : Value) (s : State K) → Q path s.rank (done (v, s))
    pub p-stop : (path : List ℕ) (kind : FaultKind) (s : State K) → P path s.rank (fault how plan path kind s)
    pub q-stop : (path : List ℕ) (kind : FaultKind) (s : State K) → Q path s.rank (fault how plan path kind s)
    pub p-print : (path : List ℕ) (v : Value) (s : State K) → P path s.rank (happens (how.event (event.Print (strand path s) v)) s)
    pub q-draw : (path : List ℕ) (s : State K) → let n = drawn plan (strand path s) in Q path s.rank (emit_and_raise how plan path (λ j. event.Draw j n) s then λ s'. done (Int (cast_signed w64 n), s'))
    pub q-new : (path : List ℕ) (s : State K) → Q path s.rank (emit_and_raise how plan path event.New s then λ s'. done (Id (strand path s), s'))
    pub p-join : (path : List ℕ) (s : State K) → P path s.rank (sync_here how plan path s)
    pub q-child : (path : List ℕ) (n : ℕ) (vs : List Value) (s : State K) → nat_lt (length path + 1) plan.limits.depth ≡ true → Q path s.rank (happens (how.event (event.Spawn (strand path s))) s then λ s. how.spawn (origin.Instance n vs (strand path s)) s.spawned then λ r. done (r.0, record s { rank = s.rank + 1; spawned = r.1 }))
    pub p-loop : (path : List ℕ) (n : ℕ) (vs : List Value) (lo : ℤ) (hi : ℕ) (target : Option Name) (s : State K) → loop_fits plan path hi ≡ true → P path s.rank (happens (how.event (event.Loop (strand path s))) s then λ s. how.loop (origin.Loop n vs lo (strand path s) (record { lo = 0; hi = hi })) then λ ws. done (record s { rank = s.rank + 1; env = with_loop_values target ws s.env }))
    -- of what a scope's block and the sync at its end do, and so of the scope
    pub p-scope : (path : List ℕ) (s : State K) (r : Goes) → nat_lt (length path + 1) plan.limits.depth ≡ true → P (strand path s) 0 r → P path s.rank (after_items (how.opens (strand path s)) r then goes_out how plan path s.rank)
    pub pp : (path : List ℕ) (n : ℕ) (r : Goes) (f : State K → Goes) → P path n r → ((s : State K) → P path s.rank (f s)) → P path n (r then f)
    pub pq : (path : List ℕ) (n : ℕ) (r : Goes) (f : State K → Gives) → P path n r → ((s : State K) → Q path s.rank (f s)) → Q path n (r then f)
    pub qp : (path : List ℕ) (n : ℕ) (r : Gives) (f : Value × State K → Goes) → Q path n r → ((p : Value × State K) → P path p.1.rank (f p)) → P path n (r then f)
    pub qq : (path : List ℕ) (n : ℕ) (r : Gives) (f : Value × State K → Gives) → Q path n r → ((p : Value × State K) → Q path p.1.rank (f p)) → Q path n (r then f)

  module _ (P : List ℕ → ℕ → Goes → Type 0) (Q : List ℕ → ℕ → Gives → Type 0) (c : Closed P Q) where
    abbrev pub Fine : BlockMeaning I E K → Type 0
    Fine b = (path : List ℕ) (calls : ℕ) (sts : List Stmt) (s : State K) → P path s.rank (b path calls sts s)

    module _ (path : List ℕ) where
      given-p : {A : Type 0} (o : Result A FaultKind) (s : State K) (f : A → Goes) → ((a : A) → P path s.rank (f a)) → P path s.rank (unless_fault how plan path o s f)
      given-p (Ok a) s f h = h a
      given-p (Err k) s f h = c.p-stop path k s

      given-q : {A : Type 0} (o : Result A FaultKind) (s : State K) (f : A → Gives) → ((a : A) → Q path s.rank (f a)) → Q path s.rank (unless_fault how plan path o s f)
      given-q (Ok a) s f h = h a
      given-q (Err k) s f h = c.q-stop path k s

      tested-p : (b : Bool) (k : FaultKind) (s : State K) (r : Goes) → (b ≡ true → P path s.rank r) → P path s.rank (tested how plan path b k s r)
      tested-p true k s r h = h refl
      tested-p false k s r h = c.p-stop path k s

      tested-q : (b : Bool) (k : FaultKind) (s : State K) (r : Gives) → (b ≡ true → Q path s.rank r) → Q path s.rank (tested how plan path b k s r)
      tested-q true k s r h = h refl
      tested-q false k s r h = c.q-stop path k s

      if-p : (b : Bool) (n : ℕ) (r q : Goes) → P path n r → P path n q → P path n (if b then r else q)
      if-p true n r q h k = h
      if-p false n r q h k = k

      paid-p : (n : ℕ) (s : State K) (f : State K → Goes) → ((m : ℕ) → P path s.rank (f (record s { steps = m }))) → P path s.rank (paid_from how plan path n s f)
      paid-p zero s f k = c.p-stop path Budget s
      paid-p (suc n) s f k = k n

      paid-q : (n : ℕ) (s : State K) (f : State K → Gives) → ((m : ℕ) → Q path s.rank (f (record s { steps = m }))) → Q path s.rank (paid_from how plan path n s f)
      paid-q zero s f k = c.q-stop path Budget s
      paid-q (suc n) s f k = k n

      implied-p : (b : Bool) (s : State K) → P path s.rank (implied how plan path b s)
      implied-p true s = c.p-join path s
      implied-p false s = c.p-done path s

      pub returned-q : (f : Function) (s : State K) → Q path s.rank (function_end how plan path f s)
      returned-q f s =
          paid-q s.steps s _ (λ m. c.pq path s.rank (implied how plan path (any_spawns f.body) (record s { steps = m })) _ (implied-p (any_spawns f.body) (record s { steps = m })) (λ s'. given-q (value_of f.result s'.env) s' _ (λ v. c.q-done path v s')))

      spawn-q : (t : CallText) (s : State K) → Q path s.rank (spawn how plan path t s)
      spawn-q t s = given-q (values_of t.args s.env) s _ (λ vs. tested-q (nat_lt (length path + 1) plan.limits.depth) Depth s _ (c.q-child path (function_number (functions_of plan) t.name.bytes) vs s))

      module _ (b : BlockMeaning I E K) (fine : Fine b) where
        frame-q : (calls : ℕ) (o : Option Function) (vs : List Value) (s : State K) → Q path s.rank (frame how plan path b calls o vs s)
        frame-q calls None vs s = c.q-done path (Int (pos 0)) s
        frame-q calls (Some f) vs s =
            let s' : State K = record s { env = bound f.params vs; spawned = how.none } in c.pq path s.rank (b path calls f.body s') _ (fine path calls f.body s') (returned-q f)

        called-q : (calls : ℕ) (t : CallText) (s : State K) → Q path s.rank (called how plan path b calls t s)
        called-q calls t s =
            given-q (values_of t.args s.env) s _ (λ vs. tested-q (nat_lt calls 256) Calls s _ (λ few. c.qq path s.rank (frame how plan path b (calls + 1) (function_at (functions_of plan) (function_number (functions_of plan) t.name.bytes)) vs s) _ (frame-q (calls + 1) (function_at (functions_of plan) (function_number (functions_of plan) t.name.bytes)) vs s) (λ p. c.q-done path p.0 (record s { rank = p.1.rank; steps = p.1.steps }))))

        right_side-q : (calls : ℕ) (r : Right) (s : State K) → Q path s.rank (right_side how plan path b calls r s)
        right_side-q calls (right.Value e) s = given-q (value_of e s.env) s _ (λ v. c.q-done path v s)
        right_side-q calls (right.Draw at) s = c.q-draw path s
        right_side-q calls (right.New at) s = c.q-new path s
        right_side-q calls (right.Call at t) s = called-q calls t s
        right_side-q calls (right.Spawn at t) s = spawn-q t s

        found-p : (o : Option ℤ) (s : State K) (r : Goes) → P path s.rank r → P path s.rank (found how plan path o s r)
        found-p None s r h = c.p-stop path Index s
        found-p (Some old) s r h = h

        set-p : (calls : ℕ) (x : Name) (r : Right) (s : State K) → P path s.rank (right_side how plan path b calls r s then λ p. done (set_scalar p.1 x p.0))
        set-p calls x r s = c.qp path s.rank (right_side how plan path b calls r s) _ (right_side-q calls r s) (λ p. c.p-done path (set_scalar p.1 x p.0))

        -- the block of a scope and the sync at its end, and then out of it
        scope-p : (calls : ℕ) (xs : List Stmt) (s : State K) → nat_lt (length path + 1) plan.limits.depth ≡ true →
            P path s.rank (all_happen (how.opens (strand path s)) (record s { rank = 0 }) then b (strand path s) calls xs then leaves how plan path s.rank)
        scope-p calls xs s deep =
            let here : List ℕ = strand path s in
            let inner : State K = record s { rank = 0 } in
            let opens : Goes = all_happen (how.opens here) inner in
            let same : (after_items (how.opens here) (b here calls xs inner then sync_here how plan here) then goes_out how plan path s.rank) ≡ (opens then b here calls xs then leaves how plan path s.rank) =
            ap (λ (q : Goes). q then goes_out how plan path s.rank) (sym (then-then opens (b here calls xs) (sync_here how plan here)))
            ∙ then-then (opens then b here calls xs) (sync_here how plan here) (goes_out how plan path s.rank) in
            subst (P path s.rank) same (c.p-scope path s _ deep (c.pp here 0 (b here calls xs inner) (sync_here how plan here) (fine here calls xs inner) (c.p-join here)))

        does-p : (calls : ℕ) (st : Stmt) (a : Act-F Act Stmt) (s : State K) → P path s.rank (does how plan path b calls st a s)
        does-p calls st (act.Let x r) s = set-p calls x r s
        does-p calls st (act.Array x m) s = c.p-done path (set_array s x _)
        does-p calls st (act.Set x r) s = set-p calls x r s
        does-p calls st (act.Store x i e) s =
            given-p (value_of i s.env) s _ (λ k. found-p (at_index (items_of (content_of s.env x.bytes)) (as_integer k)) s _ (given-p (value_of e s.env) s _ (λ v. c.p-done path (set_array s x _))))
        does-p calls st (act.Spawn t) s = c.qp path s.rank (spawn how plan path t s) _ (spawn-q t s) (λ p. c.p-done path p.1)
        does-p calls st (act.Call t) s = c.qp path s.rank (called how plan path b calls t s) _ (called-q calls t s) (λ p. c.p-done path p.1)
        does-p calls st act.Sync s = c.p-join path s
        does-p calls st (act.Print e) s = given-p (value_of e s.env) s _ (λ v. c.p-print path v s)
        does-p calls st (act.If e xs ys) s = given-p (value_of e s.env) s _ (λ v. fine path calls (if is_true v then xs else ys) s)
        does-p calls st (act.While e xs) s =
            given-p (value_of e s.env) s _ (λ v. if-p (is_true v) s.rank _ _ (c.pp path s.rank (b path calls xs s) _ (fine path calls xs s) (fine path calls (st ∷ []))) (c.p-done path s))
        does-p calls st (act.Pfor x lo hi target t) s =
            given-p (value_of lo s.env) s _ (λ l. given-p (value_of hi s.env) s _ (λ h. given-p (values_of t.args s.env) s _ (λ vs. looped-p (as_integer l) (count_of (as_integer h -ℤ as_integer l)) vs)))
          where
            looped-p : (l : ℤ) (n : ℕ) (vs : List Value) → P path s.rank (looped how plan path l n vs target t s)
            looped-p l n vs = tested-p (nat_lt n (s.steps + 1)) Budget s _ (λ enough. tested-p (has_room target n s.env) Index _ _ (λ room. tested-p (loop_fits plan path n) Depth _ _ (c.p-loop path (function_number (functions_of plan) t.name.bytes) vs l n target _)))
        does-p calls st (act.Scope xs) s = tested-p (nat_lt (length path + 1) plan.limits.depth) Depth s _ (scope-p calls xs s)

      each-p : (one : Stmt → State K → Goes) → ((st : Stmt) (s : State K) → P path s.rank (one st s)) → (sts : List Stmt) (s : State K) → P path s.rank (each how plan path one sts s)
      each-p one fine [] s = c.p-done path s
      each-p one fine (st ∷ sts) s = c.pp path s.rank (one st s) _ (fine st s) (each-p one fine sts)

    pub closed : (n : ℕ) → Fine (statements how plan n)
    closed zero path calls sts s = each-p path (λ st s. fault how plan path Budget s) (λ st s. c.p-stop path Budget s) sts s
    closed (suc n) path calls sts s =
        each-p path (statement how plan path (statements how plan n) calls) (λ st s. paid-p path s.steps s _ (λ m. does-p path (statements how plan n) (closed n) calls st (out-Act (out-Stmt st).act) (record s { steps = m }))) sts s

    -- and of what an instance does
    pub closed-exec : Fine (exec how plan)
    closed-exec path calls sts s = closed s.steps path calls sts s
