-- What the elision does is what the open tree does, cut at the first child that faults.
use Rattle.std.proofs.Common.{ℕ, zero, suc, ◌+◌, ◌-◌, ◌≡◌, Bool, true, false, List, [], ◌∷◌, ◌++◌, Option, Some, None, Result, Ok, Err, nat_lt, if◌then◌else◌, length}
use Rattle.std.proofs.Common.{ℤ, pos, ◌-ℤ◌}
use Rattle.std.specs.Int.{w64, cast_signed}
use Rattle.serial_meaning.specs.Runs.{Run, done, after_items, continued, ◌then◌}
use Rattle.serial_meaning.specs.Values.{Env, value_of, values_of, content_of, items_of, as_integer, is_true, at_index}
use Rattle.serial_meaning.specs.Functions.{function_number, function_at, any_spawns}
use Rattle.serial_meaning.specs.Exec.{State, BlockMeaning, fault, unless_fault, paid_from, tested, has_room, loop_fits, with_loop_values, spawn, leaves, scoped, implied, function_end, frame, called, right_side, found, looped, does, statement, each, statements, exec, instance, count_of, set_scalar, set_array, bound}
use Rattle.script_grammar.specs.declared.tree.Name.{Name}
use Rattle.script_grammar.specs.declared.tree.Function.{Function}
use Rattle.script_grammar.specs.declared.tree.CallText.{CallText}
use Rattle.script_grammar.specs.declared.tree.Right.{Right}
use Rattle.script_grammar.specs.declared.tree.Right.TheVariants as right
use Rattle.script_grammar.specs.declared.tree.Stmt.{Stmt, out-Stmt}
use Rattle.script_grammar.specs.declared.tree.Act.{Act, out-Act}
use Rattle.script_grammar.specs.declared.tree.Act.TheOpen as act
use Rattle.script_grammar.specs.declared.tree.Act.TheOpen.{Act-F, Stmt-F}
use Rattle.serial_meaning.specs.declared.value.Value.{Value}
use Rattle.serial_meaning.specs.declared.value.Value.TheVariants.{Int, Id}
use Rattle.serial_meaning.specs.declared.event.FaultKind.{FaultKind}
use Rattle.serial_meaning.specs.declared.event.FaultKind.TheVariants.{Index, Depth, Calls, Budget}
use Rattle.serial_meaning.specs.declared.event.Event.TheVariants as event
use Rattle.serial_meaning.specs.declared.origin.Origin.TheVariants as origin
use Rattle.serial_meaning.specs.Eval.{Evaluation, serial, first_value, iteration, loop_evaluation, eval_with, eval_below, eval, depth_left}
use Rattle.serial_meaning.specs.Open.{Item, Happened, Child, Opened, NodeFault, deferred, deferring, loop_end, is_zero, is_empty_loop, placeholder, iterations, both, gathered, node_with, node_of}
use Rattle.serial_meaning.proofs.OriginFaults.Levels.{every}
use Rattle.serial_meaning.proofs.LeastFault.Cut.{Cuts, Matches, cut, before, child_first, cuts-then}
use Rattle.serial_meaning.specs.declared.event.Fault.{Fault}
use Rattle.serial_meaning.specs.declared.event.Event.{Event}
use Rattle.serial_meaning.specs.declared.origin.Origin.{Origin}
use Rattle.serial_meaning.specs.Plan.{PlanView, functions_of, drawn}
use Rattle.std.proofs.Common.{refl, ap, ◌∙◌, append-nil, map}

abbrev S : Type 0
S = State (Unit {0})

abbrev T : Type 0
T = State (Option Fault)

abbrev pub lift : State (Unit {0}) → State (Option Fault)
lift s = record { env = s.env; rank = s.rank; steps = s.steps; spawned = None }

abbrev pub lift_pair : Value × State (Unit {0}) → Value × State (Option Fault)
lift_pair p = (p.0, lift p.1)

module _ (plan : PlanView) (path : List ℕ) (child : Origin → Evaluation) (empty : (o : Origin) → is_empty_loop o ≡ true → child o ≡ done []) where
  given-c : {A B C : Type 0} (l : B → C) (o : Result A FaultKind) (s : State (Unit {0})) (f : A → Run Event Fault B) (g : A → Run Item NodeFault C) → ((a : A) → Cuts child l (f a) (g a)) →
      Cuts child l (unless_fault (serial child) plan path o s f) (unless_fault (deferring plan child) plan path o (lift s) g)
  given-c l (Ok a) s f g h = h a
  given-c l (Err k) s f g h = refl

  tested-c : {B C : Type 0} (l : B → C) (b : Bool) (k : FaultKind) (s : State (Unit {0})) (f : Run Event Fault B) (g : Run Item NodeFault C) → Cuts child l f g →
      Cuts child l (tested (serial child) plan path b k s f) (tested (deferring plan child) plan path b k (lift s) g)
  tested-c l true k s f g h = h
  tested-c l false k s f g h = refl

  if-c : {B C : Type 0} (l : B → C) (b : Bool) (f f' : Run Event Fault B) (g g' : Run Item NodeFault C) → Cuts child l f g → Cuts child l f' g' → Cuts child l (if b then f else f') (if b then g else g')
  if-c l true f f' g g' h k = h
  if-c l false f f' g g' h k = k

  paid-c : {B C : Type 0} (l : B → C) (n : ℕ) (s : State (Unit {0})) (f : State (Unit {0}) → Run Event Fault B) (g : State (Option Fault) → Run Item NodeFault C) → ((m : ℕ) → Cuts child l (f (record s { steps = m })) (g (lift (record s { steps = m })))) →
      Cuts child l (paid_from (serial child) plan path n s f) (paid_from (deferring plan child) plan path n (lift s) g)
  paid-c l zero s f g k = refl
  paid-c l (suc n) s f g k = k n

  implied-c : (b : Bool) (s : State (Unit {0})) → Cuts child lift (implied (serial child) plan path b s) (implied (deferring plan child) plan path b (lift s))
  implied-c true s = (record s { rank = s.rank + 1 }, refl, refl)
  implied-c false s = (s, refl, refl)

  returned-c : (f : Function) (s : State (Unit {0})) → Cuts child lift_pair (function_end (serial child) plan path f s) (function_end (deferring plan child) plan path f (lift s))
  returned-c f s =
      paid-c lift_pair s.steps s _ _ (λ m. let s' : State (Unit {0}) = record s { steps = m } in cuts-then child lift lift_pair _ _ (λ a. given-c lift_pair (value_of f.result a.env) a _ _ (λ v. ((v, a), refl, refl)))
      (implied (serial child) plan path (any_spawns f.body) s') (implied (deferring plan child) plan path (any_spawns f.body) (lift s')) (implied-c (any_spawns f.body) s'))

  spawned-c : (e : Event) (instead : Value) (s : State (Unit {0})) (is : List Event) (q : Result (List Value) Fault) →
      Matches child lift_pair (before (e ∷ []) (child_first is q (record { events = []; cut_by = None }))).events (before (e ∷ []) (child_first is q (record { events = []; cut_by = None }))).cut_by
      (after_items (e ∷ []) ((record { items = is; ending = q } then λ (vs : List Value). done {I = Event} {E = Fault} (first_value vs, tt {0})) then λ (r : Value × Unit {0}). done (r.0, record s { rank = s.rank + 1; spawned = r.1 })))
      (Ok ((deferred instead None q).0, record { env = s.env; rank = s.rank + 1; steps = s.steps; spawned = (deferred instead None q).1 }))
  spawned-c e instead s is (Ok vs) = ((first_value vs, record s { rank = s.rank + 1 }), refl, ap (λ l. record { items = e ∷ l; ending = Ok (first_value vs, record s { rank = s.rank + 1 }) }) (append-nil (is ++ [])))
  spawned-c e instead s is (Err f) = refl

  spawn-c : (t : CallText) (s : State (Unit {0})) → Cuts child lift_pair (spawn (serial child) plan path t s) (spawn (deferring plan child) plan path t (lift s))
  spawn-c t s = given-c lift_pair (values_of t.args s.env) s _ _ (λ vs. tested-c lift_pair (nat_lt (length path + 1) plan.limits.depth) Depth s _ _ (let o = origin.Instance (function_number (functions_of plan) t.name.bytes) vs (path ++ s.rank ∷ []) in spawned-c (event.Spawn (path ++ s.rank ∷ [])) (placeholder plan o) s (child o).items (child o).ending))

  loop-c : (o : Origin) (e : Event) (s : State (Unit {0})) (target : List Value → Env) →
      Cuts child lift (after_items (e ∷ []) (child o then λ ws. done (record s { rank = s.rank + 1; env = target ws }))) (after_items (Happened e ∷ []) ((deferring plan child).loop o then λ ws. done (record (lift s) { rank = s.rank + 1; env = target ws })))
  loop-c o e s target = by_size (is_empty_loop o) refl
    where
      by_end : (q : Result (List Value) Fault) → (child o).ending ≡ q →
          Cuts child lift (after_items (e ∷ []) (child o then λ ws. done (record s { rank = s.rank + 1; env = target ws }))) (after_items (Happened e ∷ []) (continued (Child o ∷ []) (loop_end (child o).ending) (λ ws. done (record (lift s) { rank = s.rank + 1; env = target ws }))))
      by_end (Ok ws) h = rw (h, h) (record s { rank = s.rank + 1; env = target ws }, refl, refl)
      by_end (Err f) h = rw (h, h)

      by_size : (b : Bool) → is_empty_loop o ≡ b →
          Cuts child lift (after_items (e ∷ []) (child o then λ ws. done (record s { rank = s.rank + 1; env = target ws }))) (after_items (Happened e ∷ []) ((if b then done [] else record { items = Child o ∷ []; ending = loop_end (child o).ending }) then λ ws. done (record (lift s) { rank = s.rank + 1; env = target ws })))
      by_size true h = (record s { rank = s.rank + 1; env = target [] }, refl, ap (λ r. after_items (e ∷ []) (r then λ ws. done (record s { rank = s.rank + 1; env = target ws }))) (empty o h))
      by_size false h = by_end (child o).ending refl

  looped-c : (lo : ℤ) (n : ℕ) (vs : List Value) (target : Option Name) (t : CallText) (s : State (Unit {0})) → Cuts child lift (looped (serial child) plan path lo n vs target t s) (looped (deferring plan child) plan path lo n vs target t (lift s))
  looped-c lo n vs target t s =
      let s' : State (Unit {0}) = record s { steps = s.steps - n } in tested-c lift (nat_lt n (s.steps + 1)) Budget s _ _ (tested-c lift (has_room target n s.env) Index s' _ _ (tested-c lift (loop_fits plan path n) Depth s' _ _
      (loop-c (origin.Loop (function_number (functions_of plan) t.name.bytes) vs lo (path ++ s.rank ∷ []) (record { lo = 0; hi = n })) (event.Loop (path ++ s.rank ∷ [])) s' (λ ws. with_loop_values target ws s.env))))

  -- one block is what the other is, cut
  abbrev Alike : BlockMeaning Event Fault (Unit {0}) → BlockMeaning Item NodeFault (Option Fault) → Type 0
  Alike b c = (here : List ℕ) (calls : ℕ) (sts : List Stmt) (s : State (Unit {0})) → Cuts child lift (b here calls sts s) (c here calls sts (lift s))

  -- the sync at a scope's end, and out of the scope
  leaves-c : (rank : ℕ) (s : State (Unit {0})) → Cuts child lift (leaves (serial child) plan path rank s) (leaves (deferring plan child) plan path rank (lift s))
  leaves-c rank s = (record s { rank = rank + 1 }, refl, refl)

  module _ (b : BlockMeaning Event Fault (Unit {0})) (c : BlockMeaning Item NodeFault (Option Fault)) (fine : Alike b c) where
    scoped-c : (calls : ℕ) (xs : List Stmt) (s : State (Unit {0})) → Cuts child lift (scoped (serial child) plan path b calls xs s) (scoped (deferring plan child) plan path c calls xs (lift s))
    scoped-c calls xs s =
        let inner : State (Unit {0}) = record s { rank = 0 } in
        let here : List ℕ = path ++ s.rank ∷ [] in
        tested-c lift (nat_lt (length path + 1) plan.limits.depth) Depth s _ _
        (cuts-then child lift lift (leaves (serial child) plan path s.rank) (leaves (deferring plan child) plan path s.rank) (leaves-c s.rank)
        (after_items [] (b here calls xs inner)) (after_items (Opened here ∷ []) (c here calls xs (lift inner))) (fine here calls xs inner))

    frame-c : (calls : ℕ) (o : Option Function) (vs : List Value) (s : State (Unit {0})) → Cuts child lift_pair (frame (serial child) plan path b calls o vs s) (frame (deferring plan child) plan path c calls o vs (lift s))
    frame-c calls None vs s = ((Int (pos 0), s), refl, refl)
    frame-c calls (Some f) vs s =
        let s' : State (Unit {0}) = record s { env = bound f.params vs } in cuts-then child lift lift_pair (function_end (serial child) plan path f) (function_end (deferring plan child) plan path f) (returned-c f) (b path calls f.body s') (c path calls f.body (lift s')) (fine path calls f.body s')

    called-c : (calls : ℕ) (t : CallText) (s : State (Unit {0})) → Cuts child lift_pair (called (serial child) plan path b calls t s) (called (deferring plan child) plan path c calls t (lift s))
    called-c calls t s =
        given-c lift_pair (values_of t.args s.env) s _ _ (λ vs. tested-c lift_pair (nat_lt calls 256) Calls s _ _ (cuts-then child lift_pair lift_pair (λ (r : Value × State (Unit {0})). done (r.0, record s { rank = r.1.rank; steps = r.1.steps })) (λ (r : Value × State (Option Fault)). done (r.0, record (lift s) { rank = r.1.rank; steps = r.1.steps })) (λ p. ((p.0, record s { rank = p.1.rank; steps = p.1.steps }), refl, refl)) (frame (serial child) plan path b (calls + 1) (function_at (functions_of plan) (function_number (functions_of plan) t.name.bytes)) vs s) (frame (deferring plan child) plan path c (calls + 1) (function_at (functions_of plan) (function_number (functions_of plan) t.name.bytes)) vs (lift s))
        (frame-c (calls + 1) (function_at (functions_of plan) (function_number (functions_of plan) t.name.bytes)) vs s)))

    right_side-c : (calls : ℕ) (r : Right) (s : State (Unit {0})) → Cuts child lift_pair (right_side (serial child) plan path b calls r s) (right_side (deferring plan child) plan path c calls r (lift s))
    right_side-c calls (right.Value e) s = given-c lift_pair (value_of e s.env) s _ _ (λ v. ((v, s), refl, refl))
    right_side-c calls (right.Draw at) s = ((Int (cast_signed w64 (drawn plan (path ++ s.rank ∷ []))), record s { rank = s.rank + 1 }), refl, refl)
    right_side-c calls (right.New at) s = ((Id (path ++ s.rank ∷ []), record s { rank = s.rank + 1 }), refl, refl)
    right_side-c calls (right.Call at t) s = called-c calls t s
    right_side-c calls (right.Spawn at t) s = spawn-c t s

    set-c : (calls : ℕ) (x : Name) (r : Right) (s : State (Unit {0})) → Cuts child lift (right_side (serial child) plan path b calls r s then λ p. done (set_scalar p.1 x p.0)) (right_side (deferring plan child) plan path c calls r (lift s) then λ p. done (set_scalar p.1 x p.0))
    set-c calls x r s = cuts-then child lift_pair lift _ _ (λ p. (set_scalar p.1 x p.0, refl, refl)) (right_side (serial child) plan path b calls r s) (right_side (deferring plan child) plan path c calls r (lift s)) (right_side-c calls r s)

    found-c : (o : Option ℤ) (s : State (Unit {0})) (f : Run Event Fault (State (Unit {0}))) (g : Run Item NodeFault (State (Option Fault))) → Cuts child lift f g → Cuts child lift (found (serial child) plan path o s f) (found (deferring plan child) plan path o (lift s) g)
    found-c None s f g h = refl
    found-c (Some old) s f g h = h

    does-c : (calls : ℕ) (st : Stmt) (a : Act-F Act Stmt) (s : State (Unit {0})) → Cuts child lift (does (serial child) plan path b calls st a s) (does (deferring plan child) plan path c calls st a (lift s))
    does-c calls st (act.Let x r) s = set-c calls x r s
    does-c calls st (act.Array x m) s = (set_array s x _, refl, refl)
    does-c calls st (act.Set x r) s = set-c calls x r s
    does-c calls st (act.Store x i e) s =
        given-c lift (value_of i s.env) s _ _ (λ k. found-c (at_index (items_of (content_of s.env x.bytes)) (as_integer k)) s _ _ (given-c lift (value_of e s.env) s _ _ (λ v. (set_array s x _, refl, refl))))
    does-c calls st (act.Spawn t) s = cuts-then child lift_pair lift (λ p. done p.1) (λ p. done p.1) (λ p. (p.1, refl, refl)) (spawn (serial child) plan path t s) (spawn (deferring plan child) plan path t (lift s)) (spawn-c t s)
    does-c calls st (act.Call t) s = cuts-then child lift_pair lift (λ p. done p.1) (λ p. done p.1) (λ p. (p.1, refl, refl)) (called (serial child) plan path b calls t s) (called (deferring plan child) plan path c calls t (lift s)) (called-c calls t s)
    does-c calls st act.Sync s = implied-c true s
    does-c calls st (act.Print e) s = given-c lift (value_of e s.env) s _ _ (λ v. (s, refl, refl))
    does-c calls st (act.If e xs ys) s = given-c lift (value_of e s.env) s _ _ (λ v. fine path calls (if is_true v then xs else ys) s)
    does-c calls st (act.While e xs) s =
        given-c lift (value_of e s.env) s _ _ (λ v. if-c lift (is_true v) _ _ _ _ (cuts-then child lift lift (b path calls (st ∷ [])) (c path calls (st ∷ [])) (fine path calls (st ∷ [])) (b path calls xs s) (c path calls xs (lift s)) (fine path calls xs s)) (s, refl, refl))
    does-c calls st (act.Pfor x lo hi target t) s =
        given-c lift (value_of lo s.env) s _ _ (λ l. given-c lift (value_of hi s.env) s _ _ (λ h. given-c lift (values_of t.args s.env) s _ _ (λ vs. looped-c (as_integer l) (count_of (as_integer h -ℤ as_integer l)) vs target t s)))
    does-c calls st (act.Scope xs) s = scoped-c calls xs s

  each-c : (one : Stmt → State (Unit {0}) → Run Event Fault (State (Unit {0}))) (two : Stmt → State (Option Fault) → Run Item NodeFault (State (Option Fault))) → ((st : Stmt) (s : State (Unit {0})) → Cuts child lift (one st s) (two st (lift s))) →
      (sts : List Stmt) (s : State (Unit {0})) → Cuts child lift (each (serial child) plan path one sts s) (each (deferring plan child) plan path two sts (lift s))
  each-c one two h [] s = (s, refl, refl)
  each-c one two h (st ∷ sts) s = cuts-then child lift lift (each (serial child) plan path one sts) (each (deferring plan child) plan path two sts) (each-c one two h sts) (one st s) (two st (lift s)) (h st s)

module _ (plan : PlanView) (child : Origin → Evaluation) (empty : (o : Origin) → is_empty_loop o ≡ true → child o ≡ done []) where
  pub statements-c : (n : ℕ) → Alike plan [] child empty (statements (serial child) plan n) (statements (deferring plan child) plan n)
  statements-c zero here calls sts s =
      each-c plan here child empty (λ st s. fault (serial child) plan here Budget s) (λ st s. fault (deferring plan child) plan here Budget s) (λ st s. refl) sts s
  statements-c (suc n) here calls sts s =
      each-c plan here child empty (statement (serial child) plan here (statements (serial child) plan n) calls) (statement (deferring plan child) plan here (statements (deferring plan child) plan n) calls)
      (λ st s. paid-c plan here child empty lift s.steps s _ _ (λ m. does-c plan here child empty (statements (serial child) plan n) (statements (deferring plan child) plan n) (statements-c n) calls st (out-Act (out-Stmt st).act) (record s { steps = m }))) sts s

  -- What statements do at once is what they do with their children put off, cut at the first child that faults.
  pub exec-c : Alike plan [] child empty (exec (serial child) plan) (exec (deferring plan child) plan)
  exec-c here calls sts s = statements-c s.steps here calls sts s

  -- an instance
  pub instance-c : (path : List ℕ) (o : Option Function) (args : List Value) → Cuts child (λ (vs : List Value). vs) (instance (serial child) plan path o args then λ v. done (v ∷ [])) (instance (deferring plan child) plan path o args then λ v. done (v ∷ []))
  instance-c path o args =
      let s : State (Unit {0}) = record { env = []; rank = 0; steps = plan.limits.budget; spawned = tt } in
      cuts-then child (λ (v : Value). v) (λ (vs : List Value). vs) (λ v. done (v ∷ [])) (λ v. done (v ∷ [])) (λ v. (v ∷ [], refl, refl)) (instance (serial child) plan path o args) (instance (deferring plan child) plan path o args)
      (cuts-then child lift_pair (λ (v : Value). v) (λ r. done r.0) (λ r. done r.0) (λ p. (p.0, refl, refl)) (frame (serial child) plan path (exec (serial child) plan) 0 o args s) (frame (deferring plan child) plan path (exec (deferring plan child) plan) 0 o args (lift s))
      (frame-c plan path child empty (exec (serial child) plan) (exec (deferring plan child) plan) exec-c 0 o args s))

module _ (child : Origin → Evaluation) (function : ℕ) (rest : List Value) (first : ℤ) (path : List ℕ) where
  abbrev loop_run : ℕ → ℕ → Evaluation
  loop_run = loop_evaluation child function rest first path

  abbrev loop_origins : ℕ → ℕ → List Origin
  loop_origins = iterations function rest first path

  abbrev loop_node : ℕ → ℕ → Run Item NodeFault (List Value)
  loop_node k n = record { items = map Child (loop_origins k n); ending = loop_end (gathered child (loop_origins k n)) }

  one_more : (vs : List Value) (xs es : List Event) (c : Option Fault) (r : Evaluation) (q : Result (List Value) Fault) → Matches child (λ (ws : List Value). ws) es c r (loop_end q) →
      Matches child (λ (ws : List Value). ws) (xs ++ es) c (after_items xs (r then λ ws. done (vs ++ ws))) (loop_end (both (Ok vs) q))
  one_more vs xs es (Some f) r q h = ap (λ (r : Evaluation). after_items xs (r then λ ws. done (vs ++ ws))) h
  one_more vs xs es None r (Ok ws) h =
      (vs ++ h.0, ap (λ l. vs ++ l) h.1, ap (λ (r : Evaluation). after_items xs (r then λ ws. done (vs ++ ws))) h.2 ∙ ap (λ l. record { items = xs ++ l; ending = Ok (vs ++ h.0) }) (append-nil es))
  one_more vs xs es None r (Err f) h = absurd h

  loop-cuts : (k n : ℕ) → Cuts child (λ (vs : List Value). vs) (loop_run k n) (loop_node k n)
  loop-cuts k zero = ([], refl, refl)
  loop-cuts k (suc n) = by_end (loop-cuts (k + 1) n) (child o).ending
    where
      o : Origin
      o = iteration function rest first path k

      next : List Value → Evaluation
      next vs = loop_run (k + 1) n then λ ws. done (vs ++ ws)

      by_end : Cuts child (λ (vs : List Value). vs) (loop_run (k + 1) n) (loop_node (k + 1) n) → (q : Result (List Value) Fault) →
          Matches child (λ (vs : List Value). vs) (child_first (child o).items q (cut child (loop_node (k + 1) n).items)).events (child_first (child o).items q (cut child (loop_node (k + 1) n).items)).cut_by (continued (child o).items q next) (loop_end (both q (gathered child (loop_origins (k + 1) n))))
      by_end ih (Ok vs) =
          one_more vs (child o).items (cut child (loop_node (k + 1) n).items).events (cut child (loop_node (k + 1) n).items).cut_by (loop_run (k + 1) n) (gathered child (loop_origins (k + 1) n)) ih
      by_end ih (Err f) = refl

empty_at : (plan : PlanView) (child : Origin → Evaluation) (o : Origin) → is_empty_loop o ≡ true → eval_with plan child o ≡ done []
empty_at plan child (origin.Instance function args path) h = let g : false ≡ true = h in absurd (cc)
empty_at plan child (origin.Loop function rest first path range) h = from (range.hi - range.lo) h
  where
    from : (n : ℕ) → is_zero n ≡ true → loop_evaluation child function rest first path range.lo n ≡ done []
    from zero h = refl
    from (suc n) h = let g : false ≡ true = h in absurd (cc)

pub node-cuts : (plan : PlanView) (child : Origin → Evaluation) → ((o : Origin) → is_empty_loop o ≡ true → child o ≡ done []) → (o : Origin) → Cuts child (λ (vs : List Value). vs) (eval_with plan child o) (node_with plan child o)
node-cuts plan child empty (origin.Instance function args path) = instance-c plan child empty path (function_at (functions_of plan) function) args
node-cuts plan child empty (origin.Loop function rest first path range) = loop-cuts child function rest first path range.lo (range.hi - range.lo)

pub empty_below : (plan : PlanView) (left : ℕ) (o : Origin) → is_empty_loop o ≡ true → eval_below plan left o ≡ done []
empty_below plan left o = every plan (done []) (eval_with plan) (λ o r. is_empty_loop o ≡ true → r ≡ done []) (λ o h. refl) (λ child all. empty_at plan child) left o

-- The evaluation of an origin is its node in the open tree with each child's evaluation in its place, cut at the first child that faults.
pub eval-cuts : (plan : PlanView) (o : Origin) → Cuts (eval_below plan (depth_left plan o)) (λ (vs : List Value). vs) (eval plan o) (node_of plan o)
eval-cuts plan o = let left = depth_left plan o in node-cuts plan (eval_below plan left) (empty_below plan left) o
