-- A move of a machine whose children have all answered: it shows what the open tree passes, and leaves what remains of it.
use Rattle.std.proofs.Common.{◌≡◌, ℕ, zero, suc, ◌+◌, ◌-◌, Bool, true, false, nat_lt, List, [], ◌∷◌, ◌++◌, Option, Some, None, Result, Ok, Err, refl, sym, ap, ◌∙◌, if◌then◌else◌, length}
use Rattle.std.proofs.Common.{ℤ, pos, ◌-ℤ◌}
use Rattle.std.proofs.Math.Numerals.{add-one}
use Rattle.script_grammar.specs.declared.tree.Name.{Name}
use Rattle.script_grammar.specs.declared.tree.Expr.{Expr}
use Rattle.script_grammar.specs.declared.tree.CallText.{CallText}
use Rattle.script_grammar.specs.declared.tree.Function.{Function}
use Rattle.script_grammar.specs.declared.tree.Right.{Right}
use Rattle.script_grammar.specs.declared.tree.Right.TheVariants as right
use Rattle.script_grammar.specs.declared.tree.Stmt.{Stmt, out-Stmt}
use Rattle.script_grammar.specs.declared.tree.Act.{Act, out-Act}
use Rattle.script_grammar.specs.declared.tree.Act.TheOpen as act
use Rattle.script_grammar.specs.declared.tree.Act.TheOpen.{Act-F}
use Rattle.serial_meaning.specs.Runs.{Run, done, happens, after_items, ◌then◌}
use Rattle.serial_meaning.specs.Values.{Env, value_of, values_of, content_of, items_of, as_integer, is_true, at_index}
use Rattle.serial_meaning.specs.Functions.{function_number, function_at}
use Rattle.serial_meaning.specs.Plan.{PlanView, functions_of}
use Rattle.serial_meaning.specs.Exec.{State, Interpretation, strand, fault, unless_fault, paid_from, tested, has_room, loop_fits, with_loop_values, spawn, sync_here, leaves, goes_out, scoped, implied, frame, called, right_side, found, store, looped, does, statement, exec, count_of, bound}
use Rattle.serial_meaning.specs.Exec.{all_happen as passes}
use Rattle.serial_meaning.specs.Eval.{Evaluation, first_value}
use Rattle.serial_meaning.specs.Open.{Item, Happened, Child, Opened, Closed, NodeFault, deferred, deferring, unless_child_faulted, loop_end, is_empty_loop, placeholder}
use Rattle.serial_meaning.proofs.Equations.RunLaws.{goes_on-after, then-then, then-same}
use Rattle.serial_meaning.proofs.Equations.ExecLaws.{exec-cons, exec-nil, exec-append, exec-again}
use Rattle.serial_meaning.specs.declared.value.Value.{Value}
use Rattle.serial_meaning.specs.declared.value.Value.TheVariants.{Int}
use Rattle.serial_meaning.specs.declared.environment.Content.TheVariants.{Scalar}
use Rattle.serial_meaning.specs.declared.event.FaultKind.{FaultKind}
use Rattle.serial_meaning.specs.declared.event.FaultKind.TheVariants.{Index, Depth, Calls, Budget}
use Rattle.serial_meaning.specs.declared.event.Fault.{Fault}
use Rattle.serial_meaning.specs.declared.event.Event.{Event}
use Rattle.serial_meaning.specs.declared.event.Event.TheVariants as event
use Rattle.serial_meaning.specs.declared.origin.Origin.{Origin}
use Rattle.serial_meaning.specs.declared.origin.Origin.TheVariants as origin
use Rattle.script_check.specs.Spawns.{spawns_in}
use Rattle.strand_meaning.specs.Machine.{Destination, Spawned, Looped, Effect, Emitted, Exit, loop_effects, sync_effects, parallel, inside, child_destination, Level, Frame, Machine, state_of, inside_of, present, here_of, with_left, into_level, with_leaving, out_of_level, with_returning, with_scalar, back_in_caller, calling, machine_inside, reached, gives, act_run, value_run, level_move, move}
use Rattle.strand_meaning.specs.Task.{Running, AtLoop, stage_after, frame_with_answer, takes, resumed, pass_sync, with_answer}
use Rattle.strand_meaning.specs.Rest.{valued, closes, level_end, outwards, afterwards, remains, caller_state, remains_below, open_state, rest_of_machine, rest_of_stage, rest_open}
use Rattle.strand_meaning.specs.Observation.{effect_items}
use Rattle.strand_meaning.proofs.Unfilled.RestAfterEffects.{effect_parts, after_effects, changed-top}
use Rattle.strand_meaning.proofs.Unfilled.Variables.{replaced-with, filled-later}

abbrev S : Type 0
S = State (Option Fault)

-- a state as the open tree has it
abbrev pub opens : Option Fault → State Bool → State (Option Fault)
opens known s = record { env = s.env; rank = s.rank; steps = s.steps; spawned = known }

module _ (plan : PlanView) (child : Origin → Evaluation) (path : List ℕ) where
  abbrev tree : Interpretation Item NodeFault (Option Fault)
  tree = deferring plan child

  abbrev what : Destination → Interpretation Effect Exit Bool
  what destination = parallel plan destination

  -- the machine with these statements left
  abbrev pub left_of : Machine → List Stmt → Machine
  left_of m left = record m { top = record m.top { left = left } }

  -- what remains after a statement
  abbrev pub later : Machine → List Stmt → State (Option Fault) → Run Item NodeFault Value
  later m left s = remains plan child path (left_of m left).top m.below s then remains_below plan child path m.below m.top.target

  module _ (now : List ℕ) (m : Machine) (on : State Bool → Machine) (into : List Stmt → State Bool → Machine) (go : State (Option Fault) → Run Item NodeFault Value)
      (same : (s : State Bool) → go (opens m.top.faulted s) ≡ rest_of_machine plan child path (on s)) where
    -- the open run q and then go, is what the run r of the machine shows and leaves
    abbrev pub IsMirrored : Run Effect Exit (State Bool) → Run Item NodeFault (State (Option Fault)) → Type 0
    IsMirrored r q = (q then go) ≡ after_items (effect_items r.items) (after_effects plan child path r.items (reached plan on into r.ending))

    pub at-done : (s : State Bool) → IsMirrored (done s) (done (opens m.top.faulted s))
    at-done s = same s

    pub at-event : (destination : Destination) (e : Event) (s : State Bool) → IsMirrored (happens (Emitted e) s) (happens (Happened e) (opens m.top.faulted s))
    at-event destination e s = ap (after_items (Happened e ∷ [])) (same s)

    pub at-fault : (destination : Destination) (kind : FaultKind) (s : State Bool) → IsMirrored (fault (what destination) plan now kind s) (fault tree plan now kind (opens m.top.faulted s))
    at-fault destination kind s = refl

    pub at-given : (destination : Destination) {A : Type 0} (o : Result A FaultKind) (s : State Bool) (f : A → Run Effect Exit (State Bool)) (g : A → Run Item NodeFault S) → ((a : A) → IsMirrored (f a) (g a)) →
        IsMirrored (unless_fault (what destination) plan now o s f) (unless_fault tree plan now o (opens m.top.faulted s) g)
    at-given destination (Ok a) s f g h = h a
    at-given destination (Err k) s f g h = refl

    pub at-tested : (destination : Destination) (b : Bool) (k : FaultKind) (s : State Bool) (f : Run Effect Exit (State Bool)) (g : Run Item NodeFault S) → IsMirrored f g →
        IsMirrored (tested (what destination) plan now b k s f) (tested tree plan now b k (opens m.top.faulted s) g)
    at-tested destination true k s f g h = h
    at-tested destination false k s f g h = refl

    pub at-paid : (destination : Destination) (n : ℕ) (s : State Bool) (f : State Bool → Run Effect Exit (State Bool)) (g : S → Run Item NodeFault S) →
        ((k : ℕ) → IsMirrored (f (record s { steps = k })) (g (record (opens m.top.faulted s) { steps = k }))) → IsMirrored (paid_from (what destination) plan now n s f) (paid_from tree plan now n (opens m.top.faulted s) g)
    at-paid destination zero s f g h = refl
    at-paid destination (suc n) s f g h = h n

    -- a sync, where a frame that spawned nothing knows of no fault
    pub at-sync : (destination : Destination) (s : State Bool) → ((s : State Bool) → (on s).top.faulted ≡ m.top.faulted) → (s.spawned ≡ false → m.top.faulted ≡ None) →
        IsMirrored (sync_here (what destination) plan now s) (sync_here tree plan now (opens m.top.faulted s))
    at-sync destination s keeps none = by_spawned s.spawned refl m.top.faulted refl
      where
        e : Event
        e = event.Sync (strand now s)

        next : Bool → State Bool
        next k = record s { rank = s.rank + 1; spawned = false }

        by_spawned : (k : Bool) → s.spawned ≡ k → (f : Option Fault) → m.top.faulted ≡ f →
            ((after_items (Happened e ∷ []) (unless_child_faulted f then λ k. done (record (opens m.top.faulted s) { rank = s.rank + 1; spawned = k }))) then go)
            ≡ after_items (effect_items (Emitted e ∷ sync_effects k ++ [])) (rest_open plan child path (effect_parts (Emitted e ∷ sync_effects k ++ [])) (stage_after (Emitted e ∷ sync_effects k ++ []) (on (next k))))
        by_spawned true h None g =
            ap (after_items (Happened e ∷ [])) (ap (λ (k : Option Fault). go (record (opens m.top.faulted s) { rank = s.rank + 1; spawned = k })) (sym g) ∙ same (next true) ∙ ap (λ (k : Option Fault). rest_of_stage plan child path (pass_sync k (on (next true)))) (sym (keeps (next true) ∙ g)))
        by_spawned true h (Some f) g =
            ap (λ (k : Option Fault). after_items (Happened e ∷ []) (rest_of_stage plan child path (pass_sync k (on (next true))))) (sym (keeps (next true) ∙ g))
        by_spawned false h None g = ap (after_items (Happened e ∷ [])) (ap (λ (k : Option Fault). go (record (opens m.top.faulted s) { rank = s.rank + 1; spawned = k })) (sym g) ∙ same (next false))
        by_spawned false h (Some f) g = let none_here : None ≡ Some f = sym (none h) ∙ g in absurd (cc)

  -- A statement. What it goes inside to stands before the others.
  module _ (m : Machine) (left : List Stmt) (st : Stmt) where
    abbrev height : ℕ
    height = length m.below

    -- the present path
    abbrev now : List ℕ
    now = here_of path m

    abbrev on : State Bool → Machine
    on = with_left m left

    abbrev go : S → Run Item NodeFault Value
    go = later m left

    -- where the step was paid
    abbrev here : ℕ → State Bool
    here n = record (state_of m) { steps = n }

    abbrev there : ℕ → S
    there n = opens m.top.faulted (here n)

    abbrev Moves : (List Stmt → State Bool → Machine) → Run Effect Exit (State Bool) → Run Item NodeFault S → Type 0
    Moves into = IsMirrored now m on into go (λ s. refl)

    -- a variable set to a value
    abbrev sets : {K : Type 0} → Option Name → Value × State K → State K
    sets target p = record p.1 { env = with_scalar target p.0 p.1.env }

    -- a child after its arguments and the test of the depth
    abbrev child_run : {I E K : Type 0} → Interpretation I E K → CallText → List Value → State K → Run I E (Value × State K)
    child_run how c vs s =
        happens (how.event (event.Spawn (strand now s))) s then λ s.
        how.spawn (origin.Instance (function_number (functions_of plan) c.name.bytes) vs (strand now s)) s.spawned then λ r.
        done (r.0, record s { rank = s.rank + 1; spawned = r.1 })

    answer-later : (target : Option Name) (v w : Value) (env : Env) → with_answer target w (with_scalar target v env) ≡ with_scalar target w env
    answer-later None v w env = refl
    answer-later (Some x) v w env = replaced-with env x.bytes (Scalar v) (Scalar w)

    module _ (into : List Stmt → State Bool → Machine) (target : Option Name) where
      abbrev destination : Destination
      destination = Spawned height target

      spawned-shows : (c : CallText) (n : ℕ) → Moves into (spawn (what destination) plan now c (here n) then λ p. done (sets target p)) (spawn tree plan now c (there n) then λ p. done (sets target p))
      spawned-shows c n = by_args (values_of c.args m.top.env)
        where
          e : Event
          e = event.Spawn (now ++ m.rank ∷ [])

          next : Origin → State Bool
          next o = record { env = with_scalar target (placeholder plan o) m.top.env; rank = m.rank + 1; steps = n; spawned = true }

          by_end : (o : Origin) (q : Result (List Value) Fault) →
              after_items (Happened e ∷ Child o ∷ []) (go (record { env = with_scalar target (deferred (placeholder plan o) m.top.faulted q).0 m.top.env; rank = m.rank + 1; steps = n; spawned = (deferred (placeholder plan o) m.top.faulted q).1 }))
              ≡ after_items (Happened e ∷ Child o ∷ []) (rest_of_stage plan child path (resumed (takes (Spawned height target) q (Running (on (next o))))))
          by_end o (Ok vs) =
              ap (λ (env : Env). after_items (Happened e ∷ Child o ∷ []) (go (record { env = env; rank = m.rank + 1; steps = n; spawned = m.top.faulted }))) (sym (answer-later target (placeholder plan o) (first_value vs) m.top.env))
              ∙ ap (λ (k : Machine). after_items (Happened e ∷ Child o ∷ []) (rest_of_machine plan child path k)) (sym (changed-top (frame_with_answer target (Ok vs)) (on (next o))))
          by_end o (Err f) = ap (λ (k : Machine). after_items (Happened e ∷ Child o ∷ []) (rest_of_machine plan child path k)) (sym (changed-top (frame_with_answer target (Err f)) (on (next o))))

          by_test : (vs : List Value) (b : Bool) →
              Moves into (tested (what destination) plan now b Depth (here n) (child_run (what destination) c vs (here n)) then λ p. done (sets target p)) (tested tree plan now b Depth (there n) (child_run tree c vs (there n)) then λ p. done (sets target p))
          by_test vs true = let o = origin.Instance (function_number (functions_of plan) c.name.bytes) vs (now ++ m.rank ∷ []) in by_end o (child o).ending
          by_test vs false = refl

          by_args : (o : Result (List Value) FaultKind) →
              Moves into (unless_fault (what destination) plan now o (here n) (λ vs. tested (what destination) plan now (nat_lt (length now + 1) plan.limits.depth) Depth (here n) (child_run (what destination) c vs (here n))) then λ p. done (sets target p))
              (unless_fault tree plan now o (there n) (λ vs. tested tree plan now (nat_lt (length now + 1) plan.limits.depth) Depth (there n) (child_run tree c vs (there n))) then λ p. done (sets target p))
          by_args (Ok vs) = by_test vs (nat_lt (length now + 1) plan.limits.depth)
          by_args (Err k) = refl

      called-shows : (c : CallText) → ((inner : List Stmt) (s : State Bool) → into inner s ≡ calling plan target c left m inner s) → (n : ℕ) →
          Moves into (called (what destination) plan now inside height c (here n) then λ p. done (sets target p)) (called tree plan now (exec tree plan) height c (there n) then λ p. done (sets target p))
      called-shows c enters n = by_args (values_of c.args m.top.env)
        where
          as_integer : ℕ
          as_integer = function_number (functions_of plan) c.name.bytes

          begins : Function → List Value → State Bool
          begins f vs = record { env = bound f.params vs; rank = m.rank; steps = n; spawned = false }

          callee_run : Function → List Value → ℕ → Option Function → Run Item NodeFault (Value × S)
          callee_run f vs calls o = exec tree plan now calls f.body (opens None (begins f vs)) then closes plan child path now false o

          body : (f : Function) (vs : List Value) → function_at (functions_of plan) as_integer ≡ Some f →
              ((callee_run f vs (height + 1) (Some f) then λ r. done (r.0, record (there n) { rank = r.1.rank; steps = r.1.steps })) then λ p. done (sets target p)) then go
              ≡ rest_of_machine plan child path (calling plan target c left m f.body (begins f vs))
          body f vs e =
              then-then (callee_run f vs (height + 1) (Some f) then λ r. done (r.0, record (there n) { rank = r.1.rank; steps = r.1.steps })) (λ p. done (sets target p)) go
              ∙ then-then (callee_run f vs (height + 1) (Some f)) (λ r. done (r.0, record (there n) { rank = r.1.rank; steps = r.1.steps })) (λ p. done (sets target p) then go)
              ∙ ap (λ (k : ℕ). callee_run f vs k (Some f) then λ r. go (caller_state plan child path (left_of m left).top target r)) (add-one height)
              ∙ ap (λ (o : Option Function). callee_run f vs (suc height) o then λ r. go (caller_state plan child path (left_of m left).top target r)) (sym e)

          by_function : (vs : List Value) (o : Option Function) → function_at (functions_of plan) as_integer ≡ o →
              Moves into ((frame (what destination) plan now inside (height + 1) o vs (here n) then λ r. done (r.0, record (here n) { rank = r.1.rank; steps = r.1.steps })) then λ p. done (sets target p))
              ((frame tree plan now (exec tree plan) (height + 1) o vs (there n) then λ r. done (r.0, record (there n) { rank = r.1.rank; steps = r.1.steps })) then λ p. done (sets target p))
          by_function vs None e = refl
          by_function vs (Some f) e = body f vs e ∙ ap (rest_of_machine plan child path) (sym (enters f.body (begins f vs)))

          by_test : (vs : List Value) (b : Bool) →
              Moves into (tested (what destination) plan now b Calls (here n) (frame (what destination) plan now inside (height + 1) (function_at (functions_of plan) as_integer) vs (here n) then λ r. done (r.0, record (here n) { rank = r.1.rank; steps = r.1.steps })) then λ p. done (sets target p))
              (tested tree plan now b Calls (there n) (frame tree plan now (exec tree plan) (height + 1) (function_at (functions_of plan) as_integer) vs (there n) then λ r. done (r.0, record (there n) { rank = r.1.rank; steps = r.1.steps })) then λ p. done (sets target p))
          by_test vs true = by_function vs (function_at (functions_of plan) as_integer) refl
          by_test vs false = refl

          by_args : (o : Result (List Value) FaultKind) →
              Moves into (unless_fault (what destination) plan now o (here n) (λ vs. tested (what destination) plan now (nat_lt height 256) Calls (here n) (frame (what destination) plan now inside (height + 1) (function_at (functions_of plan) as_integer) vs (here n) then λ r. done (r.0, record (here n) { rank = r.1.rank; steps = r.1.steps }))) then λ p. done (sets target p))
              (unless_fault tree plan now o (there n) (λ vs. tested tree plan now (nat_lt height 256) Calls (there n) (frame tree plan now (exec tree plan) (height + 1) (function_at (functions_of plan) as_integer) vs (there n) then λ r. done (r.0, record (there n) { rank = r.1.rank; steps = r.1.steps }))) then λ p. done (sets target p))
          by_args (Ok vs) = by_test vs (nat_lt height 256)
          by_args (Err k) = refl

      -- a call goes inside
      abbrev EntersBy : Right → Type 0
      EntersBy (right.Value e) = Unit {0}
      EntersBy (right.Draw at) = Unit {0}
      EntersBy (right.New at) = Unit {0}
      EntersBy (right.Call at c) = (inner : List Stmt) (s : State Bool) → into inner s ≡ calling plan target c left m inner s
      EntersBy (right.Spawn at c) = Unit {0}

      right-shows : (r : Right) → EntersBy r → (n : ℕ) →
          Moves into (right_side (what destination) plan now inside height r (here n) then λ p. done (sets target p)) (right_side tree plan now (exec tree plan) height r (there n) then λ p. done (sets target p))
      right-shows (right.Value e) enters n = by_value (value_of e m.top.env)
        where
          by_value : (o : Result Value FaultKind) →
              Moves into (unless_fault (what destination) plan now o (here n) (λ v. done (v, here n)) then λ p. done (sets target p)) (unless_fault tree plan now o (there n) (λ v. done (v, there n)) then λ p. done (sets target p))
          by_value (Ok v) = refl
          by_value (Err k) = refl
      right-shows (right.Draw at) enters n = refl
      right-shows (right.New at) enters n = refl
      right-shows (right.Call at c) enters n = called-shows c enters n
      right-shows (right.Spawn at c) enters n = spawned-shows c n

    -- statements before the others
    in-front : (first : Run Item NodeFault S) → ((first then exec tree plan now height left) then afterwards plan child path m.top m.below) then remains_below plan child path m.below m.top.target ≡ (first then go)
    in-front first =
        ap (λ (r : Run Item NodeFault (Value × S)). r then remains_below plan child path m.below m.top.target) (then-then first (exec tree plan now height left) (afterwards plan child path m.top m.below))
        ∙ then-then first (λ s. exec tree plan now height left s then afterwards plan child path m.top m.below) (remains_below plan child path m.below m.top.target)

    abbrev ends : Run Item NodeFault S → Run Item NodeFault Value
    ends r = (r then afterwards plan child path m.top m.below) then remains_below plan child path m.below m.top.target

    module _ (destination : Destination) where
      if-shows : (e : Expr) (a b : List Stmt) (n : ℕ) →
          Moves (machine_inside plan st (act.If e a b) left m) (does (what destination) plan now inside height st (act.If e a b) (here n)) (does tree plan now (exec tree plan) height st (act.If e a b) (there n))
      if-shows e a b n = by_value (value_of e m.top.env)
        where
          by_value : (o : Result Value FaultKind) →
              Moves (machine_inside plan st (act.If e a b) left m) (unless_fault (what destination) plan now o (here n) (λ v. inside now height (if is_true v then a else b) (here n))) (unless_fault tree plan now o (there n) (λ v. exec tree plan now height (if is_true v then a else b) (there n)))
          by_value (Ok v) =
              let chosen = if is_true v then a else b in sym (in-front (exec tree plan now height chosen (there n))) ∙ ap ends (sym (exec-append tree plan now height chosen left (there n)))
          by_value (Err k) = refl

      while-shows : (e : Expr) (a : List Stmt) (n : ℕ) →
          Moves (machine_inside plan st (act.While e a) left m) (does (what destination) plan now inside height st (act.While e a) (here n)) (does tree plan now (exec tree plan) height st (act.While e a) (there n))
      while-shows e a n = by_value (value_of e m.top.env)
        where
          by_test : (b : Bool) →
              Moves (machine_inside plan st (act.While e a) left m) (if b then (inside now height a (here n) then inside now height (st ∷ [])) else done (here n)) (if b then (exec tree plan now height a (there n) then exec tree plan now height (st ∷ [])) else done (there n))
          by_test true =
              sym (in-front (exec tree plan now height a (there n) then exec tree plan now height (st ∷ []))) ∙ ap ends (exec-again tree plan now height st a left (there n))
          by_test false = refl

          by_value : (o : Result Value FaultKind) →
              Moves (machine_inside plan st (act.While e a) left m) (unless_fault (what destination) plan now o (here n) (λ v. if is_true v then (inside now height a (here n) then inside now height (st ∷ [])) else done (here n)))
              (unless_fault tree plan now o (there n) (λ v. if is_true v then (exec tree plan now height a (there n) then exec tree plan now height (st ∷ [])) else done (there n)))
          by_value (Ok v) = by_test (is_true v)
          by_value (Err k) = refl

      store-shows : (into : List Stmt → State Bool → Machine) (x : Name) (i e : Expr) (n : ℕ) → Moves into (store (what destination) plan now x i e (here n)) (store tree plan now x i e (there n))
      store-shows into x i e n =
          at-given now m on into go (λ s. refl) destination (value_of i m.top.env) (here n) _ _ (λ k. by_item (at_index (items_of (content_of m.top.env x.bytes)) (as_integer k)) _ _
          (at-given now m on into go (λ s. refl) destination (value_of e m.top.env) (here n) _ _ (λ v. refl)))
        where
          by_item : (o : Option ℤ) (r : Run Effect Exit (State Bool)) (q : Run Item NodeFault S) → Moves into r q → Moves into (found (what destination) plan now o (here n) r) (found tree plan now o (there n) q)
          by_item None r q h = refl
          by_item (Some old) r q h = h

    -- a loop after its bounds and arguments
    loop-shows : (into : List Stmt → State Bool → Machine) (target : Option Name) (c : CallText) (lo : ℤ) (hi : ℕ) (vs : List Value) (n : ℕ) →
        Moves into (looped (what (Looped target)) plan now lo hi vs target c (here n)) (looped tree plan now lo hi vs target c (there n))
    loop-shows into target c lo hi vs n =
        at-tested now m on into go (λ s. refl) destination (nat_lt hi (n + 1)) Budget (here n) _ _ (at-tested now m on into go (λ s. refl) destination (has_room target hi m.top.env) Index (here (n - hi)) _ _
        (at-tested now m on into go (λ s. refl) destination (loop_fits plan now hi) Depth (here (n - hi)) _ _ (by_size (is_empty_loop o))))
      where
        destination : Destination
        destination = Looped target

        o : Origin
        o = origin.Loop (function_number (functions_of plan) c.name.bytes) vs lo (now ++ m.rank ∷ []) (record { lo = 0; hi = hi })

        e : Event
        e = event.Loop (now ++ m.rank ∷ [])

        next : State Bool
        next = record { env = with_loop_values target [] m.top.env; rank = m.rank + 1; steps = n - hi; spawned = m.top.spawned }

        by_end : (q : Result (List Value) Fault) →
            after_items (Happened e ∷ []) ((record { items = Child o ∷ []; ending = loop_end q } then λ ws. done (record (there (n - hi)) { rank = m.rank + 1; env = with_loop_values target ws m.top.env }))) then go
            ≡ after_items (Happened e ∷ Child o ∷ []) (rest_of_stage plan child path (resumed (takes (Looped target) q (AtLoop (on next)))))
        by_end (Ok ws) =
            ap (λ (env : Env). after_items (Happened e ∷ Child o ∷ []) (go (record { env = env; rank = m.rank + 1; steps = n - hi; spawned = m.top.faulted }))) (sym (filled-later target ws m.top.env))
        by_end (Err f) = refl

        by_size : (b : Bool) →
            Moves into (happens (Emitted e) (here (n - hi)) then λ s. record { items = loop_effects b o (Looped target); ending = Ok [] } then λ (ws : List Value). done (record s { rank = s.rank + 1; env = with_loop_values target ws s.env }))
            (happens (Happened e) (there (n - hi)) then λ s. (if b then done [] else record { items = Child o ∷ []; ending = loop_end (child o).ending }) then λ ws. done (record s { rank = s.rank + 1; env = with_loop_values target ws s.env }))
        by_size true = refl
        by_size false = by_end (child o).ending

    pfor-shows : (into : List Stmt → State Bool → Machine) (x : Name) (lo hi : Expr) (target : Option Name) (c : CallText) (n : ℕ) →
        Moves into (does (what (Looped target)) plan now inside height st (act.Pfor x lo hi target c) (here n)) (does tree plan now (exec tree plan) height st (act.Pfor x lo hi target c) (there n))
    pfor-shows into x lo hi target c n =
        at-given now m on into go (λ s. refl) destination (value_of lo m.top.env) (here n) _ _ (λ l. at-given now m on into go (λ s. refl) destination (value_of hi m.top.env) (here n) _ _ (λ h. at-given now m on into go (λ s. refl) destination (values_of c.args m.top.env) (here n) _ _
        (λ vs. loop-shows into target c (as_integer l) (count_of (as_integer h -ℤ as_integer l)) vs n)))
      where
        destination : Destination
        destination = Looped target

    enters-let : (x : Name) (r : Right) → EntersBy (machine_inside plan st (act.Let x r) left m) (Some x) r
    enters-let x (right.Value e) = tt
    enters-let x (right.Draw at) = tt
    enters-let x (right.New at) = tt
    enters-let x (right.Call at c) = λ inner s. refl
    enters-let x (right.Spawn at c) = tt

    enters-set : (x : Name) (r : Right) → EntersBy (machine_inside plan st (act.Set x r) left m) (Some x) r
    enters-set x (right.Value e) = tt
    enters-set x (right.Draw at) = tt
    enters-set x (right.New at) = tt
    enters-set x (right.Call at c) = λ inner s. refl
    enters-set x (right.Spawn at c) = tt

    -- a scope goes inside, and what is after it stands after its end
    module _ (open_ended : m.top.leaving ≡ false) where
      abbrev rest_below : Value × S → Run Item NodeFault Value
      rest_below = remains_below plan child path m.below m.top.target

      abbrev closing : S → Run Item NodeFault (Value × S)
      closing = closes plan child path (present path m.below) m.top.returning (function_at (functions_of plan) m.top.function)

      abbrev outside : Bool → S → Run Item NodeFault S
      outside leaving = outwards plan child path (present path m.below) height leaving m.top.levels

      abbrev after_level : S → Run Item NodeFault S
      after_level s = exec tree plan now height left s then outside false

      abbrev level_then : Bool → S → Run Item NodeFault (Value × S)
      level_then leaving s = (level_end plan child path leaving now m.rank s then after_level) then closing

      goes-on : (s : S) → ((after_level s then closing) then rest_below) ≡ go s
      goes-on s =
          ap (λ (r : Run Item NodeFault (Value × S)). r then rest_below) (then-then (exec tree plan now height left s) (outside false) closing)
          ∙ ap (λ (b : Bool). (exec tree plan now height left s then λ u. outside b u then closing) then rest_below) (sym open_ended)

      level-ends : (first : Run Item NodeFault S) → ((first then level_then false) then rest_below) ≡ (first then λ s. leaves tree plan now m.rank s then go)
      level-ends first = then-then first (level_then false) rest_below ∙ then-same first _ _ (λ s h. one s)
        where
          one : (s : S) → (level_then false s then rest_below) ≡ (leaves tree plan now m.rank s then go)
          one s =
              ap (λ (r : Run Item NodeFault (Value × S)). r then rest_below) (then-then (leaves tree plan now m.rank s) after_level closing)
              ∙ then-then (leaves tree plan now m.rank s) (λ t. after_level t then closing) rest_below
              ∙ then-same (leaves tree plan now m.rank s) _ _ (λ t h. goes-on t)

      scope-shows : (destination : Destination) (a : List Stmt) (n : ℕ) → Moves (into_level m left) (scoped (what destination) plan now inside height a (here n)) (scoped tree plan now (exec tree plan) height a (there n))
      scope-shows destination a n = by_test (nat_lt (length now + 1) plan.limits.depth)
        where
          here_inside : List ℕ
          here_inside = now ++ m.rank ∷ []

          inner : State Bool
          inner = record (here n) { rank = 0 }

          block : Run Item NodeFault S
          block = exec tree plan here_inside height a (opens m.top.faulted inner)

          whole : ((after_items (Opened here_inside ∷ []) block then leaves tree plan now m.rank) then go) ≡ after_items (Opened here_inside ∷ []) (rest_of_machine plan child path (into_level m left a inner))
          whole =
              then-then (after_items (Opened here_inside ∷ []) block) (leaves tree plan now m.rank) go
              ∙ goes_on-after (Opened here_inside ∷ []) block.items block.ending (λ s. leaves tree plan now m.rank s then go)
              ∙ ap (after_items (Opened here_inside ∷ [])) (sym (level-ends block))
              ∙ ap (λ (b : Bool). after_items (Opened here_inside ∷ []) ((block then level_then b) then rest_below)) (sym open_ended)

          by_test : (b : Bool) →
              Moves (into_level m left) (tested (what destination) plan now b Depth (here n) (passes ((what destination).opens here_inside) inner then inside here_inside height a then leaves (what destination) plan now m.rank)) (tested tree plan now b Depth (there n) (after_items (Opened here_inside ∷ []) block then leaves tree plan now m.rank))
          by_test true = whole
          by_test false = refl

    does-shows : (a : Act-F Act Stmt) → m.top.leaving ≡ false → (m.top.spawned ≡ false → m.top.faulted ≡ None) → (n : ℕ) →
        Moves (machine_inside plan st a left m) (does (what (child_destination height a)) plan now inside height st a (here n)) (does tree plan now (exec tree plan) height st a (there n))
    does-shows (act.Let x r) open_ended none n = right-shows (machine_inside plan st (act.Let x r) left m) (Some x) r (enters-let x r) n
    does-shows (act.Array x k) open_ended none n = refl
    does-shows (act.Set x r) open_ended none n = right-shows (machine_inside plan st (act.Set x r) left m) (Some x) r (enters-set x r) n
    does-shows (act.Store x i e) open_ended none n = store-shows (child_destination height (act.Store x i e)) (machine_inside plan st (act.Store x i e) left m) x i e n
    does-shows (act.Spawn c) open_ended none n = spawned-shows (machine_inside plan st (act.Spawn c) left m) None c n
    does-shows (act.Call c) open_ended none n = called-shows (machine_inside plan st (act.Call c) left m) None c (λ inner s. refl) n
    does-shows act.Sync open_ended none n = at-sync now m on (machine_inside plan st act.Sync left m) go (λ s. refl) (Spawned height None) (here n) (λ s. refl) none
    does-shows (act.Print e) open_ended none n =
        at-given now m on (machine_inside plan st (act.Print e) left m) go (λ s. refl) (Spawned height None) (value_of e m.top.env) (here n) _ _ (λ v. refl)
    does-shows (act.If e a b) open_ended none n = if-shows (Spawned height None) e a b n
    does-shows (act.While e a) open_ended none n = while-shows (Spawned height None) e a n
    does-shows (act.Pfor x lo hi target c) open_ended none n = pfor-shows (machine_inside plan st (act.Pfor x lo hi target c) left m) x lo hi target c n
    does-shows (act.Scope a) open_ended none n = scope-shows open_ended (Spawned height None) a n

  -- What remains of a machine is what a move shows, and then what it leaves.
  abbrev pub IsMove : Machine → Type 0
  IsMove m = rest_of_machine plan child path m ≡ after_items (effect_items (move plan path m).items) (after_effects plan child path (move plan path m).items (move plan path m).ending)

  abbrev rebuilt : Machine → List Stmt → List Level → Bool → Bool → Machine
  rebuilt m left levels leaving returning = record m { top = record m.top { left = left; levels = levels; leaving = leaving; returning = returning } }

  abbrev function_of : Machine → Option Function
  function_of m = function_at (functions_of plan) m.top.function

  statement-is : (m : Machine) (st : Stmt) (left : List Stmt) (levels : List Level) (returning : Bool) → (m.top.spawned ≡ false → m.top.faulted ≡ None) → IsMove (rebuilt m (st ∷ left) levels false returning)
  statement-is m st left levels returning none =
      ap (ends k left st) (exec-cons tree plan now (length m.below) st left (open_state plan child path k)) ∙ in-front k left st (statement tree plan now (exec tree plan) (length m.below) st (open_state plan child path k)) ∙ paid-shows
    where
      k : Machine
      k = rebuilt m (st ∷ left) levels false returning

      now : List ℕ
      now = here_of path (rebuilt m (st ∷ left) levels false returning)

      a : Act-F Act Stmt
      a = out-Act (out-Stmt st).act

      paid-shows : IsMirrored (here_of path k) k (with_left k left) (machine_inside plan st a left k) (later k left) (λ s. refl) (act_run plan path k st a) (statement tree plan (here_of path k) (exec tree plan) (length m.below) st (open_state plan child path k))
      paid-shows =
          at-paid (here_of path k) k (with_left k left) (machine_inside plan st a left k) (later k left) (λ s. refl) (child_destination (length m.below) a) m.steps (state_of k) _ _ (does-shows k left st a refl none)

  -- the value of a return goes to the frame below
  value-is : (m : Machine) (f : Option Function) →
      (valued plan child path (here_of path m) f (open_state plan child path m) then remains_below plan child path m.below m.top.target)
      ≡ after_items (effect_items (value_run plan path f m).items) (after_effects plan child path (value_run plan path f m).items (gives plan m (value_run plan path f m).ending))
  value-is m None = to_caller m.below
    where
      to_caller : (below : List Frame) → remains_below plan child path below m.top.target (Int (pos 0), open_state plan child path m) ≡ after_effects plan child path [] (Ok (back_in_caller below m.top.target (Int (pos 0)) m.rank m.steps))
      to_caller [] = refl
      to_caller (caller ∷ below) = refl
  value-is m (Some f) = by_value (value_of f.result m.top.env)
    where
      to_caller : (v : Value) (below : List Frame) → remains_below plan child path below m.top.target (v, open_state plan child path m) ≡ after_effects plan child path [] (Ok (back_in_caller below m.top.target v m.rank m.steps))
      to_caller v [] = refl
      to_caller v (caller ∷ below) = refl

      destination : Destination
      destination = Spawned (length m.below) None

      by_value : (o : Result Value FaultKind) → let r : Run Effect Exit (Value × State Bool) = unless_fault (what destination) plan (here_of path m) o (state_of m) (λ v. done (v, state_of m)) in
          (unless_fault tree plan (here_of path m) o (open_state plan child path m) (λ v. done (v, open_state plan child path m)) then remains_below plan child path m.below m.top.target)
          ≡ after_items (effect_items r.items) (after_effects plan child path r.items (gives plan m r.ending))
      by_value (Ok v) = to_caller v m.below
      by_value (Err kind) = refl

  return-is : (m : Machine) (leaving returning : Bool) → (m.top.spawned ≡ false → m.top.faulted ≡ None) → IsMove (rebuilt m [] [] leaving returning)
  return-is m leaving true none =
      ap (λ (r : Run Item NodeFault S). (r then closing true) then rest_below) (exec-nil tree plan here (length m.below) (open_state plan child path m)) ∙ value-is (rebuilt m [] [] leaving true) (function_of m)
    where
      here : List ℕ
      here = present path m.below

      closing : Bool → S → Run Item NodeFault (Value × S)
      closing returning = closes plan child path (present path m.below) returning (function_of m)

      rest_below : Value × S → Run Item NodeFault Value
      rest_below = remains_below plan child path m.below m.top.target
  return-is m leaving false none =
      ap (λ (r : Run Item NodeFault S). (r then closes plan child path (present path m.below) false (function_of m)) then remains_below plan child path m.below m.top.target) (exec-nil tree plan (present path m.below) (length m.below) (open_state plan child path m))
      ∙ by_steps m.steps
    where
      k : Machine
      k = rebuilt m [] [] leaving false

      same : (s : State Bool) → (valued plan child path (present path m.below) (function_of m) (opens m.top.faulted s) then remains_below plan child path m.below m.top.target) ≡ rest_of_machine plan child path (with_returning k s)
      same s =
          ap (λ (r : Run Item NodeFault S). (r then closes plan child path (present path m.below) true (function_of m)) then remains_below plan child path m.below m.top.target) (sym (exec-nil tree plan (present path m.below) (length m.below) (opens m.top.faulted s)))

      after : S → Run Item NodeFault Value
      after s = valued plan child path (present path m.below) (function_of m) s then remains_below plan child path m.below m.top.target

      Returns : Run Effect Exit (State Bool) → Run Item NodeFault S → Type 0
      Returns = IsMirrored (present path m.below) k (with_returning k) (λ inner s. k) after same

      by_text : (b : Bool) (s : State Bool) → (s.spawned ≡ false → m.top.faulted ≡ None) →
          Returns (implied (what (Spawned (length m.below) None)) plan (present path m.below) b s) (implied tree plan (present path m.below) b (opens m.top.faulted s))
      by_text true s none = at-sync (present path m.below) k (with_returning k) (λ inner s. k) after same (Spawned (length m.below) None) s (λ s. refl) none
      by_text false s none = same s

      by_steps : (n : ℕ) →
          let r : Run Effect Exit (State Bool) = paid_from (what (Spawned (length m.below) None)) plan (present path m.below) n (state_of k) (λ s. implied (what (Spawned (length m.below) None)) plan (present path m.below) (spawns_in (function_of m)) s) in
          (paid_from tree plan (present path m.below) n (open_state plan child path k) (λ s. implied tree plan (present path m.below) (spawns_in (function_of m)) s then valued plan child path (present path m.below) (function_of m)) then remains_below plan child path m.below m.top.target)
          ≡ after_items (effect_items r.items) (after_effects plan child path r.items (reached plan (with_returning k) (λ inner s. k) r.ending))
      by_steps zero = refl
      by_steps (suc n) =
          let s : State Bool = record (state_of k) { steps = n } in
          then-then (implied tree plan (present path m.below) (spawns_in (function_of m)) (opens m.top.faulted s)) (valued plan child path (present path m.below) (function_of m)) (remains_below plan child path m.below m.top.target)
          ∙ by_text (spawns_in (function_of m)) s none

  -- the end of a scope
  level-is : (m : Machine) (l : Level) (ls : List Level) (leaving returning : Bool) → (m.top.spawned ≡ false → m.top.faulted ≡ None) → IsMove (rebuilt m [] (l ∷ ls) leaving returning)
  level-is m l ls leaving returning none =
      ap (λ (r : Run Item NodeFault S). (r then λ s. (level_end plan child path leaving outer l.rank s then after_level) then closing) then rest_below) (exec-nil tree plan here (length m.below) (open_state plan child path m)) ∙ by_sync leaving
    where
      outer : List ℕ
      outer = inside_of (present path m.below) ls

      here : List ℕ
      here = outer ++ l.rank ∷ []

      rest_below : Value × S → Run Item NodeFault Value
      rest_below = remains_below plan child path m.below m.top.target

      closing : S → Run Item NodeFault (Value × S)
      closing = closes plan child path (present path m.below) returning (function_of m)

      outside : S → Run Item NodeFault S
      outside = outwards plan child path (present path m.below) (length m.below) false ls

      after_level : S → Run Item NodeFault S
      after_level s = exec tree plan outer (length m.below) l.left s then outside

      -- out of the scope, and what is after it
      out : S → Run Item NodeFault Value
      out s = ((goes_out tree plan outer l.rank s then after_level) then closing) then rest_below

      k : Bool → Machine
      k leaving = rebuilt m [] (l ∷ ls) leaving returning

      next : State Bool → State Bool
      next s = record s { rank = l.rank + 1 }

      out-is : (s : State Bool) → out (opens m.top.faulted s) ≡ after_items (Closed here ∷ []) (rest_of_machine plan child path (out_of_level (k true) l ls (next s)))
      out-is s =
          let t : S = opens m.top.faulted (next s) in
          let first : Run Item NodeFault S = after_level t in
          ap (λ (r : Run Item NodeFault (Value × S)). r then rest_below) (goes_on-after (Closed here ∷ []) first.items first.ending closing)
          ∙ goes_on-after (Closed here ∷ []) (first then closing).items (first then closing).ending rest_below
          ∙ ap (λ (r : Run Item NodeFault (Value × S)). after_items (Closed here ∷ []) (r then rest_below)) (then-then (exec tree plan outer (length m.below) l.left t) outside closing)

      same : (s : State Bool) → out (opens m.top.faulted s) ≡ rest_of_machine plan child path (with_leaving (k false) s)
      same s = ap (λ (r : Run Item NodeFault S). (r then λ s. (goes_out tree plan outer l.rank s then after_level) then closing) then rest_below) (sym (exec-nil tree plan here (length m.below) (opens m.top.faulted s)))

      by_sync : (b : Bool) →
          ((level_end plan child path b outer l.rank (open_state plan child path m) then after_level) then closing) then rest_below
          ≡ after_items (effect_items (level_move plan path (k b) l ls b).items) (after_effects plan child path (level_move plan path (k b) l ls b).items (level_move plan path (k b) l ls b).ending)
      by_sync true = out-is (state_of m)
      by_sync false =
          let s : S = open_state plan child path m in
          let sync : Run Item NodeFault S = sync_here tree plan here s in
          ap (λ (r : Run Item NodeFault (Value × S)). r then rest_below) (ap (λ (r : Run Item NodeFault S). r then closing) (then-then sync (goes_out tree plan outer l.rank) after_level) ∙ then-then sync (λ t. goes_out tree plan outer l.rank t then after_level) closing)
          ∙ then-then sync (λ t. (goes_out tree plan outer l.rank t then after_level) then closing) rest_below
          ∙ at-sync here (k false) (with_leaving (k false)) (λ inner s. k false) out same (Spawned (length m.below) None) (state_of m) (λ s. refl) none

  -- A machine whose children have all answered shows the open tree, move by move.
  pub complete-move : (m : Machine) → (m.top.spawned ≡ false → m.top.faulted ≡ None) → (m.top.leaving ≡ true → m.top.left ≡ []) → IsMove m
  complete-move m none ended = by_left m.top.left m.top.levels m.top.leaving ended
    where
      by_left : (left : List Stmt) (levels : List Level) (leaving : Bool) → (leaving ≡ true → left ≡ []) → IsMove (rebuilt m left levels leaving m.top.returning)
      by_left [] [] leaving ended = return-is m leaving m.top.returning none
      by_left [] (l ∷ ls) leaving ended = level-is m l ls leaving m.top.returning none
      by_left (st ∷ left) levels false ended = statement-is m st left levels m.top.returning none
      by_left (st ∷ left) levels true ended = let no : st ∷ left ≡ [] = ended refl in absurd (cc)
