-- A move neither reads nor writes an unfilled variable: a child's value may be put in before it or after it.
use Rattle.std.proofs.Common.{◌≡◌, ℕ, zero, suc, ◌+◌, ◌-◌, ◌<◌, ◌≤◌, Bool, true, false, nat_eq, nat_lt, List, [], ◌∷◌, ◌++◌, Option, Some, None, Result, Ok, Err, refl, sym, ap, ◌∙◌, if◌then◌else◌, length, arith}
use Rattle.std.proofs.Common.{ℤ, pos, ◌-ℤ◌}
use Rattle.std.proofs.lemmas.Bool.{eqb-true, eq-eqb}
use Rattle.script_grammar.specs.declared.tree.Name.{Name}
use Rattle.script_grammar.specs.declared.tree.Expr.{Expr}
use Rattle.script_grammar.specs.declared.tree.CallText.{CallText}
use Rattle.script_grammar.specs.declared.tree.Function.{Function}
use Rattle.script_grammar.specs.declared.tree.Right.{Right}
use Rattle.script_grammar.specs.declared.tree.Right.TheVariants as right
use Rattle.script_grammar.specs.declared.tree.Stmt.{Stmt, out-Stmt}
use Rattle.script_grammar.specs.declared.tree.Act.{Act, out-Act}
use Rattle.script_grammar.specs.declared.tree.Act.TheOpen as act
use Rattle.script_grammar.specs.declared.tree.Act.TheOpen.{Act-F}
use Rattle.serial_meaning.specs.Runs.{Run, done, happens, ◌then◌}
use Rattle.serial_meaning.specs.Names.{names_in}
use Rattle.serial_meaning.specs.Values.{Env, value_of, values_of, content_of, items_of, as_integer, is_true, at_index}
use Rattle.serial_meaning.specs.Functions.{function_number, function_at}
use Rattle.serial_meaning.specs.Plan.{PlanView, functions_of, drawn}
use Rattle.serial_meaning.specs.Exec.{State, Interpretation, strand, unless_fault, paid_from, tested, has_room, loop_fits, with_loop_values, spawn, sync_here, implied, frame, called, right_side, found, store, looped, does, count_of, with_content, set_item, set_array, bound}
use Rattle.serial_meaning.specs.Open.{is_empty_loop, placeholder}
use Rattle.serial_meaning.specs.declared.value.Value.{Value}
use Rattle.serial_meaning.specs.declared.value.Value.TheVariants.{Int}
use Rattle.serial_meaning.specs.declared.environment.Content.TheVariants.{Array}
use Rattle.serial_meaning.specs.declared.event.FaultKind.{FaultKind}
use Rattle.serial_meaning.specs.declared.event.FaultKind.TheVariants.{Index, Depth, Calls, Budget}
use Rattle.serial_meaning.specs.declared.event.Fault.{Fault}
use Rattle.serial_meaning.specs.declared.event.Event.TheVariants as event
use Rattle.serial_meaning.specs.declared.origin.Origin.{Origin}
use Rattle.serial_meaning.specs.declared.origin.Origin.TheVariants as origin
use Rattle.strand_meaning.specs.Clear.{names_in_all, names_in_right, target_names, touched}
use Rattle.script_check.specs.Spawns.{spawns_in}
use Rattle.strand_meaning.specs.Machine.{Destination, Spawned, Looped, Effect, Opens, Closes, Emitted, Starts, Exit, Faulted, Inside, loop_effects, sync_effects, parallel, inside, child_destination, Level, Frame, Machine, Reached, Stands, state_of, inside_of, present, here_of, with_left, into_level, with_leaving, out_of_level, with_returning, with_scalar, back_in_caller, calling, machine_inside, reached, gives, value_run, statement_move, return_move, level_move, end_move, move_at, move}
use Rattle.strand_meaning.specs.Task.{changed, changed_at}
use Rattle.strand_meaning.specs.Laws.{on_reached, changed_run}
use Rattle.strand_meaning.proofs.Unfilled.RestAfterEffects.{changed-top, same-number}
use Rattle.strand_meaning.proofs.Unfilled.UntouchedStays.{Keep, Keeps, each-left, each-right, value-kept, values-kept, scalar-kept, room-kept, filled-kept}

pub other-number : (n k : ℕ) → n < k → nat_eq n k ≡ false
other-number n k h = from (nat_eq n k) refl
  where
    from : (b : Bool) → nat_eq n k ≡ b → b ≡ false
    from true e = let g : n ≡ k = eqb-true n k e in absurd (omega arith)
    from false e = refl

pub length-changed : (k : ℕ) (f : Frame → Frame) (below : List Frame) → length (changed_at k f below) ≡ length below
length-changed k f [] = refl
length-changed k f (a ∷ below) = from (nat_eq k (length below)) (length-changed k f below)
  where
    from : (b : Bool) → length (changed_at k f below) ≡ length below → length (if b then f a ∷ below else a ∷ changed_at k f below) ≡ suc (length below)
    from true ih = refl
    from false ih = ap suc ih

-- a frame with its variables changed, and what it knows of faults
abbrev pub altered : (Env → Env) → (Option Fault → Option Fault) → Frame → Frame
altered fix mark a = record a { env = fix a.env; faulted = mark a.faulted }

module _ (plan : PlanView) (path : List ℕ) (fix : Env → Env) (mark : Option Fault → Option Fault) where
  abbrev change : Frame → Frame
  change = altered fix mark

  abbrev what : Destination → Interpretation Effect Exit Bool
  what destination = parallel plan destination

  -- the innermost frame is altered
  module _ (m : Machine) (left : List Stmt) (st : Stmt) where
    abbrev height : ℕ
    height = length m.below

    -- the present path
    abbrev now : List ℕ
    now = here_of path m

    abbrev other : Machine
    other = record m { top = change m.top }

    abbrev fixed : State Bool → State Bool
    fixed s = record s { env = fix s.env }

    abbrev finished : (State Bool → Machine) → (List Stmt → State Bool → Machine) → Run Effect Exit (State Bool) → Run Effect Fault Reached
    finished on into r = record { items = r.items; ending = reached plan on into r.ending }

    -- r' is r, from altered variables
    abbrev Alike : (on' on : State Bool → Machine) → (into' into : List Stmt → State Bool → Machine) → Run Effect Exit (State Bool) → Run Effect Exit (State Bool) → Type 0
    Alike on' on into' into r' r = finished on' into' r' ≡ changed_run (changed height change) (finished on into r)

    abbrev here : ℕ → State Bool
    here n = record (state_of m) { steps = n }

    abbrev there : ℕ → State Bool
    there n = fixed (here n)

    module _ (into' into : List Stmt → State Bool → Machine) where
      abbrev Same : Run Effect Exit (State Bool) → Run Effect Exit (State Bool) → Type 0
      Same = Alike (with_left other left) (with_left m left) into' into

      -- the same things, and states that differ so
      ends-so : (items : List Effect) (s' s : State Bool) → s' ≡ fixed s → Same (record { items = items; ending = Ok s' }) (record { items = items; ending = Ok s })
      ends-so items s' s h =
          ap (λ (s : State Bool). record { items = items; ending = Ok (Stands (with_left other left s)) }) h ∙ ap (λ (k : Machine). record { items = items; ending = Ok (Stands k) }) (sym (changed-top change (with_left m left s)))

      so-done : (s : State Bool) → Same (done (fixed s)) (done s)
      so-done s = ends-so [] (fixed s) s refl

      so-given : {A : Type 0} (destination : Destination) (o' o : Result A FaultKind) (n : ℕ) (f g : A → Run Effect Exit (State Bool)) → o' ≡ o → ((a : A) → Same (f a) (g a)) →
          Same (unless_fault (what destination) plan now o' (there n) f) (unless_fault (what destination) plan now o (here n) g)
      so-given {A} destination o' o n f g e h = ap (λ (q : Result A FaultKind). finished (with_left other left) into' (unless_fault (what destination) plan now q (there n) f)) e ∙ by_value o
        where
          by_value : (o : Result A FaultKind) → Same (unless_fault (what destination) plan now o (there n) f) (unless_fault (what destination) plan now o (here n) g)
          by_value (Ok a) = h a
          by_value (Err k) = refl

      so-tested : (destination : Destination) (b' b : Bool) (k : FaultKind) (n : ℕ) (f g : Run Effect Exit (State Bool)) → b' ≡ b → Same f g → Same (tested (what destination) plan now b' k (there n) f) (tested (what destination) plan now b k (here n) g)
      so-tested destination b' b k n f g e h = ap (λ (q : Bool). finished (with_left other left) into' (tested (what destination) plan now q k (there n) f)) e ∙ by_test b
        where
          by_test : (b : Bool) → Same (tested (what destination) plan now b k (there n) f) (tested (what destination) plan now b k (here n) g)
          by_test true = h
          by_test false = refl

      so-paid : (destination : Destination) (n : ℕ) (s : State Bool) (f g : State Bool → Run Effect Exit (State Bool)) → ((k : ℕ) → Same (f (record (fixed s) { steps = k })) (g (record s { steps = k }))) →
          Same (paid_from (what destination) plan now n (fixed s) f) (paid_from (what destination) plan now n s g)
      so-paid destination zero s f g h = refl
      so-paid destination (suc n) s f g h = h n

      so-sync : (destination : Destination) (n : ℕ) → Same (sync_here (what destination) plan now (there n)) (sync_here (what destination) plan now (here n))
      so-sync destination n = by_spawned m.top.spawned
        where
          next : State Bool
          next = record { env = m.top.env; rank = m.rank + 1; steps = n; spawned = false }

          by_spawned : (k : Bool) → Same (record { items = Emitted (event.Sync (now ++ m.rank ∷ [])) ∷ (sync_effects k ++ []); ending = Ok (fixed next) }) (record { items = Emitted (event.Sync (now ++ m.rank ∷ [])) ∷ (sync_effects k ++ []); ending = Ok next })
          by_spawned k = ends-so (Emitted (event.Sync (now ++ m.rank ∷ [])) ∷ (sync_effects k ++ [])) (fixed next) next refl

      abbrev sets : Option Name → Value × State Bool → State Bool
      sets target p = record p.1 { env = with_scalar target p.0 p.1.env }

      abbrev child_run : Destination → CallText → List Value → State Bool → Run Effect Exit (Value × State Bool)
      child_run destination c vs s =
          happens (Emitted (event.Spawn (strand now s))) s then λ s.
          (what destination).spawn (origin.Instance (function_number (functions_of plan) c.name.bytes) vs (strand now s)) s.spawned then λ r.
          done (r.0, record s { rank = s.rank + 1; spawned = r.1 })

      so-set : (items : List Effect) (target : Option Name) (v : Value) (s : State Bool) → Keeps fix (target_names target) →
          Same (record { items = items; ending = Ok (sets target (v, fixed s)) }) (record { items = items; ending = Ok (sets target (v, s)) })
      so-set items target v s k = ends-so items (sets target (v, fixed s)) (sets target (v, s)) (ap (λ (env : Env). record s { env = env }) (scalar-kept fix target v s.env k))

      so-spawn : (destination : Destination) (target : Option Name) (c : CallText) (n : ℕ) → Keeps fix (names_in_all c.args) → Keeps fix (target_names target) →
          Same (spawn (what destination) plan now c (there n) then λ p. done (sets target p)) (spawn (what destination) plan now c (here n) then λ p. done (sets target p))
      so-spawn destination target c n a k =
          ap (λ (o : Result (List Value) FaultKind). finished (with_left other left) into' (unless_fault (what destination) plan now o (there n) (λ vs. tested (what destination) plan now (nat_lt (length now + 1) plan.limits.depth) Depth (there n) (child_run destination c vs (there n))) then λ p. done (sets target p))) (values-kept fix c.args m.top.env a)
          ∙ by_args (values_of c.args m.top.env)
        where
          by_test : (vs : List Value) (b : Bool) → Same (tested (what destination) plan now b Depth (there n) (child_run destination c vs (there n)) then λ p. done (sets target p)) (tested (what destination) plan now b Depth (here n) (child_run destination c vs (here n)) then λ p. done (sets target p))
          by_test vs true =
              let o = origin.Instance (function_number (functions_of plan) c.name.bytes) vs (now ++ m.rank ∷ []) in
              so-set (Emitted (event.Spawn (now ++ m.rank ∷ [])) ∷ Starts o destination ∷ []) target (placeholder plan o) (record { env = m.top.env; rank = m.rank + 1; steps = n; spawned = true }) k
          by_test vs false = refl

          by_args : (o : Result (List Value) FaultKind) →
              Same (unless_fault (what destination) plan now o (there n) (λ vs. tested (what destination) plan now (nat_lt (length now + 1) plan.limits.depth) Depth (there n) (child_run destination c vs (there n))) then λ p. done (sets target p))
              (unless_fault (what destination) plan now o (here n) (λ vs. tested (what destination) plan now (nat_lt (length now + 1) plan.limits.depth) Depth (here n) (child_run destination c vs (here n))) then λ p. done (sets target p))
          by_args (Ok vs) = by_test vs (nat_lt (length now + 1) plan.limits.depth)
          by_args (Err e) = refl

      -- a callee begins the same, over the altered frame
      so-call : (destination : Destination) (target : Option Name) (c : CallText) (n : ℕ) → ((inner : List Stmt) (s : State Bool) → into' inner s ≡ changed height change (into inner s)) →
          Keeps fix (names_in_all c.args) → Keeps fix (target_names target) →
          Same (called (what destination) plan now inside height c (there n) then λ p. done (sets target p)) (called (what destination) plan now inside height c (here n) then λ p. done (sets target p))
      so-call destination target c n enters a k =
          ap (λ (o : Result (List Value) FaultKind). finished (with_left other left) into' (unless_fault (what destination) plan now o (there n) (λ vs. tested (what destination) plan now (nat_lt height 256) Calls (there n) (call_run there vs)) then λ p. done (sets target p))) (values-kept fix c.args m.top.env a)
          ∙ by_args (values_of c.args m.top.env)
        where
          callee : Option Function
          callee = function_at (functions_of plan) (function_number (functions_of plan) c.name.bytes)

          call_run : (ℕ → State Bool) → List Value → Run Effect Exit (Value × State Bool)
          call_run at vs = frame (what destination) plan now inside (height + 1) callee vs (at n) then λ r. done (r.0, record (at n) { rank = r.1.rank; steps = r.1.steps })

          by_function : (vs : List Value) (o : Option Function) →
              Same ((frame (what destination) plan now inside (height + 1) o vs (there n) then λ r. done (r.0, record (there n) { rank = r.1.rank; steps = r.1.steps })) then λ p. done (sets target p))
              ((frame (what destination) plan now inside (height + 1) o vs (here n) then λ r. done (r.0, record (here n) { rank = r.1.rank; steps = r.1.steps })) then λ p. done (sets target p))
          by_function vs None = so-set [] target _ (here n) k
          by_function vs (Some f) = ap (λ (k : Machine). record { items = []; ending = Ok (Stands k) }) (enters f.body (record { env = bound f.params vs; rank = m.rank; steps = n; spawned = false }))

          by_test : (vs : List Value) (b : Bool) → Same (tested (what destination) plan now b Calls (there n) (call_run there vs) then λ p. done (sets target p)) (tested (what destination) plan now b Calls (here n) (call_run here vs) then λ p. done (sets target p))
          by_test vs true = by_function vs callee
          by_test vs false = refl

          by_args : (o : Result (List Value) FaultKind) →
              Same (unless_fault (what destination) plan now o (there n) (λ vs. tested (what destination) plan now (nat_lt height 256) Calls (there n) (call_run there vs)) then λ p. done (sets target p))
              (unless_fault (what destination) plan now o (here n) (λ vs. tested (what destination) plan now (nat_lt height 256) Calls (here n) (call_run here vs)) then λ p. done (sets target p))
          by_args (Ok vs) = by_test vs (nat_lt height 256)
          by_args (Err e) = refl

      abbrev EntersBy : Right → Type 0
      EntersBy (right.Value e) = Unit {0}
      EntersBy (right.Draw at) = Unit {0}
      EntersBy (right.New at) = Unit {0}
      EntersBy (right.Call at c) = (inner : List Stmt) (s : State Bool) → into' inner s ≡ changed height change (into inner s)
      EntersBy (right.Spawn at c) = Unit {0}

      so-right : (destination : Destination) (x : Name) (r : Right) (n : ℕ) → EntersBy r → Keeps fix (x.bytes ∷ names_in_right r) →
          Same (right_side (what destination) plan now inside height r (there n) then λ p. done (sets (Some x) p)) (right_side (what destination) plan now inside height r (here n) then λ p. done (sets (Some x) p))
      so-right destination x (right.Value e) n enters k =
          ap (λ (o : Result Value FaultKind). finished (with_left other left) into' (unless_fault (what destination) plan now o (there n) (λ v. done (v, there n)) then λ p. done (sets (Some x) p))) (value-kept fix e m.top.env k.1)
          ∙ by_value (value_of e m.top.env)
        where
          by_value : (o : Result Value FaultKind) → Same (unless_fault (what destination) plan now o (there n) (λ v. done (v, there n)) then λ p. done (sets (Some x) p)) (unless_fault (what destination) plan now o (here n) (λ v. done (v, here n)) then λ p. done (sets (Some x) p))
          by_value (Ok v) = so-set [] (Some x) v (here n) (k.0, tt)
          by_value (Err f) = refl
      so-right destination x (right.Draw at) n enters k = so-set (Emitted (event.Draw (now ++ m.rank ∷ []) (drawn plan (now ++ m.rank ∷ []))) ∷ []) (Some x) _ (record (here n) { rank = m.rank + 1 }) (k.0, tt)
      so-right destination x (right.New at) n enters k = so-set (Emitted (event.New (now ++ m.rank ∷ [])) ∷ []) (Some x) _ (record (here n) { rank = m.rank + 1 }) (k.0, tt)
      so-right destination x (right.Call at c) n enters k = so-call destination (Some x) c n enters k.1 (k.0, tt)
      so-right destination x (right.Spawn at c) n enters k = so-spawn destination (Some x) c n k.1 (k.0, tt)

      so-array : (x : Name) (xs ys : List ℤ) (n : ℕ) → xs ≡ ys → Keep fix x.bytes → Same (done (set_array (there n) x xs)) (done (set_array (here n) x ys))
      so-array x xs ys n e k =
          ends-so [] (set_array (there n) x xs) (set_array (here n) x ys)
          (ap (λ (env : Env). record (here n) { env = env }) (ap (λ (l : List ℤ). with_content (fix m.top.env) x.bytes (Array l)) e ∙ k.1 m.top.env (Array ys)))

      so-store : (destination : Destination) (x : Name) (i e : Expr) (n : ℕ) → Keeps fix (x.bytes ∷ (names_in i ++ names_in e)) → Same (store (what destination) plan now x i e (there n)) (store (what destination) plan now x i e (here n))
      so-store destination x i e n k =
          so-given destination (value_of i (fix m.top.env)) (value_of i m.top.env) n _ _ (value-kept fix i m.top.env (each-left (Keep fix) (names_in i) (names_in e) k.1)) (λ v. by_array v (items_of (content_of (fix m.top.env) x.bytes)) (items_of (content_of m.top.env x.bytes)) (ap items_of (k.0.0 m.top.env)))
        where
          by_item : (o : Option ℤ) (r' r : Run Effect Exit (State Bool)) → Same r' r → Same (found (what destination) plan now o (there n) r') (found (what destination) plan now o (here n) r)
          by_item None r' r h = refl
          by_item (Some old) r' r h = h

          by_array : (v : Value) (xs ys : List ℤ) → xs ≡ ys →
              Same (found (what destination) plan now (at_index xs (as_integer v)) (there n) (unless_fault (what destination) plan now (value_of e (fix m.top.env)) (there n) (λ w. done (set_array (there n) x (set_item xs (as_integer v) w)))))
              (found (what destination) plan now (at_index ys (as_integer v)) (here n) (unless_fault (what destination) plan now (value_of e m.top.env) (here n) (λ w. done (set_array (here n) x (set_item ys (as_integer v) w)))))
          by_array v xs ys h =
              ap (λ (l : List ℤ). finished (with_left other left) into' (found (what destination) plan now (at_index l (as_integer v)) (there n) (unless_fault (what destination) plan now (value_of e (fix m.top.env)) (there n) (λ w. done (set_array (there n) x (set_item l (as_integer v) w)))))) h
              ∙ by_item (at_index ys (as_integer v)) _ _ (so-given destination (value_of e (fix m.top.env)) (value_of e m.top.env) n _ _ (value-kept fix e m.top.env (each-right (Keep fix) (names_in i) (names_in e) k.1)) (λ w. so-array x _ _ n refl k.0))

      so-inside : (destination : Destination) (b : Bool) (r' r : Run Effect Exit (State Bool)) (n : ℕ) → Same r' r → Same (if b then r' else done (there n)) (if b then r else done (here n))
      so-inside destination true r' r n h = h
      so-inside destination false r' r n h = so-done (here n)

      so-loop : (target : Option Name) (c : CallText) (lo : ℤ) (hi : ℕ) (vs : List Value) (n : ℕ) → Keeps fix (target_names target) →
          Same (looped (what (Looped target)) plan now lo hi vs target c (there n)) (looped (what (Looped target)) plan now lo hi vs target c (here n))
      so-loop target c lo hi vs n k =
          so-tested (Looped target) (nat_lt hi (n + 1)) (nat_lt hi (n + 1)) Budget n _ _ refl (so-tested (Looped target) (has_room target hi (fix m.top.env)) (has_room target hi m.top.env) Index (n - hi) _ _ (room-kept fix target hi m.top.env k)
          (so-tested (Looped target) fits fits Depth (n - hi) _ _ refl (by_size (is_empty_loop o))))
        where
          fits : Bool
          fits = loop_fits plan now hi

          o : Origin
          o = origin.Loop (function_number (functions_of plan) c.name.bytes) vs lo (now ++ m.rank ∷ []) (record { lo = 0; hi = hi })

          items : Bool → List Effect
          items b = Emitted (event.Loop (now ++ m.rank ∷ [])) ∷ (loop_effects b o (Looped target) ++ [])

          next : Env → State Bool
          next env = record { env = env; rank = m.rank + 1; steps = n - hi; spawned = m.top.spawned }

          by_size : (b : Bool) → Same (record { items = items b; ending = Ok (next (with_loop_values target [] (fix m.top.env))) }) (record { items = items b; ending = Ok (next (with_loop_values target [] m.top.env)) })
          by_size b = ends-so (items b) (next (with_loop_values target [] (fix m.top.env))) (next (with_loop_values target [] m.top.env)) (ap next (filled-kept fix target [] m.top.env k))

    -- what is entered is altered in the same way
    enters-left : (inner : List Stmt) (s : State Bool) → with_left other inner (fixed s) ≡ changed height change (with_left m inner s)
    enters-left inner s = sym (changed-top change (with_left m inner s))

    enters-level : (inner : List Stmt) (s : State Bool) → into_level other left inner (fixed s) ≡ changed height change (into_level m left inner s)
    enters-level inner s = sym (changed-top change (into_level m left inner s))

    enters-call : (target : Option Name) (c : CallText) (inner : List Stmt) (s : State Bool) → calling plan target c left other inner s ≡ changed height change (calling plan target c left m inner s)
    enters-call target c inner s = rw (other-number height (suc height) (omega arith), same-number height) refl

    enters-let : (into' into : List Stmt → State Bool → Machine) (x : Name) (r : Right) → into' ≡ machine_inside plan st (act.Let x r) left other → into ≡ machine_inside plan st (act.Let x r) left m → EntersBy into' into r
    enters-let into' into x (right.Value e) h g = tt
    enters-let into' into x (right.Draw at) h g = tt
    enters-let into' into x (right.New at) h g = tt
    enters-let into' into x (right.Call at c) h g = λ inner s. rw (h, g) (enters-call (Some x) c inner s)
    enters-let into' into x (right.Spawn at c) h g = tt

    enters-set : (into' into : List Stmt → State Bool → Machine) (x : Name) (r : Right) → into' ≡ machine_inside plan st (act.Set x r) left other → into ≡ machine_inside plan st (act.Set x r) left m → EntersBy into' into r
    enters-set into' into x (right.Value e) h g = tt
    enters-set into' into x (right.Draw at) h g = tt
    enters-set into' into x (right.New at) h g = tt
    enters-set into' into x (right.Call at c) h g = λ inner s. rw (h, g) (enters-call (Some x) c inner s)
    enters-set into' into x (right.Spawn at c) h g = tt

    so-does : (a : Act-F Act Stmt) (n : ℕ) → Keeps fix (touched a) →
        Alike (with_left other left) (with_left m left) (machine_inside plan st a left other) (machine_inside plan st a left m) (does (what (child_destination height a)) plan now inside height st a (there n)) (does (what (child_destination height a)) plan now inside height st a (here n))
    so-does (act.Let x r) n k = so-right (machine_inside plan st (act.Let x r) left other) (machine_inside plan st (act.Let x r) left m) (Spawned height (Some x)) x r n (enters-let _ _ x r refl refl) k
    so-does (act.Array x as_integer) n k = so-array (machine_inside plan st (act.Array x as_integer) left other) (machine_inside plan st (act.Array x as_integer) left m) x _ _ n refl k.0
    so-does (act.Set x r) n k = so-right (machine_inside plan st (act.Set x r) left other) (machine_inside plan st (act.Set x r) left m) (Spawned height (Some x)) x r n (enters-set _ _ x r refl refl) k
    so-does (act.Store x i e) n k = so-store (machine_inside plan st (act.Store x i e) left other) (machine_inside plan st (act.Store x i e) left m) (Spawned height None) x i e n k
    so-does (act.Spawn c) n k = so-spawn (machine_inside plan st (act.Spawn c) left other) (machine_inside plan st (act.Spawn c) left m) (Spawned height None) None c n k tt
    so-does (act.Call c) n k = so-call (machine_inside plan st (act.Call c) left other) (machine_inside plan st (act.Call c) left m) (Spawned height None) None c n (λ inner s. enters-call None c inner s) k tt
    so-does act.Sync n k = so-sync (machine_inside plan st act.Sync left other) (machine_inside plan st act.Sync left m) (Spawned height None) n
    so-does (act.Print e) n k =
        so-given (machine_inside plan st (act.Print e) left other) (machine_inside plan st (act.Print e) left m) (Spawned height None) (value_of e (fix m.top.env)) (value_of e m.top.env) n _ _ (value-kept fix e m.top.env k)
        (λ v. ends-so (machine_inside plan st (act.Print e) left other) (machine_inside plan st (act.Print e) left m) (Emitted (event.Print (now ++ m.rank ∷ []) v) ∷ []) (there n) (here n) refl)
    so-does (act.If e a b) n k =
        so-given (machine_inside plan st (act.If e a b) left other) (machine_inside plan st (act.If e a b) left m) (Spawned height None) (value_of e (fix m.top.env)) (value_of e m.top.env) n _ _ (value-kept fix e m.top.env k)
        (λ v. ap (λ (k : Machine). record { items = []; ending = Ok (Stands k) }) (enters-left ((if is_true v then a else b) ++ left) (here n)))
    so-does (act.While e a) n k =
        so-given (machine_inside plan st (act.While e a) left other) (machine_inside plan st (act.While e a) left m) (Spawned height None) (value_of e (fix m.top.env)) (value_of e m.top.env) n _ _ (value-kept fix e m.top.env k)
        (λ v. so-inside (machine_inside plan st (act.While e a) left other) (machine_inside plan st (act.While e a) left m) (Spawned height None) (is_true v) (inside now height a (there n) then inside now height (st ∷ [])) (inside now height a (here n) then inside now height (st ∷ [])) n
        (ap (λ (k : Machine). record { items = []; ending = Ok (Stands k) }) (enters-left (a ++ st ∷ left) (here n))))
    so-does (act.Pfor x lo hi target c) n k =
        let into' = machine_inside plan st (act.Pfor x lo hi target c) left other in
        let into = machine_inside plan st (act.Pfor x lo hi target c) left m in
        let k1 = each-right (Keep fix) (names_in lo) (names_in hi ++ (names_in_all c.args ++ target_names target)) k in
        let k2 = each-right (Keep fix) (names_in hi) (names_in_all c.args ++ target_names target) k1 in
        so-given into' into (Looped target) (value_of lo (fix m.top.env)) (value_of lo m.top.env) n _ _ (value-kept fix lo m.top.env (each-left (Keep fix) (names_in lo) (names_in hi ++ (names_in_all c.args ++ target_names target)) k)) (λ l.
        so-given into' into (Looped target) (value_of hi (fix m.top.env)) (value_of hi m.top.env) n _ _ (value-kept fix hi m.top.env (each-left (Keep fix) (names_in hi) (names_in_all c.args ++ target_names target) k1)) (λ h.
        so-given into' into (Looped target) (values_of c.args (fix m.top.env)) (values_of c.args m.top.env) n _ _ (values-kept fix c.args m.top.env (each-left (Keep fix) (names_in_all c.args) (target_names target) k2)) (λ vs.
        so-loop into' into target c (as_integer l) (count_of (as_integer h -ℤ as_integer l)) vs n (each-right (Keep fix) (names_in_all c.args) (target_names target) k2))))
    so-does (act.Scope a) n k =
        so-tested (machine_inside plan st (act.Scope a) left other) (machine_inside plan st (act.Scope a) left m) (Spawned height None) deep_enough deep_enough Depth n _ _ refl
        (ap (λ (k : Machine). record { items = Opens (now ++ m.rank ∷ []) ∷ []; ending = Ok (Stands k) }) (enters-level a (record (here n) { rank = 0 })))
      where
        deep_enough : Bool
        deep_enough = nat_lt (length now + 1) plan.limits.depth

  abbrev rebuilt : Machine → List Stmt → List Level → Bool → Bool → Machine
  rebuilt m left levels leaving returning = record m { top = record m.top { left = left; levels = levels; leaving = leaving; returning = returning } }

  -- the innermost frame altered before the move, or after it
  abbrev TopMoves : Machine → Type 0
  TopMoves m = move plan path (record m { top = change m.top }) ≡ changed_run (changed (length m.below) change) (move plan path m)

  top-statement : (m : Machine) (st : Stmt) (left : List Stmt) (levels : List Level) (leaving returning : Bool) → Keeps fix (touched (out-Act (out-Stmt st).act)) → TopMoves (rebuilt m (st ∷ left) levels leaving returning)
  top-statement m st left levels leaving returning k =
      let b : Machine = rebuilt m (st ∷ left) levels leaving returning in
      let a = out-Act (out-Stmt st).act in
      so-paid b left st (machine_inside plan st a left (record b { top = change b.top })) (machine_inside plan st a left b) (child_destination (length m.below) a) m.steps (state_of b) _ _ (λ n. so-does b left st a n k)

  top-return : (m : Machine) (leaving : Bool) → TopMoves (rebuilt m [] [] leaving false)
  top-return m leaving = by_steps m.steps
    where
      b : Machine
      b = rebuilt m [] [] leaving false

      how : Interpretation Effect Exit Bool
      how = what (Spawned (length m.below) None)

      run : State Bool → ℕ → Run Effect Exit (State Bool)
      run s n = paid_from how plan (present path m.below) n s (λ s. implied how plan (present path m.below) (spawns_in (function_at (functions_of plan) m.top.function)) s)

      finished_by : Machine → Run Effect Exit (State Bool) → Run Effect Fault Reached
      finished_by k r = record { items = r.items; ending = reached plan (with_returning k) (λ inner s. k) r.ending }

      start : State Bool
      start = state_of b

      by_text : (t : Bool) (s : State Bool) → finished_by (record b { top = change b.top }) (implied how plan (present path m.below) t (record s { env = fix s.env })) ≡ changed_run (changed (length m.below) change) (finished_by b (implied how plan (present path m.below) t s))
      by_text true s =
          ap (λ (k : Machine). record { items = Emitted (event.Sync (strand (present path m.below) s)) ∷ (sync_effects s.spawned ++ []); ending = Ok (Stands k) }) (sym (changed-top change (with_returning b (record s { rank = s.rank + 1; spawned = false }))))
      by_text false s = ap (λ (k : Machine). record { items = []; ending = Ok (Stands k) }) (sym (changed-top change (with_returning b s)))

      by_steps : (n : ℕ) → finished_by (record b { top = change b.top }) (run (record start { env = fix start.env }) n) ≡ changed_run (changed (length m.below) change) (finished_by b (run start n))
      by_steps zero = refl
      by_steps (suc n) = by_text (spawns_in (function_at (functions_of plan) m.top.function)) (record start { steps = n })

  top-level : (m : Machine) (l : Level) (ls : List Level) (leaving returning : Bool) → TopMoves (rebuilt m [] (l ∷ ls) leaving returning)
  top-level m l ls false returning =
      let b : Machine = rebuilt m [] (l ∷ ls) false returning in
      let s : State Bool = state_of b in
      ap (λ (k : Machine). record { items = Emitted (event.Sync (strand (inside_of (present path m.below) ls ++ l.rank ∷ []) s)) ∷ (sync_effects s.spawned ++ []); ending = Ok (Stands k) })
      (sym (changed-top change (with_leaving b (record s { rank = s.rank + 1; spawned = false }))))
  top-level m l ls true returning =
      let b : Machine = rebuilt m [] (l ∷ ls) true returning in
      ap (λ (k : Machine). record { items = Closes (inside_of (present path m.below) ls ++ l.rank ∷ []) ∷ []; ending = Ok (Stands k) })
      (sym (changed-top change (out_of_level b l ls (record (state_of b) { rank = l.rank + 1 }))))

  -- Another frame is altered

  -- the present path is the same
  present-changed : (k : ℕ) (below : List Frame) → present path (changed_at k change below) ≡ present path below
  present-changed k [] = refl
  present-changed k (a ∷ below) = from (nat_eq k (length below)) (present-changed k below)
    where
      from : (b : Bool) → present path (changed_at k change below) ≡ present path below → present path (if b then change a ∷ below else a ∷ changed_at k change below) ≡ inside_of (present path below) a.levels
      from true same = refl
      from false same = ap (λ p. inside_of p a.levels) same

  module _ (m : Machine) (k : ℕ) (lower : k < length m.below) where
    abbrev deep : Machine
    deep = record m { below = changed_at k change m.below }

    deep-left : (left : List Stmt) (s : State Bool) → with_left deep left s ≡ changed k change (with_left m left s)
    deep-left left s = rw (other-number k (length m.below) lower) refl

    deep-level : (left inner : List Stmt) (s : State Bool) → into_level deep left inner s ≡ changed k change (into_level m left inner s)
    deep-level left inner s = rw (other-number k (length m.below) lower) refl

    deep-call : (target : Option Name) (c : CallText) (left inner : List Stmt) (s : State Bool) → calling plan target c left deep inner s ≡ changed k change (calling plan target c left m inner s)
    deep-call target c left inner s = rw (other-number k (suc (length m.below)) (omega arith), other-number k (length m.below) lower) refl

    deep-entered : (st : Stmt) (a : Act-F Act Stmt) (left inner : List Stmt) (s : State Bool) → machine_inside plan st a left deep inner s ≡ changed k change (machine_inside plan st a left m inner s)
    deep-entered st (act.Let x (right.Value e)) left inner s = deep-left (inner ++ left) s
    deep-entered st (act.Let x (right.Draw at)) left inner s = deep-left (inner ++ left) s
    deep-entered st (act.Let x (right.New at)) left inner s = deep-left (inner ++ left) s
    deep-entered st (act.Let x (right.Call at c)) left inner s = deep-call (Some x) c left inner s
    deep-entered st (act.Let x (right.Spawn at c)) left inner s = deep-left (inner ++ left) s
    deep-entered st (act.Array x n) left inner s = deep-left (inner ++ left) s
    deep-entered st (act.Set x (right.Value e)) left inner s = deep-left (inner ++ left) s
    deep-entered st (act.Set x (right.Draw at)) left inner s = deep-left (inner ++ left) s
    deep-entered st (act.Set x (right.New at)) left inner s = deep-left (inner ++ left) s
    deep-entered st (act.Set x (right.Call at c)) left inner s = deep-call (Some x) c left inner s
    deep-entered st (act.Set x (right.Spawn at c)) left inner s = deep-left (inner ++ left) s
    deep-entered st (act.Store x i e) left inner s = deep-left (inner ++ left) s
    deep-entered st (act.Spawn c) left inner s = deep-left (inner ++ left) s
    deep-entered st (act.Call c) left inner s = deep-call None c left inner s
    deep-entered st act.Sync left inner s = deep-left (inner ++ left) s
    deep-entered st (act.Print e) left inner s = deep-left (inner ++ left) s
    deep-entered st (act.If e a b) left inner s = deep-left (inner ++ left) s
    deep-entered st (act.While e a) left inner s = deep-left (inner ++ st ∷ left) s
    deep-entered st (act.Pfor x lo hi target c) left inner s = deep-left (inner ++ left) s
    deep-entered st (act.Scope a) left inner s = deep-level left inner s

    -- the path inside so many scopes of the innermost frame
    same-path : (ls : List Level) → inside_of (present path (changed_at k change m.below)) ls ≡ inside_of (present path m.below) ls
    same-path ls = ap (λ p. inside_of p ls) (present-changed k m.below)

    abbrev DeepMoves : Machine → Machine → Type 0
    DeepMoves m' m = move plan path m' ≡ changed_run (changed k change) (move plan path m)

    deep-statement : (st : Stmt) (left : List Stmt) → statement_move plan path deep st left ≡ changed_run (changed k change) (statement_move plan path m st left)
    deep-statement st left =
        ap (λ (n : ℕ). finished deep (run (here_of path deep) n)) (length-changed k change m.below) ∙ ap (λ p. finished deep (run p (length m.below))) (same-path m.top.levels)
        ∙ by_end (run (here_of path m) (length m.below)).items (run (here_of path m) (length m.below)).ending
      where
        a : Act-F Act Stmt
        a = out-Act (out-Stmt st).act

        run : List ℕ → ℕ → Run Effect Exit (State Bool)
        run p n = paid_from (what (child_destination n a)) plan p m.steps (state_of m) (λ s. does (what (child_destination n a)) plan p inside n st a s)

        finished : Machine → Run Effect Exit (State Bool) → Run Effect Fault Reached
        finished b r = record { items = r.items; ending = reached plan (with_left b left) (machine_inside plan st a left b) r.ending }

        by_end : (items : List Effect) (e : Result (State Bool) Exit) → finished deep (record { items = items; ending = e }) ≡ changed_run (changed k change) (finished m (record { items = items; ending = e }))
        by_end items (Ok s) = ap (λ (b : Machine). record { items = items; ending = Ok (Stands b) }) (deep-left left s)
        by_end items (Err (Faulted f)) = refl
        by_end items (Err (Inside here calls inner s)) = ap (λ (b : Machine). record { items = items; ending = Ok (Stands b) }) (deep-entered st a left inner s)

    deep-itself : m.below ≡ m.below → deep ≡ changed k change m
    deep-itself h = rw (other-number k (length m.below) lower) refl

    deep-back : (below : List Frame) (target : Option Name) (v : Value) (rank steps : ℕ) → k < length below →
        ((caller : Frame) (more : List Frame) → below ≡ caller ∷ more → k ≡ length more → Keeps fix (target_names target)) →
        on_reached (changed k change) (Ok (back_in_caller below target v rank steps)) ≡ Ok (back_in_caller (changed_at k change below) target v rank steps)
    deep-back [] target v rank steps h keeps = absurd (omega arith)
    deep-back (caller ∷ more) target v rank steps h keeps = by_place (nat_eq k (length more)) refl
      where
        kept : Machine
        kept = record { rank = rank; steps = steps; top = record caller { env = with_scalar target v caller.env }; below = more }

        by_place : (b : Bool) → nat_eq k (length more) ≡ b →
            ◌≡◌ {A = Result Reached Fault} (Ok (Stands (if b then record kept { top = change kept.top } else record kept { below = changed_at k change more })))
            (Ok (back_in_caller (if b then change caller ∷ more else caller ∷ changed_at k change more) target v rank steps))
        by_place true e =
            let g : k ≡ length more = eqb-true k (length more) e in
            ap (λ (env : Env). Ok (Stands (record { rank = rank; steps = steps; top = record (change caller) { env = env }; below = more }))) (sym (scalar-kept fix target v caller.env (keeps caller more refl g)))
        by_place false e = refl

    deep-return : (returning : Bool) → ((caller : Frame) (more : List Frame) → m.below ≡ caller ∷ more → k ≡ length more → Keeps fix (target_names m.top.target)) →
        return_move plan path deep returning ≡ changed_run (changed k change) (return_move plan path m returning)
    deep-return false keeps =
        ap (λ (n : ℕ). finished deep (run (here_of path deep) n)) (length-changed k change m.below) ∙ ap (λ p. finished deep (run p (length m.below))) (same-path m.top.levels)
        ∙ by_end (run (here_of path m) (length m.below)).items (run (here_of path m) (length m.below)).ending
      where
        run : List ℕ → ℕ → Run Effect Exit (State Bool)
        run p n = paid_from (what (Spawned n None)) plan p m.steps (state_of m) (λ s. implied (what (Spawned n None)) plan p (spawns_in (function_at (functions_of plan) m.top.function)) s)

        finished : Machine → Run Effect Exit (State Bool) → Run Effect Fault Reached
        finished b r = record { items = r.items; ending = reached plan (with_returning b) (λ inner s. b) r.ending }

        returning-so : (s : State Bool) → with_returning deep s ≡ changed k change (with_returning m s)
        returning-so s = rw (other-number k (length m.below) lower) refl

        by_end : (items : List Effect) (e : Result (State Bool) Exit) → finished deep (record { items = items; ending = e }) ≡ changed_run (changed k change) (finished m (record { items = items; ending = e }))
        by_end items (Ok s) = ap (λ (b : Machine). record { items = items; ending = Ok (Stands b) }) (returning-so s)
        by_end items (Err (Faulted f)) = refl
        by_end items (Err (Inside here calls inner s)) = ap (λ (b : Machine). record { items = items; ending = Ok (Stands b) }) (deep-itself refl)
    deep-return true keeps = by_function (function_at (functions_of plan) m.top.function)
      where
        run : List ℕ → ℕ → Function → Result Value FaultKind → Run Effect Exit (Value × State Bool)
        run p n f o = unless_fault (what (Spawned n None)) plan p o (state_of m) (λ v. done (v, state_of m))

        finished : Machine → Run Effect Exit (Value × State Bool) → Run Effect Fault Reached
        finished b r = record { items = r.items; ending = gives plan b r.ending }

        by_end : (items : List Effect) (e : Result (Value × State Bool) Exit) → finished deep (record { items = items; ending = e }) ≡ changed_run (changed k change) (finished m (record { items = items; ending = e }))
        by_end items (Ok r) = ap (λ (o : Result Reached Fault). record { items = items; ending = o }) (sym (deep-back m.below m.top.target r.0 r.1.rank r.1.steps lower keeps))
        by_end items (Err (Faulted f)) = refl
        by_end items (Err (Inside here calls inner s)) = ap (λ (b : Machine). record { items = items; ending = Ok (Stands b) }) (deep-itself refl)

        by_function : (o : Option Function) → finished deep (value_run plan path o deep) ≡ changed_run (changed k change) (finished m (value_run plan path o m))
        by_function None = by_end [] (Ok (Int (pos 0), state_of m))
        by_function (Some f) =
            ap (λ (n : ℕ). finished deep (run (here_of path deep) n f (value_of f.result m.top.env))) (length-changed k change m.below)
            ∙ ap (λ p. finished deep (run p (length m.below) f (value_of f.result m.top.env))) (same-path m.top.levels)
            ∙ by_end (run (here_of path m) (length m.below) f (value_of f.result m.top.env)).items (run (here_of path m) (length m.below) f (value_of f.result m.top.env)).ending

    deep-leaves : (l : Level) (ls : List Level) → m.top.levels ≡ l ∷ ls → (leaving : Bool) → level_move plan path deep l ls leaving ≡ changed_run (changed k change) (level_move plan path m l ls leaving)
    deep-leaves l ls e false =
        ap (λ (n : ℕ). finished deep (run (here_of path deep) n)) (length-changed k change m.below) ∙ ap (λ p. finished deep (run p (length m.below))) (same-path m.top.levels)
        ∙ by_end (run (here_of path m) (length m.below)).items (run (here_of path m) (length m.below)).ending
      where
        run : List ℕ → ℕ → Run Effect Exit (State Bool)
        run p n = sync_here (what (Spawned n None)) plan p (state_of m)

        finished : Machine → Run Effect Exit (State Bool) → Run Effect Fault Reached
        finished b r = record { items = r.items; ending = reached plan (with_leaving b) (λ inner s. b) r.ending }

        leaving-so : (s : State Bool) → with_leaving deep s ≡ changed k change (with_leaving m s)
        leaving-so s = rw (other-number k (length m.below) lower) refl

        by_end : (items : List Effect) (e : Result (State Bool) Exit) → finished deep (record { items = items; ending = e }) ≡ changed_run (changed k change) (finished m (record { items = items; ending = e }))
        by_end items (Ok s) = ap (λ (b : Machine). record { items = items; ending = Ok (Stands b) }) (leaving-so s)
        by_end items (Err (Faulted f)) = refl
        by_end items (Err (Inside here calls inner s)) = ap (λ (b : Machine). record { items = items; ending = Ok (Stands b) }) (deep-itself refl)
    deep-leaves l ls e true =
        ap (λ p. record { items = Closes (p ++ l.rank ∷ []) ∷ []; ending = Ok (Stands (out_of_level deep l ls s)) }) (same-path ls)
        ∙ ap (λ (b : Machine). record { items = Closes (inside_of (present path m.below) ls ++ l.rank ∷ []) ∷ []; ending = Ok (Stands b) }) out-so
      where
        s : State Bool
        s = record (state_of m) { rank = l.rank + 1 }

        out-so : out_of_level deep l ls s ≡ changed k change (out_of_level m l ls s)
        out-so = rw (other-number k (length m.below) lower) refl

  -- The frame with k below it may be altered: the next statement doesn't touch what is changed, nor does a value that comes there,
  -- and no value of its own is given.
  pub record IsFree (k : ℕ) (m : Machine) : Type 0 where
    pub inside : k ≤ length m.below
    pub touches : k ≡ length m.below → (st : Stmt) (left : List Stmt) → m.top.left ≡ st ∷ left → Keeps fix (touched (out-Act (out-Stmt st).act))
    pub closes : k ≡ length m.below → m.top.left ≡ [] → m.top.returning ≡ false
    pub comes : (caller : Frame) (more : List Frame) → m.below ≡ caller ∷ more → k ≡ length more → Keeps fix (target_names m.top.target)

  pub altered-move : (k : ℕ) (m : Machine) → IsFree k m → move plan path (changed k change m) ≡ changed_run (changed k change) (move plan path m)
  altered-move k m free = by_place (nat_eq k (length m.below)) refl
    where
      top-by : (left : List Stmt) (levels : List Level) (leaving returning : Bool) → m.top.left ≡ left → m.top.returning ≡ returning → k ≡ length m.below → TopMoves (rebuilt m left levels leaving returning)
      top-by [] [] leaving false h g e = top-return m leaving
      top-by [] [] leaving true h g e = let no : true ≡ false = sym g ∙ free.closes e h in absurd (cc)
      top-by [] (l ∷ ls) leaving returning h g e = top-level m l ls leaving returning
      top-by (st ∷ left) levels leaving returning h g e = top-statement m st left levels leaving returning (free.touches e st left h)

      deep-end : (levels : List Level) → m.top.levels ≡ levels → (lower : k < length m.below) → end_move plan path (deep m k lower) levels ≡ changed_run (changed k change) (end_move plan path m levels)
      deep-end [] e lower = deep-return m k lower m.top.returning free.comes
      deep-end (l ∷ ls) e lower = deep-leaves m k lower l ls e m.top.leaving

      deep-by : (left : List Stmt) → (lower : k < length m.below) → move_at plan path (deep m k lower) left ≡ changed_run (changed k change) (move_at plan path m left)
      deep-by [] lower = deep-end m.top.levels refl lower
      deep-by (st ∷ left) lower = deep-statement m k lower st left

      below : nat_eq k (length m.below) ≡ false → k < length m.below
      below e = from (nat_lt k (length m.below)) refl
        where
          from : (b : Bool) → nat_lt k (length m.below) ≡ b → k < length m.below
          from b g = grind (arith, free.inside, e, eq-eqb k (length m.below))

      by_place : (b : Bool) → nat_eq k (length m.below) ≡ b →
          move plan path (if b then record m { top = change m.top } else record m { below = changed_at k change m.below }) ≡ changed_run (changed k change) (move plan path m)
      by_place true e =
          let g : k ≡ length m.below = eqb-true k (length m.below) e in
          top-by m.top.left m.top.levels m.top.leaving m.top.returning refl refl g ∙ ap (λ (n : ℕ). changed_run (changed n change) (move plan path m)) (sym g)
      by_place false e = deep-by m.top.left (below e)
