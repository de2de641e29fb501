-- What each statement does, once it is paid.
use Rattle.std.proofs.Common.{◌≡◌, ℕ, suc, ◌+◌, Bool, true, false, nat_lt, List, [], ◌∷◌, ◌++◌, Option, Some, None, Ok, Err, refl, ap, ◌∙◌, length, if◌then◌else◌}
use Rattle.std.proofs.Common.{ℤ, w64}
use Rattle.std.proofs.lemmas.List.{append-nil}
use Rattle.std.specs.Int.{cast_signed}
use Rattle.script_grammar.specs.declared.tree.Name.{Name}
use Rattle.script_grammar.specs.declared.tree.Number.{Number}
use Rattle.script_grammar.specs.declared.tree.Expr.{Expr}
use Rattle.script_grammar.specs.declared.tree.CallText.{CallText}
use Rattle.script_grammar.specs.declared.tree.Function.{Function}
use Rattle.script_grammar.specs.declared.tree.Right.{Right}
use Rattle.script_grammar.specs.declared.tree.Right.TheVariants as right
use Rattle.script_grammar.specs.declared.tree.Stmt.{Stmt, out-Stmt}
use Rattle.script_grammar.specs.declared.tree.Act.{Act, out-Act}
use Rattle.script_grammar.specs.declared.tree.Act.TheOpen as act
use Rattle.script_grammar.specs.declared.tree.Act.TheOpen.{Act-F}
use Rattle.serial_meaning.specs.Runs.{Run}
use Rattle.serial_meaning.specs.Values.{Env, value_of, values_of, content_of, items_of, as_integer, is_true, at_index}
use Rattle.serial_meaning.specs.Functions.{function_number, function_at}
use Rattle.serial_meaning.specs.Plan.{PlanView, functions_of, drawn}
use Rattle.serial_meaning.specs.Exec.{with_content, does, bound, set_item, zeros, count_of, paid_from}
use Rattle.serial_meaning.specs.Open.{placeholder}
use Rattle.serial_meaning.specs.declared.value.Value.{Value}
use Rattle.serial_meaning.specs.declared.value.Value.TheVariants.{Int, Id}
use Rattle.serial_meaning.specs.declared.environment.Content.TheVariants.{Scalar, Array}
use Rattle.serial_meaning.specs.declared.event.FaultKind.{FaultKind}
use Rattle.serial_meaning.specs.declared.event.FaultKind.TheVariants.{Index, Depth, Calls, Budget}
use Rattle.serial_meaning.specs.declared.event.Fault.{Fault}
use Rattle.serial_meaning.specs.declared.event.Event.TheVariants as event
use Rattle.serial_meaning.specs.declared.origin.Origin.{Origin}
use Rattle.serial_meaning.specs.declared.origin.Origin.TheVariants as origin
use Rattle.strand_meaning.specs.Machine.{Spawned, Effect, Emitted, Starts, Opens, parallel, here_of, inside, child_destination, Frame, Machine, Reached, Stands, state_of, with_left, with_scalar, machine_inside, reached, statement_move, sync_effects}
use Rattle.strand_moves.specs.Moves.{acted, call_to, spawn_to}

abbrev pub with_env : Machine → Env → Machine
with_env m env = record m { top = record m.top { env = env } }

-- how a run goes on, or ends by a fault, from this machine
abbrev pub moved : List Effect → Machine → Run Effect Fault Reached
moved effects m = record { items = effects; ending = Ok (Stands m) }

abbrev pub faults : FaultKind → List ℕ → Run Effect Fault Reached
faults kind strand = record { items = []; ending = Err (record { kind = kind; at = strand }) }

-- The step

-- a machine whose step is paid and that is after a statement
abbrev pub after_statement : Machine → ℕ → List Stmt → Machine
after_statement m n left = record m { steps = n; top = record m.top { left = left } }

module _ (plan : PlanView) (here : List ℕ) (m : Machine) (st : Stmt) (left : List Stmt) where
  by_act : (n : ℕ) (a : Act-F Act Stmt) →
      (let r = does (parallel plan (child_destination (length m.below) a)) plan here inside (length m.below) st a (record (state_of m) { steps = n }) in
      let run : Run Effect Fault Reached = record { items = r.items; ending = reached plan (with_left m left) (machine_inside plan st a left m) r.ending } in run)
      ≡ acted plan here (after_statement m n left) st a
  unfolding acted
  by_act n (act.Let x (right.Value e)) = refl
  by_act n (act.Let x (right.Draw at)) = refl
  by_act n (act.Let x (right.New at)) = refl
  by_act n (act.Let x (right.Call at c)) = refl
  by_act n (act.Let x (right.Spawn at c)) = refl
  by_act n (act.Array x k) = refl
  by_act n (act.Set x (right.Value e)) = refl
  by_act n (act.Set x (right.Draw at)) = refl
  by_act n (act.Set x (right.New at)) = refl
  by_act n (act.Set x (right.Call at c)) = refl
  by_act n (act.Set x (right.Spawn at c)) = refl
  by_act n (act.Store x i e) = refl
  by_act n (act.Spawn c) = refl
  by_act n (act.Call c) = refl
  by_act n act.Sync = refl
  by_act n (act.Print e) = refl
  by_act n (act.If e a b) = refl
  by_act n (act.While e a) = refl
  by_act n (act.Pfor x lo hi target c) = refl
  by_act n (act.Scope a) = refl

module _ (plan : PlanView) (path : List ℕ) (m : Machine) (st : Stmt) (left : List Stmt) where
  pub paid-move : (n : ℕ) → m.steps ≡ suc n → statement_move plan path m st left ≡ acted plan (here_of path m) (after_statement m n left) st (out-Act (out-Stmt st).act)
  paid-move n h =
      let a = out-Act (out-Stmt st).act in
      ap (λ (k : ℕ).
      let r = paid_from (parallel plan (child_destination (length m.below) a)) plan (here_of path m) k (state_of m) (λ s. does (parallel plan (child_destination (length m.below) a)) plan (here_of path m) inside (length m.below) st a s) in
      let run : Run Effect Fault Reached = record { items = r.items; ending = reached plan (with_left m left) (machine_inside plan st a left m) r.ending } in run) h
      ∙ by_act plan (here_of path m) m st left n a

  pub unpaid-move : m.steps ≡ 0 → statement_move plan path m st left ≡ faults Budget (here_of path m ++ m.rank ∷ [])
  unpaid-move h = rw h refl

-- The statements

-- the frame that a call begins
abbrev pub callee : Option Name → ℕ → Function → List Value → Frame
callee target as_integer f vs = record { function = as_integer; left = f.body; levels = []; leaving = false; returning = false; env = bound f.params vs; spawned = false; faulted = None; target = target }

module _ (plan : PlanView) (path : List ℕ) (m : Machine) (st : Stmt) where
  pub let-is-set : (x : Name) (r : Right) → acted plan path m st (act.Let x r) ≡ acted plan path m st (act.Set x r)
  unfolding acted
  let-is-set x (right.Value e) = refl
  let-is-set x (right.Draw at) = refl
  let-is-set x (right.New at) = refl
  let-is-set x (right.Call at c) = refl
  let-is-set x (right.Spawn at c) = refl

  pub set-value : (x : Name) (e : Expr) (v : Value) (env : Env) → value_of e m.top.env ≡ Ok v → env ≡ with_content m.top.env x.bytes (Scalar v) →
      acted plan path m st (act.Set x (right.Value e)) ≡ moved [] (with_env m env)
  unfolding acted
  set-value x e v env h k = rw (h, k) refl

  pub set-value-fault : (x : Name) (e : Expr) (kind : FaultKind) → value_of e m.top.env ≡ Err kind →
      acted plan path m st (act.Set x (right.Value e)) ≡ faults kind (path ++ m.rank ∷ [])
  unfolding acted
  set-value-fault x e kind h = rw h refl

  pub set-draw : (x : Name) (at n : ℕ) (env : Env) → n ≡ drawn plan (path ++ m.rank ∷ []) → env ≡ with_content m.top.env x.bytes (Scalar (Int (cast_signed w64 n))) →
      acted plan path m st (act.Set x (right.Draw at)) ≡ moved (Emitted (event.Draw (path ++ m.rank ∷ []) n) ∷ []) (record (with_env m env) { rank = m.rank + 1 })
  unfolding acted
  set-draw x at n env h k = rw (k, h) refl

  pub set-new : (x : Name) (at : ℕ) (env : Env) → env ≡ with_content m.top.env x.bytes (Scalar (Id (path ++ m.rank ∷ []))) →
      acted plan path m st (act.Set x (right.New at)) ≡ moved (Emitted (event.New (path ++ m.rank ∷ [])) ∷ []) (record (with_env m env) { rank = m.rank + 1 })
  unfolding acted
  set-new x at env k = rw k refl

  pub array : (x : Name) (n : Number) (env : Env) → env ≡ with_content m.top.env x.bytes (Array (zeros (count_of n.value))) → acted plan path m st (act.Array x n) ≡ moved [] (with_env m env)
  unfolding acted
  array x n env h = rw h refl

  pub sync : acted plan path m st act.Sync ≡ moved (Emitted (event.Sync (path ++ m.rank ∷ [])) ∷ sync_effects m.top.spawned) (record m { rank = m.rank + 1; top = record m.top { spawned = false } })
  unfolding acted
  sync =
      ap (λ (effects : List Effect). moved (Emitted (event.Sync (path ++ m.rank ∷ [])) ∷ effects) (record m { rank = m.rank + 1; top = record m.top { spawned = false } })) (append-nil (sync_effects m.top.spawned))

  pub print : (e : Expr) (v : Value) → value_of e m.top.env ≡ Ok v → acted plan path m st (act.Print e) ≡ moved (Emitted (event.Print (path ++ m.rank ∷ []) v) ∷ []) m
  unfolding acted
  print e v h = rw h refl

  pub store : (x : Name) (i e : Expr) (k v : Value) (old : ℤ) (env : Env) → value_of i m.top.env ≡ Ok k → at_index (items_of (content_of m.top.env x.bytes)) (as_integer k) ≡ Some old → value_of e m.top.env ≡ Ok v →
      env ≡ with_content m.top.env x.bytes (Array (set_item (items_of (content_of m.top.env x.bytes)) (as_integer k) v)) → acted plan path m st (act.Store x i e) ≡ moved [] (with_env m env)
  unfolding acted
  store x i e k v old env f g h j = rw (f, g, h, j) refl

  pub store-index-fault : (x : Name) (i e : Expr) (kind : FaultKind) → value_of i m.top.env ≡ Err kind → acted plan path m st (act.Store x i e) ≡ faults kind (path ++ m.rank ∷ [])
  unfolding acted
  store-index-fault x i e kind f = rw f refl

  pub store-fault : (x : Name) (i e : Expr) (k : Value) → value_of i m.top.env ≡ Ok k → at_index (items_of (content_of m.top.env x.bytes)) (as_integer k) ≡ None →
      acted plan path m st (act.Store x i e) ≡ faults Index (path ++ m.rank ∷ [])
  unfolding acted
  store-fault x i e k f g = rw (f, g) refl

  pub store-value-fault : (x : Name) (i e : Expr) (k : Value) (old : ℤ) (kind : FaultKind) → value_of i m.top.env ≡ Ok k → at_index (items_of (content_of m.top.env x.bytes)) (as_integer k) ≡ Some old → value_of e m.top.env ≡ Err kind →
      acted plan path m st (act.Store x i e) ≡ faults kind (path ++ m.rank ∷ [])
  unfolding acted
  store-value-fault x i e k old kind f g h = rw (f, g, h) refl

  pub print-fault : (e : Expr) (kind : FaultKind) → value_of e m.top.env ≡ Err kind → acted plan path m st (act.Print e) ≡ faults kind (path ++ m.rank ∷ [])
  unfolding acted
  print-fault e kind h = rw h refl

  -- what an `if` goes inside to
  pub branch : (e : Expr) (first second : List Stmt) (v : Value) (b : Bool) → value_of e m.top.env ≡ Ok v → is_true v ≡ b →
      acted plan path m st (act.If e first second) ≡ moved [] (record m { top = record m.top { left = (if b then first else second) ++ m.top.left } })
  unfolding acted
  branch e first second v b h k = rw (h, k) refl

  pub branch-fault : (e : Expr) (first second : List Stmt) (kind : FaultKind) → value_of e m.top.env ≡ Err kind → acted plan path m st (act.If e first second) ≡ faults kind (path ++ m.rank ∷ [])
  unfolding acted
  branch-fault e first second kind h = rw h refl

  pub turn : (e : Expr) (body : List Stmt) (v : Value) → value_of e m.top.env ≡ Ok v → is_true v ≡ true →
      acted plan path m st (act.While e body) ≡ moved [] (record m { top = record m.top { left = body ++ (st ∷ m.top.left) } })
  unfolding acted
  turn e body v h k = rw (h, k) refl

  pub no-turn : (e : Expr) (body : List Stmt) (v : Value) → value_of e m.top.env ≡ Ok v → is_true v ≡ false → acted plan path m st (act.While e body) ≡ moved [] m
  unfolding acted
  no-turn e body v h k = rw (h, k) refl

  pub turn-fault : (e : Expr) (body : List Stmt) (kind : FaultKind) → value_of e m.top.env ≡ Err kind → acted plan path m st (act.While e body) ≡ faults kind (path ++ m.rank ∷ [])
  unfolding acted
  turn-fault e body kind h = rw h refl

  -- into a scope
  pub scope : (block : List Stmt) → nat_lt (length path + 1) plan.limits.depth ≡ true →
      acted plan path m st (act.Scope block)
      ≡ moved (Opens (path ++ m.rank ∷ []) ∷ []) (record m { rank = 0; top = record m.top { left = block; levels = record { rank = m.rank; left = m.top.left } ∷ m.top.levels } })
  unfolding acted
  scope block h = rw h refl

  pub scope-depth-fault : (block : List Stmt) → nat_lt (length path + 1) plan.limits.depth ≡ false → acted plan path m st (act.Scope block) ≡ faults Depth (path ++ m.rank ∷ [])
  unfolding acted
  scope-depth-fault block h = rw h refl

  -- children and calls

  abbrev pub child : CallText → List Value → Origin
  child c vs = origin.Instance (function_number (functions_of plan) c.name.bytes) vs (path ++ m.rank ∷ [])

  pub spawn : (target : Option Name) (c : CallText) (vs : List Value) (env : Env) → values_of c.args m.top.env ≡ Ok vs → nat_lt (length path + 1) plan.limits.depth ≡ true →
      env ≡ with_scalar target (placeholder plan (child c vs)) m.top.env →
      acted plan path m st (spawn_to target c) ≡ moved (Emitted (event.Spawn (path ++ m.rank ∷ [])) ∷ Starts (child c vs) (Spawned (length m.below) target) ∷ []) (record m { rank = m.rank + 1; top = record m.top { env = env; spawned = true } })
  unfolding acted
  spawn None c vs env h k j = rw (h, k, j) refl
  spawn (Some x) c vs env h k j = rw (h, k, j) refl

  pub spawn-args-fault : (target : Option Name) (c : CallText) (kind : FaultKind) → values_of c.args m.top.env ≡ Err kind → acted plan path m st (spawn_to target c) ≡ faults kind (path ++ m.rank ∷ [])
  unfolding acted
  spawn-args-fault None c kind h = rw h refl
  spawn-args-fault (Some x) c kind h = rw h refl

  pub spawn-depth-fault : (target : Option Name) (c : CallText) (vs : List Value) → values_of c.args m.top.env ≡ Ok vs → nat_lt (length path + 1) plan.limits.depth ≡ false →
      acted plan path m st (spawn_to target c) ≡ faults Depth (path ++ m.rank ∷ [])
  unfolding acted
  spawn-depth-fault None c vs h k = rw (h, k) refl
  spawn-depth-fault (Some x) c vs h k = rw (h, k) refl

  pub call : (target : Option Name) (c : CallText) (vs : List Value) (f : Function) → values_of c.args m.top.env ≡ Ok vs → nat_lt (length m.below) 256 ≡ true → function_at (functions_of plan) (function_number (functions_of plan) c.name.bytes) ≡ Some f →
      acted plan path m st (call_to target c) ≡ moved [] (record m { top = callee target (function_number (functions_of plan) c.name.bytes) f vs; below = m.top ∷ m.below })
  unfolding acted
  call None c vs f h k j = rw (h, k, j) refl
  call (Some x) c vs f h k j = rw (h, k, j) refl

  pub call-args-fault : (target : Option Name) (c : CallText) (kind : FaultKind) → values_of c.args m.top.env ≡ Err kind → acted plan path m st (call_to target c) ≡ faults kind (path ++ m.rank ∷ [])
  unfolding acted
  call-args-fault None c kind h = rw h refl
  call-args-fault (Some x) c kind h = rw h refl

  pub calls-fault : (target : Option Name) (c : CallText) (vs : List Value) → values_of c.args m.top.env ≡ Ok vs → nat_lt (length m.below) 256 ≡ false → acted plan path m st (call_to target c) ≡ faults Calls (path ++ m.rank ∷ [])
  unfolding acted
  calls-fault None c vs h k = rw (h, k) refl
  calls-fault (Some x) c vs h k = rw (h, k) refl
