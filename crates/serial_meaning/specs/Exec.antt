-- What statements do (docs/LANGUAGE.md, "Steps", "Instances and ranks" and "Parallel loops").
--
-- There is one text for the serial elision and for the open tree. They differ in how children, loops and syncs are taken, which is
-- an `Interpretation`.
use Rattle.std.specs.Prelude.{ℕ, zero, suc, ◌+◌, ◌-◌, Bool, true, false, nat_lt, List, [], ◌∷◌, ◌++◌, Option, Some, None, Result, Ok, Err, length, if◌then◌else◌}
use Rattle.std.specs.Prelude.{ℤ, pos, negsuc, ◌-ℤ◌}
use Rattle.std.specs.Int.{w64, cast_signed}
use Rattle.std.specs.Str.{bytes_eq}
use Rattle.script_grammar.specs.declared.tree.Name.{Name}
use Rattle.script_grammar.specs.declared.tree.Param.{Param}
use Rattle.script_grammar.specs.declared.tree.Function.{Function}
use Rattle.script_grammar.specs.declared.tree.CallText.{CallText}
use Rattle.script_grammar.specs.declared.tree.Expr.{Expr}
use Rattle.script_grammar.specs.declared.tree.Right.{Right}
use Rattle.script_grammar.specs.declared.tree.Right.TheVariants as right
use Rattle.script_grammar.specs.declared.tree.Stmt.{Stmt, out-Stmt}
use Rattle.script_grammar.specs.declared.tree.Act.{Act, out-Act}
use Rattle.script_grammar.specs.declared.tree.Act.TheOpen as act
use Rattle.script_grammar.specs.declared.tree.Act.TheOpen.{Act-F}
use Rattle.serial_meaning.specs.Runs.{Run, done, run_ends_by, happens, ◌then◌}
use Rattle.serial_meaning.specs.Values.{Env, content_of, items_of, as_integer, is_true, at_index, value_of, values_of}
use Rattle.serial_meaning.specs.Functions.{function_number, function_at, any_spawns}
use Rattle.serial_meaning.specs.Plan.{PlanView, functions_of, drawn}
use Rattle.serial_meaning.specs.declared.value.Value.{Value}
use Rattle.serial_meaning.specs.declared.value.Value.TheVariants.{Int, Id}
use Rattle.serial_meaning.specs.declared.environment.Content.{Content}
use Rattle.serial_meaning.specs.declared.environment.Content.TheVariants.{Scalar, Array}
use Rattle.serial_meaning.specs.declared.event.FaultKind.{FaultKind}
use Rattle.serial_meaning.specs.declared.event.FaultKind.TheVariants.{Index, Depth, Calls, Budget}
use Rattle.serial_meaning.specs.declared.event.Fault.{Fault}
use Rattle.serial_meaning.specs.declared.event.Event.{Event}
use Rattle.serial_meaning.specs.declared.event.Event.TheVariants as event
use Rattle.serial_meaning.specs.declared.origin.Origin.{Origin}
use Rattle.serial_meaning.specs.declared.origin.Origin.TheVariants as origin

-- where a frame stands: its variables, its instance's rank and steps left, and what it knows of the children that it spawned
-- since its last sync
pub record State (K : Type 0) : Type 0 where
  pub env : Env
  pub rank : ℕ
  pub steps : ℕ
  pub spawned : K

-- how events, faults, children, loops, syncs and the ends of scopes are taken. I is the type of a run's items, E of what ends it early, and K of
-- what is known of spawned children. A scope is given by the pedigree of the strand that came to it.
pub record Interpretation (I E K : Type 0) : Type 0 where
  pub event : Event → I
  pub opens : List ℕ → List I
  pub closes : List ℕ → List I
  pub own : Fault → E
  pub none : K
  pub spawn : Origin → K → Run I E (Value × K)
  pub loop : Origin → Run I E (List Value)
  pub sync : K → Run I E K

-- Variables

-- a variable's new value; a new name stands at the end
abbrev pub with_content : Env → List ℕ → Content → Env
with_content [] name content = record { name = name; content = content } ∷ []
with_content (v ∷ vs) name content = if bytes_eq v.name name then record v { content = content } ∷ vs else v ∷ with_content vs name content

abbrev pub zeros : ℕ → List ℤ
zeros zero = []
zeros (suc n) = pos 0 ∷ zeros n

abbrev pub with_item : List ℤ → ℕ → ℤ → List ℤ
with_item [] i n = []
with_item (x ∷ xs) zero n = n ∷ xs
with_item (x ∷ xs) (suc i) n = x ∷ with_item xs i n

abbrev pub set_item : List ℤ → ℤ → Value → List ℤ
set_item xs (pos i) v = with_item xs i (as_integer v)
set_item xs (negsuc i) v = xs

-- the first items replaced by values
abbrev pub with_front : List ℤ → List Value → List ℤ
with_front xs [] = xs
with_front [] (v ∷ vs) = []
with_front (x ∷ xs) (v ∷ vs) = as_integer v ∷ with_front xs vs

-- the parameters with their arguments
abbrev pub bound : List Param → List Value → Env
bound [] vs = []
bound (p ∷ ps) [] = []
bound (p ∷ ps) (v ∷ vs) = record { name = p.name.bytes; content = Scalar v } ∷ bound ps vs

-- a number that isn't negative, and 0 for the others
abbrev pub count_of : ℤ → ℕ
count_of (pos n) = n
count_of (negsuc n) = 0

-- whether a loop's target, if there is one, has at least n items
abbrev pub has_room : Option Name → ℕ → Env → Bool
has_room None n env = true
has_room (Some x) n env = nat_lt n (length (items_of (content_of env x.bytes)) + 1)

-- the pedigrees in the iterations of a loop, if there are any, are within the depth
abbrev pub loop_fits : PlanView → List ℕ → ℕ → Bool
loop_fits plan path zero = true
loop_fits plan path (suc n) = nat_lt (length path + 2) plan.limits.depth

-- the target's items replaced by the iterations' values
abbrev pub with_loop_values : Option Name → List Value → Env → Env
with_loop_values None vs env = env
with_loop_values (Some x) vs env = with_content env x.bytes (Array (with_front (items_of (content_of env x.bytes)) vs))

module _ {K : Type 0} where
  abbrev pub set_scalar : State K → Name → Value → State K
  set_scalar s x v = record s { env = with_content s.env x.bytes (Scalar v) }

  abbrev pub set_array : State K → Name → List ℤ → State K
  set_array s x xs = record s { env = with_content s.env x.bytes (Array xs) }

  -- the pedigree of the strand
  abbrev pub strand : List ℕ → State K → List ℕ
  strand path s = path ++ s.rank ∷ []

-- the most open calls of an instance
abbrev pub most_calls : ℕ
most_calls = 256

-- what statements do, by the present path and how many calls are open; the present path is the instance's path and then the ranks of the open scopes
abbrev pub BlockMeaning : Type 0 → Type 0 → Type 0 → Type 0
BlockMeaning I E K = List ℕ → ℕ → List Stmt → State K → Run I E (State K)

-- these items are shown, and nothing else happens
abbrev pub all_happen : {I E A : Type 0} → List I → A → Run I E A
all_happen items a = record { items = items; ending = Ok a }

-- at the present path `path`
module _ {I E K : Type 0} (how : Interpretation I E K) (plan : PlanView) (path : List ℕ) where
  -- the instance ends by a fault of its own
  abbrev pub fault : {A : Type 0} → FaultKind → State K → Run I E A
  fault kind s = run_ends_by (how.own (record { kind = kind; at = strand path s }))

  -- an event of this strand, and then the next rank
  abbrev pub emit_and_raise : (List ℕ → Event) → State K → Run I E (State K)
  emit_and_raise e s = happens (how.event (e (strand path s))) (record s { rank = s.rank + 1 })

  -- goes on with the value of a calculation, unless that is a fault
  abbrev pub unless_fault : {A B : Type 0} → Result A FaultKind → State K → (A → Run I E B) → Run I E B
  unless_fault (Ok v) s go = go v
  unless_fault (Err kind) s go = fault kind s

  -- goes on with one step less, or ends by the fault Budget where no step is left
  abbrev pub paid_from : {A : Type 0} → ℕ → State K → (State K → Run I E A) → Run I E A
  paid_from zero s go = fault Budget s
  paid_from (suc n) s go = go (record s { steps = n })

  abbrev pub paid : {A : Type 0} → State K → (State K → Run I E A) → Run I E A
  paid s go = paid_from s.steps s go

  -- goes on where a test holds, and else ends by this fault
  abbrev pub tested : {A : Type 0} → Bool → FaultKind → State K → Run I E A → Run I E A
  tested true kind s go = go
  tested false kind s go = fault kind s

  -- a spawn: its arguments, the test of the depth, the event, the child
  abbrev pub spawn : CallText → State K → Run I E (Value × State K)
  spawn c s =
      unless_fault (values_of c.args s.env) s λ vs.
      tested (nat_lt (length path + 1) plan.limits.depth) Depth s
      (happens (how.event (event.Spawn (strand path s))) s then λ s.
      how.spawn (origin.Instance (function_number (functions_of plan) c.name.bytes) vs (strand path s)) s.spawned then λ r.
      done (r.0, record s { rank = s.rank + 1; spawned = r.1 }))

  -- a sync at that path
  abbrev pub sync_at : List ℕ → State K → Run I E (State K)
  sync_at here s =
      happens (how.event (event.Sync (strand here s))) s then λ s.
      how.sync s.spawned then λ k.
      done (record s { rank = s.rank + 1; spawned = k })

  -- a sync, written or implied
  abbrev pub sync_here : State K → Run I E (State K)
  sync_here s = sync_at path s

  -- out of the scope that stands at this rank, to the rank after it
  abbrev pub goes_out : ℕ → State K → Run I E (State K)
  goes_out rank s = all_happen (how.closes (path ++ rank ∷ [])) (record s { rank = rank + 1 })

  -- the end of that scope: a sync of the frame in it, and then out
  abbrev pub leaves : ℕ → State K → Run I E (State K)
  leaves rank s = sync_at (path ++ rank ∷ []) s then goes_out rank

  abbrev pub implied : Bool → State K → Run I E (State K)
  implied true s = sync_here s
  implied false s = done s

  -- a function's end: its return pays a step, then comes the sync that is implied where the text holds a spawn, then the value
  abbrev pub function_end : Function → State K → Run I E (Value × State K)
  function_end f s =
      paid s λ s.
      implied (any_spawns f.body) s then λ s.
      unless_fault (value_of f.result s.env) s λ v.
      done (v, s)

  -- a frame of a function in this instance: variables and syncs of its own, and the instance's rank and steps; a valid script
  -- calls only functions that exist
  abbrev pub frame : BlockMeaning I E K → ℕ → Option Function → List Value → State K → Run I E (Value × State K)
  frame block calls (Some f) vs s =
      block path calls f.body (record s { env = bound f.params vs; spawned = how.none }) then function_end f
  frame block calls None vs s = done (Int (pos 0), s)

  -- a call goes on from the caller's rank and steps, and the caller from the callee's last ones
  abbrev pub called : BlockMeaning I E K → ℕ → CallText → State K → Run I E (Value × State K)
  called block calls c s =
      unless_fault (values_of c.args s.env) s λ vs.
      tested (nat_lt calls most_calls) Calls s
      (frame block (calls + 1) (function_at (functions_of plan) (function_number (functions_of plan) c.name.bytes)) vs s then λ r.
      done (r.0, record s { rank = r.1.rank; steps = r.1.steps }))

  -- the right side of a let or an assignment
  abbrev pub right_side : BlockMeaning I E K → ℕ → Right → State K → Run I E (Value × State K)
  right_side block calls (right.Value e) s = unless_fault (value_of e s.env) s λ v. done (v, s)
  right_side block calls (right.Draw at) s =
      let n = drawn plan (strand path s) in
      emit_and_raise (λ j. event.Draw j n) s then λ s'.
      done (Int (cast_signed w64 n), s')
  right_side block calls (right.New at) s = emit_and_raise event.New s then λ s'. done (Id (strand path s), s')
  right_side block calls (right.Call at c) s = called block calls c s
  right_side block calls (right.Spawn at c) s = spawn c s

  -- an array's item: its index, the test of the index, its value
  abbrev pub found : {A : Type 0} → Option ℤ → State K → Run I E A → Run I E A
  found None s go = fault Index s
  found (Some old) s go = go

  abbrev pub store : Name → Expr → Expr → State K → Run I E (State K)
  store x i e s =
      unless_fault (value_of i s.env) s λ k.
      let xs = items_of (content_of s.env x.bytes) in
      found (at_index xs (as_integer k)) s
      (unless_fault (value_of e s.env) s λ v.
      done (set_array s x (set_item xs (as_integer k) v)))

  -- a loop of n iterations whose bounds and arguments are known: its steps, the target's room, the depth, the event, the iterations
  abbrev pub looped : ℤ → ℕ → List Value → Option Name → CallText → State K → Run I E (State K)
  looped lo n vs target c s =
      tested (nat_lt n (s.steps + 1)) Budget s
      (let s' : State K = record s { steps = s.steps - n } in
      tested (has_room target n s'.env) Index s'
      (tested (loop_fits plan path n) Depth s'
      (happens (how.event (event.Loop (strand path s'))) s' then λ s.
      how.loop (origin.Loop (function_number (functions_of plan) c.name.bytes) vs lo (strand path s) (record { lo = 0; hi = n })) then λ ws.
      done (record s { rank = s.rank + 1; env = with_loop_values target ws s.env }))))

  -- a scope: the depth, its block one level further at rank 0, and its end
  abbrev pub scoped : BlockMeaning I E K → ℕ → List Stmt → State K → Run I E (State K)
  scoped block calls sts s =
      tested (nat_lt (length path + 1) plan.limits.depth) Depth s
      (all_happen (how.opens (strand path s)) (record s { rank = 0 }) then block (strand path s) calls sts then leaves s.rank)

  -- one statement whose step is paid; `block` runs what is inside it
  abbrev pub does : BlockMeaning I E K → ℕ → Stmt → Act-F Act Stmt → State K → Run I E (State K)
  does block calls st (act.Let x r) s = right_side block calls r s then λ p. done (set_scalar p.1 x p.0)
  does block calls st (act.Array x n) s = done (set_array s x (zeros (count_of n.value)))
  does block calls st (act.Set x r) s = right_side block calls r s then λ p. done (set_scalar p.1 x p.0)
  does block calls st (act.Store x i e) s = store x i e s
  does block calls st (act.Spawn c) s = spawn c s then λ p. done p.1
  does block calls st (act.Call c) s = called block calls c s then λ p. done p.1
  does block calls st act.Sync s = sync_here s
  does block calls st (act.Print e) s = unless_fault (value_of e s.env) s λ v. happens (how.event (event.Print (strand path s) v)) s
  does block calls st (act.If e a b) s = unless_fault (value_of e s.env) s λ v. block path calls (if is_true v then a else b) s
  does block calls st (act.While e a) s =
      unless_fault (value_of e s.env) s λ v. (if is_true v then (block path calls a s then block path calls (st ∷ [])) else done s)
  does block calls st (act.Pfor x lo hi target c) s =
      unless_fault (value_of lo s.env) s λ l.
      unless_fault (value_of hi s.env) s λ h.
      unless_fault (values_of c.args s.env) s λ vs.
      looped (as_integer l) (count_of (as_integer h -ℤ as_integer l)) vs target c s
  does block calls st (act.Scope a) s = scoped block calls a s

  abbrev pub statement : BlockMeaning I E K → ℕ → Stmt → State K → Run I E (State K)
  statement block calls st s = paid s λ s. does block calls st (out-Act (out-Stmt st).act) s

  abbrev pub each : (Stmt → State K → Run I E (State K)) → List Stmt → State K → Run I E (State K)
  each one [] s = done s
  each one (st ∷ sts) s = one st s then each one sts

module _ {I E K : Type 0} (how : Interpretation I E K) (plan : PlanView) where
  -- A statement pays a step before it enters a block, an iteration, a call or a scope. So n levels of these are enough for n steps, and one more
  -- statement finds no step. That makes the meaning total, whatever the script. Nothing above depends on the levels: the laws of
  -- `exec` give its equations without them.
  abbrev pub statements : ℕ → BlockMeaning I E K
  statements zero path calls = each how plan path (λ st s. fault how plan path Budget s)
  statements (suc n) path calls = each how plan path (statement how plan path (statements n) calls)

  -- the statements, from a state
  abbrev pub exec : BlockMeaning I E K
  exec path calls sts s = statements s.steps path calls sts s

  -- a whole instance: rank 0, the whole budget, no open call
  abbrev pub instance : (path : List ℕ) → Option Function → List Value → Run I E Value
  instance path f vs =
      frame how plan path exec 0 f vs (record { env = []; rank = 0; steps = plan.limits.budget; spawned = how.none }) then λ r. done r.0
