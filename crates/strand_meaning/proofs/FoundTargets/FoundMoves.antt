-- After a move the variables to which its children's values go are found, with those of the children that were awaited before it.
use Rattle.std.proofs.Common.{◌≡◌, ℕ, zero, suc, ◌+◌, ◌-◌, Bool, true, false, nat_lt, List, [], ◌∷◌, ◌++◌, Option, Some, None, Result, Ok, Err, map, refl, sym, ap, if◌then◌else◌, length, append-nil, subst}
use Rattle.std.proofs.Common.{ℤ, pos, ◌-ℤ◌}
use Rattle.std.proofs.lemmas.List.{length-map}
use Rattle.script_grammar.specs.declared.tree.Name.{Name}
use Rattle.script_grammar.specs.declared.tree.CallText.{CallText}
use Rattle.script_grammar.specs.declared.tree.Function.{Function}
use Rattle.script_grammar.specs.declared.tree.Right.{Right}
use Rattle.script_grammar.specs.declared.tree.Right.TheVariants as right
use Rattle.script_grammar.specs.declared.tree.Stmt.{Stmt}
use Rattle.script_grammar.specs.declared.tree.Act.{Act}
use Rattle.script_grammar.specs.declared.tree.Act.TheOpen as act
use Rattle.script_grammar.specs.declared.tree.Act.TheOpen.{Act-F}
use Rattle.serial_meaning.specs.Runs.{Run, done, ◌then◌}
use Rattle.serial_meaning.specs.Values.{value_of, values_of, content_of, items_of, as_integer, is_true, at_index}
use Rattle.serial_meaning.specs.Functions.{function_number, function_at}
use Rattle.serial_meaning.specs.Plan.{PlanView, functions_of}
use Rattle.serial_meaning.specs.Exec.{State, Interpretation, unless_fault, paid_from, tested, has_room, loop_fits, spawn, sync_at, goes_out, implied, frame, called, right_side, found, looped, does, count_of}
use Rattle.serial_meaning.specs.Open.{is_empty_loop}
use Rattle.serial_meaning.specs.declared.value.Value.{Value}
use Rattle.serial_meaning.specs.declared.value.Value.TheVariants.{Int}
use Rattle.serial_meaning.specs.declared.event.FaultKind.{FaultKind}
use Rattle.serial_meaning.specs.declared.event.FaultKind.TheVariants.{Index, Depth, Calls, Budget}
use Rattle.serial_meaning.specs.declared.event.Fault.{Fault}
use Rattle.serial_meaning.specs.declared.event.Event.TheVariants as event
use Rattle.serial_meaning.specs.declared.origin.Origin.{Origin}
use Rattle.serial_meaning.specs.declared.origin.Origin.TheVariants as origin
use Rattle.strand_meaning.specs.Found.{FindsDestination, FindsTargets, IsFoundPlan, functions_in, functions_at}
use Rattle.script_check.specs.Spawns.{spawns_in}
use Rattle.strand_meaning.specs.Machine.{Destination, Spawned, Effect, Opens, Closes, Emitted, Starts, Syncs, Loops, Exit, Faulted, Inside, loop_effects, sync_effects, parallel, inside, child_destination, Level, Frame, Machine, Reached, Stands, Gives, state_of, here_of, inside_of, present, with_left, with_leaving, out_of_level, with_returning, back_in_caller, machine_inside, reached, gives, act_run, return_run, value_run, statement_move, return_move, level_move, end_move, move_at, move}
use Rattle.strand_meaning.specs.Pending.{act_of, ArePending}
use Rattle.strand_meaning.specs.Sound.{AreDestinations, UnfilledArePending, unfilled}
use Rattle.strand_meaning.specs.Task.{Running, stage_after}
use Rattle.strand_meaning.specs.Trace.{AwaitedChild}
use Rattle.strand_meaning.proofs.FoundTargets.FoundParts.{found-append, found-called, found-ended}
use Rattle.strand_meaning.proofs.FoundTargets.LeftStatements.{spawned-found, next-found}
use Rattle.strand_meaning.proofs.Unfilled.RestAfterEffects.{effect_parts}

-- Where the innermost frame finds this variable, all children are found that a run with it begins; and none is, where the run goes inside.
module _ (plan : PlanView) (path : List ℕ) (functions : List ℕ) (destination : Destination) (finds : FindsDestination plan functions destination) where
  abbrev StartsFound : {A : Type 0} → List Effect → Result A Exit → Type 0
  StartsFound ts (Ok a) = FindsTargets plan functions (effect_parts ts)
  StartsFound ts (Err (Faulted f)) = Unit {0}
  StartsFound ts (Err (Inside here calls inner s)) = effect_parts ts ≡ []

  abbrev StartsIn : {A : Type 0} → Run Effect Exit A → Type 0
  StartsIn r = StartsFound r.items r.ending

  abbrev what : Interpretation Effect Exit Bool
  what = parallel plan destination

  starts-then : {A B : Type 0} (r : Run Effect Exit A) (go : A → B) → StartsIn r → StartsIn (r then λ a. done (go a))
  starts-then {A} {B} r go h = from r.ending h
    where
      from : (e : Result A Exit) → StartsFound r.items e → StartsIn (record { items = r.items; ending = e } then λ a. done (go a))
      from (Ok a) k = subst (λ (ts : List Effect). FindsTargets plan functions (effect_parts ts)) (sym (append-nil r.items)) k
      from (Err (Faulted f)) k = tt
      from (Err (Inside here calls inner s)) k = k

  starts-given : {A B : Type 0} (o : Result A FaultKind) (s : State Bool) (go : A → Run Effect Exit B) → ((a : A) → StartsIn (go a)) → StartsIn (unless_fault what plan path o s go)
  starts-given (Ok a) s go h = h a
  starts-given (Err k) s go h = tt

  starts-tested : {A : Type 0} (b : Bool) (k : FaultKind) (s : State Bool) (go : Run Effect Exit A) → StartsIn go → StartsIn (tested what plan path b k s go)
  starts-tested true k s go h = h
  starts-tested false k s go h = tt

  starts-paid : {A : Type 0} (n : ℕ) (s : State Bool) (go : State Bool → Run Effect Exit A) → ((s : State Bool) → StartsIn (go s)) → StartsIn (paid_from what plan path n s go)
  starts-paid zero s go h = tt
  starts-paid (suc n) s go h = h (record s { steps = n })

  starts-join : (here : List ℕ) (s : State Bool) → StartsIn (sync_at what plan path here s)
  starts-join here s = from s.spawned
    where
      from : (b : Bool) → FindsTargets plan functions (effect_parts (Emitted (event.Sync (here ++ s.rank ∷ [])) ∷ (sync_effects b ++ [])))
      from true = tt
      from false = tt

  starts-spawn : (c : CallText) (s : State Bool) → StartsIn (spawn what plan path c s)
  starts-spawn c s = starts-given (values_of c.args s.env) s _ (λ vs. starts-tested (nat_lt (length path + 1) plan.limits.depth) Depth s _ (finds, tt))

  starts-called : (calls : ℕ) (c : CallText) (s : State Bool) → StartsIn (called what plan path inside calls c s)
  starts-called calls c s =
      starts-given (values_of c.args s.env) s _ (λ vs. starts-tested (nat_lt calls 256) Calls s _
      (starts-then (frame what plan path inside (calls + 1) (function_at (functions_of plan) (function_number (functions_of plan) c.name.bytes)) vs s) _
      (by_function vs (function_at (functions_of plan) (function_number (functions_of plan) c.name.bytes)))))
    where
      by_function : (vs : List Value) (o : Option Function) → StartsIn (frame what plan path inside (calls + 1) o vs s)
      by_function vs None = tt
      by_function vs (Some f) = refl

  starts-right : (calls : ℕ) (r : Right) (s : State Bool) → StartsIn (right_side what plan path inside calls r s)
  starts-right calls (right.Value e) s = starts-given (value_of e s.env) s _ (λ v. tt)
  starts-right calls (right.Draw at) s = tt
  starts-right calls (right.New at) s = tt
  starts-right calls (right.Call at c) s = starts-called calls c s
  starts-right calls (right.Spawn at c) s = starts-spawn c s

  starts-loop : (target : Option Name) (c : CallText) (lo : ℤ) (hi : ℕ) (vs : List Value) (s : State Bool) → StartsIn (looped what plan path lo hi vs target c s)
  starts-loop target c lo hi vs s =
      starts-tested (nat_lt hi (s.steps + 1)) Budget s _ (starts-tested (has_room target hi s.env) Index _ _ (starts-tested (loop_fits plan path hi) Depth _ _ (by_size (is_empty_loop o))))
    where
      o : Origin
      o = origin.Loop (function_number (functions_of plan) c.name.bytes) vs lo (path ++ s.rank ∷ []) (record { lo = 0; hi = hi })

      by_size : (b : Bool) → FindsTargets plan functions (effect_parts (Emitted (event.Loop (path ++ s.rank ∷ [])) ∷ (loop_effects b o destination ++ [])))
      by_size true = tt
      by_size false = (finds, tt)

  starts-does : (calls : ℕ) (st : Stmt) (a : Act-F Act Stmt) (s : State Bool) → StartsIn (does what plan path inside calls st a s)
  starts-does calls st (act.Let x r) s = starts-then (right_side what plan path inside calls r s) _ (starts-right calls r s)
  starts-does calls st (act.Array x n) s = tt
  starts-does calls st (act.Set x r) s = starts-then (right_side what plan path inside calls r s) _ (starts-right calls r s)
  starts-does calls st (act.Store x i e) s = starts-given (value_of i s.env) s _ (λ k. by_item (at_index (items_of (content_of s.env x.bytes)) (as_integer k)) _ (starts-given (value_of e s.env) s _ (λ v. tt)))
    where
      by_item : (o : Option ℤ) (r : Run Effect Exit (State Bool)) → StartsIn r → StartsIn (found what plan path o s r)
      by_item None r h = tt
      by_item (Some old) r h = h
  starts-does calls st (act.Spawn c) s = starts-then (spawn what plan path c s) _ (starts-spawn c s)
  starts-does calls st (act.Call c) s = starts-then (called what plan path inside calls c s) _ (starts-called calls c s)
  starts-does calls st act.Sync s = starts-join path s
  starts-does calls st (act.Print e) s = starts-given (value_of e s.env) s _ (λ v. tt)
  starts-does calls st (act.If e a b) s = starts-given (value_of e s.env) s _ (λ v. refl)
  starts-does calls st (act.While e a) s = starts-given (value_of e s.env) s _ (λ v. by_test (is_true v))
    where
      by_test : (t : Bool) → StartsIn (if t then (inside path calls a s then inside path calls (st ∷ [])) else done s)
      by_test true = refl
      by_test false = tt
  starts-does calls st (act.Pfor x lo hi target c) s =
      starts-given (value_of lo s.env) s _ (λ l. starts-given (value_of hi s.env) s _ (λ h. starts-given (values_of c.args s.env) s _
      (λ vs. starts-loop target c (as_integer l) (count_of (as_integer h -ℤ as_integer l)) vs s)))
  starts-does calls st (act.Scope a) s = starts-tested (nat_lt (length path + 1) plan.limits.depth) Depth s _ refl

-- what holds after a move
abbrev pub FoundEnd : PlanView → List AwaitedChild → List Effect → Result Reached Fault → Type 0
FoundEnd plan parts ts (Ok (Stands k)) = FindsTargets plan (functions_in k) (parts ++ effect_parts ts)
FoundEnd plan parts ts (Ok (Gives v)) = Unit {0}
FoundEnd plan parts ts (Err f) = Unit {0}

module _ (plan : PlanView) (path : List ℕ) (parts : List AwaitedChild) (m : Machine) (places : AreDestinations (length m.below) parts) (before : FindsTargets plan (functions_in m) parts) where
  abbrev height : ℕ
  height = length m.below

  -- whatever a run leaves, where the frames stay when it ends
  moved-found : (destination : Destination) (finds : FindsDestination plan (functions_in m) destination) (on : State Bool → Machine) → ((s : State Bool) → functions_in (on s) ≡ functions_in m) →
      (into : List Stmt → State Bool → Machine) → ((inner : List Stmt) (s : State Bool) → FindsTargets plan (functions_in (into inner s)) parts) →
      (ts : List Effect) (e : Result (State Bool) Exit) → StartsFound plan path (functions_in m) destination finds ts e → FoundEnd plan parts ts (reached plan on into e)
  moved-found destination finds on stays into inside-found ts (Ok s) h =
      subst (λ (fs : List ℕ). FindsTargets plan fs (parts ++ effect_parts ts)) (sym (stays s)) (found-append plan (functions_in m) parts (effect_parts ts) before h)
  moved-found destination finds on stays into inside-found ts (Err (Faulted f)) h = tt
  moved-found destination finds on stays into inside-found ts (Err (Inside here calls inner s)) h =
      found-append plan (functions_in (into inner s)) parts (effect_parts ts) (inside-found inner s) (subst (FindsTargets plan (functions_in (into inner s))) (sym h) tt)

  -- a callee is begun
  call-found : (function : ℕ) → FindsTargets plan (function ∷ functions_in m) parts
  call-found function = found-called plan (functions_in m) function height (ap suc (sym (length-map m.below (λ a. a.function)))) parts places before

  entered-found : (st : Stmt) (a : Act-F Act Stmt) (left inner : List Stmt) (s : State Bool) → FindsTargets plan (functions_in (machine_inside plan st a left m inner s)) parts
  entered-found st (act.Let x (right.Value e)) left inner s = before
  entered-found st (act.Let x (right.Draw at)) left inner s = before
  entered-found st (act.Let x (right.New at)) left inner s = before
  entered-found st (act.Let x (right.Call at c)) left inner s = call-found (function_number (functions_of plan) c.name.bytes)
  entered-found st (act.Let x (right.Spawn at c)) left inner s = before
  entered-found st (act.Array x n) left inner s = before
  entered-found st (act.Set x (right.Value e)) left inner s = before
  entered-found st (act.Set x (right.Draw at)) left inner s = before
  entered-found st (act.Set x (right.New at)) left inner s = before
  entered-found st (act.Set x (right.Call at c)) left inner s = call-found (function_number (functions_of plan) c.name.bytes)
  entered-found st (act.Set x (right.Spawn at c)) left inner s = before
  entered-found st (act.Store x i e) left inner s = before
  entered-found st (act.Spawn c) left inner s = before
  entered-found st (act.Call c) left inner s = call-found (function_number (functions_of plan) c.name.bytes)
  entered-found st act.Sync left inner s = before
  entered-found st (act.Print e) left inner s = before
  entered-found st (act.If e a b) left inner s = before
  entered-found st (act.While e a) left inner s = before
  entered-found st (act.Pfor x lo hi target c) left inner s = before
  entered-found st (act.Scope a) left inner s = before

  none-found : FindsDestination plan (functions_in m) (Spawned height None)
  none-found = spawned-found plan m None refl

  statement-found : (st : Stmt) (left : List Stmt) → FindsDestination plan (functions_in m) (child_destination height (act_of st)) →
      FoundEnd plan parts (statement_move plan path m st left).items (statement_move plan path m st left).ending
  statement-found st left finds =
      let destination = child_destination height (act_of st) in
      let r = act_run plan path m st (act_of st) in
      moved-found destination finds (with_left m left) (λ s. refl) (machine_inside plan st (act_of st) left m) (entered-found st (act_of st) left) r.items r.ending
      (starts-paid plan (here_of path m) (functions_in m) destination finds m.steps (state_of m) _ (λ s. starts-does plan (here_of path m) (functions_in m) destination finds height st (act_of st) s))

  -- the value of a return
  value-found : FoundEnd plan parts (return_move plan path m true).items (return_move plan path m true).ending
  value-found = by_function (function_at (functions_of plan) m.top.function)
    where
      to_caller : (v : Value) (below : List Frame) → FindsTargets plan (m.top.function ∷ map (λ a. a.function) below) parts → FoundEnd plan parts [] (Ok (back_in_caller below m.top.target v m.rank m.steps))
      to_caller v [] h = tt
      to_caller v (caller ∷ below) h =
          let functions = map (λ (a : Frame). a.function) (caller ∷ below) in
          subst (FindsTargets plan functions) (sym (append-nil parts)) (found-ended plan functions m.top.function height parts places h)

      by_value : (o : Result Value FaultKind) →
          let r : Run Effect Exit (Value × State Bool) = unless_fault (parallel plan (Spawned (length m.below) None)) plan (here_of path m) o (state_of m) (λ v. done (v, state_of m)) in FoundEnd plan parts r.items (gives plan m r.ending)
      by_value (Ok v) = to_caller v m.below before
      by_value (Err k) = tt

      by_function : (o : Option Function) → FoundEnd plan parts (value_run plan path o m).items (gives plan m (value_run plan path o m).ending)
      by_function None = to_caller (Int (pos 0)) m.below before
      by_function (Some f) = by_value (value_of f.result m.top.env)

  -- a move in which no child is begun and the frames stay
  still-found : (on : State Bool → Machine) → ((s : State Bool) → functions_in (on s) ≡ functions_in m) → (r : Run Effect Exit (State Bool)) →
      StartsFound plan path (functions_in m) (Spawned height None) none-found r.items r.ending → FoundEnd plan parts r.items (reached plan on (λ inner s. m) r.ending)
  still-found on stays r h = moved-found (Spawned height None) none-found on stays (λ inner s. m) (λ inner s. before) r.items r.ending h

  return-found : (b : Bool) → FoundEnd plan parts (return_move plan path m b).items (return_move plan path m b).ending
  return-found true = value-found
  return-found false = still-found (with_returning m) (λ s. refl) (return_run plan path m) (starts-paid plan (here_of path m) (functions_in m) (Spawned height None) none-found m.steps (state_of m) _ (λ s. by_text (spawns_in (function_at (functions_of plan) m.top.function)) s))
    where
      by_text : (b : Bool) (s : State Bool) → StartsIn plan (here_of path m) (functions_in m) (Spawned height None) none-found (implied (parallel plan (Spawned height None)) plan (here_of path m) b s)
      by_text true s = starts-join plan (here_of path m) (functions_in m) (Spawned height None) none-found (here_of path m) s
      by_text false s = tt

  level-found : (l : Level) (ls : List Level) (b : Bool) → FoundEnd plan parts (level_move plan path m l ls b).items (level_move plan path m l ls b).ending
  level-found l ls true = still-found (out_of_level m l ls) (λ s. refl) (goes_out (parallel plan (Spawned height None)) plan (inside_of (present path m.below) ls) l.rank (state_of m)) tt
  level-found l ls false =
      still-found (with_leaving m) (λ s. refl) (sync_at (parallel plan (Spawned height None)) plan (present path m.below) (here_of path m) (state_of m))
      (starts-join plan (present path m.below) (functions_in m) (Spawned height None) none-found (here_of path m) (state_of m))

  pub found-move : IsFoundPlan plan → UnfilledArePending plan parts (Running m) → FoundEnd plan parts (move plan path m).items (move plan path m).ending
  found-move is pends = by_left m.top.left refl
    where
      by_levels : (ls : List Level) → FoundEnd plan parts (end_move plan path m ls).items (end_move plan path m ls).ending
      by_levels [] = return-found m.top.returning
      by_levels (l ∷ ls) = level-found l ls m.top.leaving

      by_left : (left : List Stmt) → m.top.left ≡ left → FoundEnd plan parts (move_at plan path m left).items (move_at plan path m left).ending
      by_left [] e = by_levels m.top.levels
      by_left (st ∷ left) e =
          statement-found st left (next-found plan m (unfilled height parts) st left is (subst (λ (l : List Stmt). ArePending plan (unfilled height parts) m.top l) e pends.0))

-- the functions of a stage after a move
pub functions-after : (ts : List Effect) (k : Machine) → functions_at (stage_after ts k) ≡ functions_in k
functions-after [] k = refl
functions-after (Opens j ∷ ts) k = functions-after ts k
functions-after (Closes j ∷ ts) k = functions-after ts k
functions-after (Emitted e ∷ ts) k = functions-after ts k
functions-after (Starts o destination ∷ ts) k = functions-after ts k
functions-after (Syncs ∷ ts) k = refl
functions-after (Loops ∷ ts) k = refl
