-- A move uses up a step, or ends a frame.
use Rattle.std.proofs.Common.{◌≡◌, ℕ, zero, suc, ◌+◌, ◌-◌, ◌*◌, ◌<◌, ◌≤◌, Bool, true, false, nat_lt, List, [], ◌∷◌, Option, Some, None, Result, Ok, Err, refl, ap, arith, if◌then◌else◌, length}
use Rattle.std.proofs.Common.{ℤ, pos, ◌-ℤ◌}
use Rattle.script_grammar.specs.declared.tree.Name.{Name}
use Rattle.script_grammar.specs.declared.tree.CallText.{CallText}
use Rattle.script_grammar.specs.declared.tree.Function.{Function}
use Rattle.script_grammar.specs.declared.tree.Right.{Right}
use Rattle.script_grammar.specs.declared.tree.Right.TheVariants as right
use Rattle.script_grammar.specs.declared.tree.Stmt.{Stmt, out-Stmt}
use Rattle.script_grammar.specs.declared.tree.Act.{Act, out-Act}
use Rattle.script_grammar.specs.declared.tree.Act.TheOpen as act
use Rattle.script_grammar.specs.declared.tree.Act.TheOpen.{Act-F}
use Rattle.serial_meaning.specs.Runs.{Run, done, continued, ◌then◌}
use Rattle.serial_meaning.specs.Values.{value_of, values_of, content_of, items_of, as_integer, is_true, at_index}
use Rattle.serial_meaning.specs.Functions.{function_number, function_at}
use Rattle.serial_meaning.specs.Plan.{PlanView, functions_of}
use Rattle.serial_meaning.specs.Exec.{State, Interpretation, unless_fault, paid_from, tested, has_room, loop_fits, spawn, implied, frame, called, right_side, found, looped, does, count_of}
use Rattle.serial_meaning.specs.declared.value.Value.{Value}
use Rattle.serial_meaning.specs.declared.value.Value.TheVariants.{Int}
use Rattle.serial_meaning.specs.declared.event.FaultKind.{FaultKind}
use Rattle.serial_meaning.specs.declared.event.FaultKind.TheVariants.{Index, Depth, Calls, Budget}
use Rattle.serial_meaning.specs.declared.event.Fault.{Fault}
use Rattle.script_check.specs.Spawns.{spawns_in}
use Rattle.strand_meaning.specs.Machine.{Destination, Spawned, Looped, Effect, Exit, Faulted, Inside, parallel, inside, child_destination, Level, Frame, Machine, Reached, Stands, Gives, state_of, here_of, with_left, with_returning, back_in_caller, machine_inside, reached, gives, value_run, statement_move, return_move, level_move, end_move, move_at, move}
use Rattle.strand_meaning.specs.Left.{ways_out, all_ways_out, moves_of}

-- no more than these steps are left, where it goes on or inside
abbrev Within : {A : Type 0} → (A → ℕ) → ℕ → Result A Exit → Type 0
Within steps n (Ok a) = steps a ≤ n
Within steps n (Err (Faulted f)) = Unit {0}
Within steps n (Err (Inside here calls inner s)) = s.steps ≤ n

abbrev steps_of : State Bool → ℕ
steps_of s = s.steps

abbrev pair_steps : Value × State Bool → ℕ
pair_steps p = p.1.steps

within-then : {A B : Type 0} (f-steps : A → ℕ) (g-steps : B → ℕ) (n : ℕ) (r : Run Effect Exit A) (f : A → Run Effect Exit B) → Within f-steps n r.ending → ((a : A) → f-steps a ≤ n → Within g-steps n (f a).ending) → Within g-steps n (r then f).ending
within-then {A = A} {B = B} f-steps g-steps n r f h k = from r.items r.ending h
  where
    from : (items : List Effect) (e : Result A Exit) → Within f-steps n e → Within g-steps n (continued items e f).ending
    from items (Ok a) g = k a g
    from items (Err (Faulted x)) g = tt
    from items (Err (Inside here calls inner s)) g = g

abbrev pub Falls : Machine → Result Reached Fault → Type 0
Falls m (Ok (Stands k)) = moves_of k < moves_of m
Falls m (Ok (Gives v)) = Unit {0}
Falls m (Err f) = Unit {0}

module _ (plan : PlanView) (path : List ℕ) where
  abbrev what : Destination → Interpretation Effect Exit Bool
  what destination = parallel plan destination

  within-given : {A B : Type 0} (steps : B → ℕ) (n : ℕ) (destination : Destination) (o : Result A FaultKind) (s : State Bool) (f : A → Run Effect Exit B) → ((a : A) → Within steps n (f a).ending) → Within steps n (unless_fault (what destination) plan path o s f).ending
  within-given steps n destination (Ok a) s f h = h a
  within-given steps n destination (Err k) s f h = tt

  within-tested : {B : Type 0} (steps : B → ℕ) (n : ℕ) (destination : Destination) (b : Bool) (k : FaultKind) (s : State Bool) (f : Run Effect Exit B) → Within steps n f.ending → Within steps n (tested (what destination) plan path b k s f).ending
  within-tested steps n destination true k s f h = h
  within-tested steps n destination false k s f h = tt

  module _ (n : ℕ) where
    spawn-within : (destination : Destination) (c : CallText) (s : State Bool) → s.steps ≤ n → Within pair_steps n (spawn (what destination) plan path c s).ending
    spawn-within destination c s h = within-given pair_steps n destination (values_of c.args s.env) s _ (λ vs. within-tested pair_steps n destination (nat_lt (length path + 1) plan.limits.depth) Depth s _ h)

    called-within : (destination : Destination) (calls : ℕ) (c : CallText) (s : State Bool) → s.steps ≤ n → Within pair_steps n (called (what destination) plan path inside calls c s).ending
    called-within destination calls c s h =
        within-given pair_steps n destination (values_of c.args s.env) s _ (λ vs. within-tested pair_steps n destination (nat_lt calls 256) Calls s _
        (within-then pair_steps pair_steps n (frame (what destination) plan path inside (calls + 1) callee vs s) _ (by_function vs callee) (λ p g. g)))
      where
        callee : Option Function
        callee = function_at (functions_of plan) (function_number (functions_of plan) c.name.bytes)

        by_function : (vs : List Value) (o : Option Function) → Within pair_steps n (frame (what destination) plan path inside (calls + 1) o vs s).ending
        by_function vs None = h
        by_function vs (Some f) = h

    right-within : (destination : Destination) (calls : ℕ) (r : Right) (s : State Bool) → s.steps ≤ n → Within pair_steps n (right_side (what destination) plan path inside calls r s).ending
    right-within destination calls (right.Value e) s h = within-given pair_steps n destination (value_of e s.env) s _ (λ v. h)
    right-within destination calls (right.Draw at) s h = h
    right-within destination calls (right.New at) s h = h
    right-within destination calls (right.Call at c) s h = called-within destination calls c s h
    right-within destination calls (right.Spawn at c) s h = spawn-within destination c s h

    looped-within : (destination : Destination) (lo : ℤ) (hi : ℕ) (vs : List Value) (target : Option Name) (c : CallText) (s : State Bool) → s.steps ≤ n → Within steps_of n (looped (what destination) plan path lo hi vs target c s).ending
    looped-within destination lo hi vs target c s h =
        within-tested steps_of n destination (nat_lt hi (s.steps + 1)) Budget s _ (within-tested steps_of n destination (has_room target hi s.env) Index _ _ (within-tested steps_of n destination (loop_fits plan path hi) Depth _ _ fewer))
      where
        fewer : s.steps - hi ≤ n
        fewer = omega arith

    does-within : (height : ℕ) (st : Stmt) (a : Act-F Act Stmt) (s : State Bool) → s.steps ≤ n → Within steps_of n (does (what (child_destination height a)) plan path inside height st a s).ending
    does-within height st (act.Let x r) s h = within-then pair_steps steps_of n (right_side (what (Spawned height (Some x))) plan path inside height r s) _ (right-within (Spawned height (Some x)) height r s h) (λ p g. g)
    does-within height st (act.Array x k) s h = h
    does-within height st (act.Set x r) s h = within-then pair_steps steps_of n (right_side (what (Spawned height (Some x))) plan path inside height r s) _ (right-within (Spawned height (Some x)) height r s h) (λ p g. g)
    does-within height st (act.Store x i e) s h =
        within-given steps_of n (Spawned height None) (value_of i s.env) s _ (λ k. by_item (at_index (items_of (content_of s.env x.bytes)) (as_integer k)) _ (within-given steps_of n (Spawned height None) (value_of e s.env) s _ (λ v. h)))
      where
        by_item : (o : Option ℤ) (r : Run Effect Exit (State Bool)) → Within steps_of n r.ending → Within steps_of n (found (what (Spawned height None)) plan path o s r).ending
        by_item None r g = tt
        by_item (Some old) r g = g
    does-within height st (act.Spawn c) s h = within-then pair_steps steps_of n (spawn (what (Spawned height None)) plan path c s) _ (spawn-within (Spawned height None) c s h) (λ p g. g)
    does-within height st (act.Call c) s h = within-then pair_steps steps_of n (called (what (Spawned height None)) plan path inside height c s) _ (called-within (Spawned height None) height c s h) (λ p g. g)
    does-within height st act.Sync s h = h
    does-within height st (act.Print e) s h = within-given steps_of n (Spawned height None) (value_of e s.env) s _ (λ v. h)
    does-within height st (act.If e a b) s h = within-given steps_of n (Spawned height None) (value_of e s.env) s _ (λ v. h)
    does-within height st (act.While e a) s h = within-given steps_of n (Spawned height None) (value_of e s.env) s _ (λ v. by_test (is_true v))
      where
        by_test : (t : Bool) → Within steps_of n (if t then (inside path height a s then inside path height (st ∷ [])) else done s).ending
        by_test true = h
        by_test false = h
    does-within height st (act.Pfor x lo hi target c) s h =
        within-given steps_of n (Looped target) (value_of lo s.env) s _ (λ l. within-given steps_of n (Looped target) (value_of hi s.env) s _ (λ k. within-given steps_of n (Looped target) (values_of c.args s.env) s _
        (λ vs. looped-within (Looped target) (as_integer l) (count_of (as_integer k -ℤ as_integer l)) vs target c s h)))
    does-within height st (act.Scope a) s h = within-tested steps_of n (Spawned height None) (nat_lt (length path + 1) plan.limits.depth) Depth s _ h

module _ (plan : PlanView) (path : List ℕ) where
  -- the ways out of all that is open
  abbrev open_in : Machine → ℕ
  open_in m = ways_out m.top + all_ways_out m.below

  record Enters (m k : Machine) (s : State Bool) : Type 0 where
    steps : k.steps ≡ s.steps
    deeper : open_in k ≤ open_in m + 2

  entered-falls : (m : Machine) (st : Stmt) (a : Act-F Act Stmt) (left inner : List Stmt) (s : State Bool) → Enters m (machine_inside plan st a left m inner s) s
  entered-falls m st (act.Let x (right.Value e)) left inner s = record { steps = refl; deeper = omega arith }
  entered-falls m st (act.Let x (right.Draw at)) left inner s = record { steps = refl; deeper = omega arith }
  entered-falls m st (act.Let x (right.New at)) left inner s = record { steps = refl; deeper = omega arith }
  entered-falls m st (act.Let x (right.Call at c)) left inner s = record { steps = refl; deeper = omega arith }
  entered-falls m st (act.Let x (right.Spawn at c)) left inner s = record { steps = refl; deeper = omega arith }
  entered-falls m st (act.Array x n) left inner s = record { steps = refl; deeper = omega arith }
  entered-falls m st (act.Set x (right.Value e)) left inner s = record { steps = refl; deeper = omega arith }
  entered-falls m st (act.Set x (right.Draw at)) left inner s = record { steps = refl; deeper = omega arith }
  entered-falls m st (act.Set x (right.New at)) left inner s = record { steps = refl; deeper = omega arith }
  entered-falls m st (act.Set x (right.Call at c)) left inner s = record { steps = refl; deeper = omega arith }
  entered-falls m st (act.Set x (right.Spawn at c)) left inner s = record { steps = refl; deeper = omega arith }
  entered-falls m st (act.Store x i e) left inner s = record { steps = refl; deeper = omega arith }
  entered-falls m st (act.Spawn c) left inner s = record { steps = refl; deeper = omega arith }
  entered-falls m st (act.Call c) left inner s = record { steps = refl; deeper = omega arith }
  entered-falls m st act.Sync left inner s = record { steps = refl; deeper = omega arith }
  entered-falls m st (act.Print e) left inner s = record { steps = refl; deeper = omega arith }
  entered-falls m st (act.If e a b) left inner s = record { steps = refl; deeper = omega arith }
  entered-falls m st (act.While e a) left inner s = record { steps = refl; deeper = omega arith }
  entered-falls m st (act.Pfor x lo hi target c) left inner s = record { steps = refl; deeper = omega arith }
  entered-falls m st (act.Scope a) left inner s = record { steps = refl; deeper = by_leaving m.top.leaving }
    where
      by_leaving : (b : Bool) → 2 * length (record { rank = m.rank; left = left } ∷ m.top.levels) - (if b then 1 else 0) + all_ways_out m.below ≤ 2 * length m.top.levels - (if b then 1 else 0) + all_ways_out m.below + 2
      by_leaving true = by_size (length m.top.levels)
        where
          by_size : (n : ℕ) → 2 * suc n - 1 + all_ways_out m.below ≤ 2 * n - 1 + all_ways_out m.below + 2
          by_size zero = omega arith
          by_size (suc n) = omega arith
      by_leaving false = omega arith

  statement-falls : (m : Machine) (st : Stmt) (left : List Stmt) → Falls m (statement_move plan path m st left).ending
  statement-falls m st left = by_steps m.steps refl
    where
      a : Act-F Act Stmt
      a = out-Act (out-Stmt st).act

      by_end : (n : ℕ) → m.steps ≡ suc n → (e : Result (State Bool) Exit) → Within steps_of n e → Falls m (reached plan (with_left m left) (machine_inside plan st a left m) e)
      by_end n h (Ok s) g = omega arith
      by_end n h (Err (Faulted f)) g = tt
      by_end n h (Err (Inside here calls inner s)) g = let e = entered-falls m st a left inner s in fewer (machine_inside plan st a left m inner s) e.steps e.deeper
        where
          fewer : (k : Machine) → k.steps ≡ s.steps → open_in k ≤ open_in m + 2 → moves_of k < moves_of m
          fewer k x y = omega arith

      by_steps : (n : ℕ) → m.steps ≡ n → Falls m (reached plan (with_left m left) (machine_inside plan st a left m) (paid_from (parallel plan (child_destination (length m.below) a)) plan (here_of path m) n (state_of m) (λ s. does (parallel plan (child_destination (length m.below) a)) plan (here_of path m) inside (length m.below) st a s)).ending)
      by_steps zero h = tt
      by_steps (suc n) h =
          let s : State Bool = record (state_of m) { steps = n } in
          by_end n h (does (parallel plan (child_destination (length m.below) a)) plan (here_of path m) inside (length m.below) st a s).ending (does-within plan (here_of path m) n (length m.below) st a s (omega arith))

  return-falls : (m : Machine) (returning : Bool) → Falls m (return_move plan path m returning).ending
  return-falls m false = by_steps m.steps refl
    where
      how : Interpretation Effect Exit Bool
      how = parallel plan (Spawned (length m.below) None)

      by_text : (n : ℕ) → m.steps ≡ suc n → (b : Bool) → Falls m (reached plan (with_returning m) (λ inner s. m) (implied how plan (here_of path m) b (record (state_of m) { steps = n })).ending)
      by_text n h true = omega arith
      by_text n h false = omega arith

      by_steps : (n : ℕ) → m.steps ≡ n → Falls m (reached plan (with_returning m) (λ inner s. m) (paid_from how plan (here_of path m) n (state_of m) (λ s. implied how plan (here_of path m) (spawns_in (function_at (functions_of plan) m.top.function)) s)).ending)
      by_steps zero h = tt
      by_steps (suc n) h = by_text n h (spawns_in (function_at (functions_of plan) m.top.function))
  return-falls m true = by_function (function_at (functions_of plan) m.top.function)
    where
      to_caller : (v : Value) (below : List Frame) → m.below ≡ below → Falls m (Ok (back_in_caller below m.top.target v m.rank m.steps))
      to_caller v [] h = tt
      to_caller v (caller ∷ below) h = rw h (omega arith)

      by_value : (f : Function) (o : Result Value FaultKind) → Falls m (gives plan m (unless_fault (parallel plan (Spawned (length m.below) None)) plan (here_of path m) o (state_of m) (λ v. done (v, state_of m))).ending)
      by_value f (Ok v) = to_caller v m.below refl
      by_value f (Err k) = tt

      by_function : (o : Option Function) → Falls m (gives plan m (value_run plan path o m).ending)
      by_function None = to_caller (Int (pos 0)) m.below refl
      by_function (Some f) = by_value f (value_of f.result m.top.env)

  level-falls : (m : Machine) (l : Level) (ls : List Level) → m.top.levels ≡ l ∷ ls → (leaving : Bool) → m.top.leaving ≡ leaving → Falls m (level_move plan path m l ls leaving).ending
  level-falls m l ls e false h =
      let n : length m.top.levels ≡ suc (length ls) = ap length e in
      let now : ◌≡◌ {A = ℕ} (if m.top.leaving then 1 else 0) 0 = ap (λ (b : Bool). if b then 1 else 0) h in omega (arith, n, now)
  level-falls m l ls e true h =
      let n : length m.top.levels ≡ suc (length ls) = ap length e in
      let now : ◌≡◌ {A = ℕ} (if m.top.leaving then 1 else 0) 1 = ap (λ (b : Bool). if b then 1 else 0) h in omega (arith, n, now)

  pub move-falls : (m : Machine) → Falls m (move plan path m).ending
  move-falls m = by_left m.top.left
    where
      by_levels : (ls : List Level) → m.top.levels ≡ ls → Falls m (end_move plan path m ls).ending
      by_levels [] e = return-falls m m.top.returning
      by_levels (l ∷ ls) e = level-falls m l ls e m.top.leaving refl

      by_left : (left : List Stmt) → Falls m (move_at plan path m left).ending
      by_left [] = by_levels m.top.levels refl
      by_left (st ∷ left) = statement-falls m st left
