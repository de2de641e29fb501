-- The children that a move of an instance begins: one at most, and deeper than the instance.
use Rattle.std.proofs.Common.{◌≡◌, ℕ, zero, suc, ◌+◌, ◌-◌, ◌≤◌, Bool, true, false, nat_lt, List, [], ◌∷◌, ◌++◌, Option, Some, None, Result, Ok, Err, length, length-append, append-nil, refl, sym, ap, ◌∙◌, subst, arith, if◌then◌else◌}
use Rattle.std.proofs.Common.{ℤ, ◌-ℤ◌}
use Rattle.std.proofs.lemmas.Bool.Decides.{nat_tests}
use Rattle.script_grammar.specs.declared.tree.Name.{Name}
use Rattle.script_grammar.specs.declared.tree.CallText.{CallText}
use Rattle.script_grammar.specs.declared.tree.Function.{Function}
use Rattle.script_grammar.specs.declared.tree.Right.{Right}
use Rattle.script_grammar.specs.declared.tree.Right.TheVariants as right
use Rattle.script_grammar.specs.declared.tree.Stmt.{Stmt, out-Stmt}
use Rattle.script_grammar.specs.declared.tree.Act.{Act, out-Act}
use Rattle.script_grammar.specs.declared.tree.Act.TheOpen as act
use Rattle.script_grammar.specs.declared.tree.Act.TheOpen.{Act-F}
use Rattle.serial_meaning.specs.Runs.{Run, done, continued, ◌then◌}
use Rattle.serial_meaning.specs.Values.{value_of, values_of, content_of, items_of, as_integer, is_true, at_index}
use Rattle.serial_meaning.specs.Functions.{function_number, function_at}
use Rattle.serial_meaning.specs.Plan.{PlanView, functions_of}
use Rattle.serial_meaning.specs.Exec.{State, Interpretation, strand, unless_fault, paid_from, tested, has_room, loop_fits, spawn, sync_here, implied, frame, called, right_side, found, looped, does, count_of}
use Rattle.serial_meaning.specs.Eval.{path_of}
use Rattle.serial_meaning.specs.Open.{is_zero}
use Rattle.serial_meaning.specs.declared.value.Value.{Value}
use Rattle.serial_meaning.specs.declared.event.FaultKind.{FaultKind}
use Rattle.serial_meaning.specs.declared.event.FaultKind.TheVariants.{Index, Depth, Calls, Budget}
use Rattle.serial_meaning.specs.declared.event.Fault.{Fault}
use Rattle.serial_meaning.specs.declared.event.Event.TheVariants as event
use Rattle.serial_meaning.specs.declared.origin.Origin.{Origin}
use Rattle.serial_meaning.specs.declared.origin.Origin.TheVariants as origin
use Rattle.script_check.specs.Spawns.{spawns_in}
use Rattle.strand_meaning.specs.Machine.{Destination, Spawned, Looped, Effect, Opens, Closes, Emitted, Starts, Syncs, Loops, Exit, Faulted, Inside, loop_effects, sync_effects, parallel, inside, child_destination, Level, Frame, Machine, Reached, Stands, Gives, here_of, state_of, with_left, with_leaving, with_returning, back_in_caller, machine_inside, reached, gives, return_run, value_run, return_move, level_move, end_move, move_at, move}
use Rattle.strand_meaning.proofs.SoundSteps.ChildrenFollowEvents.{here-below}

-- the children among these
abbrev pub children : List Effect → List Origin
children [] = []
children (Opens j ∷ ts) = children ts
children (Closes j ∷ ts) = children ts
children (Emitted e ∷ ts) = children ts
children (Starts o destination ∷ ts) = o ∷ children ts
children (Syncs ∷ ts) = children ts
children (Loops ∷ ts) = children ts

-- a child of an instance with this path, or of one that is at this present path, for which there is room below the depth
pub record IsDeeper (plan : PlanView) (path : List ℕ) (o : Origin) : Type 0 where
  pub longer : length path + 1 ≤ length (path_of o)
  pub fits : length (path_of o) ≤ plan.limits.depth

-- none, or one that is deeper
abbrev pub AtMostOne : PlanView → List ℕ → List Origin → Type 0
AtMostOne plan path [] = Unit {0}
AtMostOne plan path (o ∷ []) = IsDeeper plan path o
AtMostOne plan path (o ∷ p ∷ os) = ⊥

-- what a move begins: nothing where it leaves no machine
abbrev pub MoveStarts : PlanView → List ℕ → List Origin → Result Reached Fault → Type 0
MoveStarts plan path os (Ok (Stands m)) = AtMostOne plan path os
MoveStarts plan path os (Ok (Gives v)) = os ≡ []
MoveStarts plan path os (Err f) = os ≡ []

module _ (plan : PlanView) (path : List ℕ) where
  abbrev what : Destination → Interpretation Effect Exit Bool
  what destination = parallel plan destination

  -- a run that begins one child at most, and none where it ends by a fault
  abbrev StartsAt : {A : Type 0} → List Origin → Result A Exit → Type 0
  StartsAt os (Ok a) = AtMostOne plan path os
  StartsAt os (Err (Faulted f)) = os ≡ []
  StartsAt os (Err (Inside here calls inner s)) = AtMostOne plan path os

  abbrev StartsOut : {A : Type 0} → Run Effect Exit A → Type 0
  StartsOut r = StartsAt (children r.items) r.ending

  starts-then : {A B : Type 0} (r : Run Effect Exit A) (f : A → B) → StartsOut r → StartsOut (r then λ a. done (f a))
  starts-then {A = A} {B = B} r f h = from r.items r.ending h
    where
      from : (items : List Effect) (e : Result A Exit) → StartsAt (children items) e → StartsOut (continued items e (λ a. done (f a)))
      from items (Ok a) k = subst (λ ts. AtMostOne plan path (children ts)) (sym (append-nil items)) k
      from items (Err (Faulted x)) k = k
      from items (Err (Inside here calls inner s)) k = k

  starts-given : {A B : Type 0} (destination : Destination) (o : Result A FaultKind) (s : State Bool) (f : A → Run Effect Exit B) → ((a : A) → StartsOut (f a)) → StartsOut (unless_fault (what destination) plan path o s f)
  starts-given destination (Ok a) s f h = h a
  starts-given destination (Err k) s f h = refl

  starts-tested : {A : Type 0} (destination : Destination) (b : Bool) (k : FaultKind) (s : State Bool) (f : Run Effect Exit A) → (b ≡ true → StartsOut f) → StartsOut (tested (what destination) plan path b k s f)
  starts-tested destination true k s f h = h refl
  starts-tested destination false k s f h = refl

  starts-paid : {A : Type 0} (destination : Destination) (n : ℕ) (s : State Bool) (f : State Bool → Run Effect Exit A) → ((s : State Bool) → StartsOut (f s)) → StartsOut (paid_from (what destination) plan path n s f)
  starts-paid destination zero s f h = refl
  starts-paid destination (suc n) s f h = h (record s { steps = n })

  starts-sync : (destination : Destination) (s : State Bool) → StartsOut (sync_here (what destination) plan path s)
  starts-sync destination s = by_known s.spawned
    where
      by_known : (b : Bool) → AtMostOne plan path (children (Emitted (event.Sync (strand path s)) ∷ (sync_effects b ++ [])))
      by_known true = tt
      by_known false = tt

  one-longer : (r : ℕ) → length (path ++ r ∷ []) ≡ length path + 1
  one-longer r = simp length-append

  below-depth : (m n d : ℕ) → nat_lt m d ≡ true → n ≤ m → n ≤ d
  below-depth m n d h e = grind (arith, nat_tests)

  deeper : (o : Origin) (r m : ℕ) → path_of o ≡ path ++ r ∷ [] → length path + 1 ≤ m → nat_lt m plan.limits.depth ≡ true → IsDeeper plan path o
  deeper o r m e h k =
      let n : length (path_of o) ≡ length path + 1 = ap length e ∙ one-longer r in
      record { longer = omega (arith, n); fits = below-depth m (length (path_of o)) plan.limits.depth k (omega arith) }

  starts-spawn : (height : ℕ) (target : Option Name) (c : CallText) (s : State Bool) → StartsOut (spawn (what (Spawned height target)) plan path c s)
  starts-spawn height target c s =
      starts-given (Spawned height target) (values_of c.args s.env) s _ (λ vs. starts-tested (Spawned height target) (nat_lt (length path + 1) plan.limits.depth) Depth s _
      (λ h. deeper (origin.Instance (function_number (functions_of plan) c.name.bytes) vs (strand path s)) s.rank (length path + 1) refl (omega arith) h))

  starts-called : (destination : Destination) (calls : ℕ) (c : CallText) (s : State Bool) → StartsOut (called (what destination) plan path inside calls c s)
  starts-called destination calls c s =
      starts-given destination (values_of c.args s.env) s _ (λ vs. starts-tested destination (nat_lt calls 256) Calls s _ (λ h. starts-then (frame (what destination) plan path inside (calls + 1) (function_at (functions_of plan) (function_number (functions_of plan) c.name.bytes)) vs s) _
      (by_function vs (function_at (functions_of plan) (function_number (functions_of plan) c.name.bytes)))))
    where
      by_function : (vs : List Value) (o : Option Function) → StartsOut (frame (what destination) plan path inside (calls + 1) o vs s)
      by_function vs None = tt
      by_function vs (Some f) = tt

  starts-right : (height : ℕ) (target : Option Name) (calls : ℕ) (r : Right) (s : State Bool) → StartsOut (right_side (what (Spawned height target)) plan path inside calls r s)
  starts-right height target calls (right.Value e) s = starts-given (Spawned height target) (value_of e s.env) s _ (λ v. tt)
  starts-right height target calls (right.Draw at) s = tt
  starts-right height target calls (right.New at) s = tt
  starts-right height target calls (right.Call at c) s = starts-called (Spawned height target) calls c s
  starts-right height target calls (right.Spawn at c) s = starts-spawn height target c s

  starts-loop : (target : Option Name) (c : CallText) (lo : ℤ) (hi : ℕ) (vs : List Value) (s : State Bool) → StartsOut (looped (what (Looped target)) plan path lo hi vs target c s)
  starts-loop target c lo hi vs s =
      starts-tested destination (nat_lt hi (s.steps + 1)) Budget s _ (λ a. starts-tested destination (has_room target hi s.env) Index _ _ (λ b. starts-tested destination (loop_fits plan path hi) Depth _ _ (by_size hi)))
    where
      destination : Destination
      destination = Looped target

      loop_of : ℕ → Origin
      loop_of n = origin.Loop (function_number (functions_of plan) c.name.bytes) vs lo (path ++ s.rank ∷ []) (record { lo = 0; hi = n })

      by_empty : (n : ℕ) (b : Bool) → is_zero (n - 0) ≡ b → loop_fits plan path n ≡ true → AtMostOne plan path (children (loop_effects b (loop_of n) destination ++ []))
      by_empty n true e h = tt
      by_empty zero false e h = absurd (cc)
      by_empty (suc n) false e h = deeper (loop_of (suc n)) s.rank (length path + 2) refl (omega arith) h

      by_size : (n : ℕ) → loop_fits plan path n ≡ true → AtMostOne plan path (children (loop_effects (is_zero (n - 0)) (loop_of n) destination ++ []))
      by_size n h = by_empty n (is_zero (n - 0)) refl h

  starts-does : (height : ℕ) (st : Stmt) (a : Act-F Act Stmt) (s : State Bool) → StartsOut (does (what (child_destination height a)) plan path inside height st a s)
  starts-does height st (act.Let x r) s = starts-then (right_side (what (Spawned height (Some x))) plan path inside height r s) _ (starts-right height (Some x) height r s)
  starts-does height st (act.Array x n) s = tt
  starts-does height st (act.Set x r) s = starts-then (right_side (what (Spawned height (Some x))) plan path inside height r s) _ (starts-right height (Some x) height r s)
  starts-does height st (act.Store x i e) s =
      starts-given (Spawned height None) (value_of i s.env) s _ (λ k. by_item (at_index (items_of (content_of s.env x.bytes)) (as_integer k)) _ (starts-given (Spawned height None) (value_of e s.env) s _ (λ v. tt)))
    where
      by_item : (o : Option ℤ) (r : Run Effect Exit (State Bool)) → StartsOut r → StartsOut (found (what (Spawned height None)) plan path o s r)
      by_item None r h = refl
      by_item (Some old) r h = h
  starts-does height st (act.Spawn c) s = starts-then (spawn (what (Spawned height None)) plan path c s) _ (starts-spawn height None c s)
  starts-does height st (act.Call c) s = starts-then (called (what (Spawned height None)) plan path inside height c s) _ (starts-called (Spawned height None) height c s)
  starts-does height st act.Sync s = starts-sync (Spawned height None) s
  starts-does height st (act.Print e) s = starts-given (Spawned height None) (value_of e s.env) s _ (λ v. tt)
  starts-does height st (act.If e a b) s = starts-given (Spawned height None) (value_of e s.env) s _ (λ v. tt)
  starts-does height st (act.While e a) s = starts-given (Spawned height None) (value_of e s.env) s _ (λ v. by_test (is_true v))
    where
      by_test : (t : Bool) → StartsOut (if t then (inside path height a s then inside path height (st ∷ [])) else done s)
      by_test true = tt
      by_test false = tt
  starts-does height st (act.Scope a) s = starts-tested (Spawned height None) (nat_lt (length path + 1) plan.limits.depth) Depth s _ (λ h. tt)
  starts-does height st (act.Pfor x lo hi target c) s =
      starts-given (Looped target) (value_of lo s.env) s _ (λ l. starts-given (Looped target) (value_of hi s.env) s _ (λ h. starts-given (Looped target) (values_of c.args s.env) s _
      (λ vs. starts-loop target c (as_integer l) (count_of (as_integer h -ℤ as_integer l)) vs s)))

  -- a move, by what its run came to
  starts-reached : (os : List Origin) (into : State Bool → Machine) (inner : List Stmt → State Bool → Machine) (e : Result (State Bool) Exit) → StartsAt os e → MoveStarts plan path os (reached plan into inner e)
  starts-reached os into inner (Ok s) h = h
  starts-reached os into inner (Err (Faulted f)) h = h
  starts-reached os into inner (Err (Inside here calls sts s)) h = h

  starts-back : (below : List Frame) (target : Option Name) (v : Value) (rank steps : ℕ) → MoveStarts plan path [] (Ok (back_in_caller below target v rank steps))
  starts-back [] target v rank steps = refl
  starts-back (caller ∷ below) target v rank steps = tt

-- Of an instance with a shorter path it is a child as well.

less-deep : (plan : PlanView) (here path : List ℕ) → length path ≤ length here → (o : Origin) → IsDeeper plan here o → IsDeeper plan path o
less-deep plan here path l o d = record { longer = (let k = d.longer in omega (arith, k, l)); fits = d.fits }

one-less-deep : (plan : PlanView) (here path : List ℕ) → length path ≤ length here → (os : List Origin) → AtMostOne plan here os → AtMostOne plan path os
one-less-deep plan here path l [] h = tt
one-less-deep plan here path l (o ∷ []) h = less-deep plan here path l o h
one-less-deep plan here path l (o ∷ p ∷ os) h = h

starts-less-deep : (plan : PlanView) (here path : List ℕ) → length path ≤ length here → (os : List Origin) (e : Result Reached Fault) → MoveStarts plan here os e → MoveStarts plan path os e
starts-less-deep plan here path l os (Ok (Stands m)) h = one-less-deep plan here path l os h
starts-less-deep plan here path l os (Ok (Gives v)) h = h
starts-less-deep plan here path l os (Err f) h = h

module _ (plan : PlanView) (path : List ℕ) (m : Machine) where
  abbrev here : List ℕ
  here = here_of path m

  no-shorter : length path ≤ length here
  no-shorter = let b = here-below path m in let l : length here ≡ length path + length b.0 = ap length b.1 ∙ length-append path b.0 in omega (arith, l)

  abbrev StartsIn : Run Effect Fault Reached → Type 0
  StartsIn r = MoveStarts plan here (children r.items) r.ending

  by_returning : (b : Bool) → StartsIn (return_move plan path m b)
  by_returning false =
      starts-reached plan here (children (return_run plan path m).items) (with_returning m) (λ inner s. m) (return_run plan path m).ending
      (starts-paid plan here (Spawned (length m.below) None) m.steps (state_of m) _ (λ s. by_text (spawns_in (function_at (functions_of plan) m.top.function)) s))
    where
      by_text : (b : Bool) (s : State Bool) → StartsOut plan here (implied (parallel plan (Spawned (length m.below) None)) plan here b s)
      by_text true s = starts-sync plan here (Spawned (length m.below) None) s
      by_text false s = tt
  by_returning true = by_function (function_at (functions_of plan) m.top.function)
    where
      by_value : (f : Function) (o : Result Value FaultKind) →
          let r : Run Effect Exit (Value × State Bool) = unless_fault (parallel plan (Spawned (length m.below) None)) plan here o (state_of m) (λ v. done (v, state_of m)) in MoveStarts plan here (children r.items) (gives plan m r.ending)
      by_value f (Ok v) = starts-back plan here m.below m.top.target v m.rank m.steps
      by_value f (Err k) = refl

      by_function : (o : Option Function) → MoveStarts plan here (children (value_run plan path o m).items) (gives plan m (value_run plan path o m).ending)
      by_function None = starts-back plan here m.below m.top.target _ m.rank m.steps
      by_function (Some f) = by_value f (value_of f.result m.top.env)

  -- the end of a scope begins nothing
  by_leaving : (l : Level) (ls : List Level) (b : Bool) → StartsIn (level_move plan path m l ls b)
  by_leaving l ls false =
      let r = sync_here (parallel plan (Spawned (length m.below) None)) plan here (state_of m) in
      starts-reached plan here (children r.items) (with_leaving m) (λ inner s. m) r.ending (starts-sync plan here (Spawned (length m.below) None) (state_of m))
  by_leaving l ls true = tt

  by_levels : (ls : List Level) → StartsIn (end_move plan path m ls)
  by_levels [] = by_returning m.top.returning
  by_levels (l ∷ ls) = by_leaving l ls m.top.leaving

  by_left : (left : List Stmt) → StartsIn (move_at plan path m left)
  by_left [] = by_levels m.top.levels
  by_left (st ∷ left) =
      let a = out-Act (out-Stmt st).act in
      let r = starts-paid plan here (child_destination (length m.below) a) m.steps (state_of m) _ (λ s. starts-does plan here (length m.below) st a s) in starts-reached plan here _ (with_left m left) (machine_inside plan st a left m) _ r

  pub move_starts : MoveStarts plan path (children (move plan path m).items) (move plan path m).ending
  move_starts = starts-less-deep plan here path no-shorter (children (move plan path m).items) (move plan path m).ending (by_left m.top.left)
