-- A move keeps the unfilled variables of each frame in the set that validity has where it stands.
use Rattle.std.proofs.Common.{◌≡◌, ℕ, zero, suc, ◌+◌, ◌-◌, ◌<◌, ◌≤◌, Bool, true, false, ◌||◌, ◌⊎◌, nat_eq, nat_lt, List, [], ◌∷◌, ◌++◌, Option, Some, None, Result, Ok, Err, inl, inr, refl, sym, ap, ◌∙◌, if◌then◌else◌, length, append-nil, arith, subst}
use Rattle.std.proofs.Common.{ℤ, pos, ◌-ℤ◌}
use Rattle.std.specs.Prelude.{Contains}
use Rattle.std.specs.Str.{bytes_eq}
use Rattle.std.proofs.lemmas.Bool.{eqb-true}
use Rattle.std.proofs.lemmas.List.Elements.{Contains-append_cases, Contains-append_left, Contains-append_right}
use Rattle.script_grammar.specs.declared.tree.Name.{Name}
use Rattle.script_grammar.specs.declared.tree.Expr.{Expr}
use Rattle.script_grammar.specs.declared.tree.CallText.{CallText}
use Rattle.script_grammar.specs.declared.tree.Function.{Function}
use Rattle.script_grammar.specs.declared.tree.Right.{Right}
use Rattle.script_grammar.specs.declared.tree.Right.TheVariants as right
use Rattle.script_grammar.specs.declared.tree.Stmt.{Stmt}
use Rattle.script_grammar.specs.declared.tree.Act.{Act}
use Rattle.script_grammar.specs.declared.tree.Act.TheOpen as act
use Rattle.script_grammar.specs.declared.tree.Act.TheOpen.{Act-F}
use Rattle.script_check.specs.Names as check
use Rattle.script_check.specs.Names.{no_names, with_name, after_right}
use Rattle.script_check.specs.Statements.{judge}
use Rattle.serial_meaning.specs.Runs.{Run, done, happens, ◌then◌}
use Rattle.serial_meaning.specs.Names.{Names}
use Rattle.serial_meaning.specs.Values.{Env, value_of, values_of, content_of, items_of, as_integer, is_true, at_index}
use Rattle.serial_meaning.specs.Functions.{function_number, function_at}
use Rattle.serial_meaning.specs.Plan.{PlanView, functions_of}
use Rattle.serial_meaning.specs.Exec.{State, Interpretation, unless_fault, paid_from, tested, has_room, loop_fits, with_loop_values, spawn, sync_here, implied, frame, called, right_side, found, store, looped, does, count_of, bound}
use Rattle.serial_meaning.specs.Open.{is_empty_loop}
use Rattle.serial_meaning.specs.declared.value.Value.{Value}
use Rattle.serial_meaning.specs.declared.value.Value.TheVariants.{Int}
use Rattle.serial_meaning.specs.declared.event.FaultKind.{FaultKind}
use Rattle.serial_meaning.specs.declared.event.FaultKind.TheVariants.{Index, Depth, Calls, Budget}
use Rattle.serial_meaning.specs.declared.event.Fault.{Fault}
use Rattle.serial_meaning.specs.declared.event.Event.TheVariants as event
use Rattle.serial_meaning.specs.declared.origin.Origin.{Origin}
use Rattle.serial_meaning.specs.declared.origin.Origin.TheVariants as origin
use Rattle.strand_meaning.specs.Clear.{pending_right, target_names}
use Rattle.script_check.specs.Spawns.{spawns_in}
use Rattle.strand_meaning.specs.Machine.{Destination, Spawned, Looped, Effect, Emitted, Exit, loop_effects, sync_effects, parallel, inside, child_destination, Level, Frame, Machine, Reached, Stands, Gives, state_of, here_of, with_left, into_level, with_leaving, out_of_level, with_returning, with_scalar, back_in_caller, calling, machine_inside, reached, gives, value_run, statement_move, return_move, level_move, end_move, move_at, move}
use Rattle.strand_meaning.specs.Trace.{AwaitedChild}
use Rattle.strand_meaning.specs.Task.{Running, AtSync, stage_after}
use Rattle.strand_meaning.specs.Pending.{act_of, Then, Else, LoopBody, Here, FrameStandsAt, Outside, InScope, judged_by, ArePending, ArePendingStill, IsCall, IsSync, IsPfor}
use Rattle.strand_meaning.specs.Sound.{unfilled, any_by, IsSoundStage, ArePendingBelow, ArePendingAtSync, UnfilledArePending}
use Rattle.strand_meaning.proofs.Unfilled.RestAfterEffects.{effect_parts, same-number}
use Rattle.strand_meaning.proofs.Unfilled.Clears.{none-contained, unfilled-append, none-unfilled, none-above}
use Rattle.strand_meaning.proofs.Unfilled.Variables.{is-itself}
use Rattle.strand_meaning.proofs.ClearPlans.FreeNames.{single-name}
use Rattle.strand_meaning.proofs.Unfilled.SoundMoves.{same-unfilled}
use Rattle.strand_meaning.proofs.UnfilledPending.Standing.{names_after, after-as, at-within, StandsOn, stands-on, stands-in, stands-out}

clash : true ≡ false → ⊥
clash h = absurd (cc)

or-left : (a b : Bool) → a ≡ true → (a || b) ≡ true
or-left a b h = ap (λ c. c || b) h

or-right : (a b : Bool) → b ≡ true → (a || b) ≡ true
or-right true b h = refl
or-right false b h = h

abbrev AreIn : Names → check.NameSet → Type 0
AreIn names set = (name : List ℕ) → Contains names name → set name ≡ true

-- Other variables, in the same place

pub pending-fewer : (plan : PlanView) (names others : Names) (a : Frame) (left : List Stmt) → ((name : List ℕ) → Contains others name → Contains names name) → ArePending plan names a left → ArePending plan others a left
pending-fewer plan names others a left w p = record { function = p.function; of_plan = p.of_plan; now = p.now; stands = p.stands; pending = λ name h. p.pending name (w name h) }

pub still-fewer : (plan : PlanView) (names others : Names) (a : Frame) (IsSuch : Act-F Act Stmt → Type 0) → ((name : List ℕ) → Contains others name → Contains names name) → ArePendingStill plan names a IsSuch → ArePendingStill plan others a IsSuch
still-fewer plan names others a IsSuch w p = record { st = p.st; such = p.such; there = pending-fewer plan names others a (p.st ∷ a.left) w p.there }

pub below-fewer : (plan : PlanView) (ps qs : List AwaitedChild) (height : ℕ) → ((j : ℕ) → j < height → (name : List ℕ) → Contains (unfilled j qs) name → Contains (unfilled j ps) name) → (below : List Frame) → length below ≤ height →
    ArePendingBelow plan ps below → ArePendingBelow plan qs below
below-fewer plan ps qs height w [] h p = tt
below-fewer plan ps qs height w (caller ∷ below) h p = (
  still-fewer plan (unfilled (length below) ps) (unfilled (length below) qs) caller IsCall (w (length below) (omega arith)) p.0,
  below-fewer plan ps qs height w below (omega arith) p.1,
)

-- parts that are of no frame below change nothing there
below-more : (plan : PlanView) (ps qs : List AwaitedChild) (height : ℕ) → ((j : ℕ) → j < height → any_by j qs ≡ false) → (below : List Frame) → length below ≤ height → ArePendingBelow plan ps below → ArePendingBelow plan (ps ++ qs) below
below-more plan ps qs height none below h p = below-fewer plan ps (ps ++ qs) height (λ j k name c. subst (λ (l : Names). Contains l name) (sym (same-unfilled j ps qs (none j k))) c) below h p

-- A statement that its frame stood still at, and which kept all that was pending, is passed.
abbrev Keeps : (Act-F Act Stmt → Type 0) → Type 0
Keeps IsSuch = (d : Act-F Act Stmt) → IsSuch d → (set : check.NameSet) → check.IsWithin (judged_by d set) (names_after d set)

call-keeps : Keeps IsCall
call-keeps (act.Let x (right.Value e)) i set name h = absurd i
call-keeps (act.Let x (right.Draw at)) i set name h = absurd i
call-keeps (act.Let x (right.New at)) i set name h = absurd i
call-keeps (act.Let x (right.Call at c)) i set name h = h
call-keeps (act.Let x (right.Spawn at c)) i set name h = absurd i
call-keeps (act.Array x n) i set name h = absurd i
call-keeps (act.Set x (right.Value e)) i set name h = absurd i
call-keeps (act.Set x (right.Draw at)) i set name h = absurd i
call-keeps (act.Set x (right.New at)) i set name h = absurd i
call-keeps (act.Set x (right.Call at c)) i set name h = h
call-keeps (act.Set x (right.Spawn at c)) i set name h = absurd i
call-keeps (act.Store x j e) i set name h = absurd i
call-keeps (act.Spawn c) i set name h = absurd i
call-keeps (act.Call c) i set name h = h
call-keeps act.Sync i set name h = absurd i
call-keeps (act.Print e) i set name h = absurd i
call-keeps (act.If e a b) i set name h = absurd i
call-keeps (act.While e a) i set name h = absurd i
call-keeps (act.Pfor x lo hi target c) i set name h = absurd i
call-keeps (act.Scope a) i set name h = absurd i

still-passed : (plan : PlanView) (names : Names) (a : Frame) (IsSuch : Act-F Act Stmt → Type 0) → Keeps IsSuch → ArePendingStill plan names a IsSuch → ArePending plan names a a.left
still-passed plan names a IsSuch keeps p =
    let o = stands-on p.there.stands in record {
      function = p.there.function;
      of_plan = p.there.of_plan;
      now = o.now;
      stands = o.stands;
      pending = λ name h.
          o.all name (ap (λ (s : check.NameSet). s name) (after-as p.st (act_of p.st) refl p.there.now) ∙ keeps (act_of p.st) p.such p.there.now name (p.there.pending name h));
    }

-- where nothing is unfilled
pub still-left : (plan : PlanView) (a : Frame) (IsSuch : Act-F Act Stmt → Type 0) → ArePendingStill plan [] a IsSuch → ArePending plan [] a a.left
still-left plan a IsSuch p =
    let o = stands-on p.there.stands in record { function = p.there.function; of_plan = p.there.of_plan; now = o.now; stands = o.stands; pending = λ name h. absurd (none-contained name h) }

-- what holds after a move
abbrev pub PendingEnd : PlanView → List AwaitedChild → List Effect → Result Reached Fault → Type 0
PendingEnd plan parts ts (Ok (Stands k)) = UnfilledArePending plan (parts ++ effect_parts ts) (stage_after ts k)
PendingEnd plan parts ts (Ok (Gives v)) = Unit {0}
PendingEnd plan parts ts (Err f) = Unit {0}

module _ (plan : PlanView) (path : List ℕ) (parts : List AwaitedChild) (m : Machine) (st : Stmt) (left : List Stmt) (top-left : m.top.left ≡ st ∷ left) (sound : IsSoundStage plan parts (Running m)) (pends : UnfilledArePending plan parts (Running m)) where
  abbrev height : ℕ
  height = length m.below

  -- the present path
  abbrev now : List ℕ
  now = here_of path m

  abbrev pending : Names
  pending = unfilled height parts

  abbrev what : Destination → Interpretation Effect Exit Bool
  what destination = parallel plan destination

  no-parts : (T : List AwaitedChild → Type 0) → T parts → T (parts ++ [])
  no-parts T t = subst T (sym (append-nil parts)) t

  top : ArePending plan pending m.top (st ∷ left)
  top = subst (ArePending plan pending m.top) top-left pends.0

  abbrev set : check.NameSet
  set = top.now

  -- in what is left, all that is in the set after the statement
  passed : (names : Names) → AreIn names ((judge st).after set) → (s : State Bool) → ArePending plan names (with_left m left s).top left
  passed names w s =
      let o = stands-on top.stands in record { function = top.function; of_plan = top.of_plan; now = o.now; stands = o.stands; pending = λ name h. o.all name (w name h) }

  going : AreIn pending ((judge st).after set) → (s : State Bool) → UnfilledArePending plan (parts ++ []) (Running (with_left m left s))
  going w s = no-parts (λ ps. UnfilledArePending plan ps (Running (with_left m left s))) (passed pending w s, pends.1)

  -- the same, of which the rank and the steps say nothing
  calm : AreIn pending ((judge st).after set) → (env : Env) → UnfilledArePending plan (parts ++ []) (Running (with_left m left (record { env = env; rank = 0; steps = 0; spawned = m.top.spawned })))
  calm w env = going w (record { env = env; rank = 0; steps = 0; spawned = m.top.spawned })

  -- it stands still at the statement
  still : (names : Names) → ((name : List ℕ) → Contains names name → Contains pending name) → (IsSuch : Act-F Act Stmt → Type 0) → IsSuch (act_of st) → (s : State Bool) → ArePendingStill plan names (with_left m left s).top IsSuch
  still names w IsSuch such s = record {
    st = st;
    such = such;
    there = record { function = top.function; of_plan = top.of_plan; now = top.now; stands = top.stands; pending = λ name h. top.pending name (w name h) };
  }

  module _ (into : List Stmt → State Bool → Machine) where
    abbrev Fine : Run Effect Exit (State Bool) → Type 0
    Fine r = PendingEnd plan parts r.items (reached plan (with_left m left) into r.ending)

    fine-given : (destination : Destination) {A : Type 0} (o : Result A FaultKind) (s : State Bool) (f : A → Run Effect Exit (State Bool)) → ((a : A) → Fine (f a)) → Fine (unless_fault (what destination) plan now o s f)
    fine-given destination (Ok a) s f h = h a
    fine-given destination (Err k) s f h = tt

    fine-tested : (destination : Destination) (b : Bool) (k : FaultKind) (s : State Bool) (f : Run Effect Exit (State Bool)) → Fine f → Fine (tested (what destination) plan now b k s f)
    fine-tested destination true k s f h = h
    fine-tested destination false k s f h = tt

    fine-paid : (destination : Destination) (n : ℕ) (s : State Bool) (f : State Bool → Run Effect Exit (State Bool)) → ((k : ℕ) → Fine (f (record s { steps = k }))) → Fine (paid_from (what destination) plan now n s f)
    fine-paid destination zero s f h = tt
    fine-paid destination (suc n) s f h = h n

    abbrev here : ℕ → State Bool
    here n = record (state_of m) { steps = n }

    abbrev sets : Option Name → Value × State Bool → State Bool
    sets target p = record p.1 { env = with_scalar target p.0 p.1.env }

    -- a child of the innermost frame
    fine-spawn : (target : Option Name) (c : CallText) (n : ℕ) → AreIn (target_names target ++ pending) ((judge st).after set) → Fine (spawn (what (Spawned height target)) plan now c (here n) then λ p. done (sets target p))
    fine-spawn target c n w = by_args (values_of c.args m.top.env)
      where
        destination : Destination
        destination = Spawned height target

        child_run : List Value → Run Effect Exit (Value × State Bool)
        child_run vs =
            happens (Emitted (event.Spawn (now ++ m.rank ∷ []))) (here n) then λ s.
            (what destination).spawn (origin.Instance (function_number (functions_of plan) c.name.bytes) vs (now ++ m.rank ∷ [])) s.spawned then λ r.
            done (r.0, record s { rank = s.rank + 1; spawned = r.1 })

        more : List Value → List AwaitedChild
        more vs = record { child = origin.Instance (function_number (functions_of plan) c.name.bytes) vs (now ++ m.rank ∷ []); destination = destination; after = [] } ∷ []

        none-lower : (vs : List Value) (j : ℕ) → j < height → any_by j (more vs) ≡ false
        none-lower vs j h = ap (λ b. b || false) (not-same j h)
          where
            not-same : (j : ℕ) → j < height → nat_eq height j ≡ false
            not-same j h = from (nat_eq height j) refl
              where
                from : (b : Bool) → nat_eq height j ≡ b → b ≡ false
                from true e = let g : height ≡ j = eqb-true height j e in absurd (omega arith)
                from false e = refl

        within : (vs : List Value) (name : List ℕ) → Contains (unfilled height (parts ++ more vs)) name → Contains (target_names target ++ pending) name
        within vs name h = by_place (Contains-append_cases pending (unfilled height (more vs)) name (subst (λ (l : Names). Contains l name) (unfilled-append height parts (more vs)) h))
          where
            own : unfilled height (more vs) ≡ target_names target
            own = ap (λ b. (if b then target_names target else []) ++ []) (same-number height) ∙ append-nil (target_names target)

            by_place : Contains pending name ⊎ Contains (unfilled height (more vs)) name → Contains (target_names target ++ pending) name
            by_place (inl g) = Contains-append_right (target_names target) pending name g
            by_place (inr g) = Contains-append_left (target_names target) pending name (subst (λ (l : Names). Contains l name) own g)

        next : (vs : List Value) (env : Env) → UnfilledArePending plan (parts ++ more vs) (Running (with_left m left (record { env = env; rank = m.rank + 1; steps = n; spawned = true })))
        next vs env = (
          passed (unfilled height (parts ++ more vs)) (λ name h. w name (within vs name h)) (record { env = env; rank = m.rank + 1; steps = n; spawned = true }),
          below-more plan parts (more vs) height (none-lower vs) m.below (omega arith) pends.1,
        )

        by_test : (vs : List Value) (b : Bool) → Fine (tested (what destination) plan now b Depth (here n) (child_run vs) then λ p. done (sets target p))
        by_test vs true = next vs _
        by_test vs false = tt

        by_args : (o : Result (List Value) FaultKind) → Fine (unless_fault (what destination) plan now o (here n) (λ vs. tested (what destination) plan now (nat_lt (length now + 1) plan.limits.depth) Depth (here n) (child_run vs)) then λ p. done (sets target p))
        by_args (Ok vs) = by_test vs (nat_lt (length now + 1) plan.limits.depth)
        by_args (Err k) = tt

    -- a callee, over the frame that calls
    fine-call : (target : Option Name) (c : CallText) (n : ℕ) → ((inner : List Stmt) (s : State Bool) → into inner s ≡ calling plan target c left m inner s) → IsCall (act_of st) → AreIn pending ((judge st).after set) →
        Fine (called (what (Spawned height target)) plan now inside height c (here n) then λ p. done (sets target p))
    fine-call target c n enters is-call w = by_args (values_of c.args m.top.env)
      where
        destination : Destination
        destination = Spawned height target

        as_integer : ℕ
        as_integer = function_number (functions_of plan) c.name.bytes

        begins : Function → List Value → State Bool
        begins f vs = record { env = bound f.params vs; rank = m.rank; steps = n; spawned = false }

        none : unfilled (suc height) parts ≡ []
        none = none-unfilled (suc height) parts (none-above height parts sound.0)

        callee : (f : Function) (vs : List Value) → function_at (functions_of plan) as_integer ≡ Some f → UnfilledArePending plan parts (Running (calling plan target c left m f.body (begins f vs)))
        callee f vs e = (
          record { function = f; of_plan = e; now = no_names; stands = Outside Here; pending = λ name h. absurd (none-contained name (subst (λ (l : Names). Contains l name) none h)) },
          (still pending (λ name h. h) IsCall is-call (state_of m), pends.1),
        )

        by_function : (vs : List Value) (o : Option Function) → function_at (functions_of plan) as_integer ≡ o →
            Fine ((frame (what destination) plan now inside (height + 1) o vs (here n) then λ r. done (r.0, record (here n) { rank = r.1.rank; steps = r.1.steps })) then λ p. done (sets target p))
        by_function vs None e = calm w _
        by_function vs (Some f) e = no-parts (λ ps. UnfilledArePending plan ps (Running (into f.body (begins f vs)))) (subst (λ (k : Machine). UnfilledArePending plan parts (Running k)) (sym (enters f.body (begins f vs))) (callee f vs e))

        run : List Value → Run Effect Exit (Value × State Bool)
        run vs = frame (what destination) plan now inside (height + 1) (function_at (functions_of plan) as_integer) vs (here n) then λ r. done (r.0, record (here n) { rank = r.1.rank; steps = r.1.steps })

        by_test : (vs : List Value) (b : Bool) → Fine (tested (what destination) plan now b Calls (here n) (run vs) then λ p. done (sets target p))
        by_test vs true = by_function vs (function_at (functions_of plan) as_integer) refl
        by_test vs false = tt

        by_args : (o : Result (List Value) FaultKind) → Fine (unless_fault (what destination) plan now o (here n) (λ vs. tested (what destination) plan now (nat_lt height 256) Calls (here n) (run vs)) then λ p. done (sets target p))
        by_args (Ok vs) = by_test vs (nat_lt height 256)
        by_args (Err k) = tt

    -- what a right side does beside giving a value
    abbrev EntersBy : Name → Right → Type 0
    EntersBy x (right.Value e) = Unit {0}
    EntersBy x (right.Draw at) = Unit {0}
    EntersBy x (right.New at) = Unit {0}
    EntersBy x (right.Call at c) = IsCall (act_of st) × ((inner : List Stmt) (s : State Bool) → into inner s ≡ calling plan (Some x) c left m inner s)
    EntersBy x (right.Spawn at c) = Unit {0}

    fine-right : (x : Name) (r : Right) (n : ℕ) → EntersBy x r → AreIn (pending_right x r pending) ((judge st).after set) → Fine (right_side (what (Spawned height (Some x))) plan now inside height r (here n) then λ p. done (sets (Some x) p))
    fine-right x (right.Value e) n enters w = by_value (value_of e m.top.env)
      where
        by_value : (o : Result Value FaultKind) → Fine (unless_fault (what (Spawned height (Some x))) plan now o (here n) (λ v. done (v, here n)) then λ p. done (sets (Some x) p))
        by_value (Ok v) = calm w _
        by_value (Err k) = tt
    fine-right x (right.Draw at) n enters w = calm w _
    fine-right x (right.New at) n enters w = calm w _
    fine-right x (right.Call at c) n enters w = fine-call (Some x) c n enters.1 enters.0 w
    fine-right x (right.Spawn at c) n enters w = fine-spawn (Some x) c n w

    fine-store : (destination : Destination) (x : Name) (i e : Expr) (n : ℕ) → AreIn pending ((judge st).after set) → Fine (store (what destination) plan now x i e (here n))
    fine-store destination x i e n w =
        fine-given destination (value_of i m.top.env) (here n) _ (λ k. by_item (at_index (items_of (content_of m.top.env x.bytes)) (as_integer k)) _ (fine-given destination (value_of e m.top.env) (here n) _ (λ v. calm w _)))
      where
        by_item : (o : Option ℤ) (r : Run Effect Exit (State Bool)) → Fine r → Fine (found (what destination) plan now o (here n) r)
        by_item None r h = tt
        by_item (Some old) r h = h

    -- at a sync it stands still, or goes on where nothing is unfilled
    fine-sync : (n : ℕ) → IsSync (act_of st) → Fine (sync_here (what (Spawned height None)) plan now (here n))
    fine-sync n is-sync = by_spawned m.top.spawned refl
      where
        next : State Bool
        next = record { env = m.top.env; rank = m.rank + 1; steps = n; spawned = false }

        not-leaving : (b : Bool) → m.top.leaving ≡ b → b ≡ false
        not-leaving true h = let e : [] ≡ st ∷ left = sym (sound.1.leaving h).1 ∙ top-left in absurd (cc)
        not-leaving false h = refl

        not-returning : (b : Bool) → m.top.returning ≡ b → b ≡ false
        not-returning true h = let e : [] ≡ st ∷ left = sym (sound.1.returning h).1 ∙ top-left in absurd (cc)
        not-returning false h = refl

        neither : (m.top.leaving || m.top.returning) ≡ false
        neither = ap (λ b. b || m.top.returning) (not-leaving m.top.leaving refl) ∙ not-returning m.top.returning refl

        waits : UnfilledArePending plan parts (AtSync (with_left m left next))
        waits = (subst (ArePendingAtSync plan pending (with_left m left next).top) (sym neither) (still pending (λ name h. h) IsSync is-sync next), pends.1)

        nothing-by : (b : Bool) → any_by height parts ≡ b → m.top.spawned ≡ false → any_by height parts ≡ false
        nothing-by true e h = absurd (clash (sym (sound.1.spawned e) ∙ h))
        nothing-by false e h = e

        none : m.top.spawned ≡ false → AreIn pending ((judge st).after set)
        none h name c = absurd (none-contained name (subst (λ (l : Names). Contains l name) (none-unfilled height parts (nothing-by (any_by height parts) refl h)) c))

        by_spawned : (b : Bool) → m.top.spawned ≡ b → PendingEnd plan parts (Emitted (event.Sync (now ++ m.rank ∷ [])) ∷ (sync_effects b ++ [])) (Ok (Stands (with_left m left next)))
        by_spawned true h = no-parts (λ ps. UnfilledArePending plan ps (AtSync (with_left m left next))) waits
        by_spawned false h = going (none h) next

    fine-loop : (target : Option Name) (c : CallText) (lo : ℤ) (hi : ℕ) (vs : List Value) (n : ℕ) → IsPfor (act_of st) → AreIn pending ((judge st).after set) → Fine (looped (what (Looped target)) plan now lo hi vs target c (here n))
    fine-loop target c lo hi vs n is-pfor w =
        fine-tested destination (nat_lt hi (n + 1)) Budget (here n) _ (fine-tested destination (has_room target hi m.top.env) Index (here (n - hi)) _ (fine-tested destination (loop_fits plan now hi) Depth (here (n - hi)) _ (by_size (is_empty_loop o))))
      where
        destination : Destination
        destination = Looped target

        o : Origin
        o = origin.Loop (function_number (functions_of plan) c.name.bytes) vs lo (now ++ m.rank ∷ []) (record { lo = 0; hi = hi })

        next : State Bool
        next = record { env = with_loop_values target [] m.top.env; rank = m.rank + 1; steps = n - hi; spawned = m.top.spawned }

        more : List AwaitedChild
        more = record { child = o; destination = destination; after = [] } ∷ []

        by_size : (b : Bool) → PendingEnd plan parts (Emitted (event.Loop (now ++ m.rank ∷ [])) ∷ (loop_effects b o destination ++ [])) (Ok (Stands (with_left m left next)))
        by_size true = going w next
        by_size false = (
          still (unfilled height (parts ++ more)) (λ name h. subst (λ (l : Names). Contains l name) (sym (same-unfilled height parts more refl)) h) IsPfor is-pfor next,
          below-more plan parts more height (λ j h. refl) m.below (omega arith) pends.1,
        )

  abbrev run_of : (a : Act-F Act Stmt) → ℕ → Run Effect Exit (State Bool)
  run_of a n = does (what (child_destination height a)) plan now inside height st a (record (state_of m) { steps = n })

  abbrev PendingAct : Act-F Act Stmt → ℕ → Type 0
  PendingAct a n = PendingEnd plan parts (run_of a n).items (reached plan (with_left m left) (machine_inside plan st a left m) (run_of a n).ending)

  module _ (d : Act-F Act Stmt) (same : act_of st ≡ d) where
    -- by what the statement does
    judged : AreIn pending (judged_by d set)
    judged = subst (λ (c : Act-F Act Stmt). AreIn pending (judged_by c set)) same top.pending

    after-it : (names : Names) → AreIn names (names_after d set) → AreIn names ((judge st).after set)
    after-it names w name h = ap (λ (s : check.NameSet). s name) (after-as st d same set) ∙ w name h

    such : (IsSuch : Act-F Act Stmt → Type 0) → IsSuch d → IsSuch (act_of st)
    such IsSuch i = subst IsSuch (sym same) i

  right-in : (x : Name) (r : Right) → AreIn pending set → AreIn (pending_right x r pending) (after_right x r set)
  right-in x (right.Value e) w name h = w name h
  right-in x (right.Draw at) w name h = w name h
  right-in x (right.New at) w name h = w name h
  right-in x (right.Call at c) w name h = w name h
  right-in x (right.Spawn at c) w name h = from (Contains-append_cases (x.bytes ∷ []) pending name h)
    where
      from : Contains (x.bytes ∷ []) name ⊎ Contains pending name → with_name x.bytes set name ≡ true
      from (inl c) = or-left (bytes_eq x.bytes name) (set name) (ap (bytes_eq x.bytes) (sym (single-name x.bytes name c)) ∙ is-itself x.bytes)
      from (inr c) = or-right (bytes_eq x.bytes name) (set name) (w name c)

  block-pending : (block : List Stmt) (s : State Bool) → StandsOn top.function.body m.top.levels (block ++ left) set → AreIn pending set → UnfilledArePending plan (parts ++ []) (Running (with_left m (block ++ left) s))
  block-pending block s o w =
      no-parts (λ ps. UnfilledArePending plan ps (Running (with_left m (block ++ left) s))) (
        record { function = top.function; of_plan = top.of_plan; now = o.now; stands = o.stands; pending = λ name h. o.all name (w name h) },
        pends.1,
      )

  enters-let : (x : Name) (r : Right) → act_of st ≡ act.Let x r → EntersBy (machine_inside plan st (act.Let x r) left m) x r
  enters-let x (right.Value e) same = tt
  enters-let x (right.Draw at) same = tt
  enters-let x (right.New at) same = tt
  enters-let x (right.Call at c) same = (such (act.Let x (right.Call at c)) same IsCall tt, λ inner s. refl)
  enters-let x (right.Spawn at c) same = tt

  enters-set : (x : Name) (r : Right) → act_of st ≡ act.Set x r → EntersBy (machine_inside plan st (act.Set x r) left m) x r
  enters-set x (right.Value e) same = tt
  enters-set x (right.Draw at) same = tt
  enters-set x (right.New at) same = tt
  enters-set x (right.Call at c) same = (such (act.Set x (right.Call at c)) same IsCall tt, λ inner s. refl)
  enters-set x (right.Spawn at c) same = tt

  by_act : (d : Act-F Act Stmt) → act_of st ≡ d → (n : ℕ) → PendingAct d n
  by_act (act.Let x r) same n =
      fine-right (machine_inside plan st (act.Let x r) left m) x r n (enters-let x r same) (after-it (act.Let x r) same (pending_right x r pending) (right-in x r (judged (act.Let x r) same)))
  by_act (act.Array x k) same n = calm (after-it (act.Array x k) same pending (judged (act.Array x k) same)) _
  by_act (act.Set x r) same n =
      fine-right (machine_inside plan st (act.Set x r) left m) x r n (enters-set x r same) (after-it (act.Set x r) same (pending_right x r pending) (right-in x r (judged (act.Set x r) same)))
  by_act (act.Store x k e) same n = fine-store (machine_inside plan st (act.Store x k e) left m) (Spawned height None) x k e n (after-it (act.Store x k e) same pending (judged (act.Store x k e) same))
  by_act (act.Spawn c) same n = fine-spawn (machine_inside plan st (act.Spawn c) left m) None c n (after-it (act.Spawn c) same pending (judged (act.Spawn c) same))
  by_act (act.Call c) same n =
      fine-call (machine_inside plan st (act.Call c) left m) None c n (λ inner s. refl) (such (act.Call c) same IsCall tt) (after-it (act.Call c) same pending (judged (act.Call c) same))
  by_act act.Sync same n = fine-sync (machine_inside plan st act.Sync left m) n (such act.Sync same IsSync tt)
  by_act (act.Print e) same n =
      fine-given (machine_inside plan st (act.Print e) left m) (Spawned height None) (value_of e m.top.env) _ _ (λ v. calm (after-it (act.Print e) same pending (judged (act.Print e) same)) _)
  by_act (act.If e a b) same n = fine-given (machine_inside plan st (act.If e a b) left m) (Spawned height None) (value_of e m.top.env) _ _ (λ v. by_test (is_true v))
    where
      s : State Bool
      s = record (state_of m) { steps = n }

      by_test : (t : Bool) → UnfilledArePending plan (parts ++ []) (Running (with_left m ((if t then a else b) ++ left) s))
      by_test true = block-pending a s (stands-in top.stands a (Then e a b same)) (judged (act.If e a b) same)
      by_test false = block-pending b s (stands-in top.stands b (Else e a b same)) (judged (act.If e a b) same)
  by_act (act.While e a) same n = fine-given (machine_inside plan st (act.While e a) left m) (Spawned height None) (value_of e m.top.env) _ _ (λ v. by_test (is_true v))
    where
      s : State Bool
      s = record (state_of m) { steps = n }

      turn : UnfilledArePending plan (parts ++ []) (Running (with_left m (a ++ st ∷ left) s))
      turn =
          let o = stands-in top.stands a (LoopBody e a same) in
          no-parts (λ ps. UnfilledArePending plan ps (Running (with_left m (a ++ st ∷ left) s))) (
            record { function = top.function; of_plan = top.of_plan; now = o.now; stands = o.stands; pending = λ name h. o.all name (judged (act.While e a) same name h) },
            pends.1,
          )

      by_test : (t : Bool) → Fine (machine_inside plan st (act.While e a) left m) (if t then (inside now height a s then inside now height (st ∷ [])) else done s)
      by_test true = turn
      by_test false = calm (after-it (act.While e a) same pending (judged (act.While e a) same)) _
  by_act (act.Pfor x lo hi target c) same n =
      let into = machine_inside plan st (act.Pfor x lo hi target c) left m in
      fine-given into (Looped target) (value_of lo m.top.env) _ _ (λ l. fine-given into (Looped target) (value_of hi m.top.env) _ _ (λ h. fine-given into (Looped target) (values_of c.args m.top.env) _ _
      (λ vs. fine-loop into target c (as_integer l) (count_of (as_integer h -ℤ as_integer l)) vs n (such (act.Pfor x lo hi target c) same IsPfor tt) (after-it (act.Pfor x lo hi target c) same pending (judged (act.Pfor x lo hi target c) same)))))
  by_act (act.Scope a) same n =
      fine-tested (machine_inside plan st (act.Scope a) left m) (Spawned height None) (nat_lt (length now + 1) plan.limits.depth) Depth (record (state_of m) { steps = n }) _
      (no-parts (λ ps. UnfilledArePending plan ps (Running (into_level m left a s))) (
        record {
          function = top.function;
          of_plan = top.of_plan;
          now = set;
          stands = InScope top.stands same Here;
          pending = λ name h. at-within a set name (judged (act.Scope a) same name h);
        },
        pends.1,
      ))
    where
      s : State Bool
      s = record (state_of m) { rank = 0; steps = n }

  statement-pending : PendingEnd plan parts (statement_move plan path m st left).items (statement_move plan path m st left).ending
  statement-pending = fine-paid (machine_inside plan st (act_of st) left m) (child_destination height (act_of st)) m.steps (state_of m) _ (λ n. by_act (act_of st) refl n)

module _ (plan : PlanView) (path : List ℕ) (parts : List AwaitedChild) where
  no-more : (T : List AwaitedChild → Type 0) → T parts → T (parts ++ [])
  no-more T t = subst T (sym (append-nil parts)) t

  -- at the end of its statements
  at-end : (m : Machine) (k : Machine) (names : Names) → k.top.function ≡ m.top.function → k.top.levels ≡ m.top.levels → ArePending plan names m.top [] → ArePending plan names k.top []
  at-end m k names f l p = record {
    function = p.function;
    of_plan = ap (function_at (functions_of plan)) f ∙ p.of_plan;
    now = p.now;
    stands = subst (λ (ls : List Level). FrameStandsAt p.function.body ls [] p.now) (sym l) p.stands;
    pending = p.pending;
  }

  -- the step of a return and its sync
  return-pending : (m : Machine) → m.top.left ≡ [] → UnfilledArePending plan parts (Running m) → PendingEnd plan parts (return_move plan path m false).items (return_move plan path m false).ending
  return-pending m ended pends = by_steps m.steps
    where
      how : Interpretation Effect Exit Bool
      how = parallel plan (Spawned (length m.below) None)

      finished : Run Effect Exit (State Bool) → Type 0
      finished r = PendingEnd plan parts r.items (reached plan (with_returning m) (λ inner s. m) r.ending)

      top : ArePending plan (unfilled (length m.below) parts) m.top []
      top = subst (ArePending plan (unfilled (length m.below) parts) m.top) ended pends.0

      or-true : (a : Bool) → (a || true) ≡ true
      or-true true = refl
      or-true false = refl

      going : (s : State Bool) → UnfilledArePending plan (parts ++ []) (Running (with_returning m s))
      going s =
          let a : Frame = (with_returning m s).top in
          no-more (λ ps. UnfilledArePending plan ps (Running (with_returning m s))) (
            subst (ArePending plan (unfilled (length m.below) parts) a) (sym ended) (at-end m (with_returning m s) (unfilled (length m.below) parts) refl refl top),
            pends.1,
          )

      waiting : (s : State Bool) → UnfilledArePending plan (parts ++ []) (AtSync (with_returning m s))
      waiting s =
          let a : Frame = (with_returning m s).top in
          no-more (λ ps. UnfilledArePending plan ps (AtSync (with_returning m s))) (
            subst (ArePendingAtSync plan (unfilled (length m.below) parts) a) (sym (or-true m.top.leaving)) (ended, at-end m (with_returning m s) (unfilled (length m.below) parts) refl refl top),
            pends.1,
          )

      by_spawned : (n : ℕ) (b : Bool) → PendingEnd plan parts (Emitted (event.Sync (here_of path m ++ m.rank ∷ [])) ∷ (sync_effects b ++ [])) (Ok (Stands (with_returning m (record { env = m.top.env; rank = m.rank + 1; steps = n; spawned = false }))))
      by_spawned n true = waiting (record { env = m.top.env; rank = m.rank + 1; steps = n; spawned = false })
      by_spawned n false = going (record { env = m.top.env; rank = m.rank + 1; steps = n; spawned = false })

      by_text : (n : ℕ) (b : Bool) → finished (implied how plan (here_of path m) b (record (state_of m) { steps = n }))
      by_text n true = by_spawned n m.top.spawned
      by_text n false = going (record (state_of m) { steps = n })

      by_steps : (n : ℕ) → finished (paid_from how plan (here_of path m) n (state_of m) (λ s. implied how plan (here_of path m) (spawns_in (function_at (functions_of plan) m.top.function)) s))
      by_steps zero = tt
      by_steps (suc n) = by_text n (spawns_in (function_at (functions_of plan) m.top.function))

  -- the value of a return, which goes to the frame that stood still at its call
  value-pending : (m : Machine) → UnfilledArePending plan parts (Running m) → PendingEnd plan parts (return_move plan path m true).items (return_move plan path m true).ending
  value-pending m pends = by_function (function_at (functions_of plan) m.top.function)
    where
      to_caller : (v : Value) (below : List Frame) → ArePendingBelow plan parts below → PendingEnd plan parts [] (Ok (back_in_caller below m.top.target v m.rank m.steps))
      to_caller v [] s = tt
      to_caller v (caller ∷ below) s =
          let k : Machine = record { rank = m.rank; steps = m.steps; top = record caller { env = with_scalar m.top.target v caller.env }; below = below } in
          no-more (λ ps. UnfilledArePending plan ps (Running k)) (same-destination (still-passed plan (unfilled (length below) parts) caller IsCall call-keeps s.0), s.1)
        where
          same-destination : ArePending plan (unfilled (length below) parts) caller caller.left → ArePending plan (unfilled (length below) parts) (record caller { env = with_scalar m.top.target v caller.env }) caller.left
          same-destination p = record { function = p.function; of_plan = p.of_plan; now = p.now; stands = p.stands; pending = p.pending }

      by_value : (o : Result Value FaultKind) →
          let r : Run Effect Exit (Value × State Bool) = unless_fault (parallel plan (Spawned (length m.below) None)) plan (here_of path m) o (state_of m) (λ v. done (v, state_of m)) in PendingEnd plan parts r.items (gives plan m r.ending)
      by_value (Ok v) = to_caller v m.below pends.1
      by_value (Err k) = tt

      by_function : (o : Option Function) → PendingEnd plan parts (value_run plan path o m).items (gives plan m (value_run plan path o m).ending)
      by_function None = to_caller (Int (pos 0)) m.below pends.1
      by_function (Some f) = by_value (value_of f.result m.top.env)

  -- the end of a scope
  level-pending : (m : Machine) (l : Level) (ls : List Level) → m.top.left ≡ [] → m.top.levels ≡ l ∷ ls → IsSoundStage plan parts (Running m) → UnfilledArePending plan parts (Running m) → (leaving : Bool) → m.top.leaving ≡ leaving →
      PendingEnd plan parts (level_move plan path m l ls leaving).items (level_move plan path m l ls leaving).ending
  level-pending m l ls ended open_so sound pends leaving f = by_leaving leaving f
    where
      next : State Bool
      next = record { env = m.top.env; rank = m.rank + 1; steps = m.steps; spawned = false }

      top : ArePending plan (unfilled (length m.below) parts) m.top []
      top = subst (ArePending plan (unfilled (length m.below) parts) m.top) ended pends.0

      there : ArePending plan (unfilled (length m.below) parts) (with_leaving m next).top []
      there = at-end m (with_leaving m next) (unfilled (length m.below) parts) refl refl top

      going : UnfilledArePending plan (parts ++ []) (Running (with_leaving m next))
      going = no-more (λ ps. UnfilledArePending plan ps (Running (with_leaving m next))) (subst (ArePending plan (unfilled (length m.below) parts) (with_leaving m next).top) (sym ended) there, pends.1)

      waiting : UnfilledArePending plan (parts ++ []) (AtSync (with_leaving m next))
      waiting = no-more (λ ps. UnfilledArePending plan ps (AtSync (with_leaving m next))) ((ended, there), pends.1)

      by_spawned : (b : Bool) → PendingEnd plan parts (Emitted (event.Sync (here_of path m ++ m.rank ∷ [])) ∷ (sync_effects b ++ [])) (Ok (Stands (with_leaving m next)))
      by_spawned true = waiting
      by_spawned false = going

      -- after it nothing is unfilled
      none : m.top.spawned ≡ false → unfilled (length m.below) parts ≡ []
      none g = none-unfilled (length m.below) parts (from (any_by (length m.below) parts) refl)
        where
          from : (b : Bool) → any_by (length m.below) parts ≡ b → b ≡ false
          from true e = absurd (clash (sym (sound.1.spawned e) ∙ g))
          from false e = refl

      out : m.top.spawned ≡ false → UnfilledArePending plan (parts ++ []) (Running (out_of_level m l ls (record (state_of m) { rank = l.rank + 1 })))
      out g =
          let s = stands-out (subst (λ (k : List Level). FrameStandsAt top.function.body k [] top.now) open_so top.stands) in
          no-more (λ ps. UnfilledArePending plan ps (Running (out_of_level m l ls (record (state_of m) { rank = l.rank + 1 })))) (
            record { function = top.function; of_plan = top.of_plan; now = s.0; stands = s.1; pending = λ name h. absurd (none-contained name (subst (λ (names : Names). Contains names name) (none g) h)) },
            pends.1,
          )

      by_leaving : (b : Bool) → m.top.leaving ≡ b → PendingEnd plan parts (level_move plan path m l ls b).items (level_move plan path m l ls b).ending
      by_leaving false h = by_spawned m.top.spawned
      by_leaving true h = out (sound.1.leaving h).0

  -- A move keeps them there.
  pub pending-move : (m : Machine) → IsSoundStage plan parts (Running m) → UnfilledArePending plan parts (Running m) → PendingEnd plan parts (move plan path m).items (move plan path m).ending
  pending-move m sound pends = by_left m.top.left refl
    where
      by_returning : m.top.left ≡ [] → (b : Bool) → PendingEnd plan parts (return_move plan path m b).items (return_move plan path m b).ending
      by_returning h false = return-pending m h pends
      by_returning h true = value-pending m pends

      by_levels : m.top.left ≡ [] → (ls : List Level) → m.top.levels ≡ ls → PendingEnd plan parts (end_move plan path m ls).items (end_move plan path m ls).ending
      by_levels h [] g = by_returning h m.top.returning
      by_levels h (l ∷ ls) g = level-pending m l ls h g sound pends m.top.leaving refl

      by_left : (left : List Stmt) → m.top.left ≡ left → PendingEnd plan parts (move_at plan path m left).items (move_at plan path m left).ending
      by_left (st ∷ left) h = statement-pending plan path parts m st left h sound pends
      by_left [] h = by_levels h m.top.levels refl
