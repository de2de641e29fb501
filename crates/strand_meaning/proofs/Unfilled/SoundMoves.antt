-- A move keeps what holds of the stage of an instance.
use Rattle.std.proofs.Common.{◌≡◌, ℕ, zero, suc, ◌+◌, ◌-◌, ◌<◌, ◌≤◌, Bool, true, false, ◌||◌, ◌⊎◌, nat_eq, nat_lt, List, [], ◌∷◌, ◌++◌, Option, Some, None, Result, Ok, Err, inl, inr, refl, sym, ap, ◌∙◌, if◌then◌else◌, length, get_or, append-nil, arith, subst, slice_get}
use Rattle.std.proofs.Common.{ℤ, pos, ◌-ℤ◌}
use Rattle.std.specs.Prelude.{Contains}
use Rattle.std.proofs.lemmas.Bool.{eqb-true, eq-eqb}
use Rattle.std.proofs.lemmas.List.Elements.{Contains-append_cases, Contains-append_left, Contains-append_right}
use Rattle.std.proofs.lemmas.Option.{slice_get_within, get_or_from_slice_get}
use Rattle.script_grammar.specs.declared.tree.Name.{Name}
use Rattle.script_grammar.specs.declared.tree.Expr.{Expr}
use Rattle.script_grammar.specs.declared.tree.CallText.{CallText}
use Rattle.script_grammar.specs.declared.tree.Function.{Function}
use Rattle.script_grammar.specs.declared.tree.Right.{Right}
use Rattle.script_grammar.specs.declared.tree.Right.TheVariants as right
use Rattle.script_grammar.specs.declared.tree.Stmt.{Stmt, out-Stmt}
use Rattle.script_grammar.specs.declared.tree.Act.{Act, out-Act, map-Act}
use Rattle.script_grammar.specs.declared.tree.Act.TheOpen as act
use Rattle.script_grammar.specs.declared.tree.Act.TheOpen.{Act-F}
use Rattle.serial_meaning.specs.Runs.{Run, done, happens, ◌then◌}
use Rattle.serial_meaning.specs.Names.{Names}
use Rattle.serial_meaning.specs.Values.{Env, value_of, values_of, content_of, items_of, as_integer, is_true, at_index}
use Rattle.serial_meaning.specs.Functions.{function_number, function_at, act_spawns, spawns, any_spawns, any_true}
use Rattle.serial_meaning.specs.Plan.{PlanView, functions_of}
use Rattle.serial_meaning.specs.Exec.{State, Interpretation, fault, unless_fault, paid_from, tested, has_room, loop_fits, with_loop_values, spawn, sync_here, implied, frame, called, right_side, found, store, looped, does, count_of, bound}
use Rattle.serial_meaning.specs.Open.{is_empty_loop}
use Rattle.serial_meaning.proofs.Equations.Computing.{act_has_spawn, spawns-out}
use Rattle.serial_meaning.specs.declared.value.Value.{Value}
use Rattle.serial_meaning.specs.declared.value.Value.TheVariants.{Int}
use Rattle.serial_meaning.specs.declared.event.FaultKind.{FaultKind}
use Rattle.serial_meaning.specs.declared.event.FaultKind.TheVariants.{Index, Depth, Calls, Budget}
use Rattle.serial_meaning.specs.declared.event.Fault.{Fault}
use Rattle.serial_meaning.specs.declared.event.Event.TheVariants as event
use Rattle.serial_meaning.specs.declared.origin.Origin.{Origin}
use Rattle.serial_meaning.specs.declared.origin.Origin.TheVariants as origin
use Rattle.strand_meaning.specs.Clear.{IsWithin, IsApart, IsClear, Simple, Branches, Repetitions, Levels, IsSimple, touched, pending_right, pending_after, target_names, IsClearPlan}
use Rattle.script_check.specs.Spawns.{spawns_in}
use Rattle.strand_meaning.specs.Machine.{Destination, Spawned, Looped, Half, Effect, Emitted, Exit, loop_effects, sync_effects, parallel, inside, child_destination, Level, Frame, Machine, Reached, Stands, Gives, state_of, here_of, with_left, into_level, with_leaving, out_of_level, with_returning, with_scalar, back_in_caller, calling, machine_inside, reached, gives, value_run, statement_move, return_move, level_move, end_move, move_at, move}
use Rattle.strand_meaning.specs.Trace.{AwaitedChild}
use Rattle.strand_meaning.specs.Task.{changed, frame_with_answer, Running, AtSync, stage_after}
use Rattle.strand_meaning.specs.Sound.{unfilled, is_by, any_by, AreSoundLevels, IsSound, AreSound, IsDestination, AreDestinations, IsHalf, AreHalves, after_sync, IsSoundStage}
use Rattle.strand_meaning.proofs.Unfilled.RestAfterEffects.{effect_parts, same-number}
use Rattle.strand_meaning.proofs.Unfilled.UntouchedStays.{first-contained, later-contained}
use Rattle.strand_meaning.specs.Laws.{changed_run}
use Rattle.strand_meaning.proofs.Unfilled.MovesBeforeAnswers.{take-move, shape_of, IsFreePlace, AreFree}
use Rattle.strand_meaning.proofs.Unfilled.Clears.{within-itself, none-contained, nothing-within, clear-within, clear-append, next-apart, unfilled-append, or-assoc, any-append, or-false, neither, none-unfilled, none-above, target-unfilled}

clash : true ≡ false → ⊥
clash h = absurd (cc)

-- The next move is free of what is unfilled.
pub sound-free : (plan : PlanView) (parts : List AwaitedChild) (m : Machine) → IsSoundStage plan parts (Running m) → AreFree parts (shape_of m)
sound-free plan parts m sound = from parts (λ p c. c) sound.0
  where
    from : (ps : List AwaitedChild) → ((p : AwaitedChild) → Contains ps p → Contains parts p) → AreDestinations (length m.below) ps → AreFree ps (shape_of m)
    from [] h places = tt
    from (p ∷ ps) h places = (by_place p.destination refl places.0, from ps (λ q c. h q (later-contained p q ps c)) places.1)
      where
        by_place : (destination : Destination) → p.destination ≡ destination → IsDestination (length m.below) destination → IsFreePlace (shape_of m) destination
        by_place (Looped target) e inside = tt
        by_place Half e inside = tt
        by_place (Spawned owner target) e inside = (inside, touches, closes, comes m.top.target m.below sound.2)
          where
            mine : (height : ℕ) → owner ≡ height → IsWithin (target_names target) (unfilled height parts)
            mine height g = target-unfilled height owner target parts p (h p (first-contained p ps)) e g

            touches : owner ≡ length m.below → (st : Stmt) (left : List Stmt) → m.top.left ≡ st ∷ left → IsApart (touched (out-Act (out-Stmt st).act)) (target_names target)
            touches g st left f name c d =
                let clear : IsClear (unfilled (length m.below) parts) (st ∷ left) sound.1.clear.0 = subst (λ (l : List Stmt). IsClear (unfilled (length m.below) parts) l sound.1.clear.0) f sound.1.clear.1 in
                next-apart clear name c (mine (length m.below) g name d)

            closes : owner ≡ length m.below → m.top.left ≡ [] → m.top.returning ≡ false
            closes g f = by_end m.top.returning refl
              where
                by_end : (b : Bool) → m.top.returning ≡ b → b ≡ false
                by_end false k = refl
                by_end true k =
                    absurd (clash (sym (sound.1.spawned (any-of parts p (h p (first-contained p ps)) (ap (is_by (length m.below)) e ∙ ap (λ (n : ℕ). nat_eq owner n) (sym g) ∙ same-number owner))) ∙ (sound.1.returning k).0))
                  where
                    any-of : (qs : List AwaitedChild) (q : AwaitedChild) → Contains qs q → is_by (length m.below) q.destination ≡ true → any_by (length m.below) qs ≡ true
                    any-of [] q c t = absurd (omega (arith, c.1))
                    any-of (r ∷ qs) q c t = by_index c.0 c.1 c.2 (λ d. any-of qs q d t)
                      where
                        or-true : (a : Bool) → (a || true) ≡ true
                        or-true true = refl
                        or-true false = refl

                        by_index : (i : ℕ) → i < length (r ∷ qs) → get_or (r ∷ qs) i q ≡ q → (Contains qs q → any_by (length m.below) qs ≡ true) → any_by (length m.below) (r ∷ qs) ≡ true
                        by_index zero d f later = ap (λ (s : AwaitedChild). is_by (length m.below) s.destination || any_by (length m.below) qs) f ∙ ap (λ (b : Bool). b || any_by (length m.below) qs) t
                        by_index (suc i) d f later = ap (λ (b : Bool). is_by (length m.below) r.destination || b) (later (i, omega arith, f)) ∙ or-true (is_by (length m.below) r.destination)

            comes : (to : Option Name) (below : List Frame) → AreSound plan parts to below → suc owner ≡ length below → IsApart (target_names to) (target_names target)
            comes to [] s g name c d = absurd (omega arith)
            comes to (caller ∷ below) s g name c d = s.0 name c (mine (length below) (omega arith) name d)

contained-at : {X : Type 0} (xs : List X) (i : ℕ) (x : X) → slice_get xs i ≡ Some x → Contains xs x
contained-at xs i x h = (i, slice_get_within xs i x h, get_or_from_slice_get xs i x x h)

-- Parts that are of no frame below change nothing there

pub sound-as : (plan : PlanView) (ps qs : List AwaitedChild) (height : ℕ) (a : Frame) → unfilled height ps ≡ unfilled height qs → any_by height qs ≡ any_by height ps → IsSound plan ps height a → IsSound plan qs height a
sound-as plan ps qs height a names any s = record {
  clear = (s.clear.0, subst (λ (l : Names). IsClear l a.left s.clear.0) names s.clear.1);
  spawned = λ e. s.spawned (sym any ∙ e);
  faulted = s.faulted;
  in_text = s.in_text;
  left_in_text = s.left_in_text;
  levels = s.levels;
  leaving = s.leaving;
  returning = s.returning;
}

pub same-unfilled : (height : ℕ) (ps qs : List AwaitedChild) → any_by height qs ≡ false → unfilled height ps ≡ unfilled height (ps ++ qs)
same-unfilled height ps qs h = sym (unfilled-append height ps qs ∙ ap (λ l. unfilled height ps ++ l) (none-unfilled height qs h) ∙ append-nil (unfilled height ps))

same-any : (height : ℕ) (ps qs : List AwaitedChild) → any_by height qs ≡ false → any_by height (ps ++ qs) ≡ any_by height ps
same-any height ps qs h = any-append height ps qs ∙ ap (λ b. any_by height ps || b) h ∙ or-false (any_by height ps)

sound-more : (plan : PlanView) (ps qs : List AwaitedChild) (height : ℕ) → ((j : ℕ) → j < height → any_by j qs ≡ false) → (target : Option Name) (below : List Frame) → length below ≤ height →
    AreSound plan ps target below → AreSound plan (ps ++ qs) target below
sound-more plan ps qs height none target [] h s = tt
sound-more plan ps qs height none target (caller ∷ below) h s =
    let n = none (length below) (omega arith) in (
      subst (λ (l : Names). IsApart (target_names target) l) (same-unfilled (length below) ps qs n) s.0,
      sound-as plan ps (ps ++ qs) (length below) caller (same-unfilled (length below) ps qs n) (same-any (length below) ps qs n) s.1,
      sound-more plan ps qs height none caller.target below (omega arith) s.2,
    )

places-more : (height : ℕ) (ps qs : List AwaitedChild) → AreDestinations height ps → AreDestinations height qs → AreDestinations height (ps ++ qs)
places-more height [] qs h k = k
places-more height (p ∷ ps) qs h k = (h.0, places-more height ps qs h.1 k)

places-higher : (height : ℕ) (ps : List AwaitedChild) → AreDestinations height ps → AreDestinations (suc height) ps
places-higher height [] h = tt
places-higher height (p ∷ ps) h = (first p.destination h.0, places-higher height ps h.1)
  where
    first : (destination : Destination) → IsDestination height destination → IsDestination (suc height) destination
    first (Spawned owner target) g = omega arith
    first (Looped target) g = g
    first Half g = g

places-lower : (height : ℕ) (ps : List AwaitedChild) → any_by (suc height) ps ≡ false → AreDestinations (suc height) ps → AreDestinations height ps
places-lower height [] n h = tt
places-lower height (p ∷ ps) n h = let k = neither (is_by (suc height) p.destination) (any_by (suc height) ps) n in (first p.destination k.0 h.0, places-lower height ps k.1 h.1)
  where
    first : (destination : Destination) → is_by (suc height) destination ≡ false → IsDestination (suc height) destination → IsDestination height destination
    first (Spawned owner target) e g = grind (arith, e, g, eq-eqb owner (suc height))
    first (Looped target) e g = g
    first Half e g = g

only-halves : (ps : List AwaitedChild) → any_by 0 ps ≡ false → AreDestinations 0 ps → AreHalves ps
only-halves [] n h = tt
only-halves (p ∷ ps) n h = let k = neither (is_by 0 p.destination) (any_by 0 ps) n in (first p.destination k.0 h.0, only-halves ps k.1 h.1)
  where
    first : (destination : Destination) → is_by 0 destination ≡ false → IsDestination 0 destination → IsHalf destination
    first (Spawned owner target) e g = absurd (clash (sym (eq-eqb owner 0 (omega arith)) ∙ e))
    first (Looped target) e g = absurd g
    first Half e g = tt

any-true-append : (xs ys : List Bool) → any_true (xs ++ ys) ≡ (any_true xs || any_true ys)
any-true-append [] ys = refl
any-true-append (true ∷ xs) ys = refl
any-true-append (false ∷ xs) ys = any-true-append xs ys

any-spawns-append : (xs ys : List Stmt) → any_spawns (xs ++ ys) ≡ (any_spawns xs || any_spawns ys)
any-spawns-append [] ys = refl
any-spawns-append (x ∷ xs) ys = ap (λ b. spawns x || b) (any-spawns-append xs ys) ∙ or-assoc (spawns x) (any_spawns xs) (any_spawns ys)

either : (a b : Bool) {T : Type 0} → (a ≡ true → T) → (b ≡ true → T) → (a || b) ≡ true → T
either true b f g h = f refl
either false b f g h = g h

or-right : (a : Bool) → (a || true) ≡ true
or-right true = refl
or-right false = refl

-- what holds after a move
abbrev pub SoundEnd : PlanView → List AwaitedChild → List Effect → Result Reached Fault → Type 0
SoundEnd plan parts ts (Ok (Stands k)) = IsSoundStage plan (parts ++ effect_parts ts) (stage_after ts k)
SoundEnd plan parts ts (Ok (Gives v)) = (effect_parts ts ≡ []) × AreHalves parts
SoundEnd plan parts ts (Err f) = (effect_parts ts ≡ []) × (height : ℕ) × AreDestinations height parts

module _ (plan : PlanView) (path : List ℕ) (clear-plan : IsClearPlan plan) (parts : List AwaitedChild) (m : Machine) (st : Stmt) (left : List Stmt) (top-left : m.top.left ≡ st ∷ left) (sound : IsSoundStage plan parts (Running m)) where
  abbrev height : ℕ
  height = length m.below

  -- the present path
  abbrev now : List ℕ
  now = here_of path m

  abbrev pending : Names
  pending = unfilled height parts

  abbrev InText : Type 0
  InText = spawns_in (function_at (functions_of plan) m.top.function) ≡ true

  abbrev what : Destination → Interpretation Effect Exit Bool
  what destination = parallel plan destination

  no-parts : (T : List AwaitedChild → Type 0) → T parts → T (parts ++ [])
  no-parts T t = subst T (sym (append-nil parts)) t

  not-returning : m.top.returning ≡ true → ⊥
  not-returning h = let e : [] ≡ st ∷ left = sym (sound.1.returning h).1 ∙ top-left in absurd (cc)

  not-leaving : m.top.leaving ≡ true → ⊥
  not-leaving h = let e : [] ≡ st ∷ left = sym (sound.1.leaving h).1 ∙ top-left in absurd (cc)

  text-left : any_spawns (st ∷ left) ≡ true → InText
  text-left h = sound.1.left_in_text (ap any_spawns top-left ∙ h)

  text-more : any_spawns left ≡ true → InText
  text-more h = text-left (ap (λ b. spawns st || b) h ∙ or-right (spawns st))

  -- the innermost frame with other statements left
  top-sound : (more : List Stmt) (s : State Bool) (ends : Names) → s.spawned ≡ m.top.spawned → IsClear pending more ends → (any_spawns more ≡ true → InText) → IsSound plan parts height (with_left m more s).top
  top-sound more s ends same clear text = record {
    clear = (ends, clear);
    spawned = λ e. same ∙ sound.1.spawned e;
    faulted = λ e. sound.1.faulted (sym same ∙ e);
    in_text = λ e. sound.1.in_text (sym same ∙ e);
    left_in_text = text;
    levels = sound.1.levels;
    leaving = λ e. absurd (not-leaving e);
    returning = λ e. absurd (not-returning e);
  }

  going : (more : List Stmt) (s : State Bool) (ends : Names) → s.spawned ≡ m.top.spawned → IsClear pending more ends → (any_spawns more ≡ true → InText) → IsSoundStage plan (parts ++ []) (Running (with_left m more s))
  going more s ends same clear text = no-parts (λ ps. IsSoundStage plan ps (Running (with_left m more s))) (sound.0, top-sound more s ends same clear text, sound.2)

  -- the same, of which the rank and the steps say nothing
  calm : (more : List Stmt) (env : Env) (ends : Names) → IsClear pending more ends → (any_spawns more ≡ true → InText) → IsSoundStage plan (parts ++ []) (Running (with_left m more (record { env = env; rank = 0; steps = 0; spawned = m.top.spawned })))
  calm more env ends clear text = going more (record { env = env; rank = 0; steps = 0; spawned = m.top.spawned }) ends refl clear text

  module _ (into : List Stmt → State Bool → Machine) (ends : Names) where
    abbrev Fine : Run Effect Exit (State Bool) → Type 0
    Fine r = SoundEnd plan parts r.items (reached plan (with_left m left) into r.ending)

    fine-fault : (destination : Destination) (kind : FaultKind) (s : State Bool) → Fine (fault (what destination) plan now kind s)
    fine-fault destination kind s = (refl, height, sound.0)

    fine-given : (destination : Destination) {A : Type 0} (o : Result A FaultKind) (s : State Bool) (f : A → Run Effect Exit (State Bool)) → ((a : A) → Fine (f a)) → Fine (unless_fault (what destination) plan now o s f)
    fine-given destination (Ok a) s f h = h a
    fine-given destination (Err k) s f h = fine-fault destination k s

    fine-tested : (destination : Destination) (b : Bool) (k : FaultKind) (s : State Bool) (f : Run Effect Exit (State Bool)) → Fine f → Fine (tested (what destination) plan now b k s f)
    fine-tested destination true k s f h = h
    fine-tested destination false k s f h = fine-fault destination k s

    fine-paid : (destination : Destination) (n : ℕ) (s : State Bool) (f : State Bool → Run Effect Exit (State Bool)) → ((k : ℕ) → Fine (f (record s { steps = k }))) → Fine (paid_from (what destination) plan now n s f)
    fine-paid destination zero s f h = fine-fault destination Budget s
    fine-paid destination (suc n) s f h = h n

    abbrev here : ℕ → State Bool
    here n = record (state_of m) { steps = n }

    abbrev sets : Option Name → Value × State Bool → State Bool
    sets target p = record p.1 { env = with_scalar target p.0 p.1.env }

    -- a child of the innermost frame
    fine-spawn : (target : Option Name) (c : CallText) (n : ℕ) → IsClear (target_names target ++ pending) left ends → InText → Fine (spawn (what (Spawned height target)) plan now c (here n) then λ p. done (sets target p))
    fine-spawn target c n clear text = by_args (values_of c.args m.top.env)
      where
        destination : Destination
        destination = Spawned height target

        child_run : List Value → Run Effect Exit (Value × State Bool)
        child_run vs =
            happens (Emitted (event.Spawn (now ++ m.rank ∷ []))) (here n) then λ s.
            (what destination).spawn (origin.Instance (function_number (functions_of plan) c.name.bytes) vs (now ++ m.rank ∷ [])) s.spawned then λ r.
            done (r.0, record s { rank = s.rank + 1; spawned = r.1 })

        more : List Value → List AwaitedChild
        more vs = record { child = origin.Instance (function_number (functions_of plan) c.name.bytes) vs (now ++ m.rank ∷ []); destination = destination; after = [] } ∷ []

        none-lower : (vs : List Value) (j : ℕ) → j < height → any_by j (more vs) ≡ false
        none-lower vs j h = ap (λ b. b || false) (not-same j h)
          where
            not-same : (j : ℕ) → j < height → nat_eq height j ≡ false
            not-same j h = from (nat_eq height j) refl
              where
                from : (b : Bool) → nat_eq height j ≡ b → b ≡ false
                from true e = let g : height ≡ j = eqb-true height j e in absurd (omega arith)
                from false e = refl

        within : (vs : List Value) → IsWithin (unfilled height (parts ++ more vs)) (target_names target ++ pending)
        within vs name h = by_place (Contains-append_cases pending (unfilled height (more vs)) name (subst (λ (l : Names). Contains l name) (unfilled-append height parts (more vs)) h))
          where
            own : unfilled height (more vs) ≡ target_names target
            own = ap (λ b. (if b then target_names target else []) ++ []) (same-number height) ∙ append-nil (target_names target)

            by_place : Contains pending name ⊎ Contains (unfilled height (more vs)) name → Contains (target_names target ++ pending) name
            by_place (inl g) = Contains-append_right (target_names target) pending name g
            by_place (inr g) = Contains-append_left (target_names target) pending name (subst (λ (l : Names). Contains l name) own g)

        next : (vs : List Value) (env : Env) → IsSoundStage plan (parts ++ more vs) (Running (with_left m left (record { env = env; rank = m.rank + 1; steps = n; spawned = true })))
        next vs env = (
          places-more height parts (more vs) sound.0 (omega arith, tt),
          record {
            clear = (ends, clear-within (unfilled height (parts ++ more vs)) (target_names target ++ pending) (within vs) clear);
            spawned = λ e. refl;
            faulted = λ e. absurd (clash e);
            in_text = λ e. text;
            left_in_text = text-more;
            levels = sound.1.levels;
            leaving = λ e. absurd (not-leaving e);
            returning = λ e. absurd (not-returning e);
          },
          sound-more plan parts (more vs) height (none-lower vs) m.top.target m.below (omega arith) sound.2,
        )

        by_test : (vs : List Value) (b : Bool) → Fine (tested (what destination) plan now b Depth (here n) (child_run vs) then λ p. done (sets target p))
        by_test vs true = next vs _
        by_test vs false = (refl, height, sound.0)

        by_args : (o : Result (List Value) FaultKind) → Fine (unless_fault (what destination) plan now o (here n) (λ vs. tested (what destination) plan now (nat_lt (length now + 1) plan.limits.depth) Depth (here n) (child_run vs)) then λ p. done (sets target p))
        by_args (Ok vs) = by_test vs (nat_lt (length now + 1) plan.limits.depth)
        by_args (Err k) = (refl, height, sound.0)

    -- a callee, over the frame that calls
    fine-call : (target : Option Name) (c : CallText) (n : ℕ) → ((inner : List Stmt) (s : State Bool) → into inner s ≡ calling plan target c left m inner s) → IsClear pending left ends → IsApart (target_names target) pending →
        Fine (called (what (Spawned height target)) plan now inside height c (here n) then λ p. done (sets target p))
    fine-call target c n enters clear apart = by_args (values_of c.args m.top.env)
      where
        destination : Destination
        destination = Spawned height target

        as_integer : ℕ
        as_integer = function_number (functions_of plan) c.name.bytes

        begins : Function → List Value → State Bool
        begins f vs = record { env = bound f.params vs; rank = m.rank; steps = n; spawned = false }

        none : any_by (suc height) parts ≡ false
        none = none-above height parts sound.0

        callee : (f : Function) (vs : List Value) → function_at (functions_of plan) as_integer ≡ Some f → IsSoundStage plan parts (Running (calling plan target c left m f.body (begins f vs)))
        callee f vs e =
            let clear-body = clear-plan f (contained-at (functions_of plan) as_integer f e) in (
              places-higher height parts sound.0,
              record {
                clear = (clear-body.0, subst (λ (l : Names). IsClear l f.body clear-body.0) (sym (none-unfilled (suc height) parts none)) clear-body.1);
                spawned = λ h. absurd (clash (sym h ∙ none));
                faulted = λ h. refl;
                in_text = λ h. absurd (clash (sym h));
                left_in_text = λ h. ap spawns_in e ∙ h;
                levels = tt;
                leaving = λ h. absurd (clash (sym h));
                returning = λ h. absurd (clash (sym h));
              },
              (apart, top-sound left (state_of m) ends refl clear text-more, sound.2),
            )

        by_function : (vs : List Value) (o : Option Function) → function_at (functions_of plan) as_integer ≡ o →
            Fine ((frame (what destination) plan now inside (height + 1) o vs (here n) then λ r. done (r.0, record (here n) { rank = r.1.rank; steps = r.1.steps })) then λ p. done (sets target p))
        by_function vs None e = calm left _ ends clear text-more
        by_function vs (Some f) e = no-parts (λ ps. IsSoundStage plan ps (Running (into f.body (begins f vs)))) (subst (λ (k : Machine). IsSoundStage plan parts (Running k)) (sym (enters f.body (begins f vs))) (callee f vs e))

        run : List Value → Run Effect Exit (Value × State Bool)
        run vs = frame (what destination) plan now inside (height + 1) (function_at (functions_of plan) as_integer) vs (here n) then λ r. done (r.0, record (here n) { rank = r.1.rank; steps = r.1.steps })

        by_test : (vs : List Value) (b : Bool) → Fine (tested (what destination) plan now b Calls (here n) (run vs) then λ p. done (sets target p))
        by_test vs true = by_function vs (function_at (functions_of plan) as_integer) refl
        by_test vs false = (refl, height, sound.0)

        by_args : (o : Result (List Value) FaultKind) → Fine (unless_fault (what destination) plan now o (here n) (λ vs. tested (what destination) plan now (nat_lt height 256) Calls (here n) (run vs)) then λ p. done (sets target p))
        by_args (Ok vs) = by_test vs (nat_lt height 256)
        by_args (Err k) = (refl, height, sound.0)

    abbrev EntersBy : Name → Right → Type 0
    EntersBy x (right.Value e) = Unit {0}
    EntersBy x (right.Draw at) = Unit {0}
    EntersBy x (right.New at) = Unit {0}
    EntersBy x (right.Call at c) = (inner : List Stmt) (s : State Bool) → into inner s ≡ calling plan (Some x) c left m inner s
    EntersBy x (right.Spawn at c) = Unit {0}

    abbrev SpawnsIn : Right → Type 0
    SpawnsIn (right.Value e) = Unit {0}
    SpawnsIn (right.Draw at) = Unit {0}
    SpawnsIn (right.New at) = Unit {0}
    SpawnsIn (right.Call at c) = Unit {0}
    SpawnsIn (right.Spawn at c) = InText

    fine-right : (x : Name) (r : Right) (n : ℕ) → EntersBy x r → SpawnsIn r → IsApart (x.bytes ∷ []) pending → IsClear (pending_right x r pending) left ends →
        Fine (right_side (what (Spawned height (Some x))) plan now inside height r (here n) then λ p. done (sets (Some x) p))
    fine-right x (right.Value e) n enters text apart clear = by_value (value_of e m.top.env)
      where
        by_value : (o : Result Value FaultKind) → Fine (unless_fault (what (Spawned height (Some x))) plan now o (here n) (λ v. done (v, here n)) then λ p. done (sets (Some x) p))
        by_value (Ok v) = calm left _ ends clear text-more
        by_value (Err k) = (refl, height, sound.0)
    fine-right x (right.Draw at) n enters text apart clear = calm left _ ends clear text-more
    fine-right x (right.New at) n enters text apart clear = calm left _ ends clear text-more
    fine-right x (right.Call at c) n enters text apart clear = fine-call (Some x) c n enters clear apart
    fine-right x (right.Spawn at c) n enters text apart clear = fine-spawn (Some x) c n clear text

    fine-store : (destination : Destination) (x : Name) (i e : Expr) (n : ℕ) → IsClear pending left ends → Fine (store (what destination) plan now x i e (here n))
    fine-store destination x i e n clear =
        fine-given destination (value_of i m.top.env) (here n) _ (λ k. by_item (at_index (items_of (content_of m.top.env x.bytes)) (as_integer k)) _ (fine-given destination (value_of e m.top.env) (here n) _ (λ v. calm left _ ends clear text-more)))
      where
        by_item : (o : Option ℤ) (r : Run Effect Exit (State Bool)) → Fine r → Fine (found (what destination) plan now o (here n) r)
        by_item None r h = (refl, height, sound.0)
        by_item (Some old) r h = h

    -- after a sync nothing is pending
    fine-sync : (n : ℕ) → IsClear [] left ends → Fine (sync_here (what (Spawned height None)) plan now (here n))
    fine-sync n clear = by_spawned m.top.spawned refl
      where
        next : State Bool
        next = record { env = m.top.env; rank = m.rank + 1; steps = n; spawned = false }

        after-it : IsSound plan [] height (after_sync (with_left m left next).top)
        after-it = record {
          clear = (ends, clear);
          spawned = λ e. absurd (clash (sym e));
          faulted = λ e. refl;
          in_text = λ e. absurd (clash (sym e));
          left_in_text = text-more;
          levels = sound.1.levels;
          leaving = λ e. absurd (not-leaving e);
          returning = λ e. absurd (not-returning e);
        }

        nothing-by : (b : Bool) → any_by height parts ≡ b → m.top.spawned ≡ false → any_by height parts ≡ false
        nothing-by true e h = absurd (clash (sym (sound.1.spawned e) ∙ h))
        nothing-by false e h = e

        by_spawned : (b : Bool) → m.top.spawned ≡ b → SoundEnd plan parts (Emitted (event.Sync (now ++ m.rank ∷ [])) ∷ (sync_effects b ++ [])) (Ok (Stands (with_left m left next)))
        by_spawned true h = no-parts (λ ps. IsSoundStage plan ps (AtSync (with_left m left next))) (sound.0, after-it, sound.2)
        by_spawned false h = going left next ends (sym h) (subst (λ (l : Names). IsClear l left ends) (sym (none-unfilled height parts (nothing-by (any_by height parts) refl h))) clear) text-more

    fine-loop : (target : Option Name) (c : CallText) (lo : ℤ) (hi : ℕ) (vs : List Value) (n : ℕ) → IsClear pending left ends → Fine (looped (what (Looped target)) plan now lo hi vs target c (here n))
    fine-loop target c lo hi vs n clear =
        fine-tested destination (nat_lt hi (n + 1)) Budget (here n) _ (fine-tested destination (has_room target hi m.top.env) Index (here (n - hi)) _ (fine-tested destination (loop_fits plan now hi) Depth (here (n - hi)) _ (by_size (is_empty_loop o))))
      where
        destination : Destination
        destination = Looped target

        o : Origin
        o = origin.Loop (function_number (functions_of plan) c.name.bytes) vs lo (now ++ m.rank ∷ []) (record { lo = 0; hi = hi })

        next : State Bool
        next = record { env = with_loop_values target [] m.top.env; rank = m.rank + 1; steps = n - hi; spawned = m.top.spawned }

        more : List AwaitedChild
        more = record { child = o; destination = destination; after = [] } ∷ []

        by_size : (b : Bool) → SoundEnd plan parts (Emitted (event.Loop (now ++ m.rank ∷ [])) ∷ (loop_effects b o destination ++ [])) (Ok (Stands (with_left m left next)))
        by_size true = going left next ends refl clear text-more
        by_size false = (
          sound-as plan parts (parts ++ more) height (with_left m left next).top (same-unfilled height parts more refl) (same-any height parts more refl) (top-sound left next ends refl clear text-more),
          sound-more plan parts more height (λ j h. refl) m.top.target m.below (omega arith) sound.2,
        )

  first-within : (x : List ℕ) (names : Names) → IsApart (x ∷ names) pending → IsApart (x ∷ []) pending
  first-within x names apart name h g = apart name (Contains-append_left (x ∷ []) names name h) g

  abbrev run_of : (a : Act-F Act Stmt) → ℕ → Run Effect Exit (State Bool)
  run_of a n = does (what (child_destination height a)) plan now inside height st a (record (state_of m) { steps = n })

  abbrev FineAct : Act-F Act Stmt → ℕ → Type 0
  FineAct a n = SoundEnd plan parts (run_of a n).items (reached plan (with_left m left) (machine_inside plan st a left m) (run_of a n).ending)

  abbrev Text : Act-F Act Stmt → Type 0
  Text a = act_spawns (map-Act Act Stmt Bool Bool act_has_spawn spawns a) ≡ true → InText

  enters-let : (x : Name) (r : Right) (ends : Names) → EntersBy (machine_inside plan st (act.Let x r) left m) ends x r
  enters-let x (right.Value e) ends = tt
  enters-let x (right.Draw at) ends = tt
  enters-let x (right.New at) ends = tt
  enters-let x (right.Call at c) ends = λ inner s. refl
  enters-let x (right.Spawn at c) ends = tt

  enters-set : (x : Name) (r : Right) (ends : Names) → EntersBy (machine_inside plan st (act.Set x r) left m) ends x r
  enters-set x (right.Value e) ends = tt
  enters-set x (right.Draw at) ends = tt
  enters-set x (right.New at) ends = tt
  enters-set x (right.Call at c) ends = λ inner s. refl
  enters-set x (right.Spawn at c) ends = tt

  text-let : (into : List Stmt → State Bool → Machine) (ends : Names) (x : Name) (r : Right) → Text (act.Let x r) → SpawnsIn into ends r
  text-let into ends x (right.Value e) text = tt
  text-let into ends x (right.Draw at) text = tt
  text-let into ends x (right.New at) text = tt
  text-let into ends x (right.Call at c) text = tt
  text-let into ends x (right.Spawn at c) text = text refl

  simple-fine : (a : Act-F Act Stmt) → IsSimple a → Text a → IsApart (touched a) pending → (ends : Names) → IsClear (pending_after a pending) left ends → (n : ℕ) → FineAct a n
  simple-fine (act.Let x r) i text apart ends clear n =
      fine-right (machine_inside plan st (act.Let x r) left m) ends x r n (enters-let x r ends) (text-let (machine_inside plan st (act.Let x r) left m) ends x r text) (first-within x.bytes _ apart) clear
  simple-fine (act.Array x k) i text apart ends clear n = calm left _ ends clear text-more
  simple-fine (act.Set x r) i text apart ends clear n =
      fine-right (machine_inside plan st (act.Set x r) left m) ends x r n (enters-set x r ends) (text-let (machine_inside plan st (act.Set x r) left m) ends x r text) (first-within x.bytes _ apart) clear
  simple-fine (act.Store x k e) i text apart ends clear n = fine-store (machine_inside plan st (act.Store x k e) left m) ends (Spawned height None) x k e n clear
  simple-fine (act.Spawn c) i text apart ends clear n = fine-spawn (machine_inside plan st (act.Spawn c) left m) ends None c n clear (text refl)
  simple-fine (act.Call c) i text apart ends clear n = fine-call (machine_inside plan st (act.Call c) left m) ends None c n (λ inner s. refl) clear (λ name h g. none-contained name h)
  simple-fine act.Sync i text apart ends clear n = fine-sync (machine_inside plan st act.Sync left m) ends n clear
  simple-fine (act.Print e) i text apart ends clear n =
      fine-given (machine_inside plan st (act.Print e) left m) ends (Spawned height None) (value_of e m.top.env) _ _ (λ v. calm left _ ends clear text-more)
  simple-fine (act.If e a b) i text apart ends clear n = absurd i
  simple-fine (act.While e a) i text apart ends clear n = absurd i
  simple-fine (act.Scope a) i text apart ends clear n = absurd i
  simple-fine (act.Pfor x lo hi target c) i text apart ends clear n =
      let into = machine_inside plan st (act.Pfor x lo hi target c) left m in
      fine-given into ends (Looped target) (value_of lo m.top.env) _ _ (λ l. fine-given into ends (Looped target) (value_of hi m.top.env) _ _ (λ h. fine-given into ends (Looped target) (values_of c.args m.top.env) _ _
      (λ vs. fine-loop into ends target c (as_integer l) (count_of (as_integer h -ℤ as_integer l)) vs n clear)))

  if-fine : (e : Expr) (a b : List Stmt) (both ends : Names) → Text (act.If e a b) → IsClear pending a both → IsClear pending b both → IsClear both left ends → (n : ℕ) → FineAct (act.If e a b) n
  if-fine e a b both ends text yes-clear no-clear rest n =
      fine-given (machine_inside plan st (act.If e a b) left m) ends (Spawned height None) (value_of e m.top.env) _ _ (λ v. by_test (is_true v))
    where
      text-block : (t : Bool) → any_spawns ((if t then a else b) ++ left) ≡ true → InText
      text-block true h = either (any_spawns a) (any_spawns left) (λ g. text (ap (λ s. s || any_spawns b) g)) text-more (sym (any-spawns-append a left) ∙ h)
      text-block false h = either (any_spawns b) (any_spawns left) (λ g. text (ap (λ s. any_spawns a || s) g ∙ or-right (any_spawns a))) text-more (sym (any-spawns-append b left) ∙ h)

      block-clear : (t : Bool) → IsClear pending (if t then a else b) both
      block-clear true = yes-clear
      block-clear false = no-clear

      by_test : (t : Bool) → IsSoundStage plan (parts ++ []) (Running (with_left m ((if t then a else b) ++ left) (record (state_of m) { steps = n })))
      by_test t = calm ((if t then a else b) ++ left) _ ends (clear-append (block-clear t) rest) (text-block t)

  while-fine : (e : Expr) (a : List Stmt) (all ends : Names) → Text (act.While e a) → IsWithin pending all → IsClear all a all → IsClear all (st ∷ left) ends → IsClear all left ends → (n : ℕ) → FineAct (act.While e a) n
  while-fine e a all ends text within body again rest n =
      fine-given (machine_inside plan st (act.While e a) left m) ends (Spawned height None) (value_of e m.top.env) _ _ (λ v. by_test (is_true v))
    where
      by_test : (t : Bool) → Fine (machine_inside plan st (act.While e a) left m) ends (if t then (inside now height a (record (state_of m) { steps = n }) then inside now height (st ∷ [])) else done (record (state_of m) { steps = n }))
      by_test true =
          calm (a ++ st ∷ left) _ ends (clear-within pending all within (clear-append body again)) (λ h. either (any_spawns a) (any_spawns (st ∷ left)) text text-left (sym (any-spawns-append a (st ∷ left)) ∙ h))
      by_test false = calm left _ ends (clear-within pending all within rest) text-more

  -- a scope: its block, and after its end the statements that are left
  scope-fine : (a : List Stmt) (inner ends : Names) → Text (act.Scope a) → IsClear pending a inner → IsClear [] left ends → (n : ℕ) → FineAct (act.Scope a) n
  scope-fine a inner ends text block rest n =
      fine-tested (machine_inside plan st (act.Scope a) left m) ends (Spawned height None) (nat_lt (length now + 1) plan.limits.depth) Depth (record (state_of m) { steps = n }) _
      (no-parts (λ ps. IsSoundStage plan ps (Running (into_level m left a s))) (sound.0, begun, sound.2))
    where
      s : State Bool
      s = record (state_of m) { rank = 0; steps = n }

      begun : IsSound plan parts height (into_level m left a s).top
      begun = record {
        clear = (inner, block);
        spawned = sound.1.spawned;
        faulted = sound.1.faulted;
        in_text = sound.1.in_text;
        left_in_text = text;
        levels = ((ends, rest), text-more, sound.1.levels);
        leaving = λ e. absurd (not-leaving e);
        returning = λ e. absurd (not-returning e);
      }

  act-fine : (a : Act-F Act Stmt) → out-Act (out-Stmt st).act ≡ a → (ends : Names) → IsClear pending (st ∷ left) ends → (n : ℕ) → FineAct (out-Act (out-Stmt st).act) n
  act-fine a same ends (Simple b e i apart rest) n = subst (λ (c : Act-F Act Stmt). FineAct c n) (sym e) (simple-fine b i (text-of b e) apart ends rest n)
    where
      text-of : (b : Act-F Act Stmt) → out-Act (out-Stmt st).act ≡ b → Text b
      text-of b e h = text-left (ap (λ s. s || any_spawns left) (spawns-out st ∙ ap (λ (c : Act-F Act Stmt). act_spawns (map-Act Act Stmt Bool Bool act_has_spawn spawns c)) e ∙ h))
  act-fine a same ends (Branches e first second both h apart c d rest) n = subst (λ (c : Act-F Act Stmt). FineAct c n) (sym h) (if-fine e first second both ends (text-of (act.If e first second) h) c d rest n)
    where
      text-of : (b : Act-F Act Stmt) → out-Act (out-Stmt st).act ≡ b → Text b
      text-of b e h = text-left (ap (λ s. s || any_spawns left) (spawns-out st ∙ ap (λ (c : Act-F Act Stmt). act_spawns (map-Act Act Stmt Bool Bool act_has_spawn spawns c)) e ∙ h))
  act-fine a same ends (Repetitions e body all h w apart c rest) n =
      subst (λ (c : Act-F Act Stmt). FineAct c n) (sym h) (while-fine e body all ends (text-of (act.While e body) h) w c (Repetitions e body all h (within-itself all) apart c rest) rest n)
    where
      text-of : (b : Act-F Act Stmt) → out-Act (out-Stmt st).act ≡ b → Text b
      text-of b e h = text-left (ap (λ s. s || any_spawns left) (spawns-out st ∙ ap (λ (c : Act-F Act Stmt). act_spawns (map-Act Act Stmt Bool Bool act_has_spawn spawns c)) e ∙ h))
  act-fine a same ends (Levels block inner h c rest) n = subst (λ (c : Act-F Act Stmt). FineAct c n) (sym h) (scope-fine block inner ends (text-of (act.Scope block) h) c rest n)
    where
      text-of : (b : Act-F Act Stmt) → out-Act (out-Stmt st).act ≡ b → Text b
      text-of b e h = text-left (ap (λ s. s || any_spawns left) (spawns-out st ∙ ap (λ (c : Act-F Act Stmt). act_spawns (map-Act Act Stmt Bool Bool act_has_spawn spawns c)) e ∙ h))

  statement-sound : SoundEnd plan parts (statement_move plan path m st left).items (statement_move plan path m st left).ending
  statement-sound =
      let a = out-Act (out-Stmt st).act in
      let clear : IsClear pending (st ∷ left) sound.1.clear.0 = subst (λ (l : List Stmt). IsClear pending l sound.1.clear.0) top-left sound.1.clear.1 in
      fine-paid (machine_inside plan st a left m) sound.1.clear.0 (child_destination height a) m.steps (state_of m) _ (λ n. act-fine a refl sound.1.clear.0 clear n)

module _ (plan : PlanView) (path : List ℕ) (clear-plan : IsClearPlan plan) (parts : List AwaitedChild) where
  abbrev SoundMove : Machine → Type 0
  SoundMove m = SoundEnd plan parts (move plan path m).items (move plan path m).ending

  nothing-of : (m : Machine) → IsSound plan parts (length m.below) m.top → m.top.spawned ≡ false → any_by (length m.below) parts ≡ false
  nothing-of m sound h = from (any_by (length m.below) parts) refl
    where
      from : (b : Bool) → any_by (length m.below) parts ≡ b → b ≡ false
      from true e = absurd (clash (sym (sound.spawned e) ∙ h))
      from false e = refl

  -- the step of a return and its sync
  return-sound : (m : Machine) → m.top.left ≡ [] → m.top.levels ≡ [] → IsSoundStage plan parts (Running m) → SoundEnd plan parts (return_move plan path m false).items (return_move plan path m false).ending
  return-sound m ended outside sound = by_steps m.steps
    where
      how : Interpretation Effect Exit Bool
      how = parallel plan (Spawned (length m.below) None)

      no-more : (T : List AwaitedChild → Type 0) → T parts → T (parts ++ [])
      no-more T t = subst T (sym (append-nil parts)) t

      finished : Run Effect Exit (State Bool) → Type 0
      finished r = SoundEnd plan parts r.items (reached plan (with_returning m) (λ inner s. m) r.ending)

      going : (s : State Bool) → s.spawned ≡ false → m.top.spawned ≡ false → IsSoundStage plan (parts ++ []) (Running (with_returning m s))
      going s h g = no-more (λ ps. IsSoundStage plan ps (Running (with_returning m s))) (
        sound.0,
        record {
          clear = sound.1.clear;
          spawned = λ e. absurd (clash (sym (sound.1.spawned e) ∙ g));
          faulted = λ e. sound.1.faulted g;
          in_text = λ e. absurd (clash (sym e ∙ h));
          left_in_text = sound.1.left_in_text;
          levels = sound.1.levels;
          leaving = λ e. (h, ended);
          returning = λ e. (h, ended, outside);
        },
        sound.2,
      )

      waiting : (s : State Bool) → s.spawned ≡ false → IsSoundStage plan (parts ++ []) (AtSync (with_returning m s))
      waiting s h = no-more (λ ps. IsSoundStage plan ps (AtSync (with_returning m s))) (
        sound.0,
        record {
          clear = (sound.1.clear.0, clear-within [] (unfilled (length m.below) parts) (nothing-within (unfilled (length m.below) parts)) sound.1.clear.1);
          spawned = λ e. absurd (clash (sym e));
          faulted = λ e. refl;
          in_text = λ e. absurd (clash (sym e ∙ h));
          left_in_text = sound.1.left_in_text;
          levels = sound.1.levels;
          leaving = λ e. (h, ended);
          returning = λ e. (h, ended, outside);
        },
        sound.2,
      )

      by_spawned : (n : ℕ) (b : Bool) → m.top.spawned ≡ b → SoundEnd plan parts (Emitted (event.Sync (here_of path m ++ m.rank ∷ [])) ∷ (sync_effects b ++ [])) (Ok (Stands (with_returning m (record { env = m.top.env; rank = m.rank + 1; steps = n; spawned = false }))))
      by_spawned n true h = waiting (record { env = m.top.env; rank = m.rank + 1; steps = n; spawned = false }) refl
      by_spawned n false h = going (record { env = m.top.env; rank = m.rank + 1; steps = n; spawned = false }) refl h

      unspawned : spawns_in (function_at (functions_of plan) m.top.function) ≡ false → (b : Bool) → m.top.spawned ≡ b → m.top.spawned ≡ false
      unspawned h true e = absurd (clash (sym (sound.1.in_text e) ∙ h))
      unspawned h false e = e

      by_text : (n : ℕ) (b : Bool) → spawns_in (function_at (functions_of plan) m.top.function) ≡ b → finished (implied how plan (here_of path m) b (record (state_of m) { steps = n }))
      by_text n true h = by_spawned n m.top.spawned refl
      by_text n false h = let g = unspawned h m.top.spawned refl in going (record (state_of m) { steps = n }) g g

      by_steps : (n : ℕ) → finished (paid_from how plan (here_of path m) n (state_of m) (λ s. implied how plan (here_of path m) (spawns_in (function_at (functions_of plan) m.top.function)) s))
      by_steps zero = (refl, length m.below, sound.0)
      by_steps (suc n) = by_text n (spawns_in (function_at (functions_of plan) m.top.function)) refl

  -- the value of a return
  value-sound : (m : Machine) → m.top.returning ≡ true → IsSoundStage plan parts (Running m) → SoundEnd plan parts (return_move plan path m true).items (return_move plan path m true).ending
  value-sound m returning sound = by_function (function_at (functions_of plan) m.top.function)
    where
      none : any_by (length m.below) parts ≡ false
      none = nothing-of m sound.1 (sound.1.returning returning).0

      to_caller : (v : Value) (below : List Frame) → any_by (length below) parts ≡ false → AreDestinations (length below) parts → AreSound plan parts m.top.target below →
          SoundEnd plan parts [] (Ok (back_in_caller below m.top.target v m.rank m.steps))
      to_caller v [] n places s = (refl, only-halves parts n places)
      to_caller v (caller ∷ below) n places s =
          let k : Machine = record { rank = m.rank; steps = m.steps; top = record caller { env = with_scalar m.top.target v caller.env }; below = below } in
          subst (λ (ps : List AwaitedChild). IsSoundStage plan ps (Running k)) (sym (append-nil parts)) (places-lower (length below) parts n places, same-variables s.1, s.2)
        where
          same-variables : IsSound plan parts (length below) caller → IsSound plan parts (length below) (record caller { env = with_scalar m.top.target v caller.env })
          same-variables c = record { clear = c.clear; spawned = c.spawned; faulted = c.faulted; in_text = c.in_text; left_in_text = c.left_in_text; levels = c.levels; leaving = c.leaving; returning = c.returning }

      by_value : (f : Function) (o : Result Value FaultKind) →
          let r : Run Effect Exit (Value × State Bool) = unless_fault (parallel plan (Spawned (length m.below) None)) plan (here_of path m) o (state_of m) (λ v. done (v, state_of m)) in SoundEnd plan parts r.items (gives plan m r.ending)
      by_value f (Ok v) = to_caller v m.below none sound.0 sound.2
      by_value f (Err k) = (refl, length m.below, sound.0)

      by_function : (o : Option Function) → SoundEnd plan parts (value_run plan path o m).items (gives plan m (value_run plan path o m).ending)
      by_function None = to_caller (Int (pos 0)) m.below none sound.0 sound.2
      by_function (Some f) = by_value f (value_of f.result m.top.env)

  -- the end of a scope
  level-sound : (m : Machine) (l : Level) (ls : List Level) → m.top.left ≡ [] → m.top.levels ≡ l ∷ ls → IsSoundStage plan parts (Running m) → (leaving : Bool) → m.top.leaving ≡ leaving →
      SoundEnd plan parts (level_move plan path m l ls leaving).items (level_move plan path m l ls leaving).ending
  level-sound m l ls ended open_so sound leaving f = by_leaving leaving f
    where
      no-more : (T : List AwaitedChild → Type 0) → T parts → T (parts ++ [])
      no-more T t = subst T (sym (append-nil parts)) t

      not-returning : m.top.returning ≡ true → ⊥
      not-returning h = let e : [] ≡ l ∷ ls = sym (sound.1.returning h).2 ∙ open_so in absurd (cc)

      next : State Bool
      next = record { env = m.top.env; rank = m.rank + 1; steps = m.steps; spawned = false }

      going : m.top.spawned ≡ false → IsSoundStage plan (parts ++ []) (Running (with_leaving m next))
      going g = no-more (λ ps. IsSoundStage plan ps (Running (with_leaving m next))) (
        sound.0,
        record {
          clear = sound.1.clear;
          levels = sound.1.levels;
          spawned = λ e. absurd (clash (sym (sound.1.spawned e) ∙ g));
          faulted = λ e. sound.1.faulted g;
          in_text = λ e. absurd (clash (sym e));
          left_in_text = sound.1.left_in_text;
          leaving = λ e. (refl, ended);
          returning = λ e. absurd (not-returning e);
        },
        sound.2,
      )

      waiting : IsSoundStage plan (parts ++ []) (AtSync (with_leaving m next))
      waiting = no-more (λ ps. IsSoundStage plan ps (AtSync (with_leaving m next))) (
        sound.0,
        record {
          clear = (sound.1.clear.0, clear-within [] (unfilled (length m.below) parts) (nothing-within (unfilled (length m.below) parts)) sound.1.clear.1);
          levels = sound.1.levels;
          spawned = λ e. absurd (clash (sym e));
          faulted = λ e. refl;
          in_text = λ e. absurd (clash (sym e));
          left_in_text = sound.1.left_in_text;
          leaving = λ e. (refl, ended);
          returning = λ e. absurd (not-returning e);
        },
        sound.2,
      )

      by_spawned : (b : Bool) → m.top.spawned ≡ b → SoundEnd plan parts (Emitted (event.Sync (here_of path m ++ m.rank ∷ [])) ∷ (sync_effects b ++ [])) (Ok (Stands (with_leaving m next)))
      by_spawned true h = waiting
      by_spawned false h = going h

      -- after it nothing is pending
      out : m.top.spawned ≡ false → AreSoundLevels (spawns_in (function_at (functions_of plan) m.top.function) ≡ true) (l ∷ ls) → IsSoundStage plan (parts ++ []) (Running (out_of_level m l ls (record (state_of m) { rank = l.rank + 1 })))
      out g levels = no-more (λ ps. IsSoundStage plan ps (Running (out_of_level m l ls (record (state_of m) { rank = l.rank + 1 })))) (
        sound.0,
        record {
          clear = (levels.0.0, subst (λ (names : Names). IsClear names l.left levels.0.0) (sym (none-unfilled (length m.below) parts (nothing-of m sound.1 g))) levels.0.1);
          levels = levels.2;
          spawned = sound.1.spawned;
          faulted = sound.1.faulted;
          in_text = sound.1.in_text;
          left_in_text = levels.1;
          leaving = λ e. absurd (clash (sym e));
          returning = λ e. absurd (not-returning e);
        },
        sound.2,
      )

      by_leaving : (b : Bool) → m.top.leaving ≡ b → SoundEnd plan parts (level_move plan path m l ls b).items (level_move plan path m l ls b).ending
      by_leaving false h = by_spawned m.top.spawned refl
      by_leaving true h = out (sound.1.leaving h).0 (subst (AreSoundLevels (spawns_in (function_at (functions_of plan) m.top.function) ≡ true)) open_so sound.1.levels)

  -- A move keeps what holds of a stage.
  pub sound-move : (m : Machine) → IsSoundStage plan parts (Running m) → SoundMove m
  sound-move m sound = by_left m.top.left refl
    where
      by_returning : m.top.left ≡ [] → m.top.levels ≡ [] → (b : Bool) → m.top.returning ≡ b → SoundEnd plan parts (return_move plan path m b).items (return_move plan path m b).ending
      by_returning h g false e = return-sound m h g sound
      by_returning h g true e = value-sound m e sound

      by_levels : m.top.left ≡ [] → (ls : List Level) → m.top.levels ≡ ls → SoundEnd plan parts (end_move plan path m ls).items (end_move plan path m ls).ending
      by_levels h [] g = by_returning h g m.top.returning refl
      by_levels h (l ∷ ls) g = level-sound m l ls h g sound m.top.leaving refl

      by_left : (left : List Stmt) → m.top.left ≡ left → SoundEnd plan parts (move_at plan path m left).items (move_at plan path m left).ending
      by_left (st ∷ left) h = statement-sound plan path clear-plan parts m st left h sound
      by_left [] h = by_levels h m.top.levels refl

free-of : (ps : List AwaitedChild) (m : Machine) (p : AwaitedChild) → AreFree ps (shape_of m) → Contains ps p → IsFreePlace (shape_of m) p.destination
free-of [] m p free c = absurd (omega (arith, c.1))
free-of (q ∷ ps) m p free c = by_index c.0 c.1 c.2 (λ d. free-of ps m p free.1 d)
  where
    by_index : (i : ℕ) → i < length (q ∷ ps) → get_or (q ∷ ps) i p ≡ p → (Contains ps p → IsFreePlace (shape_of m) p.destination) → IsFreePlace (shape_of m) p.destination
    by_index zero d e later = subst (λ (r : AwaitedChild). IsFreePlace (shape_of m) r.destination) e free.0
    by_index (suc i) d e later = later (i, omega arith, e)

-- An answer may be taken before a move or after it.
pub moves_leave_unfilled_alone : (plan : PlanView) (path : List ℕ) (parts : List AwaitedChild) (m : Machine) (p : AwaitedChild) (owner : ℕ) (target : Option Name) (ended : Result (List Value) Fault) →
    IsSoundStage plan parts (Running m) → Contains parts p → p.destination ≡ Spawned owner target →
    move plan path (changed owner (frame_with_answer target ended) m) ≡ changed_run (changed owner (frame_with_answer target ended)) (move plan path m)
moves_leave_unfilled_alone plan path parts m p owner target ended sound c e =
    take-move plan path (Spawned owner target) ended m (subst (IsFreePlace (shape_of m)) e (free-of parts m p (sound-free plan parts m sound) c))
