-- An instance before its first move.
use Rattle.std.proofs.Common.{◌≡◌, ℕ, true, false, List, [], ◌∷◌, Option, Some, None, Ok, ◌||◌, refl, sym, ap, ◌∙◌, subst}
use Rattle.std.proofs.Common.{pos}
use Rattle.std.specs.Prelude.{Contains}
use Rattle.std.proofs.lemmas.Option.{slice_get_within, get_or_from_slice_get}
use Rattle.script_grammar.specs.declared.tree.Function.{Function}
use Rattle.script_check.specs.Names.{no_names}
use Rattle.serial_meaning.specs.Runs.{Run, done, ◌then◌}
use Rattle.serial_meaning.specs.Names.{Names}
use Rattle.serial_meaning.specs.Functions.{function_at}
use Rattle.serial_meaning.specs.Plan.{PlanView, functions_of}
use Rattle.serial_meaning.specs.Exec.{State, instance, exec, bound}
use Rattle.serial_meaning.specs.Eval.{Evaluation}
use Rattle.serial_meaning.specs.Open.{Item, NodeFault, deferring, node_of}
use Rattle.serial_meaning.specs.declared.value.Value.{Value}
use Rattle.serial_meaning.specs.declared.value.Value.TheVariants.{Int}
use Rattle.serial_meaning.specs.declared.event.Fault.{Fault}
use Rattle.serial_meaning.specs.declared.origin.Origin.{Origin}
use Rattle.serial_meaning.specs.declared.origin.Origin.TheVariants.{Instance}
use Rattle.strand_meaning.specs.Clear.{IsClear, IsClearPlan}
use Rattle.script_check.specs.Spawns.{spawns_in}
use Rattle.strand_meaning.specs.Machine.{Destination, Spawned, Looped, Half, Machine, Reached, Stands, Gives, function_begun}
use Rattle.strand_meaning.specs.Trace.{AwaitedChild}
use Rattle.strand_meaning.specs.Task.{Stage, Running, Ended, begun_stage}
use Rattle.strand_meaning.specs.Rest.{children_of, closes, rest_of_stage, rest_open}
use Rattle.strand_meaning.specs.Pending.{Here, Outside}
use Rattle.strand_meaning.specs.Sound.{unfilled, is_by, any_by, IsHalf, AreHalves, IsSoundStage, UnfilledArePending}
use Rattle.strand_meaning.proofs.Unfilled.Clears.{none-contained, none-unfilled}
use Rattle.strand_meaning.proofs.SoundSteps.MovesKeepTasks.{halves-places}

clash : true ≡ false → ⊥
clash h = absurd (cc)

-- The node of an instance is what remains before its first move.
pub begun-whole : (plan : PlanView) (function : ℕ) (args : List Value) (path : List ℕ) →
    node_of plan (Instance function args path) ≡ (rest_of_stage plan (children_of plan (Instance function args path)) path (begun_stage (function_begun plan function args)) then λ v. done (v ∷ []))
begun-whole plan function args path =
    ap (λ (r : Run Item NodeFault Value). r then λ v. done (v ∷ [])) (by_function (function_at (functions_of plan) function) refl)
  where
    child : Origin → Evaluation
    child = children_of plan (Instance function args path)

    stage_of : Option Function → Stage
    stage_of (Some f) = Running (record {
      rank = 0;
      steps = plan.limits.budget;
      top = record { function = function; left = f.body; levels = []; leaving = false; returning = false; env = bound f.params args; spawned = false; faulted = None; target = None };
      below = [];
    })
    stage_of None = Ended (Ok (Int (pos 0)))

    stage-is : (o : Option Function) → function_at (functions_of plan) function ≡ o → begun_stage (function_begun plan function args) ≡ stage_of o
    stage-is None h = rw h refl
    stage-is (Some f) h = rw h refl

    start : State (Option Fault)
    start = record { env = []; rank = 0; steps = plan.limits.budget; spawned = None }

    callee_run : Function → Option Function → Run Item NodeFault (Value × State (Option Fault))
    callee_run f o = exec (deferring plan child) plan path 0 f.body (record start { env = bound f.params args }) then closes plan child path path false o

    by_function : (o : Option Function) → function_at (functions_of plan) function ≡ o → instance (deferring plan child) plan path (function_at (functions_of plan) function) args ≡ rest_of_stage plan child path (begun_stage (function_begun plan function args))
    by_function None h =
        ap (λ (o : Option Function). instance (deferring plan child) plan path o args) h ∙ ap (rest_of_stage plan child path) (sym (stage-is None h))
    by_function (Some f) h =
        ap (λ (o : Option Function). instance (deferring plan child) plan path o args) h
        ∙ ap (λ (o : Option Function). callee_run f o then λ r. done r.0) (sym h)
        ∙ ap (rest_of_stage plan child path) (sym (stage-is (Some f) h))

pub halves-none : (height : ℕ) (ps : List AwaitedChild) → AreHalves ps → any_by height ps ≡ false
halves-none height [] h = refl
halves-none height (p ∷ ps) h = ap (λ b. b || any_by height ps) (from p.destination h.0) ∙ halves-none height ps h.1
  where
    from : (destination : Destination) → IsHalf destination → is_by height destination ≡ false
    from (Spawned owner target) g = absurd g
    from (Looped target) g = absurd g
    from Half g = refl

-- and it is sound, whatever parts of a loop were begun
pub begun-sound : (plan : PlanView) (function : ℕ) (args : List Value) (ps : List AwaitedChild) → IsClearPlan plan → AreHalves ps → IsSoundStage plan ps (begun_stage (function_begun plan function args))
begun-sound plan function args ps clear halves = by_function (function_at (functions_of plan) function) refl
  where
    none : any_by 0 ps ≡ false
    none = halves-none 0 ps halves

    machine : Function → Machine
    machine f = record {
      rank = 0;
      steps = plan.limits.budget;
      top = record { function = function; left = f.body; levels = []; leaving = false; returning = false; env = bound f.params args; spawned = false; faulted = None; target = None };
      below = [];
    }

    sound : (f : Function) → function_at (functions_of plan) function ≡ Some f → IsSoundStage plan ps (Running (machine f))
    sound f h =
        let there : Contains (functions_of plan) f = (function, slice_get_within (functions_of plan) function f h, get_or_from_slice_get (functions_of plan) function f f h) in
        let body = clear f there in (
          halves-places ps halves,
          record {
            clear = (body.0, subst (λ (l : Names). IsClear l f.body body.0) (sym (none-unfilled 0 ps none)) body.1);
            spawned = λ e. absurd (clash (sym e ∙ none));
            faulted = λ e. refl;
            in_text = λ e. absurd (clash (sym e));
            left_in_text = λ e. ap spawns_in h ∙ e;
            levels = tt;
            leaving = λ e. absurd (clash (sym e));
            returning = λ e. absurd (clash (sym e));
          },
          tt,
        )

    stage_of : Option Function → Stage
    stage_of (Some f) = Running (machine f)
    stage_of None = Ended (Ok (Int (pos 0)))

    stage-is : (o : Option Function) → function_at (functions_of plan) function ≡ o → begun_stage (function_begun plan function args) ≡ stage_of o
    stage-is None h = rw h refl
    stage-is (Some f) h = rw h refl

    by_function : (o : Option Function) → function_at (functions_of plan) function ≡ o → IsSoundStage plan ps (begun_stage (function_begun plan function args))
    by_function None h = subst (IsSoundStage plan ps) (sym (stage-is None h)) halves
    by_function (Some f) h = subst (IsSoundStage plan ps) (sym (stage-is (Some f) h)) (sound f h)

-- and nothing of it is unfilled
pub begun-pending : (plan : PlanView) (function : ℕ) (args : List Value) (ps : List AwaitedChild) → AreHalves ps → UnfilledArePending plan ps (begun_stage (function_begun plan function args))
begun-pending plan function args ps halves = by_function (function_at (functions_of plan) function) refl
  where
    machine : Function → Machine
    machine f = record {
      rank = 0;
      steps = plan.limits.budget;
      top = record { function = function; left = f.body; levels = []; leaving = false; returning = false; env = bound f.params args; spawned = false; faulted = None; target = None };
      below = [];
    }

    stage_of : Option Function → Stage
    stage_of (Some f) = Running (machine f)
    stage_of None = Ended (Ok (Int (pos 0)))

    stage-is : (o : Option Function) → function_at (functions_of plan) function ≡ o → begun_stage (function_begun plan function args) ≡ stage_of o
    stage-is None h = rw h refl
    stage-is (Some f) h = rw h refl

    none : (name : List ℕ) → Contains (unfilled 0 ps) name → ⊥
    none name h = none-contained name (subst (λ (l : Names). Contains l name) (none-unfilled 0 ps (halves-none 0 ps halves)) h)

    going : (f : Function) → function_at (functions_of plan) function ≡ Some f → UnfilledArePending plan ps (Running (machine f))
    going f h = (record { function = f; of_plan = h; now = no_names; stands = Outside Here; pending = λ name c. absurd (none name c) }, tt)

    by_function : (o : Option Function) → function_at (functions_of plan) function ≡ o → UnfilledArePending plan ps (begun_stage (function_begun plan function args))
    by_function None h = subst (UnfilledArePending plan ps) (sym (stage-is None h)) tt
    by_function (Some f) h = subst (UnfilledArePending plan ps) (sym (stage-is (Some f) h)) (going f h)

-- parts of a loop change nothing in a stage that none of them is of
pub halves-rest : (plan : PlanView) (child : Origin → Evaluation) (path : List ℕ) (ps : List AwaitedChild) → AreHalves ps → (r : Reached) →
    rest_open plan child path ps (begun_stage r) ≡ rest_of_stage plan child path (begun_stage r)
halves-rest plan child path [] h (Stands m) = refl
halves-rest plan child path [] h (Gives v) = refl
halves-rest plan child path (p ∷ ps) h r = by_place p h.0 (halves-rest plan child path ps h.1 r)
  where
    by_place : (p : AwaitedChild) → IsHalf p.destination → rest_open plan child path ps (begun_stage r) ≡ rest_of_stage plan child path (begun_stage r) → rest_open plan child path (p ∷ ps) (begun_stage r) ≡ rest_of_stage plan child path (begun_stage r)
    by_place q g later = from q.destination g
      where
        from : (destination : Destination) → IsHalf destination → rest_open plan child path (record { child = q.child; destination = destination; after = q.after } ∷ ps) (begun_stage r) ≡ rest_of_stage plan child path (begun_stage r)
        from (Spawned owner target) k = absurd k
        from (Looped target) k = absurd k
        from Half k = later
