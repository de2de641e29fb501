-- What an origin gives where its children run at once, and the serial elision (docs/LANGUAGE.md, "The serial elision").
use Rattle.std.specs.Prelude.{ℕ, zero, suc, ◌+◌, ◌-◌, ◌==◌, if◌then◌else◌, List, [], ◌∷◌, ◌++◌, length}
use Rattle.std.specs.Prelude.{pos, ℤ}
use Rattle.std.specs.Int.{w64, int_wrapping_add}
use Rattle.serial_meaning.specs.Runs.{Run, done, ◌then◌}
use Rattle.serial_meaning.specs.Functions.{function_at, function_number, main_name}
use Rattle.serial_meaning.specs.Plan.{PlanView, functions_of}
use Rattle.serial_meaning.specs.Exec.{Interpretation, instance}
use Rattle.serial_meaning.specs.declared.value.Value.{Value}
use Rattle.serial_meaning.specs.declared.value.Value.TheVariants.{Int}
use Rattle.serial_meaning.specs.declared.event.Fault.{Fault}
use Rattle.serial_meaning.specs.declared.event.Event.{Event}
use Rattle.serial_meaning.specs.declared.origin.Origin.{Origin}
use Rattle.serial_meaning.specs.declared.origin.Origin.TheVariants.{Instance, Loop}

-- an origin's events, and its values, one for an instance and one for each iteration of a loop, or its fault
abbrev pub Evaluation : Type 0
Evaluation = Run Event Fault (List Value)

abbrev pub first_value : List Value → Value
first_value [] = Int (pos 0)
first_value (v ∷ vs) = v

-- A spawn runs its child at once and takes its value, a loop runs its iterations, a sync has nothing to wait for, and the first fault
-- ends everything.
abbrev pub serial : (Origin → Evaluation) → Interpretation Event Fault (Unit {0})
serial child = record {
  event = λ e. e;
  opens = λ j. [];
  closes = λ j. [];
  own = λ f. f;
  none = tt;
  spawn = λ o k. child o then λ vs. done (first_value vs, k);
  loop = child;
  sync = λ k. done k;
}

-- iteration k of a loop: its number is `first` plus k, by the language's addition
abbrev pub iteration : ℕ → List Value → ℤ → List ℕ → ℕ → Origin
iteration function rest first path k = Instance function (Int (int_wrapping_add w64 first (pos k)) ∷ rest) (path ++ k ∷ [])

-- n iterations from the k-th on, in order, up to the first fault
abbrev pub loop_evaluation : (Origin → Evaluation) → ℕ → List Value → ℤ → List ℕ → ℕ → ℕ → Evaluation
loop_evaluation child function rest first path k zero = done []
loop_evaluation child function rest first path k (suc n) =
    child (iteration function rest first path k) then λ vs. loop_evaluation child function rest first path (k + 1) n then λ ws. done (vs ++ ws)

-- an origin's evaluation, where `child` gives those of its children
abbrev pub eval_with : PlanView → (Origin → Evaluation) → Origin → Evaluation
eval_with plan child (Instance function args path) =
    instance (serial child) plan path (function_at (functions_of plan) function) args then λ v. done (v ∷ [])
eval_with plan child (Loop function rest first path range) = loop_evaluation child function rest first path range.lo (range.hi - range.lo)

abbrev pub path_of : Origin → List ℕ
path_of (Instance function args path) = path
path_of (Loop function rest first path range) = path

-- how many ranks are left below the depth
abbrev pub depth_left : PlanView → Origin → ℕ
depth_left plan o = plan.limits.depth - length (path_of o)

-- What an origin gives that has fewer than this many ranks left, by recursion on them: `gives` says what it gives by what its children give.
-- A child has fewer ranks left than its parent: by the test of the depth nothing is spawned and no scope or loop begins where none would be left.
abbrev pub by_depth : {A : Type 0} → PlanView → A → ((Origin → A) → Origin → A) → ℕ → Origin → A
by_depth plan none gives zero o = none
by_depth plan none gives (suc left) o = (if depth_left plan o == left then gives (by_depth plan none gives left) else by_depth plan none gives left) o

abbrev pub eval_below : PlanView → ℕ → Origin → Evaluation
eval_below plan = by_depth plan (done []) (eval_with plan)

abbrev pub eval : PlanView → Origin → Evaluation
eval plan o = eval_with plan (eval_below plan (depth_left plan o)) o

abbrev pub main_origin : PlanView → Origin
main_origin plan = Instance (function_number (functions_of plan) main_name) [] []

abbrev pub elision : PlanView → Evaluation
elision plan = eval plan (main_origin plan)
