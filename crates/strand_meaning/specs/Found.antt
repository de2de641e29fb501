-- The plan's tables have the slots of the variables that take the values of a task's children.
use Rattle.std.specs.Prelude.{◌≡◌, ℕ, true, List, [], ◌∷◌, Option, Some, None, length, map}
use Rattle.script_check.specs.Slots.{every_in_target, finds_all, has_slot, table_of_slots, variable_names}
use Rattle.script_grammar.specs.declared.tree.Function.{Function}
use Rattle.script_grammar.specs.declared.tree.Name.{Name}
use Rattle.serial_meaning.specs.Functions.{function_at}
use Rattle.serial_meaning.specs.Plan.{PlanView, functions_of}
use Rattle.strand_meaning.specs.Machine.{Destination, Spawned, Looped, Half, Machine}
use Rattle.strand_meaning.specs.Task.{Stage, Running, AtSync, AtLoop, Ended, Remaining, Splits, Runs, Finished}
use Rattle.strand_meaning.specs.Trace.{AwaitedChild}

-- the functions of a machine's frames, the innermost first
abbrev pub functions_in : Machine → List ℕ
functions_in m = map (λ a. a.function) (m.top ∷ m.below)

abbrev pub functions_at : Stage → List ℕ
functions_at (Running m) = functions_in m
functions_at (AtSync m) = functions_in m
functions_at (AtLoop m) = functions_in m
functions_at (Ended ended) = []

-- those of the frames that remain of a task
abbrev pub functions_left : Remaining → List ℕ
functions_left (Splits left) = []
functions_left (Runs stage) = functions_at stage
functions_left (Finished v has_waited) = []

abbrev pub variables_in : Option Function → List (List ℕ)
variables_in None = []
variables_in (Some f) = variable_names f

-- The plan's table has the variable's slot in this function, if there is a target.
abbrev pub FindsTargetIn : PlanView → Option Name → ℕ → Type 0
FindsTargetIn plan target function =
    every_in_target (has_slot (table_of_slots (functions_of plan)) (variables_in (function_at (functions_of plan) function))) target ≡ true

-- the same for the frame with this many below it, if there is one
abbrev pub FindsAt : PlanView → ℕ → Option Name → List ℕ → Type 0
FindsAt plan height target [] = Unit {0}
FindsAt plan height target (function ∷ below) = (height ≡ length below → FindsTargetIn plan target function) × FindsAt plan height target below

-- and for the innermost one
abbrev pub FindsInnermost : PlanView → Option Name → List ℕ → Type 0
FindsInnermost plan target [] = Unit {0}
FindsInnermost plan target (function ∷ below) = FindsTargetIn plan target function

abbrev pub FindsDestination : PlanView → List ℕ → Destination → Type 0
FindsDestination plan functions (Spawned owner target) = FindsAt plan owner target functions
FindsDestination plan functions (Looped target) = FindsInnermost plan target functions
FindsDestination plan functions Half = Unit {0}

abbrev pub FindsTargets : PlanView → List ℕ → List AwaitedChild → Type 0
FindsTargets plan functions [] = Unit {0}
FindsTargets plan functions (p ∷ ps) = FindsDestination plan functions p.destination × FindsTargets plan functions ps

-- the plan's tables have everything that its functions name
abbrev pub IsFoundPlan : PlanView → Type 0
IsFoundPlan plan = finds_all (table_of_slots (functions_of plan)) (functions_of plan) ≡ true
