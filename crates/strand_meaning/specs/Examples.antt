-- Where the tasks of small scripts stop. Each is the contract of a function of the module `examples`, which shows the script.
use Rattle.std.specs.Prelude.{◌≡◌, ℕ, zero, suc, List, [], ◌∷◌, None, codes}
use Rattle.std.specs.Prelude.{pos}
use Rattle.script_grammar.specs.declared.tree.Function.{Function}
use Rattle.script_grammar.specs.declared.tree.Act.TheVariants as act
use Rattle.serial_meaning.specs.Trees.{name_node, number, applied, stated, int_param, function}
use Rattle.serial_meaning.specs.Plan.{PlanView}
use Rattle.serial_meaning.specs.Eval.{eval, main_origin}
use Rattle.serial_meaning.specs.Examples.{plan_of}
use Rattle.serial_meaning.specs.declared.origin.Origin.TheVariants.{Loop}
use Rattle.strand_meaning.specs.Task.{Task, start, MoveOrStop, Passes, Stops, Spawn, Wait, End, step, on}
use Rattle.strand_meaning.specs.Rest.{evaluations}

-- a stop, without the rest of the task
pub data Mark : Type 0 where
  ToChild : Mark
  ToWait : Mark
  ToEnd : Mark

-- The stops of a task, where each wait ends with the evaluations of the children, within the given number of moves and stops.
abbrev pub marked : (Task → List Mark) → PlanView → MoveOrStop → List Mark
marked go plan (Passes next) = go next
marked go plan (Stops (Spawn child rest)) = ToChild ∷ go rest
marked go plan (Stops (Wait rest)) = ToWait ∷ go (on (evaluations (eval plan) rest.trace.unmerged) rest)
marked go plan (Stops (End out ended)) = ToEnd ∷ []

abbrev pub marks : ℕ → Task → List Mark
marks zero t = []
marks (suc n) t = marked (marks n) t.plan (step t)

abbrev pub main_marks : ℕ → List Function → List Mark
main_marks n functions = let plan = plan_of functions 20 in marks n (start plan (main_origin plan))

abbrev pub f_of_nothing : Function
f_of_nothing = function (codes "f") [] [] (number 0)

abbrev pub f_of_number : Function
f_of_number = function (codes "f") (int_param (codes "i") ∷ []) [] (number 0)

-- The sync that a return implies waits for the child.
abbrev pub ReturnWaitsForAChild : Type 0
ReturnWaitsForAChild =
    main_marks 8 (f_of_nothing ∷ function (codes "main") [] (stated (act.Spawn (applied (codes "f") [])) ∷ []) (number 0) ∷ [])
    ≡ ToChild ∷ ToWait ∷ ToEnd ∷ []

-- A sync without a spawn before it doesn't wait.
abbrev pub SyncAloneIsPassed : Type 0
SyncAloneIsPassed = main_marks 8 (function (codes "main") [] (stated act.Sync ∷ []) (number 0) ∷ []) ≡ ToEnd ∷ []

-- A fault, here of a return without a step left, first waits for the child.
abbrev pub FaultWaitsForAChild : Type 0
FaultWaitsForAChild =
    (let plan = plan_of (f_of_nothing ∷ function (codes "main") [] (stated (act.Spawn (applied (codes "f") [])) ∷ []) (number 0) ∷ []) 1 in marks 8 (start plan (main_origin plan)))
    ≡ ToChild ∷ ToWait ∷ ToEnd ∷ []

-- A loop is begun as one child, and waited for at once.
abbrev pub LoopsBeginWhole : Type 0
LoopsBeginWhole =
    main_marks 8
    (f_of_number
    ∷ function (codes "main") [] (stated (act.Pfor (name_node (codes "i")) (number 0) (number 3) None (applied (codes "f") [])) ∷ []) (number 0)
    ∷ [])
    ≡ ToChild ∷ ToWait ∷ ToEnd ∷ []

-- A loop's task begins half as a child while two iterations are left, runs the last one itself, and waits.
abbrev pub LoopTasksBeginHalves : Type 0
LoopTasksBeginHalves =
    (let plan = plan_of (f_of_number ∷ []) 20 in marks 12 (start plan (Loop 0 [] (pos 0) (0 ∷ []) (record { lo = 0; hi = 3 }))))
    ≡ ToChild ∷ ToChild ∷ ToWait ∷ ToEnd ∷ []
