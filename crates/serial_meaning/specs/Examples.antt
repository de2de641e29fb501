-- What the definitions say of small scripts (docs/LANGUAGE.md, "What a script means"). Each is the contract of a function of the module `examples`, which shows the script.
use Rattle.std.specs.Prelude.{◌≡◌, ℕ, suc, List, [], ◌∷◌, Some, None, Ok, Err, codes}
use Rattle.std.specs.Prelude.{pos}
use Rattle.script_tokens.specs.declared.version.Version.TheVariants.{One, Two}
use Rattle.script_grammar.specs.declared.tree.Function.{Function}
use Rattle.script_grammar.specs.declared.tree.Comparison.TheVariants as compares
use Rattle.script_grammar.specs.declared.tree.Expr.TheVariants as expr
use Rattle.script_grammar.specs.declared.tree.Stmt.{Stmt}
use Rattle.script_grammar.specs.declared.tree.ProductSign.TheVariants as sign
use Rattle.script_grammar.specs.declared.tree.Right.TheVariants as right
use Rattle.script_grammar.specs.declared.tree.Act.TheVariants as act
use Rattle.serial_meaning.specs.Trees.{name_node, number, variable, product, sum, applied, call, spawn, stated, int_param, function}
use Rattle.serial_meaning.specs.Plan.{PlanView, functions_of}
use Rattle.serial_meaning.specs.Eval.{main_origin, elision}
use Rattle.serial_meaning.specs.Open.{node_of, strand_pedigrees, faults}
use Rattle.serial_meaning.specs.declared.plan.Show.TheVariants.{Plain}
use Rattle.serial_meaning.specs.declared.value.Value.TheVariants.{Int}
use Rattle.serial_meaning.specs.declared.event.FaultKind.TheVariants as fault
use Rattle.serial_meaning.specs.declared.event.Event.TheVariants as event

-- any number of steps from twenty on
abbrev pub twenty_or_more : ℕ → ℕ
twenty_or_more n = suc (suc (suc (suc (suc (suc (suc (suc (suc (suc (suc (suc (suc (suc (suc (suc (suc (suc (suc (suc n)))))))))))))))))))

-- a plan with the coefficients 1, 0, 0
abbrev pub plan_of : List Function → ℕ → PlanView
plan_of functions budget = record { script = record { version = One; functions = functions }; gamma = 1 ∷ 0 ∷ 0 ∷ []; limits = record { depth = 3; budget = budget }; show = Plain; rounds = 4 }

abbrev pub three_prints : List Function
three_prints =
    function (codes "main") [] (stated (act.Print (number 1)) ∷ stated (act.Print (number 2)) ∷ stated (act.Print (number 3)) ∷ []) (number 0) ∷ []

-- With three steps the three statements are done, and the return finds none.
abbrev pub ThreeStepsAreTooFew : Type 0
ThreeStepsAreTooFew =
    elision (plan_of three_prints 3) ≡ record { items = event.Print (0 ∷ []) (Int (pos 1)) ∷ event.Print (0 ∷ []) (Int (pos 2)) ∷ event.Print (0 ∷ []) (Int (pos 3)) ∷ []; ending = Err (record { kind = fault.Budget; at = 0 ∷ [] }) }

abbrev pub FourStepsAreEnough : Type 0
FourStepsAreEnough =
    elision (plan_of three_prints 4) ≡ record { items = event.Print (0 ∷ []) (Int (pos 1)) ∷ event.Print (0 ∷ []) (Int (pos 2)) ∷ event.Print (0 ∷ []) (Int (pos 3)) ∷ []; ending = Ok (Int (pos 0) ∷ []) }

abbrev pub one_spawn : List Function
one_spawn =
    function (codes "f") [] [] (number 0)
    ∷ function (codes "main") [] (stated (act.Spawn (applied (codes "f") [])) ∷ []) (number 0)
    ∷ []

abbrev pub with_depth : ℕ → List ℕ → PlanView → PlanView
with_depth depth gamma plan = record plan { gamma = gamma; limits = record { depth = depth; budget = plan.limits.budget } }

-- A child's pedigrees have two ranks.
abbrev pub SpawnNeedsDepthTwo : Type 0
SpawnNeedsDepthTwo = (n : ℕ) → elision (with_depth 1 (1 ∷ []) (plan_of one_spawn (twenty_or_more n))) ≡ record { items = []; ending = Err (record { kind = fault.Depth; at = 0 ∷ [] }) }

-- The spawn is an event, and so is the sync that the return implies.
abbrev pub DepthTwoIsEnoughForASpawn : Type 0
DepthTwoIsEnoughForASpawn =
    (n : ℕ) → elision (with_depth 2 (1 ∷ 0 ∷ []) (plan_of one_spawn (twenty_or_more n))) ≡ record { items = event.Spawn (0 ∷ []) ∷ event.Sync (1 ∷ []) ∷ []; ending = Ok (Int (pos 0) ∷ []) }

abbrev pub empty_loop : List Function
empty_loop =
    function (codes "f") (int_param (codes "i") ∷ []) [] (variable (codes "i"))
    ∷ function (codes "main") []
    (stated (act.Pfor (name_node (codes "i")) (number 3) (number 3) None (applied (codes "f") []))
    ∷ stated (act.Let (name_node (codes "x")) (right.Draw 0))
    ∷ stated (act.Print (variable (codes "x")))
    ∷ [])
    (number 0)
    ∷ []

-- A loop of no iteration raises the rank too, so that the draw is the one of rank 1.
abbrev pub EmptyLoopRaisesTheRank : Type 0
EmptyLoopRaisesTheRank =
    (n : ℕ) → elision (plan_of empty_loop (twenty_or_more n)) ≡ record { items = event.Loop (0 ∷ []) ∷ event.Draw (1 ∷ []) 210 ∷ event.Print (2 ∷ []) (Int (pos 210)) ∷ []; ending = Ok (Int (pos 0) ∷ []) }

-- prints the five items
abbrev pub printing_items : List Stmt
printing_items =
    stated (act.Let (name_node (codes "k")) (right.Value (number 0)))
    ∷ stated (act.While (expr.Compare (variable (codes "k")) compares.Lt (number 5)) (stated (act.Print (expr.Item (name_node (codes "a")) (variable (codes "k")))) ∷ stated (act.Set (name_node (codes "k")) (right.Value (sum (variable (codes "k")) (number 1)))) ∷ []))
    ∷ []

abbrev pub six_squares_into_five : List Function
six_squares_into_five =
    function (codes "sq") (int_param (codes "i") ∷ []) [] (product (variable (codes "i")) sign.Times (variable (codes "i")))
    ∷ function (codes "main") []
    (stated (act.Array (name_node (codes "a")) (record { at = 0; value = pos 5 }))
    ∷ stated (act.Pfor (name_node (codes "i")) (number 0) (number 6) (Some (name_node (codes "a"))) (applied (codes "sq") []))
    ∷ printing_items)
    (number 0)
    ∷ []

-- A loop whose target has too few items does nothing else.
abbrev pub TargetMustHaveRoom : Type 0
TargetMustHaveRoom = (n : ℕ) → elision (plan_of six_squares_into_five (twenty_or_more n)) ≡ record { items = []; ending = Err (record { kind = fault.Index; at = 0 ∷ [] }) }

abbrev pub two_calls : List Function
two_calls =
    function (codes "f") [] (stated (act.Let (name_node (codes "x")) (right.Draw 0)) ∷ []) (variable (codes "x"))
    ∷ function (codes "main") []
    (stated (act.Let (name_node (codes "a")) (call (codes "f") []))
    ∷ stated (act.Let (name_node (codes "b")) (call (codes "f") []))
    ∷ stated (act.Print (variable (codes "a")))
    ∷ stated (act.Print (variable (codes "b")))
    ∷ [])
    (number 0)
    ∷ []

-- A call goes on from the caller's rank.
abbrev pub CallsShareTheRank : Type 0
CallsShareTheRank =
    (n : ℕ) → elision (plan_of two_calls (twenty_or_more n)) ≡ record { items = event.Draw (0 ∷ []) 21 ∷ event.Draw (1 ∷ []) 210 ∷ event.Print (2 ∷ []) (Int (pos 21)) ∷ event.Print (2 ∷ []) (Int (pos 210)) ∷ []; ending = Ok (Int (pos 0) ∷ []) }

abbrev pub spawn_in_a_callee : List Function
spawn_in_a_callee =
    function (codes "h") [] [] (number 0)
    ∷ function (codes "g") [] (stated (act.Spawn (applied (codes "h") [])) ∷ []) (number 0)
    ∷ function (codes "main") []
    (stated (act.Call (applied (codes "g") []))
    ∷ stated (act.Let (name_node (codes "x")) (right.Draw 0))
    ∷ stated (act.Print (variable (codes "x")))
    ∷ [])
    (number 0)
    ∷ []

-- The return of a function with a spawn in it implies a sync, which raises the rank.
abbrev pub ImpliedSyncRaisesTheRank : Type 0
ImpliedSyncRaisesTheRank =
    (n : ℕ) → elision (plan_of spawn_in_a_callee (twenty_or_more n)) ≡ record { items = event.Spawn (0 ∷ []) ∷ event.Sync (1 ∷ []) ∷ event.Draw (2 ∷ []) 903 ∷ event.Print (3 ∷ []) (Int (pos 903)) ∷ []; ending = Ok (Int (pos 0) ∷ []) }

abbrev pub endless_calls : List Function
endless_calls =
    function (codes "f") [] (stated (act.Call (applied (codes "f") [])) ∷ []) (number 0)
    ∷ function (codes "main") [] (stated (act.Call (applied (codes "f") [])) ∷ []) (number 0)
    ∷ []

-- The call after 256 open ones is a fault.
abbrev pub CallsEndAt256 : Type 0
CallsEndAt256 = elision (plan_of endless_calls 300) ≡ record { items = []; ending = Err (record { kind = fault.Calls; at = 0 ∷ [] }) }

abbrev pub bad : Function
bad = function (codes "bad") [] (stated (act.Let (name_node (codes "z")) (right.Value (number 0))) ∷ []) (product (number 1) sign.Over (variable (codes "z")))

abbrev pub never_reached : List Stmt
never_reached = stated act.Sync ∷ stated (act.Print (variable (codes "a"))) ∷ []

abbrev pub endless_body : List Stmt
endless_body =
    stated (act.While (expr.Compare (variable (codes "i")) compares.Eq (number 0)) (stated (act.Set (name_node (codes "i")) (right.Value (number 0))) ∷ []))
    ∷ never_reached

abbrev pub endless_main : Function
endless_main =
    function (codes "main") []
    (stated (act.Print (number 7))
    ∷ stated (act.Let (name_node (codes "a")) (spawn (codes "bad") []))
    ∷ stated (act.Let (name_node (codes "i")) (right.Value (number 0)))
    ∷ endless_body)
    (number 0)

-- with any number of steps from three on
abbrev pub endless_plan : ℕ → PlanView
endless_plan n = plan_of (bad ∷ endless_main ∷ []) (suc (suc (suc n)))

-- The elision ends at the child's fault.
abbrev pub ElisionEndsAtTheChildsFault : Type 0
ElisionEndsAtTheChildsFault =
    (n : ℕ) → elision (endless_plan n) ≡ record { items = event.Print (0 ∷ []) (Int (pos 7)) ∷ event.Spawn (0 ∷ []) ∷ []; ending = Err (record { kind = fault.Divide; at = 0 ∷ 0 ∷ [] }) }

-- The open tree also has the fault of the parent, which goes on until its budget is spent.
abbrev pub OpenTreeHasBothFaults : Type 0
OpenTreeHasBothFaults =
    (n : ℕ) → faults (endless_plan n) ≡ record { kind = fault.Divide; at = 0 ∷ 0 ∷ [] } ∷ record { kind = fault.Budget; at = 1 ∷ [] } ∷ []

-- Version 2

abbrev pub in_version_two : PlanView → PlanView
in_version_two plan = record plan { script = record { version = Two; functions = functions_of plan } }

abbrev pub one_scope : List Function
one_scope = function (codes "main") [] (stated (act.Scope (stated (act.Print (number 1)) ∷ [])) ∷ []) (number 0) ∷ []

-- A scope's block stands one level further, and a sync at its end. The scope itself is no event.
abbrev pub ScopeIsALevel : Type 0
ScopeIsALevel =
    (n : ℕ) → elision (in_version_two (with_depth 2 (1 ∷ 0 ∷ []) (plan_of one_scope (twenty_or_more n)))) ≡ record { items = event.Print (0 ∷ 0 ∷ []) (Int (pos 1)) ∷ event.Sync (0 ∷ 0 ∷ []) ∷ []; ending = Ok (Int (pos 0) ∷ []) }

-- Pedigrees inside a scope of main have two ranks.
abbrev pub ScopeNeedsDepthTwo : Type 0
ScopeNeedsDepthTwo = (n : ℕ) → elision (in_version_two (with_depth 1 (1 ∷ []) (plan_of one_scope (twenty_or_more n)))) ≡ record { items = []; ending = Err (record { kind = fault.Depth; at = 0 ∷ [] }) }

-- The strands of main: the one that comes to the scope, the two in it, before and after the sync, and the one after it.
abbrev pub ScopeHasStrands : Type 0
ScopeHasStrands =
    (n : ℕ) →
    let plan : PlanView = in_version_two (with_depth 2 (1 ∷ 0 ∷ []) (plan_of one_scope (twenty_or_more n))) in
    strand_pedigrees (main_origin plan) (node_of plan (main_origin plan)) ≡ (0 ∷ []) ∷ (0 ∷ 0 ∷ []) ∷ (0 ∷ 1 ∷ []) ∷ (1 ∷ []) ∷ []

abbrev pub print_and_draw : List Function
print_and_draw =
    function (codes "main") []
    (stated (act.Scope (stated (act.Print (number 1)) ∷ []))
    ∷ stated (act.Let (name_node (codes "x")) (right.Draw 0))
    ∷ stated (act.Print (variable (codes "x")))
    ∷ [])
    (number 0)
    ∷ []

-- After a scope the rank is the one after that of the strand that came to it, so that the draw is the one of rank 1.
abbrev pub ScopeRaisesTheRank : Type 0
ScopeRaisesTheRank =
    (n : ℕ) → elision (in_version_two (plan_of print_and_draw (twenty_or_more n))) ≡ record { items = event.Print (0 ∷ 0 ∷ []) (Int (pos 1)) ∷ event.Sync (0 ∷ 0 ∷ []) ∷ event.Draw (1 ∷ []) 210 ∷ event.Print (2 ∷ []) (Int (pos 210)) ∷ []; ending = Ok (Int (pos 0) ∷ []) }

abbrev pub child_of_a_scope : List Function
child_of_a_scope =
    function (codes "f") [] (stated (act.Let (name_node (codes "x")) (right.Draw 0)) ∷ []) (variable (codes "x"))
    ∷ function (codes "main") []
    (stated (act.Let (name_node (codes "a")) (right.Value (number 0)))
    ∷ stated (act.Scope (stated (act.Set (name_node (codes "a")) (spawn (codes "f") [])) ∷ []))
    ∷ stated (act.Print (variable (codes "a")))
    ∷ [])
    (number 0)
    ∷ []

-- a plan with the coefficients 0, 0, 1
abbrev pub plan_of_child : ℕ → PlanView
plan_of_child budget = in_version_two (with_depth 3 (0 ∷ 0 ∷ 1 ∷ []) (plan_of child_of_a_scope budget))

-- A child that is spawned in a scope stands below the scope's strand, and is waited for at the scope's end.
abbrev pub ChildStandsInItsScope : Type 0
ChildStandsInItsScope =
    (n : ℕ) → elision (plan_of_child (twenty_or_more n)) ≡ record { items = event.Spawn (0 ∷ 0 ∷ []) ∷ event.Draw (0 ∷ 0 ∷ 0 ∷ []) 21 ∷ event.Sync (0 ∷ 1 ∷ []) ∷ event.Print (1 ∷ []) (Int (pos 21)) ∷ event.Sync (1 ∷ []) ∷ []; ending = Ok (Int (pos 0) ∷ []) }
