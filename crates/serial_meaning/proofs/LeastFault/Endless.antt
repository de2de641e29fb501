-- A child that faults beside a parent that goes on until its budget is spent.
use Rattle.std.proofs.Common.{◌≡◌, ℕ, zero, suc, false, List, [], ◌∷◌, Option, Some, None, Ok, Err, codes, refl, ap, ◌∙◌, rules}
use Rattle.std.proofs.Common.{pos}
use Rattle.script_grammar.specs.declared.tree.Expr.{Expr}
use Rattle.script_grammar.specs.declared.tree.Expr.TheVariants as expr
use Rattle.script_grammar.specs.declared.tree.Comparison.TheVariants as compares
use Rattle.script_grammar.specs.declared.tree.ProductSign.TheVariants as sign
use Rattle.script_grammar.specs.declared.tree.Right.TheVariants as right
use Rattle.script_grammar.specs.declared.tree.Stmt.{Stmt, out-Stmt}
use Rattle.script_grammar.specs.declared.tree.Act.{out-Act, the_lemmas}
use Rattle.script_grammar.specs.declared.tree.Act.TheVariants as act
use Rattle.script_grammar.specs.declared.tree.Act.TheOpen as node
use Rattle.serial_meaning.specs.Runs.{Run, done, run_ends_by, after_items, ◌then◌}
use Rattle.serial_meaning.specs.Values.{value_of}
use Rattle.serial_meaning.specs.Plan.{PlanView}
use Rattle.serial_meaning.specs.Exec.{State, Interpretation, fault, statement, exec, function_end, instance}
use Rattle.serial_meaning.specs.Eval.{Evaluation, serial, eval_below}
use Rattle.serial_meaning.specs.Open.{Item, Happened, Child, NodeFault, Own, deferring, node_of}
use Rattle.serial_meaning.specs.Trees.{name_node, number, variable, product, spawn, stated}
use Rattle.serial_meaning.specs.Examples.{bad, endless_main, endless_body, never_reached, endless_plan, ElisionEndsAtTheChildsFault, OpenTreeHasBothFaults}
use Rattle.serial_meaning.proofs.Equations.ExecLaws.{exec-cons, exec-nil}
use Rattle.serial_meaning.proofs.RisingPedigrees.Named.{product_part-is}
use Rattle.serial_meaning.specs.Functions.{any_spawns}
use Rattle.serial_meaning.proofs.Equations.Computing.{value_of-number, value_of-variable, value_of-comparison, value_of-product, spawns-out}
use Rattle.serial_meaning.specs.declared.value.Value.{Value}
use Rattle.serial_meaning.specs.declared.value.Value.TheVariants.{Int}
use Rattle.serial_meaning.specs.declared.environment.Content.TheVariants.{Scalar}
use Rattle.serial_meaning.specs.declared.environment.Variable.{Variable}
use Rattle.serial_meaning.specs.declared.event.Fault.{Fault}
use Rattle.serial_meaning.specs.declared.event.FaultKind.TheVariants.{Divide, Budget}
use Rattle.serial_meaning.specs.declared.event.Event.{Event}
use Rattle.serial_meaning.specs.declared.event.Event.TheVariants as event
use Rattle.serial_meaning.specs.declared.origin.Origin.{Origin}
use Rattle.serial_meaning.specs.declared.origin.Origin.TheVariants as origin

abbrev variable_is : List ℕ → ℕ → Variable
variable_is x n = record { name = x; content = Scalar (Int (pos n)) }

one_over_zero : value_of (product (number 1) sign.Over (variable (codes "z"))) (variable_is (codes "z") 0 ∷ []) ≡ Err Divide
one_over_zero = simp (value_of-product, product_part-is, value_of-number, value_of-variable)

abbrev cond : Expr
cond = expr.Compare (variable (codes "i")) compares.Eq (number 0)

abbrev set : Stmt
set = stated (act.Set (name_node (codes "i")) (right.Value (number 0)))

abbrev spinning : Stmt
spinning = stated (act.While cond (set ∷ []))

opened_loop : out-Act (out-Stmt spinning).act ≡ node.While cond (set ∷ [])
opened_loop = search (rules, the_lemmas)

opened_set : out-Act (out-Stmt set).act ≡ node.Set (name_node (codes "i")) (right.Value (number 0))
opened_set = search (rules, the_lemmas)

opened_print : out-Act (out-Stmt (stated (act.Print (number 7)))).act ≡ node.Print (number 7)
opened_print = search (rules, the_lemmas)

opened_spawn : out-Act (out-Stmt (stated (act.Let (name_node (codes "a")) (spawn (codes "bad") [])))).act ≡ node.Let (name_node (codes "a")) (spawn (codes "bad") [])
opened_spawn = search (rules, the_lemmas)

opened_let : (x : List ℕ) (n : ℕ) → out-Act (out-Stmt (stated (act.Let (name_node x) (right.Value (number n))))).act ≡ node.Let (name_node x) (right.Value (number n))
opened_let x n = search (rules, the_lemmas)

module _ {I E K : Type 0} (how : Interpretation I E K) (plan : PlanView) (path : List ℕ) (calls : ℕ) (k : K) where
  -- before the loop's test, with so many steps
  abbrev turning : ℕ → State K
  turning n = record { env = variable_is (codes "a") 0 ∷ variable_is (codes "i") 0 ∷ []; rank = 1; steps = n; spawned = k }

  holds : value_of cond (turning 0).env ≡ Ok (Int (pos 1))
  holds = simp (value_of-comparison, value_of-number, value_of-variable)

  after_test : (n : ℕ) → statement how plan path (exec how plan) calls spinning (turning (suc n)) ≡ (exec how plan path calls (set ∷ []) (turning n) then exec how plan path calls (spinning ∷ []))
  after_test n = rw (opened_loop, holds)

  set-step : (n : ℕ) → statement how plan path (exec how plan) calls set (turning (suc n)) ≡ done (turning n)
  set-step n = rw (opened_set, value_of-number)

  set-none : exec how plan path calls (set ∷ []) (turning zero) ≡ fault how plan path Budget (turning zero)
  set-none = refl

  set-some : (n : ℕ) → exec how plan path calls (set ∷ []) (turning (suc n)) ≡ done (turning n)
  set-some n = exec-cons how plan path calls set [] (turning (suc n)) ∙ ap (λ r. r then exec how plan path calls []) (set-step n) ∙ exec-nil how plan path calls (turning n)

  -- A loop that never ends goes on until no step is left.
  spins : (n : ℕ) → statement how plan path (exec how plan) calls spinning (turning n) ≡ fault how plan path Budget (turning n)
  spins zero = refl
  spins (suc zero) = after_test zero ∙ ap (λ r. r then exec how plan path calls (spinning ∷ [])) set-none
  spins (suc (suc n)) =
      after_test (suc n) ∙ ap (λ r. r then exec how plan path calls (spinning ∷ [])) (set-some n)
      ∙ exec-cons how plan path calls spinning [] (turning n) ∙ ap (λ r. r then exec how plan path calls []) (spins n)

  rest-spins : (n : ℕ) → exec how plan path calls endless_body (turning n) ≡ fault how plan path Budget (turning n)
  rest-spins n =
      exec-cons how plan path calls spinning never_reached (turning n) ∙ ap (λ r. r then exec how plan path calls never_reached) (spins n)

abbrev divided : Fault
divided = record { kind = Divide; at = 0 ∷ 0 ∷ [] }

abbrev spent : Fault
spent = record { kind = Budget; at = 1 ∷ [] }

abbrev child_origin : Origin
child_origin = origin.Instance 0 [] (0 ∷ [])

no_spawn : any_spawns bad.body ≡ false
unfolding out-Act denote.Hole.Carrier.out
no_spawn = simp spawns-out

module _ {I E K : Type 0} (how : Interpretation I E K) (n : ℕ) where
  abbrev bad_begins : State K
  bad_begins = record { env = []; rank = 0; steps = suc (suc (suc n)); spawned = how.none }

  abbrev bad_goes_on : State K
  bad_goes_on = record { env = variable_is (codes "z") 0 ∷ []; rank = 0; steps = suc (suc n); spawned = how.none }

  bad-step : statement how (endless_plan n) (0 ∷ []) (exec how (endless_plan n)) 0 (stated (act.Let (name_node (codes "z")) (right.Value (number 0)))) bad_begins ≡ done bad_goes_on
  bad-step = rw (opened_let, value_of-number)

  bad-body : exec how (endless_plan n) (0 ∷ []) 0 bad.body bad_begins ≡ done bad_goes_on
  bad-body =
      exec-cons how (endless_plan n) (0 ∷ []) 0 (stated (act.Let (name_node (codes "z")) (right.Value (number 0)))) [] bad_begins
      ∙ ap (λ r. r then exec how (endless_plan n) (0 ∷ []) 0 []) bad-step ∙ exec-nil how (endless_plan n) (0 ∷ []) 0 bad_goes_on

  bad-ends : function_end how (endless_plan n) (0 ∷ []) bad bad_goes_on ≡ run_ends_by (how.own divided)
  bad-ends = rw (no_spawn, one_over_zero)

  bad-faults : instance how (endless_plan n) (0 ∷ []) (Some bad) [] ≡ run_ends_by (how.own divided)
  bad-faults =
      ap (λ (r : Run I E (State K)). (r then function_end how (endless_plan n) (0 ∷ []) bad) then λ p. done p.0) bad-body
      ∙ ap (λ (r : Run I E (Value × State K)). after_items [] r then λ p. done p.0) bad-ends

module _ {K : Type 0} (n : ℕ) (k : K) where
  abbrev first : State K
  first = record { env = []; rank = 0; steps = suc (suc (suc n)); spawned = k }

  abbrev second : State K
  second = record { env = []; rank = 0; steps = suc (suc n); spawned = k }

module _ (n : ℕ) (child : Origin → Evaluation) (faulting : child child_origin ≡ record { items = []; ending = Err divided }) where
  abbrev plan : PlanView
  plan = endless_plan n

  serial-run : instance (serial child) plan [] (Some endless_main) [] ≡ record { items = event.Print (0 ∷ []) (Int (pos 7)) ∷ event.Spawn (0 ∷ []) ∷ []; ending = Err divided }
  serial-run = simp (opened_print, opened_spawn, value_of-number, faulting)

  abbrev how : Interpretation Item NodeFault (Option Fault)
  how = deferring plan child

  abbrev third : State (Option Fault)
  third = record { env = variable_is (codes "a") 0 ∷ []; rank = 1; steps = suc n; spawned = Some divided }

  prints : statement how plan [] (exec how plan) 0 (stated (act.Print (number 7))) (first n None) ≡ record { items = Happened (event.Print (0 ∷ []) (Int (pos 7))) ∷ []; ending = Ok (second n None) }
  prints = rw (opened_print, value_of-number)

  spawns : statement how plan [] (exec how plan) 0 (stated (act.Let (name_node (codes "a")) (spawn (codes "bad") []))) (second n None) ≡ record { items = Happened (event.Spawn (0 ∷ [])) ∷ Child child_origin ∷ []; ending = Ok third }
  spawns = rw (opened_spawn, faulting)

  lets : statement how plan [] (exec how plan) 0 (stated (act.Let (name_node (codes "i")) (right.Value (number 0)))) third ≡ done (turning how plan [] 0 (Some divided) n)
  lets = rw (opened_let, value_of-number)

  from-third : exec how plan [] 0 (stated (act.Let (name_node (codes "i")) (right.Value (number 0))) ∷ endless_body) third ≡ run_ends_by (Own spent)
  from-third =
      exec-cons how plan [] 0 _ endless_body third ∙ ap (λ r. r then exec how plan [] 0 endless_body) lets ∙ rest-spins how plan [] 0 (Some divided) n

  from-second : exec how plan [] 0 (stated (act.Let (name_node (codes "a")) (spawn (codes "bad") [])) ∷ stated (act.Let (name_node (codes "i")) (right.Value (number 0))) ∷ endless_body) (second n None) ≡ record { items = Happened (event.Spawn (0 ∷ [])) ∷ Child child_origin ∷ []; ending = Err (Own spent) }
  from-second =
      exec-cons how plan [] 0 _ _ (second n None) ∙ ap (λ r. r then exec how plan [] 0 (stated (act.Let (name_node (codes "i")) (right.Value (number 0))) ∷ endless_body)) spawns
      ∙ ap (after_items (Happened (event.Spawn (0 ∷ [])) ∷ Child child_origin ∷ [])) from-third

  from-first : exec how plan [] 0 endless_main.body (first n None) ≡ record { items = Happened (event.Print (0 ∷ []) (Int (pos 7))) ∷ Happened (event.Spawn (0 ∷ [])) ∷ Child child_origin ∷ []; ending = Err (Own spent) }
  from-first =
      exec-cons how plan [] 0 _ _ (first n None) ∙ ap (λ r. r then exec how plan [] 0 (stated (act.Let (name_node (codes "a")) (spawn (codes "bad") [])) ∷ stated (act.Let (name_node (codes "i")) (right.Value (number 0))) ∷ endless_body)) prints
      ∙ ap (after_items (Happened (event.Print (0 ∷ []) (Int (pos 7))) ∷ [])) from-second

  open-run : instance how plan [] (Some endless_main) [] ≡ record { items = Happened (event.Print (0 ∷ []) (Int (pos 7))) ∷ Happened (event.Spawn (0 ∷ [])) ∷ Child child_origin ∷ []; ending = Err (Own spent) }
  open-run = ap (λ r. (r then function_end how plan [] endless_main) then λ p. done p.0) from-first

-- what the child gives, and its node
child-evaluation : (n : ℕ) → eval_below (endless_plan n) 3 child_origin ≡ record { items = []; ending = Err divided }
child-evaluation n = ap (λ (r : Run Event Fault Value). r then λ v. done (v ∷ [])) (bad-faults (serial (eval_below (endless_plan n) 2)) n)

child-node : (n : ℕ) → node_of (endless_plan n) child_origin ≡ record { items = []; ending = Err (Own divided) }
child-node n = ap (λ (r : Run Item NodeFault Value). r then λ v. done (v ∷ [])) (bad-faults (deferring (endless_plan n) (eval_below (endless_plan n) 2)) n)

pub elision_ends_at_the_childs_fault : ElisionEndsAtTheChildsFault
elision_ends_at_the_childs_fault n = ap (λ (r : Run Event Fault Value). r then λ v. done (v ∷ [])) (serial-run n (eval_below (endless_plan n) 3) (child-evaluation n))

main-node : (n : ℕ) → node_of (endless_plan n) (origin.Instance 1 [] []) ≡ record { items = Happened (event.Print (0 ∷ []) (Int (pos 7))) ∷ Happened (event.Spawn (0 ∷ [])) ∷ Child child_origin ∷ []; ending = Err (Own spent) }
main-node n = ap (λ (r : Run Item NodeFault Value). r then λ v. done (v ∷ [])) (open-run n (eval_below (endless_plan n) 3) (child-evaluation n))

pub open_tree_has_both_faults : OpenTreeHasBothFaults
open_tree_has_both_faults n = rw (main-node n, child-node n)
