-- Where the variables that statements name are found, and the functions that they call.
use Rattle.std.specs.Prelude.{◌≡◌, ℕ, Bool, true, List, Option}
use Rattle.script_check.specs.Slots.{every_in_all, every_in_right, every_in_statement, every_in_target, finds_all, finds_callee, has_slot, table_of_slots}
use Rattle.script_grammar.specs.declared.tree.CallText.{CallText}
use Rattle.script_grammar.specs.declared.tree.Expr.{Expr}
use Rattle.script_grammar.specs.declared.tree.Name.{Name}
use Rattle.script_grammar.specs.declared.tree.Right.{Right}
use Rattle.script_grammar.specs.declared.tree.Stmt.{Stmt}
use Rattle.serial_meaning.specs.Plan.{PlanView, functions_of}
use Rattle.strand_values.specs.Environments.{EnvironmentView, FindsExpression, FindsArguments}

-- the plan's table of slots, which has the slot of each variable that a function of the plan names
pub record AreSlots (slots : List ℕ) (plan : PlanView) : Type 0 where
  pub table : slots ≡ table_of_slots (functions_of plan)
  pub found : finds_all slots (functions_of plan) ≡ true

-- the plan's table of callees has the function that is called by this name
abbrev pub FindsCallee : PlanView → Name → Type 0
FindsCallee plan x = finds_callee (functions_of plan) x ≡ true

-- the tables have each variable that is named here, and each function that is called
abbrev pub FindsStatement : PlanView → List ℕ → EnvironmentView → Stmt → Type 0
FindsStatement plan slots env st = every_in_statement (has_slot slots env.names) (finds_callee (functions_of plan)) st ≡ true

abbrev pub FindsRight : PlanView → List ℕ → EnvironmentView → Right → Type 0
FindsRight plan slots env r = every_in_right (has_slot slots env.names) (finds_callee (functions_of plan)) r ≡ true

abbrev pub FindsTarget : List ℕ → EnvironmentView → Option Name → Type 0
FindsTarget slots env target = every_in_target (has_slot slots env.names) target ≡ true

-- The table has each variable that is named here, whatever is called.
abbrev pub FindsVariables : List ℕ → EnvironmentView → Stmt → Type 0
FindsVariables slots env st = (calls : Name → Bool) × (every_in_statement (has_slot slots env.names) calls st ≡ true)

abbrev pub FindsRightVariables : List ℕ → EnvironmentView → Right → Type 0
FindsRightVariables slots env r = (calls : Name → Bool) × (every_in_right (has_slot slots env.names) calls r ≡ true)

-- Each variable that a spawn names passes one test, and what it calls the other.
pub record EveryInSpawn (is calls : Name → Bool) (to : Option Name) (c : CallText) : Type 0 where
  pub target : every_in_target is to ≡ true
  pub called : calls c.name ≡ true
  pub args : every_in_all is c.args ≡ true

abbrev pub FindsSpawn : PlanView → List ℕ → EnvironmentView → Option Name → CallText → Type 0
FindsSpawn plan slots env to c = EveryInSpawn (has_slot slots env.names) (finds_callee (functions_of plan)) to c

-- and each that a parallel loop names
pub record FindsLoop (plan : PlanView) (slots : List ℕ) (env : EnvironmentView) (lo hi : Expr) (to : Option Name) (c : CallText) : Type 0 where
  pub first : FindsExpression slots env lo
  pub end : FindsExpression slots env hi
  pub target : FindsTarget slots env to
  pub called : FindsCallee plan c.name
  pub args : FindsArguments slots env c.args
