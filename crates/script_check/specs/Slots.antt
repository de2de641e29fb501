-- The slots of a function's variables: a variable's slot is its index among the function's names.
use Rattle.std.specs.Prelude.{ℕ, suc, ◌-◌, Bool, true, false, ◌&&◌, nat_eq, List, [], ◌∷◌, ◌++◌, length, replicate, Option, Some, None, is_some, unwrap_or, map, position, slice_get, if◌then◌else◌}
use Rattle.std.specs.Str.{bytes_eq}
use Rattle.script_grammar.specs.declared.tree.Name.{Name}
use Rattle.script_grammar.specs.declared.tree.Param.{Param}
use Rattle.script_grammar.specs.declared.tree.Function.{Function}
use Rattle.script_grammar.specs.declared.tree.Expr.{Expr}
use Rattle.script_grammar.specs.declared.tree.Expr.TheFolds.{fold-Expr, fold-SumPart, fold-ProductPart}
use Rattle.script_grammar.specs.declared.tree.Expr.TheOpen as node
use Rattle.script_grammar.specs.declared.tree.Expr.TheOpen.{Expr-F}
use Rattle.script_grammar.specs.declared.tree.SumPart.{SumPart}
use Rattle.script_grammar.specs.declared.tree.ProductPart.{ProductPart}
use Rattle.script_grammar.specs.declared.tree.Right.{Right}
use Rattle.script_grammar.specs.declared.tree.Right.TheVariants as right
use Rattle.script_grammar.specs.declared.tree.Stmt.{Stmt}
use Rattle.script_grammar.specs.declared.tree.Act.TheOpen as act
use Rattle.script_grammar.specs.declared.tree.Act.TheOpen.{Act-F}
use Rattle.script_grammar.specs.declared.tree.Act.TheFolds.{fold-Stmt}

-- The variables that a script names, in the order of the text. The name of a called function isn't one, nor is a parallel loop's
-- variable.

abbrev pub joined : List (List Name) → List Name
joined [] = []
joined (names ∷ rest) = names ++ joined rest

abbrev pub named_at : Expr-F (List Name) (List Name) (List Name) → List Name
named_at (node.Number n) = []
named_at (node.Var x) = x ∷ []
named_at (node.Item x i) = x ∷ i
named_at (node.Neg at e) = e
named_at (node.Same at a b) = a ++ b
named_at (node.Older at a b) = a ++ b
named_at (node.Compare a how b) = a ++ b
named_at (node.Sum first rest) = first ++ joined rest
named_at (node.Product first rest) = first ++ joined rest

abbrev pub named_in : Expr → List Name
named_in = fold-Expr (List Name) (List Name) (List Name) named_at (λ p. p.operand) (λ p. p.operand)

abbrev pub named_in_summand : SumPart → List Name
named_in_summand = fold-SumPart (List Name) (List Name) (List Name) named_at (λ p. p.operand) (λ p. p.operand)

abbrev pub named_in_factor : ProductPart → List Name
named_in_factor = fold-ProductPart (List Name) (List Name) (List Name) named_at (λ p. p.operand) (λ p. p.operand)

abbrev pub named_in_all : List Expr → List Name
named_in_all es = joined (map named_in es)

abbrev pub named_in_right : Right → List Name
named_in_right (right.Value e) = named_in e
named_in_right (right.Draw at) = []
named_in_right (right.New at) = []
named_in_right (right.Call at c) = named_in_all c.args
named_in_right (right.Spawn at c) = named_in_all c.args

abbrev pub named_in_target : Option Name → List Name
named_in_target None = []
named_in_target (Some x) = x ∷ []

-- one statement, from the names in those inside it
abbrev pub named_in_act : Act-F (List Name) (List Name) → List Name
named_in_act (act.Let x r) = x ∷ named_in_right r
named_in_act (act.Array x n) = x ∷ []
named_in_act (act.Set x r) = x ∷ named_in_right r
named_in_act (act.Store x i e) = x ∷ (named_in i ++ named_in e)
named_in_act (act.Spawn c) = named_in_all c.args
named_in_act (act.Call c) = named_in_all c.args
named_in_act act.Sync = []
named_in_act (act.Print e) = named_in e
named_in_act (act.If e a b) = named_in e ++ (joined a ++ joined b)
named_in_act (act.While e a) = named_in e ++ joined a
named_in_act (act.Pfor x lo hi target c) = named_in lo ++ (named_in hi ++ (named_in_target target ++ named_in_all c.args))
named_in_act (act.Scope a) = joined a

abbrev pub named_in_statement : Stmt → List Name
named_in_statement = fold-Stmt (List Name) (List Name) named_in_act (λ s. s.act)

abbrev pub named_in_block : List Stmt → List Name
named_in_block sts = joined (map named_in_statement sts)

abbrev pub named_in_function : Function → List Name
named_in_function f = named_in_block f.body ++ named_in f.result

-- The names by which a script calls functions, in the order of the text.

abbrev pub called_in_right : Right → List Name
called_in_right (right.Value e) = []
called_in_right (right.Draw at) = []
called_in_right (right.New at) = []
called_in_right (right.Call at c) = c.name ∷ []
called_in_right (right.Spawn at c) = c.name ∷ []

-- one statement, from the names in those inside it
abbrev pub called_in_act : Act-F (List Name) (List Name) → List Name
called_in_act (act.Let x r) = called_in_right r
called_in_act (act.Array x n) = []
called_in_act (act.Set x r) = called_in_right r
called_in_act (act.Store x i e) = []
called_in_act (act.Spawn c) = c.name ∷ []
called_in_act (act.Call c) = c.name ∷ []
called_in_act act.Sync = []
called_in_act (act.Print e) = []
called_in_act (act.If e a b) = joined a ++ joined b
called_in_act (act.While e a) = joined a
called_in_act (act.Pfor x lo hi target c) = c.name ∷ []
called_in_act (act.Scope a) = joined a

abbrev pub called_in_statement : Stmt → List Name
called_in_statement = fold-Stmt (List Name) (List Name) called_in_act (λ s. s.act)

abbrev pub called_in_block : List Stmt → List Name
called_in_block sts = joined (map called_in_statement sts)

abbrev pub called_in : List Function → List Name
called_in functions = joined (map (λ f. called_in_block f.body) functions)

-- The variables of a function

-- a variable's slot
abbrev pub slot_in : List (List ℕ) → List ℕ → Option ℕ
slot_in names name = position (λ other. bytes_eq other name) names

-- the names with one more, where it is new
abbrev pub with_new_name : List (List ℕ) → List ℕ → List (List ℕ)
with_new_name names name = if is_some (slot_in names name) then names else names ++ name ∷ []

abbrev pub with_new_names : List (List ℕ) → List Name → List (List ℕ)
with_new_names names [] = names
with_new_names names (x ∷ xs) = with_new_names (with_new_name names x.bytes) xs

-- The names of a function's variables: its parameters, and then all others in its text, by their first offsets. In a valid script
-- these are those of its `let` statements.
abbrev pub variable_names : Function → List (List ℕ)
variable_names f = with_new_names (map (λ q. q.name.bytes) f.params) (named_in_function f)

-- The table of slots

-- both exist and are equal
abbrev pub agree : Option ℕ → Option ℕ → Bool
agree None j = false
agree (Some i) None = false
agree (Some i) (Some j) = nat_eq i j

-- the table has a name's slot at its offset
abbrev pub has_slot : List ℕ → List (List ℕ) → Name → Bool
has_slot table names x = agree (slice_get table x.at) (slot_in names x.bytes)

abbrev pub all_true : List Bool → Bool
all_true [] = true
all_true (b ∷ bs) = b && all_true bs

-- whether each name of a variable in a part of a script passes this test
module _ (is : Name → Bool) where
  abbrev pub every_at : Expr-F Bool Bool Bool → Bool
  every_at (node.Number n) = true
  every_at (node.Var x) = is x
  every_at (node.Item x i) = is x && i
  every_at (node.Neg at e) = e
  every_at (node.Same at a b) = a && b
  every_at (node.Older at a b) = a && b
  every_at (node.Compare a how b) = a && b
  every_at (node.Sum first rest) = first && all_true rest
  every_at (node.Product first rest) = first && all_true rest

  abbrev pub every_in : Expr → Bool
  every_in = fold-Expr Bool Bool Bool every_at (λ p. p.operand) (λ p. p.operand)

  abbrev pub every_in_summand : SumPart → Bool
  every_in_summand = fold-SumPart Bool Bool Bool every_at (λ p. p.operand) (λ p. p.operand)

  abbrev pub every_in_factor : ProductPart → Bool
  every_in_factor = fold-ProductPart Bool Bool Bool every_at (λ p. p.operand) (λ p. p.operand)

  abbrev pub every_in_all : List Expr → Bool
  every_in_all es = all_true (map every_in es)

  abbrev pub every_in_target : Option Name → Bool
  every_in_target None = true
  every_in_target (Some x) = is x

  -- and each name of a called function passes that test
  module _ (calls : Name → Bool) where
    abbrev pub every_in_right : Right → Bool
    every_in_right (right.Value e) = every_in e
    every_in_right (right.Draw at) = true
    every_in_right (right.New at) = true
    every_in_right (right.Call at c) = calls c.name && every_in_all c.args
    every_in_right (right.Spawn at c) = calls c.name && every_in_all c.args

    -- one statement, from the results for those inside it
    abbrev pub every_in_act : Act-F Bool Bool → Bool
    every_in_act (act.Let x r) = is x && every_in_right r
    every_in_act (act.Array x n) = is x
    every_in_act (act.Set x r) = is x && every_in_right r
    every_in_act (act.Store x i e) = is x && (every_in i && every_in e)
    every_in_act (act.Spawn c) = calls c.name && every_in_all c.args
    every_in_act (act.Call c) = calls c.name && every_in_all c.args
    every_in_act act.Sync = true
    every_in_act (act.Print e) = every_in e
    every_in_act (act.If e a b) = every_in e && (all_true a && all_true b)
    every_in_act (act.While e a) = every_in e && all_true a
    every_in_act (act.Pfor x lo hi target c) = every_in lo && (every_in hi && (every_in_target target && (calls c.name && every_in_all c.args)))
    every_in_act (act.Scope a) = all_true a

    abbrev pub every_in_statement : Stmt → Bool
    every_in_statement = fold-Stmt Bool Bool every_in_act (λ s. s.act)

    abbrev pub every_in_block : List Stmt → Bool
    every_in_block sts = all_true (map every_in_statement sts)

-- each parameter's slot is its own index: no two have the same name
abbrev pub stand_from : ℕ → List (List ℕ) → List Param → Bool
stand_from i names [] = true
stand_from i names (q ∷ params) = agree (Some i) (slot_in names q.name.bytes) && stand_from (suc i) names params

-- A table that is made, one name after another

-- a slot at an offset after the table's end
abbrev pub with_entry : List ℕ → ℕ → ℕ → List ℕ
with_entry table at slot = (table ++ replicate (at - length table) 0) ++ slot ∷ []

abbrev pub with_entries : List (List ℕ) → List ℕ → List Name → List ℕ
with_entries names table [] = table
with_entries names table (x ∷ xs) = with_entries names (with_entry table x.at (unwrap_or (slot_in names x.bytes) 0)) xs

-- The table of callees has, at the offset of the name by which a function is called, the function's index

abbrev pub function_names : List Function → List (List ℕ)
function_names = map (λ f. f.name.bytes)

abbrev pub table_of_callees : List Function → List ℕ
table_of_callees functions = with_entries (function_names functions) [] (called_in functions)

abbrev pub finds_callee : List Function → Name → Bool
finds_callee functions = has_slot (table_of_callees functions) (function_names functions)

-- The tables are complete for a function: they have the slot of each variable that it names, and the index of each function that it
-- calls.
abbrev pub finds_in : List ℕ → List Function → Function → Bool
finds_in table functions f =
    let names = variable_names f in
    stand_from 0 names f.params && (every_in_block (has_slot table names) (finds_callee functions) f.body && every_in (has_slot table names) f.result)

abbrev pub finds_all : List ℕ → List Function → Bool
finds_all table functions = all_true (map (finds_in table functions) functions)

-- the names of the variables of each function
abbrev pub each_names : List Function → List (List (List ℕ))
each_names = map variable_names

-- The table of slots, function by function

abbrev pub with_functions : List ℕ → List Function → List ℕ
with_functions table [] = table
with_functions table (f ∷ fs) = with_functions (with_entries (variable_names f) table (named_in_function f)) fs

abbrev pub table_of_slots : List Function → List ℕ
table_of_slots functions = with_functions [] functions
