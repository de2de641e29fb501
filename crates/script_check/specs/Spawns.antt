-- Whether a function's text contains a spawn, so that its return waits (docs/LANGUAGE.md, "Steps").
use Rattle.std.specs.Prelude.{Bool, true, false, ◌||◌, List, [], ◌∷◌, Option, Some, None, map}
use Rattle.script_grammar.specs.declared.tree.Function.{Function}
use Rattle.script_grammar.specs.declared.tree.Right.{Right}
use Rattle.script_grammar.specs.declared.tree.Right.TheVariants as right
use Rattle.script_grammar.specs.declared.tree.Stmt.{Stmt}
use Rattle.script_grammar.specs.declared.tree.Act.TheOpen as act
use Rattle.script_grammar.specs.declared.tree.Act.TheOpen.{Act-F}
use Rattle.script_grammar.specs.declared.tree.Act.TheFolds.{fold-Stmt}

abbrev pub is_spawn : Right → Bool
is_spawn (right.Value e) = false
is_spawn (right.Draw at) = false
is_spawn (right.New at) = false
is_spawn (right.Call at c) = false
is_spawn (right.Spawn at c) = true

abbrev pub any_true : List Bool → Bool
any_true [] = false
any_true (b ∷ bs) = b || any_true bs

abbrev pub act_spawns : Act-F Bool Bool → Bool
act_spawns (act.Let x r) = is_spawn r
act_spawns (act.Array x n) = false
act_spawns (act.Set x r) = is_spawn r
act_spawns (act.Store x i e) = false
act_spawns (act.Spawn c) = true
act_spawns (act.Call c) = false
act_spawns act.Sync = false
act_spawns (act.Print e) = false
act_spawns (act.If e a b) = any_true a || any_true b
act_spawns (act.While e a) = any_true a
act_spawns (act.Pfor x lo hi target c) = false
act_spawns (act.Scope a) = any_true a

-- whether the word `spawn` is in a statement, also in its blocks
abbrev pub spawns : Stmt → Bool
spawns = fold-Stmt Bool Bool act_spawns (λ s. s.act)

abbrev pub any_spawns : List Stmt → Bool
any_spawns sts = any_true (map spawns sts)

-- whether it is in a function, if there is one
abbrev pub spawns_in : Option Function → Bool
spawns_in (Some f) = any_spawns f.body
spawns_in None = false

-- the same of each function
abbrev pub each_spawns : List Function → List Bool
each_spawns = map (λ f. any_spawns f.body)
