-- Definitions for the contracts of private functions.
use Rattle.std.specs.Prelude.{◌≡◌, ℕ, Bool, true, false, ◌||◌, ◌&&◌, not, List, [], ◌∷◌, map, is_some}
use Rattle.std.specs.Str.{bytes_eq}
use Rattle.script_grammar.specs.declared.tree.Function.{Function}
use Rattle.script_grammar.specs.declared.tree.Stmt.{Stmt}
use Rattle.script_grammar.specs.declared.tree.Act.{Act}
use Rattle.script_grammar.specs.declared.tree.Act.TheOpen as act
use Rattle.script_grammar.specs.declared.tree.Act.TheOpen.{Act-F, Stmt-F}
use Rattle.script_grammar.specs.declared.tree.Act.TheFolds.{fold-Stmt, fold-Act}
use Rattle.script_grammar.specs.declared.tree.Script.{Script}
use Rattle.script_grammar.specs.Text.{IsOfText}
use Rattle.script_check.specs.Valid.{IsValid}
use Rattle.script_check.specs.declared.symbols.Change.{Change}
use Rattle.script_check.specs.declared.symbols.Change.TheVariants.{Added, Cleared}
use Rattle.script_check.specs.declared.symbols.SymbolTable.{SymbolTable}
use Rattle.script_check.specs.Spawns.{each_spawns}
use Rattle.script_check.specs.Tables.{Table, table_of}
use Rattle.script_check.specs.Functions.{first_named}
use Rattle.script_check.specs.Names.{NameSet}
use Rattle.script_check.specs.Rules.{Declared}
use Rattle.script_check.specs.Statements.{judge, judge_all, known_each, after}
use Rattle.script_check.specs.Slots.{each_names, finds_all, has_slot, slot_in, table_of_callees, table_of_slots}
use Rattle.script_grammar.specs.declared.tree.Name.{Name}

-- the table has the index of the first function of each name
abbrev pub IsIndex : List Function → Table ℕ → Type 0
IsIndex functions table = (name : List ℕ) → table.what name ≡ first_named functions name

-- the table has the first index of each of these names
abbrev pub IsSlotIndex : List (List ℕ) → Table ℕ → Type 0
IsSlotIndex names table = (name : List ℕ) → table.what name ≡ slot_in names name

-- a table of slots by offset, and the names of a function's variables
pub record FindingView : Type 0 where
  pub table : List ℕ
  pub names : List (List ℕ)

abbrev pub finds : FindingView → Name → Bool
finds f = has_slot f.table f.names

-- the names of a table
abbrev pub names_of : {A : Type 0} → Table A → NameSet
names_of table name = is_some (table.what name)

-- the set without a name
abbrev pub without_name : List ℕ → NameSet → NameSet
without_name x p y = not (bytes_eq x y) && p y

-- the pending set before a change
abbrev pub undo : Change → NameSet → NameSet
undo (Added name) p = without_name name.items p
undo (Cleared old) p = names_of (table_of old.map)

-- the same before several changes, undone from the last to the first
abbrev pub undone : List Change → NameSet → NameSet
undone [] p = p
undone (c ∷ cs) p = undo c (undone cs p)

-- The state of the walk before a statement: the declared variables, the pending set, whether what was pending at the start of the
-- innermost block may still be, and the set that was pending there.
pub record WalkState : Type 0 where
  pub known : Declared
  pub names : NameSet
  pub keeps : Bool
  pub before : NameSet

abbrev pub known_in : SymbolTable → Declared
known_in symbols = table_of symbols.known.map

abbrev pub pending_in : SymbolTable → NameSet
pending_in symbols = names_of (table_of symbols.pending.map)

abbrev pub walk_state : SymbolTable → WalkState
walk_state symbols =
    record { known = known_in symbols; names = pending_in symbols; keeps = symbols.block.keeps; before = undone symbols.block.changes.items (pending_in symbols) }

-- whether what is pending before may still be pending after
abbrev pub keeps_each : List Bool → Bool
keeps_each [] = true
keeps_each (b ∷ bs) = b && keeps_each bs

abbrev pub keeps_act : {A : Type 0} → Act-F A Bool → Bool
keeps_act (act.Let x r) = true
keeps_act (act.Array x n) = true
keeps_act (act.Set x r) = true
keeps_act (act.Store x i e) = true
keeps_act (act.Spawn c) = true
keeps_act (act.Call c) = true
keeps_act act.Sync = false
keeps_act (act.Print e) = true
keeps_act (act.If e a b) = keeps_each a || keeps_each b
keeps_act (act.While e a) = true
keeps_act (act.Pfor x lo hi target c) = true
keeps_act (act.Scope a) = false

-- It contains blocks.
abbrev pub HasBlocks : {S : Type 0} → Act-F Act S → Type 0
HasBlocks (act.If e a b) = Unit {0}
HasBlocks (act.While e a) = Unit {0}
HasBlocks (act.Scope a) = Unit {0}
HasBlocks _ = ⊥

abbrev pub keeps : Stmt → Bool
keeps = fold-Stmt Bool Bool keeps_act (λ s. s.act)

abbrev pub keeps_what : Act → Bool
keeps_what = fold-Act Bool Bool keeps_act (λ s. s.act)

abbrev pub keeps_all : List Stmt → Bool
keeps_all ss = keeps_each (map keeps ss)

-- the state after a statement
abbrev pub state_after : List Function → Stmt → WalkState → WalkState
state_after functions s state =
    record {
      known = (judge s).known functions state.known;
      names = (judge s).after state.names;
      keeps = keeps s && state.keeps;
      before = state.before;
    }

abbrev pub state_after_all : List Function → List Stmt → WalkState → WalkState
state_after_all functions ss state =
    record {
      known = known_each (judge_all ss) functions state.known;
      names = after ss state.names;
      keeps = keeps_all ss && state.keeps;
      before = state.before;
    }

-- what a checked script holds
pub record IsChecked (script : Script) (first : Table ℕ) (spawns : List Bool) (names : List (List (List ℕ))) (slots callees : List ℕ) : Type 0 where
  pub valid : IsValid script
  pub text : IsOfText script
  pub index : IsIndex script.functions first
  pub spawn : spawns ≡ each_spawns script.functions
  pub variables : names ≡ each_names script.functions
  pub placed : slots ≡ table_of_slots script.functions
  pub called : callees ≡ table_of_callees script.functions
  pub found : finds_all slots script.functions ≡ true
