-- Laws of the pending sets, of the fault that is reported, and of the tables of slots and of callees. Each is the contract of a
-- function of the module `laws`.
use Rattle.std.specs.Prelude.{◌≡◌, ℕ, ◌<◌, ◌≤◌, ◌⊎◌, true, List, [], length, All}
use Rattle.script_grammar.specs.declared.tree.Stmt.{Stmt}
use Rattle.script_grammar.specs.declared.tree.Script.{Script}
use Rattle.script_check.specs.Names.{NameSet, IsWithin, union}
use Rattle.script_check.specs.Rules.{Declared, most_variables}
use Rattle.script_check.specs.Statements.{Context, judge_all, violations_each, after}
use Rattle.script_grammar.specs.Text.{IsOfText}
use Rattle.script_check.specs.Slots.{finds_all, table_of_slots, variable_names}
use Rattle.script_check.specs.Valid.{violations, CheckFault, IsValid}

-- Statements that are valid from a set are valid from each subset of it, and leave no more pending.
abbrev pub FewerPendingStaysValid : Type 0
FewerPendingStaysValid =
    (statements : List Stmt) (context : Context) (known : Declared) (fewer p : NameSet) → IsWithin fewer p →
    violations_each (judge_all statements) context known p ≡ [] →
    (violations_each (judge_all statements) context known fewer ≡ []) × IsWithin (after statements fewer) (after statements p)

-- The set that a `while` is judged with contains all that its body leaves pending from that set.
abbrev pub LoopSetIsClosed : Type 0
LoopSetIsClosed = (body : List Stmt) (p : NameSet) → let q = union p (after body p) in IsWithin (after body q) q

-- A script has at most one fault.
abbrev pub FaultIsUnique : Type 0
FaultIsUnique = (script : Script) (number at other place : ℕ) → CheckFault script number at → CheckFault script other place → (number ≡ other) × (at ≡ place)

-- The fault is at the first offset of all violated conditions, and has the least number of those violated there.
abbrev pub FaultIsFirst : Type 0
FaultIsFirst =
    (script : Script) (number at : ℕ) → CheckFault script number at → All (λ v. (at < v.at) ⊎ ((at ≡ v.at) × (number ≤ v.number))) (violations script)

-- The tables made of a valid script have the slot of each variable that the script names, and the index of each function that it
-- calls.
abbrev pub SlotsAreFound : Type 0
SlotsAreFound = (script : Script) → IsOfText script → IsValid script → finds_all (table_of_slots script.functions) script.functions ≡ true

-- A function of a valid script has at most 256 variables.
abbrev pub VariablesAreFew : Type 0
VariablesAreFew = (script : Script) → IsValid script → All (λ f. length (variable_names f) ≤ most_variables) script.functions
