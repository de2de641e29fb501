-- Which scripts are valid, and the first condition that another one violates.
use Rattle.std.specs.Prelude.{◌≡◌, ℕ, true, false, List, [], ◌∷◌, ◌++◌, Option, Some, None, is_some, All, Contains}
use Rattle.script_grammar.specs.declared.tree.Param.{Param}
use Rattle.script_grammar.specs.declared.tree.Function.{Function}
use Rattle.script_grammar.specs.declared.tree.Script.{Script}
use Rattle.script_check.specs.declared.findings.Violation.{Violation}
use Rattle.script_check.specs.declared.variable.Variable.TheVariants.{Scalar}
use Rattle.script_check.specs.Conditions.{number_of}
use Rattle.script_check.specs.declared.condition.Condition.TheVariants.{NoMain, MainHasParameters, FunctionTwice}
use Rattle.script_check.specs.Violations.{violation, violation_if, is_before}
use Rattle.script_check.specs.Tables.{no_entries, with_first}
use Rattle.script_check.specs.Functions.{first_named, function_named, main_name}
use Rattle.script_check.specs.Names.{no_names}
use Rattle.script_check.specs.Rules.{Declared, declaration}
use Rattle.script_check.specs.Expressions.{wanted, reading_of}
use Rattle.script_check.specs.Statements.{context, judge_all, known_each, violations_each}

abbrev pub known_params : List Param → Declared → Declared
known_params [] known = known
known_params (q ∷ params) known = known_params params (with_first known q.name.bytes (Scalar q.kind))

abbrev pub param_violations : List Param → Declared → List Violation
param_violations [] known = []
param_violations (q ∷ params) known = declaration known q.name ++ param_violations params (with_first known q.name.bytes (Scalar q.kind))

-- The violations in a function: in its parameters, its body, and its result, which is read after a sync.
abbrev pub function_violations : List Function → Function → List Violation
function_violations functions f =
    let known = known_params f.params no_entries in
    param_violations f.params no_entries
    ++ violations_each (judge_all f.body) (context functions false) known no_names
    ++ wanted f.answer (reading_of f.result) (known_each (judge_all f.body) functions known) no_names

abbrev pub all_function_violations : List Function → List Function → List Violation
all_function_violations functions [] = []
all_function_violations functions (f ∷ fs) = function_violations functions f ++ all_function_violations functions fs

-- the functions that have the name of an earlier one
abbrev pub functions_twice : List Function → List Function → List Violation
functions_twice before [] = []
functions_twice before (f ∷ fs) =
    violation_if (is_some (first_named before f.name.bytes)) (number_of FunctionTwice) f.name.at ++ functions_twice (before ++ f ∷ []) fs

abbrev pub main_with_parameters : List Param → List Violation
main_with_parameters [] = []
main_with_parameters (q ∷ params) = violation_if true (number_of MainHasParameters) q.name.at

abbrev pub main_violations : Option Function → List Violation
main_violations None = violation_if true (number_of NoMain) 0
main_violations (Some main) = main_with_parameters main.params

-- all violated conditions of a script
abbrev pub violations : Script → List Violation
violations script =
    functions_twice [] script.functions
    ++ (main_violations (function_named script.functions main_name) ++ all_function_violations script.functions script.functions)

abbrev pub IsValid : Script → Type 0
IsValid script = violations script ≡ []

-- a condition that the script violates, with none before it
pub record CheckFault (script : Script) (number at : ℕ) : Type 0 where
  pub violated : Contains (violations script) (violation number at)
  pub least : All (λ v. is_before v (violation number at) ≡ false) (violations script)
