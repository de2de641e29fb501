-- The earliest violation of functions.
use Rattle.std.proofs.Common.{◌≡◌, ℕ, ◌+◌, ◌<◌, false, List, [], ◌++◌, length, drop, get_or, Option, Some, None, refl, sym, ap, ◌∙◌}
use Rattle.script_grammar.specs.declared.tree.Function.{Function}
use Rattle.script_check.specs.declared.findings.Violation.{Violation}
use Rattle.script_grammar.specs.declared.tree.Script.{Script}
use Rattle.script_check.specs.Violations.{violation, earliest}
use Rattle.script_check.specs.Tables.{no_entries}
use Rattle.script_check.specs.Names.{no_names}
use Rattle.script_check.specs.Rules.{Declared}
use Rattle.script_check.specs.Expressions.{reading_of, wanted}
use Rattle.script_check.specs.Statements.{context, judge_all, known_each, violations_each}
use Rattle.script_check.specs.Valid.{known_params, param_violations, function_violations, all_function_violations, functions_twice, main_violations, violations, CheckFault}
use Rattle.script_check.specs.Functions.{function_named, main_name}
use Rattle.script_check.proofs.LeastViolation.Least.{least_contained, none_before_least}
use Rattle.script_check.specs.Walk.{WalkState, state_after_all}
use Rattle.script_check.proofs.LeastViolation.Earliest.{earliest_append, after_three}
use Rattle.script_check.proofs.Walk.Reading.{at_index}

pub function_judged : (fs : List Function) (f : Function) (new params body end : WalkState) (found first second third : Option Violation) →
    new.known ≡ no_entries → new.names ≡ no_names →
    params ≡ record new { known = known_params f.params new.known } → first ≡ earliest found (param_violations f.params new.known) →
    body ≡ state_after_all fs f.body params → second ≡ earliest first (violations_each (judge_all f.body) (context fs false) params.known params.names) →
    end ≡ record body { names = no_names; keeps = false } → third ≡ earliest second (wanted f.answer (reading_of f.result) end.known end.names) →
    third ≡ earliest found (function_violations fs f)
function_judged fs f new params body end found first second third k p s1 f1 s2 f2 s3 f3 =
    after_three found first second third (param_violations f.params no_entries)
    (violations_each (judge_all f.body) (context fs false) (known_params f.params no_entries) no_names)
    (wanted f.answer (reading_of f.result) (known_each (judge_all f.body) fs (known_params f.params no_entries)) no_names) (function_violations fs f)
    (f1 ∙ ap (λ (m : Declared). earliest found (param_violations f.params m)) k)
    (f2 ∙ (λ i. earliest first (violations_each (judge_all f.body) (context fs false) (known1 i) (pending1 i))))
    (f3 ∙ (λ i. earliest second (wanted f.answer (reading_of f.result) (known3 i) (pending3 i))))
    refl
  where
    known1 : params.known ≡ known_params f.params no_entries
    known1 = ap (λ (s : WalkState). s.known) s1 ∙ ap (known_params f.params) k

    pending1 : params.names ≡ no_names
    pending1 = ap (λ (s : WalkState). s.names) s1 ∙ p

    known3 : end.known ≡ known_each (judge_all f.body) fs (known_params f.params no_entries)
    known3 = ap (λ (s : WalkState). s.known) s3 ∙ ap (λ (s : WalkState). s.known) s2 ∙ ap (known_each (judge_all f.body) fs) known1

    pending3 : end.names ≡ no_names
    pending3 = ap (λ (s : WalkState). s.names) s3

pub one_function : (functions fs : List Function) (i : ℕ) (f : Function) (before now : Option Violation) → i < length fs → f ≡ get_or fs i f →
    now ≡ earliest before (function_violations functions f) →
    earliest now (all_function_violations functions (drop (i + 1) fs)) ≡ earliest before (all_function_violations functions (drop i fs))
one_function functions fs i f before now h is e =
    ap (λ o. earliest o (all_function_violations functions (drop (i + 1) fs))) e
    ∙ sym (earliest_append before (function_violations functions f) (all_function_violations functions (drop (i + 1) fs)))
    ∙ ap (λ l. earliest before (all_function_violations functions l)) (sym (at_index fs i f h is))

pub earliest_of_all : (script : Script) (first second : Option Violation) → first ≡ earliest None (functions_twice [] script.functions) →
    second ≡ earliest first (main_violations (function_named script.functions main_name) ++ all_function_violations script.functions script.functions) →
    second ≡ earliest None (violations script)
earliest_of_all script first second f s =
    s ∙ ap (λ o. earliest o (main_violations (function_named script.functions main_name) ++ all_function_violations script.functions script.functions)) f
    ∙ sym (earliest_append None (functions_twice [] script.functions) (main_violations (function_named script.functions main_name) ++ all_function_violations script.functions script.functions))

pub fault_is : (script : Script) (v : Violation) (number at : ℕ) → earliest None (violations script) ≡ Some v → v.number ≡ number → v.at ≡ at → CheckFault script number at
fault_is script v number at h n a =
    let e : v ≡ violation number at = λ i. record { at = a i; number = n i } in
    let l : earliest None (violations script) ≡ Some (violation number at) = h ∙ ap (λ (w : Violation). Some w) e in
    record { violated = least_contained (violations script) (violation number at) l; least = none_before_least (violations script) (violation number at) l }
