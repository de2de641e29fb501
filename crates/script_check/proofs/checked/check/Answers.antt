use Rattle.std.proofs.Common.{◌≡◌, ℕ, [], Some, None, Result, Err, sym, ◌∙◌, rules}
use Rattle.script_check.specs.declared.checked.Checked.{Checked}
use Rattle.script_check.specs.declared.error.CheckError.{CheckError}
use Rattle.script_check.specs.declared.error.CheckError.TheVariants.{Bad}
use Rattle.script_check.specs.Valid.{functions_twice, violations}
use Rattle.script_check.specs.Violations.{earliest}
use Rattle.script_check.proofs.LeastViolation.Least.{earliest_of_none}
use Rattle.script_check.proofs.Walk.Functioned.{earliest_of_all, fault_is}
use Rattle.script_check.proofs.checked.check.Goals as goal

same_number : (m a n b : ℕ) → (let l : Result Checked CheckError = Err (Bad m a) in l ≡ Err (Bad n b)) → m ≡ n
same_number m a n b h = cc

same_place : (m a n b : ℕ) → (let l : Result Checked CheckError = Err (Bad m a) in l ≡ Err (Bad n b)) → a ≡ b
same_place m a n b h = cc

pub keep_valid-requires-clause-valid : goal.keep_valid-requires-clause-valid
keep_valid-requires-clause-valid c =
    let script = c.args.script in
    let first : c.index_functions.new.found ≡ earliest None (functions_twice [] script.functions) = search rules in
    let least : c.judge_script.new.found ≡ None = sym c.least.ensures ∙ c.in-None.is in
    earliest_of_none (violations script) (sym (earliest_of_all script c.index_functions.new.found c.judge_script.new.found first c.in_ok-judge_script.ensures) ∙ least)

pub returns-in_ok-keep_valid-in-None-clause-valid : goal.returns-in_ok-keep_valid-in-None-clause-valid
returns-in_ok-keep_valid-in-None-clause-valid c =
    let script = c.args.script in
    let first : c.index_functions.new.found ≡ earliest None (functions_twice [] script.functions) = search rules in
    let least : c.judge_script.new.found ≡ None = sym c.least.ensures ∙ c.in-None.is in
    earliest_of_none (violations script) (sym (earliest_of_all script c.index_functions.new.found c.judge_script.new.found first c.in_ok-judge_script.ensures) ∙ least)

pub returns-in-Some-clause-bad : goal.returns-in-Some-clause-bad
returns-in-Some-clause-bad c = λ number at h.
    let script = c.args.script in
    let v = c.in-Some.field-0 in
    let first : c.index_functions.new.found ≡ earliest None (functions_twice [] script.functions) = search rules in
    let least : c.judge_script.new.found ≡ Some v = sym c.least.ensures ∙ c.in-Some.is in
    fault_is script v number at (sym (earliest_of_all script c.index_functions.new.found c.judge_script.new.found first c.in_ok-judge_script.ensures) ∙ least)
    (same_number v.number v.at number at h) (same_place v.number v.at number at h)
