use Rattle.std.proofs.Common.{◌≡◌, drop}
use Rattle.script_check.specs.Violations.{earliest}
use Rattle.script_check.specs.Valid.{all_function_violations}
use Rattle.script_check.proofs.checked.judge_script.Given as goal

abbrev pub invariant-loop-f : goal.invariant-loop-f
invariant-loop-f l =
    earliest l.found (all_function_violations l.functions (drop l.f-index l.list)) ≡ earliest l.initial.found (all_function_violations l.functions l.list)
