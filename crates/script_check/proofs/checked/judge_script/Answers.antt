use Rattle.std.proofs.Common.{◌∙◌}
use Rattle.script_check.proofs.Walk.Functioned.{one_function}
use Rattle.script_check.proofs.checked.judge_script.Goals as goal

pub loop-f-preserved : goal.loop-f-preserved
loop-f-preserved c =
    one_function c.new-functions.result c.as_slice-list.result.now c.loop-f.f-index c.f-item.result c.loop-f.found c.judge_function.new.found
    c.loop-f-test.true c.f-item.is c.in_ok-judge_function.ensures ∙ c.loop-f.invariant
