use Rattle.serial_runner.proofs.Advancing.{ends-next}
use Rattle.serial_runner.proofs.advance.end_all.Goals as goal

pub loop-open_task-preserved : goal.loop-open_task-preserved
loop-open_task-preserved g c =
    ends-next _ c.loop-open_task.answer c.in_ok-ended.ended c.in_ok-ended.field-0-1 c.in-Some.open_task c.pop.new.self c.loop-open_task.below c.in-Some.ensures.some c.loop-open_task.invariant c.in_ok-ended.ensures
