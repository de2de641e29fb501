use Rattle.std.proofs.Common.{◌≡◌, ◌∙◌, [], ◌∷◌, refl, ap}
use Rattle.serial_runner.proofs.ObservedStops.{made}
use Rattle.serial_runner.proofs.Advancing.{resumed_whole, spawned, waits, has_answers, resumed_above}
use Rattle.serial_runner.proofs.advance.advance.Goals as goal

pub resume_by-requires-clause-waits : goal.resume_by-requires-clause-waits
resume_by-requires-clause-waits g c = waits c.args.stack c.requires c.in-Wait.rest (rw c.in-Wait.is at c.in_ok-paused.ensures)

pub resume_by-requires-clause-tags : goal.resume_by-requires-clause-tags
resume_by-requires-clause-tags g c = has_answers c.args.stack c.requires c.in-Wait.rest (rw c.in-Wait.is at c.in_ok-paused.ensures)

pub returns-in_ok-child-in-Spawn : goal.returns-in_ok-child-in-Spawn
returns-in_ok-child-in-Spawn g c =
    let k = c.in_ok-child-in-Spawn.ensures in
    spawned c.args.stack c.requires c.in-Spawn.child c.in-Spawn.rest (rw c.in-Spawn.is at c.in_ok-paused.ensures) _ _ (c.open_task-top.ensures.open_task ∙ ap (λ task. record { task = task; answers = [] }) k.0)
    (c.open_task-top.ensures.same ∙ made (λ _. c.push.new.self ≡ _ ∷ _) _ _ k.1 c.push.ensures)

pub returns-in_ok-task-in-Wait : goal.returns-in_ok-task-in-Wait
returns-in_ok-task-in-Wait g c =
    resumed_above c.args.stack c.requires c.in-Wait.rest (rw c.in-Wait.is at c.in_ok-paused.ensures) _ c.in_ok-task-in-Wait.task (ap (λ left. record { task = c.in_ok-task-in-Wait.task; answers = left }) c.in_ok-task-in-Wait.ensures.none)
    (resumed_whole c.args.stack.top.answers c.in-Wait.rest c.in_ok-task-in-Wait.task c.requires.top.whole c.in_ok-task-in-Wait.ensures.is_resumed)

pub end_top-requires : goal.end_top-requires
end_top-requires g c = (c.args.stack, c.requires, refl, rw c.in-Ended.is at c.in_ok-paused.ensures)

pub returns-in-Ended : goal.returns-in-Ended
returns-in-Ended g c = c.end_top.ensures c.args.stack c.requires refl (rw c.in-Ended.is at c.in_ok-paused.ensures)
