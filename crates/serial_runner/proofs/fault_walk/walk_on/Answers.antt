use Rattle.std.proofs.Common.{◌≡◌, ◌∙◌, ◌++◌, ◌∷◌, [], ap, rules}
use Rattle.std.specs.Arc.{arc_value}
use Rattle.strand_machine.specs.Links.{tags}
use Rattle.serial_runner.proofs.FaultWalking.{children_are_known, fault_walk_ends, faults_by_child, faults_by_wait, then_has_answers, then_waits}
use Rattle.serial_runner.proofs.fault_walk.walk_on.Goals as goal

pub returns-in_ok-push-in-Spawn : goal.returns-in_ok-push-in-Spawn
returns-in_ok-push-in-Spawn c =
    let same : c.push.new.self.items ≡ c.args.walk.awaited ++ c.in-Spawn.child.task.origin ∷ [] = search rules in
    faults_by_child _ _ _ c.requires c.in_ok-stop.field-0 c.in_ok-stop.ensures c.in-Spawn.child c.in-Spawn.rest c.in-Spawn.is _ same _ c.latest-met.ensures

pub answers_of-requires : goal.answers_of-requires
answers_of-requires c = rw c.as_slice.ensures (children_are_known _ _ _ c.requires)

pub resume_with-requires-clause-waits : goal.resume_with-requires-clause-waits
resume_with-requires-clause-waits c = then_waits _ _ _ c.requires c.in_ok-stop.field-0 c.in_ok-stop.ensures c.in-Wait.rest c.in-Wait.is

pub resume_with-requires-clause-tags : goal.resume_with-requires-clause-tags
resume_with-requires-clause-tags c =
    then_has_answers _ _ _ c.requires c.in_ok-stop.field-0 c.in_ok-stop.ensures c.in-Wait.rest c.in-Wait.is c.in_ok-answers-in-Wait.answers (c.in_ok-answers-in-Wait.ensures.tags ∙ ap (tags (arc_value c.args.plan.now)) c.as_slice.ensures)

pub returns-in_ok-task-in-Wait : goal.returns-in_ok-task-in-Wait
returns-in_ok-task-in-Wait c =
    faults_by_wait _ _ _ c.requires c.in_ok-stop.field-0 c.in_ok-stop.ensures c.in-Wait.rest c.in-Wait.is c.in_ok-answers-in-Wait.answers c.in_ok-answers-in-Wait.ensures.whole _ c.in_ok-task-in-Wait.ensures _ c.new.ensures.items _ c.latest-met.ensures

pub returns-in-Done : goal.returns-in-Done
returns-in-Done c = fault_walk_ends _ _ _ c.requires c.in_ok-stop.field-0 c.in_ok-stop.ensures c.in-Done.answer c.in-Done.give c.in-Done.is _ c.latest-met.ensures
