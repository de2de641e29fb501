use Rattle.std.proofs.Common.{◌≡◌, ◌∙◌, ◌++◌, ◌∷◌, [], List, sym, ap, subst, true}
use Rattle.std.specs.Arc.{arc_value}
use Rattle.serial_meaning.specs.declared.origin.Origin.{Origin}
use Rattle.strand_machine.specs.Links.{tags}
use Rattle.strand_machine.specs.AwaitedChildren.{awaited}
use Rattle.strand_machine.specs.Stops.{answer_tags, any_cut, IsResumedWith}
use Rattle.strand_machine.specs.Tasks.{TaskView}
use Rattle.serial_runner.specs.Observed.{origin_of, with_child, WalksOn}
use Rattle.serial_runner.specs.declared.walk.Walked.TheVariants.{Continues}
use Rattle.serial_runner.proofs.ObservedStops.{made}
use Rattle.serial_runner.proofs.Walking.{it_waits, children_known, it_has_answers, walks_by_child, over_by_child, walks_by_wait, over_by_wait, walk_ends}
use Rattle.serial_runner.proofs.walk.walk_on.Goals as goal

pub returns-then-is_over : goal.returns-then-is_over
returns-then-is_over c =
    let s = c.in_ok-stop.ensures.stop in
    let k = c.in_ok-task-in-Spawn.ensures in
    over_by_child _ _ _ _ c.requires.walk s.observed_stop s.is_observed c.in-Spawn.child c.in-Spawn.rest (sym s.stops ∙ c.in-Spawn.is) c.requires.below c.observation_goes_on.ensures _ _ (sym c.is_over.ensures ∙ c.if-is_over.true) s.sees
    (ap (λ z. z.2) k.0 ∙ made (λ _. c.await_child-unmerged.new.observed ≡ with_child c.args.at.now c.in-Spawn.child.task.origin _) _ _ k.1 c.await_child-unmerged.ensures.observed)

pub returns-else-is_over : goal.returns-else-is_over
returns-else-is_over c =
    let s = c.in_ok-stop.ensures.stop in
    let k = c.in_ok-task-in-Spawn.ensures in
    let child = c.in-Spawn.child.task.origin in
    subst (λ (task : TaskView). WalksOn (arc_value c.args.plan.now) (origin_of c.args.walk) c.args.at.now c.args.walk (Continues (record { task = task; awaited = c.in_ok-task-in-Spawn.awaited; observed = c.in_ok-task-in-Spawn.observed }))) (sym (ap (λ z. z.0) k.0))
    (walks_by_child _ _ _ _ c.requires.walk s.observed_stop s.is_observed c.in-Spawn.child c.in-Spawn.rest (sym s.stops ∙ c.in-Spawn.is) c.observation_goes_on.ensures _ _ _
    (ap (λ z. z.1) k.0 ∙ made (λ _. c.await_child-unmerged.new.awaited ≡ c.in_ok-stop.awaited ++ child ∷ []) _ _ k.1 c.await_child-unmerged.ensures.awaited ∙ ap (λ (l : List Origin). l ++ child ∷ []) c.in_ok-stop.ensures.awaited) s.sees
    (ap (λ z. z.2) k.0 ∙ made (λ _. c.await_child-unmerged.new.observed ≡ with_child c.args.at.now child _) _ _ k.1 c.await_child-unmerged.ensures.observed))

pub returns-then-is_over-2 : goal.returns-then-is_over-2
returns-then-is_over-2 c =
    let s = c.in_ok-stop.ensures.stop in
    over_by_wait _ _ _ _ c.requires.walk s.observed_stop s.is_observed c.in-Wait.rest (sym s.stops ∙ c.in-Wait.is) c.requires.below c.observation_goes_on.ensures c.answers_show_nothing.ensures _ (sym c.is_over-in-Wait.ensures ∙ c.if-is_over-2.true) s.sees

pub answers_of-answers-requires : goal.answers_of-answers-requires
answers_of-answers-requires c = rw (c.as_slice.ensures ∙ c.in_ok-stop.ensures.awaited) (children_known _ _ _ _ c.requires.walk)

pub resume_with-requires-clause-waits : goal.resume_with-requires-clause-waits
resume_with-requires-clause-waits c =
    let s = c.in_ok-stop.ensures.stop in
    subst (λ (v : TaskView). v.task.waiting ≡ true) (sym (ap (λ z. z.0) c.in_ok-rest-in-Wait.ensures.0)) (it_waits _ _ _ _ c.requires.walk s.observed_stop s.is_observed c.in-Wait.rest (sym s.stops ∙ c.in-Wait.is))

pub resume_with-requires-clause-tags : goal.resume_with-requires-clause-tags
resume_with-requires-clause-tags c =
    let s = c.in_ok-stop.ensures.stop in
    let k = c.in_ok-rest-in-Wait.ensures in
    subst (λ (v : TaskView). answer_tags c.in_ok-rest-in-Wait.answers ≡ tags v.task.plan (awaited v.task.trace.unmerged)) (sym (ap (λ z. z.0) k.0))
    (it_has_answers _ _ _ _ c.requires.walk s.observed_stop s.is_observed c.in-Wait.rest (sym s.stops ∙ c.in-Wait.is) c.in_ok-rest-in-Wait.answers
    (made (λ answers. answer_tags answers ≡ tags (arc_value c.args.plan.now) c.as_slice.result.now) _ _ k.1 c.answers_of-answers.ensures.tags ∙ ap (tags (arc_value c.args.plan.now)) (c.as_slice.ensures ∙ c.in_ok-stop.ensures.awaited)))

pub returns-in_ok-observed-in-Wait : goal.returns-in_ok-observed-in-Wait
returns-in_ok-observed-in-Wait c =
    let s = c.in_ok-stop.ensures.stop in
    let k = c.in_ok-rest-in-Wait.ensures in
    let m = c.in_ok-observed-in-Wait.ensures in
    walks_by_wait _ _ _ _ c.requires.walk s.observed_stop s.is_observed c.in-Wait.rest (sym s.stops ∙ c.in-Wait.is) c.observation_goes_on.ensures c.answers_show_nothing.ensures c.in_ok-rest-in-Wait.answers
    (made (λ answers. any_cut answers ≡ _) _ _ k.1 c.answers_of-answers.ensures.whole) _
    (subst (λ (v : TaskView). IsResumedWith c.in_ok-rest-in-Wait.answers v c.in_ok-observed-in-Wait.task) (ap (λ z. z.0) k.0) (made (IsResumedWith c.in_ok-rest-in-Wait.answers _) _ _ m.1 c.resume_with.ensures)) _ c.new.ensures.items _
    (m.0 ∙ ap (λ z. z.1) k.0 ∙ s.sees)

pub returns-in-Done : goal.returns-in-Done
returns-in-Done c =
    let s = c.in_ok-stop.ensures.stop in
    walk_ends _ _ _ _ c.requires.walk s.observed_stop s.is_observed c.in-Done.answer c.in-Done.give (sym s.stops ∙ c.in-Done.is) c.requires.below c.observation_goes_on.ensures _ s.sees
