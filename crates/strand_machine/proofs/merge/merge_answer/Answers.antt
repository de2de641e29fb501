use Rattle.std.proofs.Common.{◌∷◌, [], refl, sym, subst}
use Rattle.std.specs.Arc.{arc_value}
use Rattle.std.specs.Prelude.{OnOk}
use Rattle.serial_meaning.specs.Answer.{AnswerView}
use Rattle.serial_meaning.specs.Plan.{PlanView}
use Rattle.strand_meaning.specs.Trace.{AwaitedChild}
use Rattle.strand_machine.specs.Merge.{TakesAnswers, RemainingFinds, IsRemainingOfPlan, result_of_outcome, merge_of}
use Rattle.strand_machine.specs.AwaitedChildren.{awaited_child, destination_of}
use Rattle.strand_machine.specs.Tasks.{remaining_of}
use Rattle.strand_machine.specs.declared.task_state.TaskState.{TaskState}
use Rattle.strand_machine.specs.declared.parts.Parts.{Parts}
use Rattle.strand_machine.proofs.TakenAnswers.Cutting.{merging-alone, takes-answer, merging-front}
use Rattle.strand_machine.proofs.TakenAnswers.Taking.{on-both, ok-of}
use Rattle.strand_machine.proofs.merge.merge_answer.Goals as goal

pub merge_value-requires-clause-of_plan : goal.merge_value-requires-clause-of_plan
merge_value-requires-clause-of_plan g c = subst (λ (p : PlanView). IsRemainingOfPlan p c.args.parts.now.remaining) (sym c.plan.ensures) c.requires.of_plan

pub merge_value-requires-clause-found : goal.merge_value-requires-clause-found
merge_value-requires-clause-found g c = subst (λ (p : PlanView). RemainingFinds p (destination_of c.args.after.destination) (remaining_of p c.args.parts.now.remaining)) (sym c.plan.ensures) c.requires.found

pub returns-in-Ok-clause-takes : goal.returns-in-Ok-clause-takes
returns-in-Ok-clause-takes g c =
    let a = c.answer.inside in
    let v : AnswerView = record { plan = arc_value a.plan; origin = a.origin; out = a.out; outcome = a.outcome } in
    let p : AwaitedChild = awaited_child a.origin c.args.after in
    let e = c.in-Ok.ensures in
    let b : TaskState _ = c.args.parts.now.state in
    let after : Parts _ = record { state = record b { trace = c.merge_events.new.trace; values = c.merge_value.new.values }; remaining = c.merge_value.new.remaining } in
    subst (λ (x : AnswerView). OnOk c.merge_value.result (TakesAnswers (awaited_child x.origin c.args.after ∷ []) (x ∷ []) (merge_of c.args.parts.now c.args.merging.now) (merge_of after c.merge_events.new.self))) c.answer.view_is
    (on-both c.merge_value.result _ _ _
    (λ values remaining. takes-answer p v (merge_of c.args.parts.now c.args.merging.now) (merge_of after c.merge_events.new.self) (merging-front p (record { items = a.out; ending = result_of_outcome a.outcome }) b.trace c.merge_events.new.trace (e.trace p refl))
    e.ended e.cut values remaining c.answer.invariant)
    c.merge_value.ensures.values c.merge_value.ensures.remaining)

pub returns-in-Ok-clause-rest : goal.returns-in-Ok-clause-rest
returns-in-Ok-clause-rest g c =
    let a = c.answer.inside in
    let p : AwaitedChild = awaited_child a.origin c.args.after in
    ok-of c.merge_value.result _
    (record { state = refl; unmerged = merging-alone p (record { items = a.out; ending = result_of_outcome a.outcome }) c.args.parts.now.state.trace c.merge_events.new.trace (c.in-Ok.ensures.trace p refl) })
