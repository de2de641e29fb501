use Rattle.std.proofs.Common.{◌≡◌, refl, sym, ap, ◌∙◌, subst}
use Rattle.std.specs.Arc.{arc_value}
use Rattle.script_check.specs.Valid.{IsValid}
use Rattle.serial_meaning.specs.Plan.{PlanView}
use Rattle.strand_meaning.specs.Task.{begun_remaining}
use Rattle.strand_meaning.specs.Trace.{no_trace}
use Rattle.strand_machine.specs.Tasks.{HoldsOfTask, TaskView, view_of, remaining_of, RemainsAt}
use Rattle.strand_machine.specs.declared.task_state.TaskState.{TaskState}
use Rattle.strand_machine.proofs.NextStops.Advancing.{sound_holds}
use Rattle.strand_machine.proofs.Moves.Dispatch.{of_plan-on}
use Rattle.strand_machine.proofs.Moves.Starting.{begun-fresh, begun-joins, start-sound, start-view}
use Rattle.strand_machine.proofs.task.Task.begin.Goals as goal

pub boxed-requires : goal.boxed-requires
boxed-requires g c =
    let plan = arc_value c.args.plan in
    let o = c.args.child.origin in
    let w = c.in-Ok.remaining in
    let valid : IsValid plan.script = subst (λ (p : PlanView). IsValid p.script) (c.behind-plan.view_is ∙ c.deref.ensures) c.script-script.ensures.valid in
    let begun : remaining_of plan w ≡ begun_remaining plan o = subst (λ (p : PlanView). remaining_of p w ≡ begun_remaining p o) c.deref-2.ensures c.in-Ok.ensures.begun in
    let of_plan : RemainsAt plan o w = subst (λ (p : PlanView). RemainsAt p o w) c.deref-2.ensures c.in-Ok.ensures.of_plan in
    subst (λ (b : TaskState _). HoldsOfTask b w) (sym c.new-state.ensures)
    (sound_holds _ w (start-sound _ plan o w c.in-Ok-new.links.joins c.in-Ok-new.links no_trace c.in-Ok-new.ensures.childless refl begun c.tasks_begin.ensures c.valid_plans_are_clear.ensures c.requires.known valid of_plan))

pub returns-clause-fresh : goal.returns-clause-fresh
returns-clause-fresh g c =
    let plan = arc_value c.args.plan in
    let o = c.args.child.origin in
    let w = c.in-Ok.remaining in
    let links = c.in-Ok-new.links in
    let begun : remaining_of plan w ≡ begun_remaining plan o = subst (λ (p : PlanView). remaining_of p w ≡ begun_remaining p o) c.deref-2.ensures c.in-Ok.ensures.begun in
    let of_plan : RemainsAt plan o w = subst (λ (p : PlanView). RemainsAt p o w) c.deref-2.ensures c.in-Ok.ensures.of_plan in
    let is = ap (λ (b : TaskState _). view_of b w) c.new-state.ensures ∙ start-view g.row.K.Denot plan o w links.joins links no_trace c.in-Ok-new.ensures.childless refl begun (of_plan-on plan o w of_plan) in
    begun-fresh plan o links.joins _ is c.boxed.result c.boxed.ensures

pub returns-clause-joins : goal.returns-clause-joins
returns-clause-joins g c =
    let plan = arc_value c.args.plan in
    let o = c.args.child.origin in
    let w = c.in-Ok.remaining in
    let links = c.in-Ok-new.links in
    let begun : remaining_of plan w ≡ begun_remaining plan o = subst (λ (p : PlanView). remaining_of p w ≡ begun_remaining p o) c.deref-2.ensures c.in-Ok.ensures.begun in
    let of_plan : RemainsAt plan o w = subst (λ (p : PlanView). RemainsAt p o w) c.deref-2.ensures c.in-Ok.ensures.of_plan in
    let is = ap (λ (b : TaskState _). view_of b w) c.new-state.ensures ∙ start-view g.row.K.Denot plan o w links.joins links no_trace c.in-Ok-new.ensures.childless refl begun (of_plan-on plan o w of_plan) in
    begun-joins plan o links.joins _ is c.args.give.join c.in-Ok-new.ensures.joins c.boxed.result c.boxed.ensures
