use Rattle.std.specs.Arc.{arc_value}
use Rattle.std.proofs.Common.{◌≡◌, refl, sym, ap, ◌∙◌, subst}
use Rattle.serial_meaning.specs.Answer.{IsAnswer}
use Rattle.serial_meaning.specs.declared.answer.Outcome.TheVariants as outcome
use Rattle.strand_machine.specs.Links.{LinksView, task_give, tag, tags}
use Rattle.strand_machine.specs.Merge.{HasTakenAnswers}
use Rattle.strand_machine.specs.AwaitedChildren.{awaited}
use Rattle.strand_machine.specs.Stops.{answer_tags}
use Rattle.strand_machine.specs.Tasks.{TaskView, view_of}
use Rattle.strand_machine.specs.declared.parts.Parts.{Parts}
use Rattle.strand_machine.proofs.NextStops.Advancing.{holds-sound, is-sound}
use Rattle.strand_machine.proofs.TakenAnswers.Faulting.{answers-by, goes-whole, tags-with, view-err, not-none, ends-by}
use Rattle.strand_machine.proofs.TakenAnswers.Taking.{answered-sound}
use Rattle.strand_machine.proofs.task.Task.end_by.Goals as goal

pub resume_parts-requires-clause-sound : goal.resume_parts-requires-clause-sound
resume_parts-requires-clause-sound g c =
    let p = c.self.inside.parts.value in
    subst (λ (q : Parts _). HasTakenAnswers q.state q.remaining) (sym c.deref_mut.ensures.value)
    (answered-sound p.state p.remaining (is-sound p.state p.remaining c.args.self c.self.view_is c.requires.goes_on c.self.invariant))

pub resume_parts-requires-clause-tags : goal.resume_parts-requires-clause-tags
resume_parts-requires-clause-tags g c =
    let view = ap (λ (q : Parts _). view_of q.state q.remaining) c.deref_mut.ensures.value ∙ c.self.view_is in
    subst (λ (t : TaskView). answer_tags c.push.new.self.items ≡ tags t.task.plan (awaited t.task.trace.unmerged)) (sym view)
    (tags-with _ _ _ c.args.last _ c.in_ok-push.ensures.items c.answers.view_is c.requires.tags)

pub unreachable-requires : goal.unreachable-requires
unreachable-requires g c =
    let a = c.last.inside in
    let p = c.resume_parts.new.parts in
    let view = ap (λ (q : Parts _). view_of q.state q.remaining) c.deref_mut.ensures.value ∙ c.self.view_is in
    let on = goes-whole _ _ _ c.args.last _ _ c.in_ok-push.ensures.items c.answers.view_is c.requires.whole c.requires.fault c.in_ok-resume_parts.ensures.is_resumed in
    not-none c.args.self _ _ (answer_tags c.args.answers) (tag c.args.last.plan c.args.last.origin) view on c.requires.tags
    (view-err (arc_value a.plan) a.origin a.out a.outcome c.args.last c.last.view_is c.last.invariant c.requires.fault)
    (sym c.end-links.ensures.fault ∙ c.in_default.is)

pub answer-requires : goal.answer-requires
answer-requires g c =
    let p = c.resume_parts.new.parts in
    let view = ap (λ (q : Parts _). view_of q.state q.remaining) c.deref_mut.ensures.value ∙ c.self.view_is in
    let on = goes-whole _ _ _ c.args.last _ _ c.in_ok-push.ensures.items c.answers.view_is c.requires.whole c.requires.fault c.in_ok-resume_parts.ensures.is_resumed in
    let uncut = ap (λ (w : TaskView). w.cut) on ∙ ap (λ (w : TaskView). w.cut) view ∙ c.requires.goes_on in
    let by = answers-by p.state p.remaining _ c.in-Some.fault (holds-sound p.state p.remaining uncut c.in_ok-resume_parts.ensures.holds) c.end-links.ensures.prefix (sym c.end-links.ensures.fault ∙ c.in-Some.is) in
    subst (λ (f : LinksView). IsAnswer f.plan f.origin c.end-links.result.1 (outcome.Fault c.in-Some.fault)) (sym c.end-links.ensures.links) by

pub returns : goal.returns
returns g c =
    let p = c.resume_parts.new.parts in
    let view = ap (λ (q : Parts _). view_of q.state q.remaining) c.deref_mut.ensures.value ∙ c.self.view_is in
    let on = goes-whole _ _ _ c.args.last _ _ c.in_ok-push.ensures.items c.answers.view_is c.requires.whole c.requires.fault c.in_ok-resume_parts.ensures.is_resumed in
    let uncut = ap (λ (w : TaskView). w.cut) on ∙ ap (λ (w : TaskView). w.cut) view ∙ c.requires.goes_on in
    let answer = c.answer.ensures.answer
    ∙ ap (λ (f : LinksView). record { plan = f.plan; origin = f.origin; out = c.end-links.result.1; outcome = outcome.Fault c.in-Some.fault }) c.end-links.ensures.links in
    let give = c.answer.ensures.give ∙ ap (λ (f : LinksView). task_give f.plan f.origin f.joins) c.end-links.ensures.links in
    ends-by p.state p.remaining c.args.self _ _ view on refl (holds-sound p.state p.remaining uncut c.in_ok-resume_parts.ensures.holds) c.in-Some.fault
    (sym c.end-links.ensures.fault ∙ c.in-Some.is) _ c.answer.result.0 c.answer.result.1 answer give
