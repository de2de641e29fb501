use Rattle.std.proofs.Common.{◌≡◌, sym, ap, ◌∙◌, subst}
use Rattle.strand_machine.specs.Links.{tags}
use Rattle.strand_machine.specs.Merge.{HasTakenAnswers}
use Rattle.strand_machine.specs.AwaitedChildren.{awaited}
use Rattle.strand_machine.specs.Stops.{IsResumedWith, answer_tags}
use Rattle.strand_machine.specs.Tasks.{TaskView, view_of}
use Rattle.strand_machine.specs.declared.parts.Parts.{Parts}
use Rattle.strand_machine.proofs.NextStops.Advancing.{waits-sound}
use Rattle.strand_machine.proofs.TakenAnswers.Taking.{answered-sound}
use Rattle.strand_machine.proofs.task.Task.resume_by.Goals as goal

pub resume_parts-requires-clause-sound : goal.resume_parts-requires-clause-sound
resume_parts-requires-clause-sound g c =
    let p = c.self.inside.parts.value in
    subst (λ (q : Parts _). HasTakenAnswers q.state q.remaining) (sym c.deref_mut.ensures.value)
    (answered-sound p.state p.remaining (waits-sound p.state p.remaining c.args.self c.self.view_is c.requires.waits c.self.invariant))

pub resume_parts-requires-clause-tags : goal.resume_parts-requires-clause-tags
resume_parts-requires-clause-tags g c =
    let same = ap (λ (q : Parts _). view_of q.state q.remaining) c.deref_mut.ensures.value ∙ c.self.view_is in
    subst (λ (t : TaskView). answer_tags c.args.answers ≡ tags t.task.plan (awaited t.task.trace.unmerged)) (sym same) c.requires.tags

pub returns-clause-is_resumed : goal.returns-clause-is_resumed
returns-clause-is_resumed g c =
    let same = ap (λ (q : Parts _). view_of q.state q.remaining) c.deref_mut.ensures.value ∙ c.self.view_is in
    let after = c.resume_parts.new.parts in
    subst (λ (t : TaskView). IsResumedWith c.args.answers t (view_of after.state after.remaining)) same c.in_ok-left.ensures.is_resumed
