use Rattle.std.proofs.Common.{ℕ, ◌-◌, true, false, length, drop, refl, sym, ap, ◌∙◌, subst}
use Rattle.serial_meaning.specs.Plan.{PlanView}
use Rattle.strand_machine.specs.Links.{LinksView, AwaitsCount, tags}
use Rattle.strand_machine.specs.AwaitedChildren.{awaited}
use Rattle.strand_machine.specs.Tasks.{view_of}
use Rattle.strand_machine.proofs.NextStops.Advancing.{sound_holds}
use Rattle.strand_machine.proofs.TakenAnswers.Answering.{awaits-count, last-awaited}
use Rattle.strand_machine.proofs.Moves.Dispatch.{of_plan-on}
use Rattle.strand_machine.proofs.TakenAnswers.Taking.{looked-last, looked-same, looked-sound, taken-answered, resumed-on}
use Rattle.strand_machine.proofs.resume.poll.Goals as goal

pub returns-in-NotYet-clause-resumed : goal.returns-in-NotYet-clause-resumed
returns-in-NotYet-clause-resumed g c =
    let b = c.args.parts.now.state in
    let w = c.args.parts.now.remaining in looked-same b w c.look.new.self false c.look.new.self.loads c.in-NotYet.ensures.1 (view_of b w) refl c.in-NotYet.ensures.0

pub returns-in-NotYet-clause-holds : goal.returns-in-NotYet-clause-holds
returns-in-NotYet-clause-holds g c =
    let b = c.args.parts.now.state in
    let w = c.args.parts.now.remaining in
    sound_holds (record b { links = c.look.new.self }) w (looked-sound b w c.look.new.self false c.look.new.self.loads c.in-NotYet.ensures.1 c.requires.sound)

pub take_answers-requires-clause-ready : goal.take_answers-requires-clause-ready
take_answers-requires-clause-ready g c = ap (λ (f : LinksView). f.ready) c.in-Ready.ensures.1

pub take_answers-requires-clause-last : goal.take_answers-requires-clause-last
take_answers-requires-clause-last g c =
    let b = c.args.parts.now.state in
    let last = looked-last b.links c.look.new.self b.trace.unmerged true c.look.new.self.loads c.in-Ready.ensures.1 c.requires.sound.links in
    subst (AwaitsCount c.look.new.self) (sym c.awaited_count-awaited.ensures) (awaits-count c.look.new.self b.trace.unmerged last)

pub resume_parts-requires-clause-sound : goal.resume_parts-requires-clause-sound
resume_parts-requires-clause-sound g c =
    let b = c.args.parts.now.state in
    let w = c.args.parts.now.remaining in
    taken-answered b w c.look.new.self c.take_answers.new.links true c.look.new.self.loads c.in-Ready.ensures.1 c.take_answers.ensures.links c.take_answers.ensures.length c.requires.sound

pub resume_parts-requires-clause-tags : goal.resume_parts-requires-clause-tags
resume_parts-requires-clause-tags g c =
    let b = c.args.parts.now.state in
    let f = c.look.new.self in
    let last = looked-last b.links f b.trace.unmerged true f.loads c.in-Ready.ensures.1 c.requires.sound.links in
    c.in_ok-answers-in-Ready.ensures.tags ∙ ap (λ (n : ℕ). tags f.plan (drop (length f.children - n) f.children)) c.awaited_count-awaited.ensures
    ∙ ap (tags f.plan) (last-awaited f b.trace.unmerged last) ∙ ap (λ (p : PlanView). tags p (awaited b.trace.unmerged)) (sym (ap (λ (x : LinksView). x.plan) c.take_answers.ensures.links))

pub returns-in_ok-left-in-Ready-clause-resumed : goal.returns-in_ok-left-in-Ready-clause-resumed
returns-in_ok-left-in-Ready-clause-resumed g c =
    let b = c.args.parts.now.state in
    let w = c.args.parts.now.remaining in
    resumed-on b w c.look.new.self c.take_answers.new.links true c.look.new.self.loads c.in-Ready.ensures.1 c.take_answers.ensures.links (view_of b w) _ refl
    (of_plan-on b.links.plan b.links.origin w c.requires.sound.of_plan) _ c.in_ok-left-in-Ready.ensures.answers c.in_ok-left-in-Ready.ensures.is_resumed c.in-Ready.ensures.0
