use Rattle.std.proofs.Common.{sym, ap, ◌∙◌, subst}
use Rattle.strand_machine.specs.Tasks.{IsSound, view_of}
use Rattle.strand_machine.specs.declared.parts.Parts.{Parts}
use Rattle.strand_machine.proofs.NextStops.Advancing.{waits-sound}
use Rattle.strand_machine.proofs.Moves.Making.{resumed-so}
use Rattle.strand_machine.proofs.task.Task.resume_in.Goals as goal

pub poll-requires-clause-sound : goal.poll-requires-clause-sound
poll-requires-clause-sound g c =
    let p = c.self.inside.parts.value in
    subst (λ (q : Parts _). IsSound q.state q.remaining) (sym c.deref_mut.ensures.value) (waits-sound p.state p.remaining c.args.self c.self.view_is c.requires.waits c.self.invariant)

pub returns-then-ready-clause-resumed : goal.returns-then-ready-clause-resumed
returns-then-ready-clause-resumed g c =
    let same = ap (λ (q : Parts _). view_of q.state q.remaining) c.deref_mut.ensures.value ∙ c.self.view_is in resumed-so g.row.K.Denot _ c.args.self _ _ _ same c.if-ready.true c.in_ok-ready.ensures.resumed

pub returns-clause-resumed : goal.returns-clause-resumed
returns-clause-resumed g c =
    let same = ap (λ (q : Parts _). view_of q.state q.remaining) c.deref_mut.ensures.value ∙ c.self.view_is in resumed-so g.row.K.Denot _ c.args.self _ _ _ same c.if-ready.false c.in_ok-ready.ensures.resumed
