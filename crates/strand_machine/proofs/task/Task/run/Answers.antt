use Rattle.std.proofs.Common.{sym, ap, ◌∙◌, subst}
use Rattle.strand_machine.specs.Stops.{Pauses}
use Rattle.strand_machine.specs.Tasks.{IsSound, TaskView, view_of}
use Rattle.strand_machine.specs.declared.parts.Parts.{Parts}
use Rattle.strand_machine.proofs.NextStops.Advancing.{is-sound}
use Rattle.strand_machine.proofs.NextStops.Pausing.{knows-end, pauses}
use Rattle.strand_machine.proofs.task.Task.run.Goals as goal

pub run_in_place-requires : goal.run_in_place-requires
run_in_place-requires g c =
    let p = c.self.inside.parts.value in
    subst (λ (q : Parts _). IsSound q.state q.remaining) (sym c.deref_mut.ensures.value) (is-sound p.state p.remaining c.args.self c.self.view_is c.requires c.self.invariant)

pub paused-requires-clause-known : goal.paused-requires-clause-known
paused-requires-clause-known g c = let p = c.deref_mut.result.now in knows-end (view_of p.state p.remaining) c.run_in_place.new.parts c.in_ok-passed.passed c.in_ok-passed.ensures.stop

pub returns : goal.returns
returns g c =
    let same = ap (λ (q : Parts _). view_of q.state q.remaining) c.deref_mut.ensures.value ∙ c.self.view_is in
    subst (λ (t : TaskView). Pauses t c.paused.result) same (pauses _ _ c.paused.result c.in_ok-passed.ensures.stop c.paused.ensures)
