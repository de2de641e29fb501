use Rattle.std.proofs.Common.{sym, subst}
use Rattle.strand_machine.specs.Tasks.{IsSound}
use Rattle.strand_machine.specs.declared.parts.Parts.{Parts}
use Rattle.strand_machine.proofs.NextStops.Advancing.{is-task}
use Rattle.strand_machine.proofs.Moves.Making.{is-stopped}
use Rattle.strand_machine.proofs.Meeting.{meeting-way, meeting-way-falls, meeting-way-on, meeting-way-stops}
use Rattle.strand_machine.proofs.placed.Task+All.advance_placed.Goals as goal

pub loop-met-init : goal.loop-met-init
loop-met-init c = meeting-way c.args.self c.self.inside.parts.value c.self.view_is c.requires c.self.invariant

pub pass_placed-requires : goal.pass_placed-requires
pass_placed-requires c = subst (λ (p : Parts _). IsSound p.state p.remaining) (sym c.deref_mut.ensures.value) c.loop-met.invariant.sound

pub loop-met-smaller : goal.loop-met-smaller
loop-met-smaller c =
    let l = c.loop-met in
    let m = c.in_ok-passed.ensures in
    meeting-way-falls c.args.self l.parts.value c.deref_mut.result.now c.pass_placed.new.parts l.met c.pass_placed.new.met c.in_ok-passed.passed c.deref_mut.ensures.value l.invariant m.met m.step m.sound c.moves_fall.ensures c.in-Continues.is

pub loop-met-preserved : goal.loop-met-preserved
loop-met-preserved c =
    let l = c.loop-met in
    let m = c.in_ok-passed.ensures in
    meeting-way-on c.args.self l.parts.value c.deref_mut.result.now c.pass_placed.new.parts l.met c.pass_placed.new.met c.in_ok-passed.passed c.deref_mut.ensures.value l.invariant m.met m.step m.sound c.moves_fall.ensures c.in-Continues.is

pub to_stop-stop-requires-clause-stops : goal.to_stop-stop-requires-clause-stops
to_stop-stop-requires-clause-stops c = is-stopped _ c.in_default.not-Continues

pub returns-in_default : goal.returns-in_default
returns-in_default c =
    let l = c.loop-met in
    let m = c.in_ok-passed.ensures in
    meeting-way-stops c.args.self l.parts.value c.deref_mut.result.now c.pass_placed.new.parts l.met c.pass_placed.new.met c.in_ok-passed.passed c.deref_mut.ensures.value l.invariant m.met m.step m.sound
    c.stops_are_sound.ensures (is-task c.self.inside.parts.value.state c.self.inside.parts.value.remaining c.args.self c.self.view_is c.requires c.self.invariant) c.to_stop-stop.result c.to_stop-stop.ensures
