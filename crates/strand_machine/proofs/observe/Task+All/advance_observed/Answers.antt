use Rattle.std.proofs.Common.{sym, subst}
use Rattle.strand_machine.specs.Tasks.{IsSound}
use Rattle.strand_machine.specs.declared.parts.Parts.{Parts}
use Rattle.strand_machine.proofs.NextStops.Advancing.{is-task}
use Rattle.strand_machine.proofs.Moves.Making.{is-stopped}
use Rattle.strand_machine.proofs.NodesObserved.Observing.{observed-way, observed-way-falls, observed-way-on, observed-way-stops}
use Rattle.strand_machine.proofs.observe.Task+All.advance_observed.Goals as goal

pub loop-observation-init : goal.loop-observation-init
loop-observation-init c = observed-way c.args.self c.args.at.now c.args.probe c.self.inside.parts.value c.new-observation.result c.self.view_is c.requires.goes_on c.self.invariant c.new-observation.ensures

pub pass_observed-requires : goal.pass_observed-requires
pass_observed-requires c = subst (λ (p : Parts _). IsSound p.state p.remaining) (sym c.deref_mut.ensures.value) c.loop-observation.invariant.sound

pub loop-observation-smaller : goal.loop-observation-smaller
loop-observation-smaller c =
    let l = c.loop-observation in
    let m = c.in_ok-passed.ensures in
    observed-way-falls c.args.self c.args.at.now c.args.probe l.parts.value c.deref_mut.result.now c.pass_observed.new.parts l.observation c.pass_observed.new.observation c.in_ok-passed.passed c.deref_mut.ensures.value l.invariant m.observation m.step m.sound
    c.moves_fall.ensures c.in-Continues.is

pub loop-observation-preserved : goal.loop-observation-preserved
loop-observation-preserved c =
    let l = c.loop-observation in
    let m = c.in_ok-passed.ensures in
    observed-way-on c.args.self c.args.at.now c.args.probe l.parts.value c.deref_mut.result.now c.pass_observed.new.parts l.observation c.pass_observed.new.observation c.in_ok-passed.passed c.deref_mut.ensures.value l.invariant m.observation m.step m.sound
    c.moves_fall.ensures c.in-Continues.is

pub to_stop-stop-requires-clause-stops : goal.to_stop-stop-requires-clause-stops
to_stop-stop-requires-clause-stops c = is-stopped _ c.in_default.not-Continues

pub returns-in_default : goal.returns-in_default
returns-in_default c =
    let l = c.loop-observation in
    let m = c.in_ok-passed.ensures in
    observed-way-stops c.args.self c.args.at.now c.args.probe l.parts.value c.deref_mut.result.now c.pass_observed.new.parts l.observation c.pass_observed.new.observation c.in_ok-passed.passed c.deref_mut.ensures.value l.invariant m.observation m.step m.sound
    c.stops_are_sound.ensures (is-task c.self.inside.parts.value.state c.self.inside.parts.value.remaining c.args.self c.self.view_is c.requires.goes_on c.self.invariant) c.to_stop-stop.result c.to_stop-stop.ensures
