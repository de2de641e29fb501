use Rattle.strand_machine.specs.Tasks.{view_of}
use Rattle.strand_machine.proofs.Moves.Making.{is-stopped, way-falls, way-on, way-start, way-stops}
use Rattle.strand_machine.proofs.step.run_in_place.Goals as goal

pub loop-passed-init : goal.loop-passed-init
loop-passed-init g c = way-start c.args.parts.now c.requires

pub move_once-requires : goal.move_once-requires
move_once-requires g c = c.loop-passed.invariant.sound

pub loop-passed-smaller : goal.loop-passed-smaller
loop-passed-smaller g c =
    let p = c.args.parts.now in
    way-falls (view_of p.state p.remaining) c.loop-passed.parts c.move_once.new.parts _ c.loop-passed.invariant c.in_ok-passed.ensures.step c.in_ok-passed.ensures.sound c.moves_fall.ensures c.in-Continues.is

pub loop-passed-preserved : goal.loop-passed-preserved
loop-passed-preserved g c =
    let p = c.args.parts.now in
    way-on (view_of p.state p.remaining) c.loop-passed.parts c.move_once.new.parts _ c.loop-passed.invariant c.in_ok-passed.ensures.step c.in_ok-passed.ensures.sound c.moves_fall.ensures c.in-Continues.is

pub returns-in_default-clause-stopped : goal.returns-in_default-clause-stopped
returns-in_default-clause-stopped g c = is-stopped _ c.in_default.not-Continues

pub returns-in_default-clause-stop : goal.returns-in_default-clause-stop
returns-in_default-clause-stop g c =
    way-stops c.stops_are_sound.ensures c.args.parts.now c.loop-passed.parts c.move_once.new.parts _ c.requires c.loop-passed.invariant c.in_ok-passed.ensures.step (is-stopped _ c.in_default.not-Continues)
