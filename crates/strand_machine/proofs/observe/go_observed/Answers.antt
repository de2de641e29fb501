use Rattle.strand_machine.proofs.Moves.Moving.{moved-sound, returned-sound, faulted-sound}
use Rattle.strand_machine.proofs.observe.go_observed.Goals as goal

pub apply_effects-requires : goal.apply_effects-requires
apply_effects-requires c =
    let m = c.in-Ok.ensures in
    moved-sound c.args.parts.now.state c.args.instance c.make_move.new.self _ _ c.plan.ensures m.moves c.requires c.steps_are_sound.ensures c.in-Moved.effects c.in-Moved.is m.path m.sound m.child

pub pass-requires : goal.pass-requires
pass-requires c =
    returned-sound c.args.parts.now.state c.args.instance c.make_move.new.self _ _ c.plan.ensures c.in-Ok.ensures.moves c.requires c.steps_are_sound.ensures c.in-Returned.value c.in-Returned.is

pub pass-requires-in-Faulted : goal.pass-requires-in-Faulted
pass-requires-in-Faulted c =
    faulted-sound c.args.parts.now.state c.args.instance c.make_move.new.self _ _ c.plan.ensures c.in-Ok.ensures.moves c.requires c.steps_are_sound.ensures c.in-Faulted.fault c.in-Faulted.is
