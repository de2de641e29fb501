use Rattle.strand_machine.proofs.Moves.Making.{leaves-outcome, never-goes, spawned-holds, waits-holds}
use Rattle.strand_machine.proofs.step.to_stop.Goals as goal

pub unreachable-requires : goal.unreachable-requires
unreachable-requires g c = never-goes c.args.passed c.in-Continues.is c.requires.stops

pub invariant_of-result : goal.invariant_of-result
invariant_of-result g c = waits-holds c.args.parts.value c.args.passed c.in-Waits.is c.requires.sound

pub invariant_of-result-in-Spawned : goal.invariant_of-result-in-Spawned
invariant_of-result-in-Spawned g c = spawned-holds c.args.parts.value c.args.passed c.in-Spawned.child c.in-Spawned.is c.requires.sound

pub done-requires : goal.done-requires
done-requires g c = leaves-outcome c.args.parts.value c.args.passed c.in-Ends.is c.requires.sound
