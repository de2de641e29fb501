use Rattle.strand_machine.proofs.Moves.Making.{never-goes, spawned-holds, waits-holds}
use Rattle.strand_machine.proofs.NextStops.Pausing.{ended-holds, ends-as, spawns-as, waits-as}
use Rattle.strand_machine.proofs.advance.paused.Goals as goal

pub unreachable-requires : goal.unreachable-requires
unreachable-requires g c = never-goes c.args.passed c.in-Continues.is c.requires.stops

pub invariant_of-result : goal.invariant_of-result
invariant_of-result g c = waits-holds c.args.parts.value c.args.passed c.in-Waits.is c.requires.sound

pub returns-in-Waits : goal.returns-in-Waits
returns-in-Waits g c = waits-as c.args.parts.value c.args.passed c.in-Waits.is

pub invariant_of-result-in-Spawned : goal.invariant_of-result-in-Spawned
invariant_of-result-in-Spawned g c = spawned-holds c.args.parts.value c.args.passed c.in-Spawned.child c.in-Spawned.is c.requires.sound

pub returns-in-Spawned : goal.returns-in-Spawned
returns-in-Spawned g c = spawns-as c.args.parts.value c.args.passed c.in-Spawned.child c.in-Spawned.is

pub invariant_of-result-in-Ends : goal.invariant_of-result-in-Ends
invariant_of-result-in-Ends g c = ended-holds c.args.parts.value c.args.passed c.in-Ends.is c.requires.sound c.requires.known

pub returns-in-Ends : goal.returns-in-Ends
returns-in-Ends g c = ends-as c.args.parts.value c.args.passed c.in-Ends.is c.requires.sound
