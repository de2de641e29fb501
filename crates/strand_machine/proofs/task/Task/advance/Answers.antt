use Rattle.strand_machine.proofs.NextStops.Advancing.{goes-on-uncut}
use Rattle.strand_machine.proofs.NextStops.Pausing.{ended-short, ends-so, spawns-so, waits-so}
use Rattle.strand_machine.proofs.task.Task.advance.Goals as goal

pub run-requires : goal.run-requires
run-requires g c = goes-on-uncut _ _ c.has_outcome.ensures c.if-has_outcome.false

pub stop_done-requires-in-Ended : goal.stop_done-requires-in-Ended
stop_done-requires-in-Ended g c = ended-short c.args.self _ c.in_ok-paused.ensures c.in-Ended.rest c.in-Ended.is

pub returns-in-Spawn : goal.returns-in-Spawn
returns-in-Spawn g c = spawns-so c.args.self _ c.in_ok-paused.ensures c.in-Spawn.child c.in-Spawn.rest (goes-on-uncut _ _ c.has_outcome.ensures c.if-has_outcome.false) c.in-Spawn.is

pub returns-in-Wait : goal.returns-in-Wait
returns-in-Wait g c = waits-so c.args.self _ c.in_ok-paused.ensures c.in-Wait.rest (goes-on-uncut _ _ c.has_outcome.ensures c.if-has_outcome.false) c.in-Wait.is

pub returns-in-Ended : goal.returns-in-Ended
returns-in-Ended g c = ends-so c.args.self _ c.in_ok-paused.ensures c.in-Ended.rest _ (goes-on-uncut _ _ c.has_outcome.ensures c.if-has_outcome.false) c.in-Ended.is c.stop_done-in-Ended.ensures
