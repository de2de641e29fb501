use Rattle.strand_machine.proofs.run.spawn_next.Goals as goal

pub spawn-requires-clause-passed : goal.spawn-requires-clause-passed
spawn-requires-clause-passed g c = rw c.in-Some.is at c.requires.passed

pub returns-in-Some-clause-did : goal.returns-in-Some-clause-did
returns-in-Some-clause-did g c = rw c.in-Some.is c.spawn.ensures.did
