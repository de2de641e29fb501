use Rattle.strand_machine.proofs.run.wait_next.Goals as goal

pub wait-requires-clause-passed : goal.wait-requires-clause-passed
wait-requires-clause-passed g c = rw c.in-Some.is at c.requires.passed

pub returns-in-Some-clause-did : goal.returns-in-Some-clause-did
returns-in-Some-clause-did g c = rw c.in-Some.is c.wait.ensures.did

pub wait_end-requires-clause-passed : goal.wait_end-requires-clause-passed
wait_end-requires-clause-passed g c = rw c.in-None.is at c.requires.passed

pub returns-in-None-clause-did : goal.returns-in-None-clause-did
returns-in-None-clause-did g c = rw c.in-None.is c.wait_end.ensures.did
