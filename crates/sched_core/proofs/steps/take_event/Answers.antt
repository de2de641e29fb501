use Rattle.sched_core.proofs.Events.Taking.{idle-any}
use Rattle.sched_core.proofs.steps.take_event.Goals as goal

pub run-requires-clause-lawful : goal.run-requires-clause-lawful
run-requires-clause-lawful c = rw c.in-Run.is at c.requires.lawful

pub pop-requires-clause-lawful : goal.pop-requires-clause-lawful
pop-requires-clause-lawful c = rw c.in-Pop.is at c.requires.lawful

pub steal-requires-clause-lawful : goal.steal-requires-clause-lawful
steal-requires-clause-lawful c = rw c.in-Steal.is at c.requires.lawful

pub look-requires-clause-lawful : goal.look-requires-clause-lawful
look-requires-clause-lawful c = rw c.in-Look.is at c.requires.lawful

pub returns-in-Run : goal.returns-in-Run
returns-in-Run c = rw c.in-Run.is c.run.ensures

pub returns-in-Pop : goal.returns-in-Pop
returns-in-Pop c = rw c.in-Pop.is c.pop.ensures

pub returns-in-Steal : goal.returns-in-Steal
returns-in-Steal c = rw c.in-Steal.is c.steal.ensures

pub returns-in-Look : goal.returns-in-Look
returns-in-Look c = rw c.in-Look.is c.look.ensures

pub returns-in-Idle : goal.returns-in-Idle
returns-in-Idle c = idle-any c.args.state.now c.requires.consistent c.requires.root c.args.event _ c.in-Idle.is c.requires.lawful
