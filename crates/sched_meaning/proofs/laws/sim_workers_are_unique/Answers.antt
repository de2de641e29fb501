use Rattle.sched_meaning.proofs.SimulationsEnd.Simulated.{sim_workers_are_unique}
use Rattle.sched_meaning.proofs.laws.sim_workers_are_unique.Goals as goal

pub returns : goal.returns
returns c = sim_workers_are_unique
