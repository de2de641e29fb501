use Rattle.sched_meaning.proofs.SimulationsEnd.Ending.{sim_workers_exist}
use Rattle.sched_meaning.proofs.laws.sim_workers_exist.Goals as goal

pub returns : goal.returns
returns c = sim_workers_exist
