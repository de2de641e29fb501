use Rattle.test_tasks.proofs.Stopping.{resumed_on}
use Rattle.test_tasks.proofs.tests.tasks.after_wait.Goals as goal

pub returns : goal.returns
returns g c = resumed_on c.args.task c.in-On.next (rw c.in-On.is at c.in_ok-next.ensures)
