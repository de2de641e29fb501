use Rattle.parallel_runner.proofs.Knowing.{fewer-left}
use Rattle.parallel_runner.proofs.faults.Faults.read_on.Goals as goal

pub loop-unset-smaller : goal.loop-unset-smaller
loop-unset-smaller c = fewer-left c.loop-unset.self c.read_next.new.self c.in_ok-unset.ensures.reads (rw c.in_default.is at c.in_ok-unset.ensures.one)
