use Rattle.serial_runner.proofs.Measure.{follows_fall}
use Rattle.serial_runner.proofs.serial.run_serial_keeping.Goals as goal

pub loop-pool-smaller : goal.loop-pool-smaller
loop-pool-smaller g c = follows_fall c.loop-pool.stack c.in-Continues.next c.loop-pool.invariant.sound (rw c.in-Continues.is at c.in_ok-next.ensures)
