use Rattle.std.proofs.Common.{◌-◌, length}
use Rattle.parallel_runner.specs.Faults.{ReadsOn}
use Rattle.parallel_runner.proofs.faults.Faults.read_on.Given as goal

abbrev pub invariant-loop-unset : goal.invariant-loop-unset
invariant-loop-unset l = ReadsOn l.fn.self l.self

-- how many cells are left
abbrev pub decreases-loop-unset : goal.decreases-loop-unset
decreases-loop-unset l = length l.self.cells.names - length l.self.cells.read
