use Rattle.std.proofs.Common.{◌≡◌}
use Rattle.sched_core.specs.Begun.{first_workers}
use Rattle.sched_core.proofs.new_state.first_workers.Given as goal

abbrev pub invariant-loop-i : goal.invariant-loop-i
invariant-loop-i l = l.all.items ≡ first_workers l.fn.main l._i
