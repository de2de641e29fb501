use Rattle.std.proofs.Common.{◌≡◌, false, ◌++◌}
use Rattle.std.specs.List.{range_with_len}
use Rattle.sched_core.specs.Chosen.{runs}
use Rattle.sched_core.specs.Cores.{core_of}
use Rattle.sched_core.proofs.state.CoreState.add_runs.Given as goal

abbrev pub invariant-loop-w : goal.invariant-loop-w
invariant-loop-w l = l.events.items ≡ l.initial.events.items ++ runs (core_of false l.self) (range_with_len 0 l.w)
