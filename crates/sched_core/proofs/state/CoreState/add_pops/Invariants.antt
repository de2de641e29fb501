use Rattle.std.proofs.Common.{◌≡◌, false, ◌++◌}
use Rattle.std.specs.List.{range_with_len}
use Rattle.sched_core.specs.Chosen.{pops}
use Rattle.sched_core.specs.Cores.{core_of}
use Rattle.sched_core.proofs.state.CoreState.add_pops.Given as goal

abbrev pub invariant-loop-w : goal.invariant-loop-w
invariant-loop-w l = l.events.items ≡ l.initial.events.items ++ pops (core_of false l.self) (range_with_len 0 l.w)
