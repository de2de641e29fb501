use Rattle.std.proofs.Common.{◌≡◌, false, ◌++◌}
use Rattle.std.specs.List.{range_with_len}
use Rattle.sched_core.specs.Chosen.{looks_at}
use Rattle.sched_core.specs.Cores.{core_of}
use Rattle.sched_core.proofs.state.CoreState.add_looks_of.Given as goal

abbrev pub invariant-loop-place : goal.invariant-loop-place
invariant-loop-place l = l.events.items ≡ l.initial.events.items ++ looks_at (core_of false l.self) l.worker (range_with_len 0 l.place)
