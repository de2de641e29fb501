use Rattle.std.proofs.Common.{◌≡◌, false, ◌++◌}
use Rattle.std.specs.List.{range_with_len}
use Rattle.sched_core.specs.Chosen.{steals}
use Rattle.sched_core.specs.Cores.{core_of}
use Rattle.sched_core.proofs.state.CoreState.add_steals.Given as goal

abbrev pub invariant-loop-thief : goal.invariant-loop-thief
invariant-loop-thief l = l.events.items ≡ l.initial.events.items ++ steals (core_of false l.self) (range_with_len 0 l.thief)
