use Rattle.std.proofs.Common.{◌≡◌, false, ◌++◌, map}
use Rattle.std.specs.List.{range_with_len}
use Rattle.sched_meaning.specs.declared.event.CoreEvent.TheVariants.{Steal}
use Rattle.sched_core.specs.Chosen.{progressing}
use Rattle.sched_core.specs.Cores.{core_of}
use Rattle.sched_core.proofs.state.CoreState.add_steals_of.Given as goal

abbrev pub invariant-loop-victim : goal.invariant-loop-victim
invariant-loop-victim l = l.events.items ≡ l.initial.events.items ++ progressing (core_of false l.self) (map (λ victim. Steal l.thief victim) (range_with_len 0 l.victim))
