use Rattle.std.proofs.Common.{◌≡◌, ℕ, ◌<◌, map, get_or}
use Rattle.std.specs.Arc.{arc_value}
use Rattle.serial_meaning.specs.Answer.{KnownView}
use Rattle.parallel_runner.proofs.known_faults.place_of.Given as goal

-- none of those before it is of the plan
abbrev pub invariant-loop-i : goal.invariant-loop-i
invariant-loop-i l = (k : ℕ) (d : KnownView) → k < l.i → (get_or (map arc_value l.least) k d).plan ≡ l.plan → ⊥
