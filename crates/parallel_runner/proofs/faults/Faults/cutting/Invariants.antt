use Rattle.std.proofs.Common.{◌≡◌, ℕ, ◌<◌, map, get_or}
use Rattle.std.specs.Arc.{arc_value}
use Rattle.ped_path.specs.Path.{IsBefore}
use Rattle.serial_meaning.specs.Answer.{KnownView, start_of}
use Rattle.parallel_runner.proofs.faults.Faults.cutting.Given as goal

-- none of those before it may cut the task
abbrev pub invariant-loop-known : goal.invariant-loop-known
invariant-loop-known g l = (k : ℕ) (d : KnownView) → k < l.known-index → (get_or (map arc_value l.known-items) k d).plan ≡ l.entry.task.plan → IsBefore (get_or (map arc_value l.known-items) k d).fault.at (start_of l.entry.task.origin) → ⊥
