-- What holds of every core of a program, whatever events led to it.
use Rattle.std.specs.Prelude.{◌≡◌, ◌≤◌, ℕ, Some, Contains, slice_get}
use Rattle.serial_meaning.specs.declared.origin.Origin.{Origin}
use Rattle.sched_meaning.specs.Core.{Core, all_tasks, origins_of, IsAnswered, IsRootAnswered}
use Rattle.sched_meaning.specs.Segments.{IsSegments}
use Rattle.sched_meaning.specs.Sound.{AreEvaluations, IsLively, OccursOnce}

pub record IsSound (c : Core) : Type 0 where
  pub once : (o : Origin) (j k : ℕ) → slice_get c.begun j ≡ Some o → slice_get c.begun k ≡ Some o → j ≡ k
  pub placed : (o : Origin) → Contains c.begun o → (IsAnswered c o → ⊥) → OccursOnce o (origins_of (all_tasks c))
  pub evaluated : AreEvaluations c.plan c.answers
  pub within : (n : ℕ) → IsSegments c.plan n → c.runs ≤ n
  pub lively : (IsRootAnswered c → ⊥) → IsLively c
