-- What a hand knows of the faults that its crew met.
use Rattle.std.specs.Prelude.{◌≡◌, ℕ, ◌+◌, ◌<◌, ◌≤◌, List, ◌++◌, Option, Some, None, All, Contains, length, option_map, slice_index_or}
use Rattle.std.specs.Arc.{arc_value}
use Rattle.ped_path.specs.Path.{IsBefore}
use Rattle.serial_meaning.specs.Answer.{KnownView, IsCut, start_of}
use Rattle.serial_meaning.specs.Plan.{PlanView}
use Rattle.serial_meaning.specs.declared.answer.Outcome.TheVariants as outcome
use Rattle.serial_meaning.specs.declared.answer.Outcome.{Outcome}
use Rattle.serial_meaning.specs.declared.event.Fault.{Fault}
use Rattle.serial_meaning.specs.declared.origin.Origin.{Origin}
use Rattle.strand_machine.specs.Tasks.{TaskView}
use Rattle.parallel_runner.specs.Cells.{CellsView, IsNext}
use Rattle.parallel_runner.specs.declared.faults.Check.{Check}
use Rattle.parallel_runner.specs.declared.faults.Check.TheVariants as check
use Rattle.parallel_runner.specs.declared.faults.Told.{Told}
use Rattle.parallel_runner.specs.declared.faults.Told.TheVariants as told

-- none of these is one of this plan
abbrev pub HasNoneOf : PlanView → List KnownView → Type 0
HasNoneOf plan known = All (λ k. k.plan ≡ plan → ⊥) known

-- The fault, which is one of this plan, stands before each of these that is.
abbrev pub StandsFirst : PlanView → Fault → List KnownView → Type 0
StandsFirst plan fault known = All (λ k. k.plan ≡ plan → IsBefore fault.at k.fault.at) known

-- one of these that is of this plan, and before which none of the plan stands
pub record IsLeastOf (plan : PlanView) (known : List KnownView) (k : KnownView) : Type 0 where
  pub one : Contains known k
  pub plan_is : k.plan ≡ plan
  pub least : All (λ x. x.plan ≡ plan → IsBefore x.fault.at k.fault.at → ⊥) known

-- One of these is of the plan of the fault, which doesn't stand before it.
abbrev pub HasOneUpTo : List KnownView → KnownView → Type 0
HasOneUpTo least x = (k : KnownView) × Contains least k × (k.plan ≡ x.plan) × (IsBefore x.fault.at k.fault.at → ⊥)

-- the least ones of these faults, one of each plan
pub record AreLeast (known least : List KnownView) : Type 0 where
  pub among : All (Contains known) least
  pub of_each : All (HasOneUpTo least) known
  pub once : (i j : ℕ) (d : KnownView) → i < length least → j < length least → (slice_index_or least i d).plan ≡ (slice_index_or least j d).plan → i ≡ j

-- All of these are known.
abbrev pub AreKnown : List KnownView → List KnownView → Type 0
AreKnown known faults = All (Contains known) faults

-- the cells by the end of a hand, and all faults that it knows, in order
pub record FaultsView : Type 0 where
  pub cells : CellsView KnownView
  pub known : List KnownView

-- More cells were read, and nothing but their faults came to be known.
pub record ReadsOn (old new : FaultsView) : Type 0 where
  pub more : List KnownView
  pub cells_are : new.cells ≡ record old.cells { read = old.cells.read ++ more }
  pub known_is : new.known ≡ old.known ++ more

-- One cell was read; or it had no value, after as many as were read.
abbrev pub ReadsOne : FaultsView → FaultsView → Option ℕ → Type 0
ReadsOne old new None = (length new.cells.read ≡ length old.cells.read + 1) × (length new.cells.read ≤ length new.cells.names)
ReadsOne old new (Some unset) = unset ≡ length new.cells.read

-- What became of a fault that the hand met: it knows one of the plan before which this one doesn't stand; the first cell that it hasn't read has
-- this one; or it has read all cells, and knows this one alone.
abbrev pub Tells : KnownView → FaultsView → Told → Type 0
Tells k new told.Late = StandsFirst k.plan k.fault new.known → ⊥
Tells k new (told.Set note) = IsNext new.cells note.cell × (option_map arc_value note.known ≡ Some k)
Tells k new told.Alone = (length new.cells.names ≤ length new.cells.read) × Contains new.known k

-- the same of the fault by which a task ended, if it did
abbrev pub TellsEnd : PlanView → Outcome → FaultsView → Option Told → Type 0
TellsEnd plan (outcome.Fault f) new (Some told) = Tells (record { plan = plan; fault = f }) new told
TellsEnd plan (outcome.Fault f) new None = ⊥
TellsEnd plan ended new told = Unit {0}

-- None of these faults may cut an origin of this plan.
abbrev pub NoneCuts : List KnownView → PlanView → Origin → Type 0
NoneCuts known plan origin = All (λ k. k.plan ≡ plan → IsBefore k.fault.at (start_of origin) → ⊥) known

-- The task may be cut by this fault; or by none that the hand knows, which has read all cells up to one that had no value.
abbrev pub Checks : TaskView → FaultsView → Check → Type 0
Checks t new (check.Cuts by) = IsCut t.task.plan t.task.origin by
Checks t new (check.Passes unset) = NoneCuts new.known t.task.plan t.task.origin × (unset ≡ length new.cells.read)
