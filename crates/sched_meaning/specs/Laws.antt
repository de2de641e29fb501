-- What holds of all cores, and of the definitions.
use Rattle.std.specs.Prelude.{◌≡◌, ◌≤◌, ◌↔◌, ℕ, List, Some, Contains, slice_get}
use Rattle.script_check.specs.Valid.{IsValid}
use Rattle.serial_meaning.specs.Plan.{PlanView}
use Rattle.serial_meaning.specs.declared.origin.Origin.{Origin}
use Rattle.sched_meaning.specs.Core.{Core, all_tasks, origins_of, IsAnswered, IsRootAnswered}
use Rattle.sched_meaning.specs.Segments.{IsSegments}
use Rattle.sched_meaning.specs.Simulation.{choices, IsSimWorker}
use Rattle.sched_meaning.specs.Sound.{AreEvaluations, MakesProgress, IsLively, OccursOnce}
use Rattle.sched_meaning.specs.Steps.{Step, Leads}
use Rattle.sched_meaning.specs.declared.event.CoreEvent.{CoreEvent}

-- An event leads to at most one core.
abbrev pub StepsAreUnique : Type 0
StepsAreUnique = (e : CoreEvent) (c next other : Core) → Step e c next → Step e c other → next ≡ other

-- A valid script has a number of segments, and only one.
abbrev pub SegmentsExist : Type 0
SegmentsExist = (plan : PlanView) → IsValid plan.script → (n : ℕ) × IsSegments plan n

abbrev pub SegmentsAreUnique : Type 0
SegmentsAreUnique = (plan : PlanView) (n m : ℕ) → IsSegments plan n → IsSegments plan m → n ≡ m

-- Of each core to which events lead from a new core, whatever the events and however many workers:

-- Each answer is the evaluation of its origin.
abbrev pub CoresAnswerByEvaluations : Type 0
CoresAnswerByEvaluations = (plan : PlanView) (workers : ℕ) (events : List CoreEvent) (c : Core) → IsValid plan.script → Leads plan workers events c → AreEvaluations plan c.answers

-- There are no more run events than segments.
abbrev pub CoresRunWithinSegments : Type 0
CoresRunWithinSegments =
    (plan : PlanView) (workers : ℕ) (events : List CoreEvent) (c : Core) → IsValid plan.script → Leads plan workers events c → (n : ℕ) → IsSegments plan n → c.runs ≤ n

-- Until the root is answered some event makes progress.
abbrev pub CoresAreLively : Type 0
CoresAreLively =
    (plan : PlanView) (workers : ℕ) (events : List CoreEvent) (c : Core) → IsValid plan.script → Leads plan workers events c → (IsRootAnswered c → ⊥) → IsLively c

-- No origin is begun twice.
abbrev pub CoresBeginOnce : Type 0
CoresBeginOnce =
    (plan : PlanView) (workers : ℕ) (events : List CoreEvent) (c : Core) → IsValid plan.script → Leads plan workers events c → (o : Origin) (j k : ℕ) →
    slice_get c.begun j ≡ Some o → slice_get c.begun k ≡ Some o → j ≡ k

-- An origin that was begun and isn't answered has exactly one task, in one place.
abbrev pub CoresKeepTasksOnce : Type 0
CoresKeepTasksOnce =
    (plan : PlanView) (workers : ℕ) (events : List CoreEvent) (c : Core) → IsValid plan.script → Leads plan workers events c → (o : Origin) → Contains c.begun o →
    (IsAnswered c o → ⊥) → OccursOnce o (origins_of (all_tasks c))

-- The choices of a core are the events that may happen and make progress.
abbrev pub ChoicesMakeProgress : Type 0
ChoicesMakeProgress = (c : Core) (e : CoreEvent) → Contains (choices c) e ↔ ((next : Core) × Step e c next × MakesProgress e c)

-- No choice is listed twice.
abbrev pub ChoicesAreDistinct : Type 0
ChoicesAreDistinct = (c : Core) (e : CoreEvent) (j k : ℕ) → slice_get (choices c) j ≡ Some e → slice_get (choices c) k ≡ Some e → j ≡ k

-- In a simulation at most one worker answers the root.
abbrev pub SimWorkersAreUnique : Type 0
SimWorkersAreUnique =
    (plan : PlanView) (workers number v w : ℕ) → IsSimWorker plan workers number v → IsSimWorker plan workers number w → v ≡ w

-- And one does.
abbrev pub SimWorkersExist : Type 0
SimWorkersExist = (plan : PlanView) (workers number : ℕ) → IsValid plan.script → (w : ℕ) × IsSimWorker plan workers number w
