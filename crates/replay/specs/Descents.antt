-- One step of the walk down to a strand.
use Rattle.std.specs.Prelude.{◌≡◌, ◌<◌, ℕ, ◌-◌, List, Result, Ok, Err, Some, length}
use Rattle.serial_meaning.specs.Eval.{path_of}
use Rattle.serial_meaning.specs.Laws.{IsOriginOf}
use Rattle.serial_meaning.specs.Open.{node_of}
use Rattle.serial_meaning.specs.Plan.{PlanView}
use Rattle.serial_meaning.specs.declared.origin.Origin.{Origin}
use Rattle.strand_meaning.specs.Observation.{IsInstanceOrigin}
use Rattle.strand_meaning.specs.Strands.{Found, FoundStrand, Missing, Blocked, strand_of, walk_in}
use Rattle.serial_runner.specs.Nodes.{IsBelow}
use Rattle.replay.specs.declared.descent.Way.{Way}
use Rattle.replay.specs.declared.descent.Way.TheVariants as way
use Rattle.replay.specs.declared.error.ReplayError.{ReplayError}
use Rattle.replay.specs.declared.error.ReplayError.TheVariants as error

-- What is found at a pedigree below an instance. Each child's path is longer than its parent's, so as many steps as the
-- pedigree has ranks beyond the instance's path are enough.
abbrev pub seen_from : PlanView → Origin → List ℕ → Found
seen_from plan o j = walk_in plan (length j - length (path_of o)) j o

-- The instance is one of the plan's, on the way down to the pedigree.
pub record IsOnWayTo (plan : PlanView) (j : List ℕ) (o : Origin) : Type 0 where
  pub known : IsOriginOf plan o
  pub instance : IsInstanceOrigin o
  pub below : IsBelow (path_of o) j

-- One step from an instance: it goes further down, where the same is found; or it says what is found.
abbrev pub LeadsDown : PlanView → Origin → List ℕ → Result Way ReplayError → Type 0
LeadsDown plan o j (Ok (way.Found strand)) = (seen_from plan o j ≡ FoundStrand strand) × (strand_of o (node_of plan o) j ≡ Some strand)
LeadsDown plan o j (Ok (way.Down next)) = IsOnWayTo plan j next × (length (path_of o) < length (path_of next)) × (seen_from plan next j ≡ seen_from plan o j)
LeadsDown plan o j (Err error.NoStrand) = seen_from plan o j ≡ Missing
LeadsDown plan o j (Err (error.Blocked f)) = seen_from plan o j ≡ Blocked f
LeadsDown plan o j (Err error.Memory) = Unit {0}
