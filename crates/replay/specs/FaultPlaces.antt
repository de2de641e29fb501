-- Where the instance of a strand stood when a fault of its own ended it there.
use Rattle.std.specs.Prelude.{◌≡◌, List, ℕ, Bool, true, false, Option, Some, None, Result, Ok, Err}
use Rattle.serial_meaning.specs.Laws.{IsOriginOf}
use Rattle.serial_meaning.specs.Open.{node_of}
use Rattle.serial_meaning.specs.Plan.{PlanView}
use Rattle.serial_meaning.specs.declared.event.Fault.{Fault}
use Rattle.serial_meaning.specs.declared.origin.Origin.{Origin}
use Rattle.strand_meaning.specs.Strands.{Strand, Found, FoundStrand, Missing, Blocked, strand_of, strand_at}
use Rattle.strand_machine.specs.declared.placed.PlacedFault.{PlacedFault}
use Rattle.serial_runner.specs.FaultWalks.{OriginMeets}
use Rattle.replay.specs.declared.error.ReplayError.{ReplayError}
use Rattle.replay.specs.declared.error.ReplayError.TheVariants as error

-- The strand of the pedigree is one of `instance`'s own, which ended there by a fault of its own, and met that fault at
-- the given place.
pub record IsFaultPlace (plan : PlanView) (j : List ℕ) (met : PlacedFault) : Type 0 where
  pub strand : Strand
  pub found : strand_at plan j ≡ FoundStrand strand
  pub faulted : strand.fault ≡ Some met.fault
  pub instance : Origin
  pub known : IsOriginOf plan instance
  pub own : strand_of instance (node_of plan instance) j ≡ Some strand
  pub meets : OriginMeets plan instance (Some met)

abbrev pub has_fault : Option Fault → Bool
has_fault None = false
has_fault (Some f) = true

-- There is a strand, and no fault of its own ended it.
abbrev pub IsWithoutFault : Found → Type 0
IsWithoutFault found = (strand : Strand) × (found ≡ FoundStrand strand) × (strand.fault ≡ None)

-- The result is the fault with its place; or that the strand has none; or why there is no strand, as for `replay`.
abbrev pub AnswersFaultPlace : PlanView → List ℕ → Result (Option PlacedFault) ReplayError → Type 0
AnswersFaultPlace plan j (Ok (Some met)) = IsFaultPlace plan j met
AnswersFaultPlace plan j (Ok None) = IsWithoutFault (strand_at plan j)
AnswersFaultPlace plan j (Err error.NoStrand) = strand_at plan j ≡ Missing
AnswersFaultPlace plan j (Err (error.Blocked f)) = strand_at plan j ≡ Blocked f
AnswersFaultPlace plan j (Err error.Memory) = Unit {0}

-- The strand met its fault in the function with this index in the script, at the statement with this offset.
pub record FaultsAt (plan : PlanView) (j : List ℕ) (function at : ℕ) : Type 0 where
  pub met : PlacedFault
  pub is : IsFaultPlace plan j met
  pub in_function : met.place.function ≡ function
  pub there : met.place.at ≡ at
